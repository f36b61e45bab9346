use Rattle.std.proofs.Common.{ℕ, List, ◌++◌, ◌+◌, take, Some, None, subst, arith}
use Rattle.wire_fields.specs.TopSteps.{Turned}
use Rattle.wire_fields.proofs.Tops.{Goes, goes_in_no_field, goes_on, goes_told, taken_on}
use Rattle.wire_fields.proofs.top.reader.TopReader.read_on.Goals as goal

pub returns-in-Some-clause-says : goal.returns-in-Some-clause-says
returns-in-Some-clause-says c = λ bytes free s.
    let old = c.args.self.now in
    let now = c.loop-used.self in
    let used = c.loop-used.used in
    let more = c.go_on-more.result.0 in
    let piece = c.args.piece.now in
    let g = c.loop-used.invariant.goes bytes free s in
    let told = c.go_on-more.ensures.turned (bytes ++ take used piece) (goes_in_no_field old now used (bytes ++ take used piece) free g) g.0 in
    let event_told : Turned (Some c.in-Some.event) now c.go_on-more.new.self ((bytes ++ take used piece) ++ take more c.split_at.result.1.now) = rw c.in-Some.is at told in
    rw (← taken_on bytes piece c.split_at.result.1.now used more c.split_at.ensures.back)
    (goes_told old now c.go_on-more.new.self c.in-Some.event (used + more) piece ((bytes ++ take used piece) ++ take more c.split_at.result.1.now) g.1 free event_told)

pub loop-used-preserved : goal.loop-used-preserved
loop-used-preserved c =
    let old = c.args.self.now in
    let now = c.loop-used.self in
    let used = c.loop-used.used in
    let more = c.go_on-more.result.0 in
    let piece = c.args.piece.now in
    record {
      within = omega (arith, c.go_on-more.ensures.most, c.split_at.ensures.back_len);
      taken = omega (arith, c.go_on-more.ensures.taken, c.loop-used.invariant.taken);
      goes = λ bytes free s.
          let g = c.loop-used.invariant.goes bytes free s in
          let told = c.go_on-more.ensures.turned (bytes ++ take used piece) (goes_in_no_field old now used (bytes ++ take used piece) free g) g.0 in
          let none_told : Turned None now c.go_on-more.new.self ((bytes ++ take used piece) ++ take more c.split_at.result.1.now) = rw c.in_default.is at told in
          subst (λ (l : List ℕ). Goes old c.go_on-more.new.self (used + more) l) (taken_on bytes piece c.split_at.result.1.now used more c.split_at.ensures.back)
          (goes_on old now c.go_on-more.new.self used more ((bytes ++ take used piece) ++ take more c.split_at.result.1.now) g.1 none_told);
    }
