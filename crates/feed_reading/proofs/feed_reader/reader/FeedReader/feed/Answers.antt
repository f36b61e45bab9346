-- Each step goes on, and an entity is given with its index.
use Rattle.std.proofs.Common.{◌≡◌, ℕ, List, [], ◌∷◌, ◌++◌, ◌+◌, take, length-append, sym, subst, arith}
use Rattle.std.specs.Prelude.{Some, None}
use Rattle.wire_fields.specs.TopReading.{Between, place_of}
use Rattle.wire_fields.proofs.Tops.{taken_on}
use Rattle.feed_reading.specs.FeedPieces.{Seen, StandsFor}
use Rattle.feed_reading.specs.FeedSteps.{Ends, with_given}
use Rattle.feed_reading.proofs.feed_reader.reader.FeedReader.feed.Goals as goal

pub returns-in-Some-clause-gives : goal.returns-in-Some-clause-gives
returns-in-Some-clause-gives c = λ bytes given h.
    let used = c.loop-used.used in
    let more = c.in_ok-more.more in
    let piece = c.args.piece.now in
    let rest = c.split_at.result.1.now in
    let now = (bytes ++ take used piece) ++ take more rest in
    let told = c.in_ok-more.ensures.steps (bytes ++ take used piece) given (c.loop-used.invariant.stands bytes given h) in
    let ended : Ends c.step.new.self now given (Some c.in-Some.entity) = rw c.in-Some.is at told in
    let all = subst (λ (l : List ℕ). Ends c.step.new.self l given (Some c.in-Some.entity))
    (taken_on bytes piece rest used more c.split_at.ensures.back) ended in
    let seen =
    subst (λ (s : Seen).
    StandsFor (with_given s (s.given + 1)) (bytes ++ take (used + more) piece) (given ++ c.in-Some.entity ∷ [])
    × (place_of s.top ≡ Between))
    (sym c.self.view_is) all in
    (omega (arith, seen.0.counted, length-append given (c.in-Some.entity ∷ [])), seen.0, seen.1)

pub loop-used-preserved : goal.loop-used-preserved
loop-used-preserved c =
    let used = c.loop-used.used in
    let more = c.in_ok-more.more in
    let piece = c.args.piece.now in
    let rest = c.split_at.result.1.now in
    record {
      within = omega (arith, c.in_ok-more.ensures.used.1, c.split_at.ensures.back_len);
      taken = omega (arith, c.in_ok-more.ensures.taken, c.loop-used.invariant.taken);
      at_fault = λ fault. (c.in_ok-more.ensures.at_fault (c.loop-used.invariant.at_fault fault)).0;
      stands = λ bytes given h.
          let told = c.in_ok-more.ensures.steps (bytes ++ take used piece) given
          (c.loop-used.invariant.stands bytes given h) in
          let ended : Ends c.step.new.self ((bytes ++ take used piece) ++ take more rest) given None =
          rw c.in_default.is at told in
          subst (λ (l : List ℕ). StandsFor c.step.new.self l given)
          (taken_on bytes piece rest used more c.split_at.ensures.back) ended;
    }
