-- A call that has a position goes after those before it.
use Rattle.std.proofs.Common.{◌≡◌, ◌∙◌, ◌+◌, ◌∷◌, ℕ, ap, arith, drop, map, option_map, subst, sym}
use Rattle.std.proofs.lemmas.List.{map-append}
use Rattle.siri_calls.specs.Journeys.{Call}
use Rattle.siri_calls.specs.Judged.{numbered}
use Rattle.siri_calls.specs.MatchedCalls.{placed_call}
use Rattle.siri_calls.specs.Seen.{call_of, calls_of}
use Rattle.journey_model.specs.TripRuns.{run_over}
use Rattle.siri_calls.proofs.PlacedLemmas.{SoFar, left_at, one_more, refused}
use Rattle.siri_calls.proofs.matching_calls.placed_calls.Goals as goal
use Rattle.siri_calls.proofs.matching_calls.placed_calls.Goals.{in-Some+in-Some-place_call+in_ok-push, in_default}

pub returns-in_default-place_call-clause-fault : goal.returns-in_default-place_call-clause-fault
returns-in_default-place_call-clause-fault c =
    let i = c.loop-index.index in
    let run = run_over c.args.run.now in
    let all = numbered 0 (calls_of c.args.calls.now) in
    let placed = map placed_call c.loop-index.placed.items in
    let left = numbered (i + 1) (calls_of (drop (i + 1) c.args.calls.now)) in
    let one : ℕ × Call = (i, call_of c.in-Some.call) in
    let begins : numbered i (calls_of (drop i c.args.calls.now)) ≡ one ∷ left =
    ap (λ rest. numbered i (calls_of rest)) (left_at c.args.calls.now i c.index-calls-index.result (omega arith) c.index-calls-index.is)
    ∙ ap (λ x. numbered i (option_map call_of x ∷ calls_of (drop (i + 1) c.args.calls.now))) c.in-Some.is in
    refused run all left c.loop-index.after placed one (subst (λ rest. SoFar run all rest c.loop-index.after placed) begins c.loop-index.invariant)
    c.fault_of.result (ap (option_map placed_call) (sym c.in_default-place_call.is) ∙ c.place_call.ensures) c.fault_of.ensures

pub loop-index-preserved : goal.loop-index-preserved
loop-index-preserved c =
    let i = c.loop-index.index in
    let run = run_over c.args.run.now in
    let all = numbered 0 (calls_of c.args.calls.now) in
    let placed = map placed_call c.loop-index.placed.items in
    let others = calls_of (drop (i + 1) c.args.calls.now) in
    let at = left_at c.args.calls.now i c.index-calls-index.result (omega arith) c.index-calls-index.is in
    elim c.match-call.branch [
      | in-Some+in-Some-place_call+in_ok-push w ↦
          let one : ℕ × Call = (i, call_of w.in-Some.call) in
          let begins : numbered i (calls_of (drop i c.args.calls.now)) ≡ one ∷ numbered (i + 1) others =
          ap (λ rest. numbered i (calls_of rest)) at ∙ ap (λ x. numbered i (option_map call_of x ∷ others)) w.in-Some.is in
          let next = one_more run all (numbered (i + 1) others) c.loop-index.after placed one (subst (λ rest. SoFar run all rest c.loop-index.after placed) begins c.loop-index.invariant)
          (placed_call w.in-Some-place_call.one) (ap (option_map placed_call) (sym w.in-Some-place_call.is) ∙ w.place_call.ensures) in
          rw (w.after-is, w.placed-is, w.in_ok-push.ensures.items, map-append placed_call c.loop-index.placed.items _) next
      | in_default w ↦
          let begins : numbered i (calls_of (drop i c.args.calls.now)) ≡ numbered (i + 1) others =
          ap (λ rest. numbered i (calls_of rest)) at ∙ ap (λ x. numbered i (option_map call_of x ∷ others)) w.in_default.is in
          rw (w.after-is, w.placed-is) (subst (λ rest. SoFar run all rest c.loop-index.after placed) begins c.loop-index.invariant)
    ]
