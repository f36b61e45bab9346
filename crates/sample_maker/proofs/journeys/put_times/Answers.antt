-- The three pieces of the times of a call.
use Rattle.std.proofs.Common.{◌≡◌, ◌∙◌, ◌++◌, ℤ, List, ℕ, ap, codes, rules, w64}
use Rattle.std.specs.Prelude.{FitsSigned}
use Rattle.std.proofs.lemmas.Int.{to_z-of_z}
use Rattle.std.proofs.lemmas.Result.{on_ok_weaker}
use Rattle.service_day.specs.Utc.{moment_text}
use Rattle.sample_maker.specs.Deliveries.{times_text}
use Rattle.sample_maker.specs.Pieces.{led}
use Rattle.sample_maker.proofs.ListLemmas.{three_pieces}
use Rattle.sample_maker.proofs.journeys.put_times.Goals as goal

times : (start arrival both all time : List ℕ) (secs : ℤ) → time ≡ moment_text secs
    → arrival ≡ start ++ led (codes "{\"ExpectedArrivalTime\":\"") time
    → both ≡ arrival ++ led (codes "\",\"ExpectedDepartureTime\":\"") time
    → all ≡ both ++ codes "\"" → all ≡ start ++ times_text secs
times start arrival both all time secs is first second third =
    three_pieces start _ _ _ arrival both all (rw is at first) (rw is at second) third

pub returns : goal.returns
returns c =
    let fits : FitsSigned w64 c.expected_at.result = search rules in
    let secs = to_z-of_z w64 c.expected_at.result fits ∙ c.expected_at.ensures.value in
    let time = c.moment_of-time.ensures ∙ ap (λ (s : ℤ). moment_text s) secs in
    on_ok_weaker c.extend.result (λ e. times c.args.out.now _ _ _ _ _ time c.in_ok-put.ensures c.in_ok-put-2.ensures e) c.extend.ensures.added
