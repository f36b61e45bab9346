-- The positions of calls rise.
use Rattle.std.proofs.Common.{◌≡◌, ◌≤◌, ◌+◌, ◌-◌, ℕ, Bool, true, List, [], ◌∷◌, drop, position, Option, Some, None, option_map, Result, Ok, Err, nat_le, refl, arith}
use Rattle.std.specs.Option.{ok_or}
use Rattle.std.proofs.lemmas.Bool.{leb-true}
use Rattle.std.proofs.lemmas.Bool.Decides.{nat_tests}
use Rattle.gw_base.specs.Chains.{◌>>=◌}
use Rattle.journey_model.specs.Matching.{call_position, first_from, is_of_station, is_of_stop, position_after, stands_at}
use Rattle.journey_model.specs.Runs.{Run}
use Rattle.journey_model.specs.declared.fault.Fault.{Fault}
use Rattle.journey_model.specs.declared.fault.Fault.TheVariants.{OutOfOrder}
use Rattle.timetable.specs.declared.stop_row.StopRow.{StopRow}
use Rattle.timetable.proofs.IdLemmas.{and-left, and-right}
use Rattle.siri_calls.specs.Journeys.{Call}
use Rattle.siri_calls.specs.Judged.{calls_placed, numbered, placed_calls, stops_named}
use Rattle.siri_calls.specs.MatchedCalls.{rise_from}
use Rattle.siri_calls.proofs.StationLemmas.{call-cases}

-- the first position of a test from a position on isn't before it
first-after : (test : StopRow → Bool) (from : ℕ) (stops : List StopRow) (k : ℕ) → first_from test from stops ≡ Some k → from ≤ k
first-after test from stops k at = by (position test (drop from stops)) at
  where
    by : (found : Option ℕ) → option_map (λ p. p + from) found ≡ Some k → from ≤ k
    by None e = absurd (cc)
    by (Some p) e = let same : p + from ≡ k = cc in omega arith

-- the position of a call is after the one before
call-after : (station_of : ℕ → ℕ) (stops : List StopRow) (after : Option ℕ) (stop : ℕ) (order : Option ℕ) (position : ℕ)
    → call_position station_of stops after stop order ≡ Some position → position_after after ≤ position
call-after station_of stops after stop order position at =
    call-cases station_of stops (position_after after) stop (λ k. position_after after ≤ k)
    (λ n fits. leb-true _ _ (and-left (nat_le (position_after after) (n - 1)) (stands_at (is_of_station station_of stop) (n - 1) stops) (and-right (nat_le 1 n) _ fits)))
    (λ k is. first-after (is_of_stop stop) (position_after after) stops k is)
    (λ k is. first-after (is_of_station station_of stop) (position_after after) stops k is)
    order position at

le-true : (n m : ℕ) → n ≤ m → nat_le n m ≡ true
le-true n m less = grind (arith, nat_tests)

-- the calls with their positions rise, from the position after the one before
pub placed-rise : (run : Run) (after : Option ℕ) (named : List (ℕ × (ℕ × Call))) (placed : List (ℕ × (ℕ × (ℕ × Call)))) → placed_calls run after named ≡ Ok placed
    → rise_from (position_after after) placed ≡ true
placed-rise run after [] placed e = let none : [] ≡ placed = cc in rw (← none) refl
placed-rise run after (one ∷ others) placed e = by (call_position run.station_of run.stops after one.0 one.1.1.order) refl e (λ position. placed-rise run (Some position) others)
  where
    with : (position : ℕ) (rest : Result (List (ℕ × (ℕ × (ℕ × Call)))) Fault) → position_after after ≤ position
        → (rest >>= λ found. Ok ((position, one) ∷ found)) ≡ Ok placed
        → ((found : List (ℕ × (ℕ × (ℕ × Call)))) → rest ≡ Ok found → rise_from (position + 1) found ≡ true)
        → rise_from (position_after after) placed ≡ true
    with position (Err fault) later h rise = absurd (cc)
    with position (Ok found) later h rise =
        let all : (position, one) ∷ found ≡ placed = cc in
        let test : nat_le (position_after after) position ≡ true = le-true _ _ later in
        rw (← all, test) (rise found refl)

    by : (at : Option ℕ) → call_position run.station_of run.stops after one.0 one.1.1.order ≡ at
        → (ok_or at (OutOfOrder one.1.0) >>= λ position. placed_calls run (Some position) others >>= λ found. Ok ((position, one) ∷ found)) ≡ Ok placed
        → ((position : ℕ) (found : List (ℕ × (ℕ × (ℕ × Call)))) → placed_calls run (Some position) others ≡ Ok found → rise_from (position + 1) found ≡ true)
        → rise_from (position_after after) placed ≡ true
    by None at h rise = absurd (cc)
    by (Some position) at h rise = with position (placed_calls run (Some position) others) (call-after run.station_of run.stops after one.0 one.1.1.order position at) h (rise position)

pub calls-rise : (run : Run) (all : List (Option Call)) (placed : List (ℕ × (ℕ × (ℕ × Call)))) → calls_placed run all ≡ Ok placed → rise_from 0 placed ≡ true
calls-rise run all placed e = by (stops_named run (numbered 0 all)) e
  where
    by : (named : Result (List (ℕ × (ℕ × Call))) Fault) → (named >>= λ found. placed_calls run None found) ≡ Ok placed → rise_from 0 placed ≡ true
    by (Err fault) h = absurd (cc)
    by (Ok named) h = placed-rise run None named placed h
