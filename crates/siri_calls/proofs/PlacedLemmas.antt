-- The positions of calls, one after the other.
use Rattle.std.proofs.Common.{◌≡◌, ◌∙◌, ◌+◌, ◌<◌, ℕ, Bool, true, false, cond, List, [], ◌∷◌, ◌++◌, append_assoc, drop, get_or, length, position, Option, Some, None, option_map, Result, Ok, Err, refl, ap, sym, subst}
use Rattle.std.proofs.lemmas.List.{drop_more}
use Rattle.std.specs.List.{list_any}
use Rattle.std.specs.Option.{ok_or}
use Rattle.std.specs.Prelude.{is_some, not, option_and_then}
use Rattle.std.specs.Str.{bytes_eq}
use Rattle.gw_base.specs.Chains.{ok_map, ◌>>=◌}
use Rattle.journey_model.specs.Matching.{call_position, is_of_station}
use Rattle.journey_model.specs.Runs.{Run}
use Rattle.journey_model.specs.declared.fault.Fault.{Fault}
use Rattle.journey_model.specs.declared.fault.Fault.TheVariants.{OutOfOrder, UnknownStop}
use Rattle.siri_calls.specs.Journeys.{Call}
use Rattle.siri_calls.specs.Judged.{numbered, placed_calls, stop_named, stop_of_trip, stops_named}
use Rattle.siri_calls.specs.MatchedCalls.{is_unknown, placed_at_stop, placed_named, unplaced}
use Rattle.siri_calls.proofs.StationLemmas.{placed-any}

none-found : {A B : Type 0} (f : A → B) (found : Option A) → None ≡ option_map f found → found ≡ None
none-found f None e = refl
none-found f (Some x) e = absurd (cc)

-- ---- the calls so far have these stops and these positions, and the others follow

pub record SoFar (run : Run) (all left : List (ℕ × Call)) (after : Option ℕ) (placed : List (ℕ × (ℕ × (ℕ × Call)))) : Type 0 where
  pub named : List (ℕ × (ℕ × Call))
  pub stops : stops_named run all ≡ ok_map (λ rest. named ++ rest) (stops_named run left)
  pub places : (rest : List (ℕ × (ℕ × Call))) → placed_calls run None (named ++ rest) ≡ ok_map (λ more. placed ++ more) (placed_calls run after rest)

-- one more in front of the others is one more after the first
one-more : {A : Type 0} (front : List A) (x : A) (others : Result (List A) Fault)
    → ok_map (λ rest. front ++ rest) (others >>= λ found. Ok (x ∷ found)) ≡ ok_map (λ rest. (front ++ x ∷ []) ++ rest) others
one-more front x (Ok others) = ap Ok (sym (append_assoc front (x ∷ []) others))
one-more front x (Err fault) = refl

module _ (run : Run) (all left : List (ℕ × Call)) (after : Option ℕ) (placed : List (ℕ × (ℕ × (ℕ × Call)))) (one : ℕ × Call) (so_far : SoFar run all (one ∷ left) after placed) where
  -- one call more has a position
  pub one_more : (next : ℕ × (ℕ × (ℕ × Call))) → Some next ≡ placed_named run after one → SoFar run all left (Some next.0) (placed ++ next ∷ [])
  one_more next is = by (position (bytes_eq one.1.stop) run.ids) refl (sym is)
    where
      at : (stop : ℕ) → position (bytes_eq one.1.stop) run.ids ≡ Some stop → (found : Option ℕ) → call_position run.station_of run.stops after stop one.1.order ≡ found
          → option_map (λ position. (position, (stop, one))) found ≡ Some next → SoFar run all left (Some next.0) (placed ++ next ∷ [])
      at stop e None h told = absurd (cc)
      at stop e (Some k) h told =
          let same : (k, (stop, one)) ≡ next = cc in
          let has = placed-any run.station_of run.stops after stop one.1.order k h in
          subst (λ x. SoFar run all left (Some x.0) (placed ++ x ∷ [])) same (record {
            named = so_far.named ++ (stop, one) ∷ [];
            stops = so_far.stops ∙ rw (e, has) (one-more so_far.named (stop, one) (stops_named run left));
            places = λ rest. ap (placed_calls run None) (append_assoc so_far.named ((stop, one) ∷ []) rest) ∙ so_far.places ((stop, one) ∷ rest)
                ∙ rw h (one-more placed (k, (stop, one)) (placed_calls run (Some k) rest));
          })

      by : (found : Option ℕ) → position (bytes_eq one.1.stop) run.ids ≡ found → option_and_then (placed_at_stop run after one) found ≡ Some next
          → SoFar run all left (Some next.0) (placed ++ next ∷ [])
      by None e h = absurd (cc)
      by (Some stop) e h = at stop e (call_position run.station_of run.stops after stop one.1.order) refl h

  -- a call has none
  pub refused : (fault : Fault) → None ≡ placed_named run after one → fault ≡ unplaced one.0 (stops_named run all)
      → (stops_named run all >>= λ named. placed_calls run None named) ≡ Err fault
  refused fault none told = by (stops_named run all) refl told
    where
      at : (found : Option ℕ) → position (bytes_eq one.1.stop) run.ids ≡ found → None ≡ option_and_then (placed_at_stop run after one) found
          → (stop : ℕ) → option_and_then (stop_of_trip run) found ≡ Some stop → call_position run.station_of run.stops after stop one.1.order ≡ None
      at None e h stop is = absurd (cc)
      at (Some k) e h stop is = of (list_any (is_of_station run.station_of k) run.stops) is
        where
          of : (b : Bool) → cond b (Some k) None ≡ Some stop → call_position run.station_of run.stops after stop one.1.order ≡ None
          of true same = let number : k ≡ stop = cc in rw (← number) (none-found (λ position. (position, (k, one))) (call_position run.station_of run.stops after k one.1.order) h)
          of false same = absurd (cc)

      step : (every : List (ℕ × (ℕ × Call))) (found : Option ℕ) → stop_named run one.1.stop ≡ found → (later : Result (List (ℕ × (ℕ × Call))) Fault)
          → Ok every ≡ ok_map (λ rest. so_far.named ++ rest) (ok_or found (UnknownStop one.0) >>= λ stop. later >>= λ rest. Ok ((stop, one) ∷ rest))
          → placed_calls run None every ≡ Err (OutOfOrder one.0)
      step every None e later h = absurd (cc)
      step every (Some stop) e (Err other) h = absurd (cc)
      step every (Some stop) e (Ok rest) h =
          let is : every ≡ so_far.named ++ (stop, one) ∷ rest = cc in
          let no = at (position (bytes_eq one.1.stop) run.ids) refl none stop e in
          ap (placed_calls run None) is ∙ so_far.places ((stop, one) ∷ rest) ∙ rw no refl

      by : (answer : Result (List (ℕ × (ℕ × Call))) Fault) → stops_named run all ≡ answer → fault ≡ unplaced one.0 answer
          → (answer >>= λ named. placed_calls run None named) ≡ Err fault
      by (Err other) e is = ap Err (sym is)
      by (Ok every) e is = step every (stop_named run one.1.stop) refl (stops_named run left) (sym e ∙ so_far.stops) ∙ ap Err (sym is)

-- ---- the fault of calls without a position

-- a call whose stop the trip has doesn't count
pub passed_over : (run : Run) (late number : ℕ) (one : Option Call) (others : List (Option Call)) → false ≡ is_unknown run one
    → unplaced late (stops_named run (numbered number (one ∷ others))) ≡ unplaced late (stops_named run (numbered (number + 1) others))
passed_over run late number None others known = refl
passed_over run late number (Some one) others known = by (stop_named run one.stop) known (stops_named run (numbered (number + 1) others))
  where
    by : (found : Option ℕ) → false ≡ not (is_some found) → (later : Result (List (ℕ × (ℕ × Call))) Fault)
        → unplaced late (ok_or found (UnknownStop number) >>= λ stop. later >>= λ rest. Ok ((stop, (number, one)) ∷ rest)) ≡ unplaced late later
    by None e later = absurd (cc)
    by (Some stop) e (Ok rest) = refl
    by (Some stop) e (Err fault) = refl

-- what is left begins with the item at hand
pub left_at : {A : Type 0} (xs : List A) (i : ℕ) (x : A) → i < length xs → x ≡ get_or xs i x → drop i xs ≡ x ∷ drop (i + 1) xs
left_at xs i x within is = drop_more xs i x within ∙ ap (λ y. y ∷ drop (i + 1) xs) (sym is)
