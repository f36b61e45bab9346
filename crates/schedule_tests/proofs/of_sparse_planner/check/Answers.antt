-- Three readings fit: they are near the planned times, and each place was looked at.
use Rattle.std.proofs.Common.{◌≡◌, ◌≤◌, ◌∷◌, [], List, Bool, true, ◌&&◌, nat_le, le-leb, refl, sym, subst, arith}
use Rattle.timetable.specs.Seen.{seen}
use Rattle.timetable.specs.declared.stop_row.StopRow.{StopRow}
use Rattle.journey_model.specs.Dated.{run_of}
use Rattle.journey_model.specs.Places.{are_placed, is_placed, keeps_places, places_limit, reading_size, readings_size}
use Rattle.journey_model.specs.Readings.{fits_trip}
use Rattle.journey_model.specs.Runs.{Run}
use Rattle.journey_model.specs.declared.readings.JourneyReading.{JourneyReading}
use Rattle.journey_model.specs.declared.readings.StopReading.{StopReading}
use Rattle.schedule_tests.proofs.of_sparse_planner.check.Goals as goal

three_placed : (run : Run) (a b c : StopRow) (x y z : StopReading) → run.stops ≡ a ∷ b ∷ c ∷ []
    → is_placed run a x ≡ true → is_placed run b y ≡ true → is_placed run c z ≡ true
    → reading_size run.ids a x ≤ 200 → reading_size run.ids b y ≤ 200 → reading_size run.ids c z ≤ 200
    → keeps_places run (x ∷ y ∷ z ∷ []) ≡ true
three_placed run a b c x y z stops first second third few fewer fewest =
    subst (λ (rows : List StopRow). keeps_rows rows ≡ true) (sym stops)
    (rw (first, second, third) (le-leb (readings_size run.ids (a ∷ b ∷ c ∷ []) (x ∷ y ∷ z ∷ [])) places_limit (omega arith)))
  where
    keeps_rows : List StopRow → Bool
    keeps_rows rows = are_placed run rows (x ∷ y ∷ z ∷ []) && nat_le (readings_size run.ids rows (x ∷ y ∷ z ∷ [])) places_limit

and_both : (a b : Bool) → a ≡ true → b ≡ true → (a && b) ≡ true
and_both a b first second = rw (first, second) refl

pub planned-requires : goal.planned-requires
planned-requires g c =
    let run = run_of (seen c.expect-table.result) c.dated-dated.result in
    subst (λ (reading : JourneyReading). fits_trip run reading ≡ true) (sym c.in_ok-reading.ensures)
    (and_both _ _ (rw (c.dated-dated.ensures.start, c.dated-dated.ensures.stops) c.requires)
    (three_placed run _ _ _ c.args.first c.args.second c.args.third c.dated-dated.ensures.stops c.assert_placed.ensures.placed
    c.assert_placed-2.ensures.placed c.assert_placed-3.ensures.placed c.assert_placed.ensures.small c.assert_placed-2.ensures.small
    c.assert_placed-3.ensures.small))
