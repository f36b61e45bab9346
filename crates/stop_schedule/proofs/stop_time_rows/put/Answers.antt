-- The stop of one more row, or its fault.
use Rattle.std.proofs.Common.{◌≡◌, ◌∙◌, ◌<◌, ◌≤◌, ◌+◌, true, Some, ℕ, map, length, nat_le, slice_get, refl, sym, ap, arith, false, List}
use Rattle.std.specs.Option.{option_map}
use Rattle.std.proofs.lemmas.List.{map-set}
use Rattle.std.proofs.lemmas.Option.{slice_get-get_or, slice_get-map}
use Rattle.timetable.specs.Limits.{stop_limit}
use Rattle.stop_schedule.specs.TripStops.{stops_kept}
use Rattle.stop_schedule.specs.Rising.{has_sequence, is_rising}
use Rattle.stop_schedule.specs.Sheet.{nth}
use Rattle.stop_schedule.specs.StopTimes.{loaded, placed, sequence_of, stops_in}
use Rattle.stop_schedule.specs.declared.stop_times.LoadedStop.{LoadedStop}
use Rattle.stop_schedule.specs.Keeping.{are_loaded}
use Rattle.timetable.proofs.IdLemmas.{and-left, and-right, has-at}
use Rattle.stop_schedule.proofs.KeepingLemmas.{loaded-placed}
use Rattle.stop_schedule.proofs.ListLemmas.{list_all-set}
use Rattle.stop_schedule.proofs.StopStep.{too-many, twice, no-fault, held-at, stops-step}
use Rattle.timetable.proofs.IdLemmas.{all-at}
use Rattle.stop_schedule.proofs.stop_time_rows.put.Goals as goal

pub returns-then-len-ge-MAX_STOPS-clause-puts : goal.returns-then-len-ge-MAX_STOPS-clause-puts
returns-then-len-ge-MAX_STOPS-clause-puts c = λ trips stops before row known counted holds.
    let items = c.args.by_trip.now.items in
    let trip = c.args.trip in
    let held = c.in-Some.held.now in
    let there : trip < length items = omega (arith, c.in-Some.ensures.variant.0 refl) in
    let stands : slice_get (map stops_kept items) trip ≡ Some (stops_kept held) =
    slice_get-map stops_kept items trip
    ∙ ap (option_map stops_kept) (slice_get-get_or items trip held there ∙ ap Some (sym c.in-Some.ensures.value)) in
    let held_is = held-at trips stops (map stops_kept items) before holds trip (nth 0 row) (stops_kept held)
    known.trip_at stands in
    let many : stop_limit ≤ length (stops_in stops before (nth 0 row)) =
    rw (← held_is) (omega (arith, c.len.ensures, c.if-len-ge-MAX_STOPS.true)) in
    rw counted (too-many trips stops before row many)

pub returns-else-branch-clause-puts : goal.returns-else-branch-clause-puts
returns-else-branch-clause-puts c = λ trips stops before row known counted holds.
    let items = c.args.by_trip.now.items in
    let trip = c.args.trip in
    let held = c.in-Some.held.now in
    let there : trip < length items = omega (arith, c.in-Some.ensures.variant.0 refl) in
    let stands : slice_get (map stops_kept items) trip ≡ Some (stops_kept held) =
    slice_get-map stops_kept items trip
    ∙ ap (option_map stops_kept) (slice_get-get_or items trip held there ∙ ap Some (sym c.in-Some.ensures.value)) in
    let held_is = held-at trips stops (map stops_kept items) before holds trip (nth 0 row) (stops_kept held)
    known.trip_at stands in
    let few : length (stops_in stops before (nth 0 row)) < stop_limit = rw (← held_is) (omega arith) in
    let sequence_is : c.args.loaded.sequence ≡ sequence_of row =
    ap (λ (stop : LoadedStop). stop.sequence) known.loaded_is in
    let rising = all-at is_rising (map stops_kept items) trip (stops_kept held) holds.rising stands in
    let places = rw c.if-branch.false at (c.in_ok-add.ensures rising) in
    let has : has_sequence (sequence_of row) (stops_in stops before (nth 0 row)) ≡ true =
    rw (← sequence_is, ← held_is) places in
    rw counted (twice trips stops before row few (has-at trips trip (nth 0 row) known.trip_at) known.of_stop has)

pub returns-then-branch-clause-puts : goal.returns-then-branch-clause-puts
returns-then-branch-clause-puts c = λ trips stops before row known counted holds.
    let items = c.args.by_trip.now.items in
    let trip = c.args.trip in
    let held = c.in-Some.held.now in
    let there : trip < length items = omega (arith, c.in-Some.ensures.variant.0 refl) in
    let stands : slice_get (map stops_kept items) trip ≡ Some (stops_kept held) =
    slice_get-map stops_kept items trip
    ∙ ap (option_map stops_kept) (slice_get-get_or items trip held there ∙ ap Some (sym c.in-Some.ensures.value)) in
    let held_is = held-at trips stops (map stops_kept items) before holds trip (nth 0 row) (stops_kept held)
    known.trip_at stands in
    let few : length (stops_in stops before (nth 0 row)) < stop_limit = rw (← held_is) (omega arith) in
    let of_trip = has-at trips trip (nth 0 row) known.trip_at in
    let sequence_is : c.args.loaded.sequence ≡ sequence_of row =
    ap (λ (stop : LoadedStop). stop.sequence) known.loaded_is in
    let held_rising = all-at is_rising (map stops_kept items) trip (stops_kept held) holds.rising stands in
    let rising : is_rising (stops_in stops before (nth 0 row)) ≡ true = rw (← held_is) held_rising in
    let places = rw c.if-branch.true at (c.in_ok-add.ensures held_rising) in
    let none : has_sequence (sequence_of row) (stops_in stops before (nth 0 row)) ≡ false =
    rw (← sequence_is, ← held_is) places.0 in
    let loaded_is : c.args.loaded ≡ loaded stops (length before + 1, row) =
    known.loaded_is ∙ ap (λ (n : ℕ). loaded stops (n, row)) counted in
    let value : stops_kept c.add.new.self ≡ placed (loaded stops (length before + 1, row))
    (stops_in stops before (nth 0 row)) =
    places.1 ∙ ap (λ (stop : LoadedStop). placed stop (stops_kept held)) loaded_is
    ∙ ap (λ (all : List LoadedStop). placed (loaded stops (length before + 1, row)) all) held_is in (
      no-fault trips stops before row few of_trip known.of_stop none,
      rw (map-set stops_kept items trip c.add.new.self)
          (stops-step trips stops (map stops_kept items) before holds row trip (stops_kept c.add.new.self)
          (and-right _ _ known.ids) known.trip_at rising none of_trip value),
    )

pub returns-then-branch-clause-loaded : goal.returns-then-branch-clause-loaded
returns-then-branch-clause-loaded c = λ stops good all.
    let items = c.args.by_trip.now.items in
    let trip = c.args.trip in
    let held = c.in-Some.held.now in
    let there : trip < length items = omega (arith, c.in-Some.ensures.variant.0 refl) in
    let stands : slice_get (map stops_kept items) trip ≡ Some (stops_kept held) =
    slice_get-map stops_kept items trip
    ∙ ap (option_map stops_kept) (slice_get-get_or items trip held there ∙ ap Some (sym c.in-Some.ensures.value)) in
    let loaded = all-at (are_loaded stops) (map stops_kept items) trip (stops_kept held) all stands in
    let rising = and-left (is_rising (stops_kept held)) _
    (and-right (nat_le (length (stops_kept held)) stop_limit) _ loaded) in
    let places = rw c.if-branch.true at (c.in_ok-add.ensures rising) in
    let few : length (stops_kept held) < stop_limit = omega arith in
    let one : are_loaded stops (stops_kept c.add.new.self) ≡ true =
    rw places.1 (loaded-placed stops c.args.loaded (stops_kept held) good loaded few places.0) in
    rw (map-set stops_kept items trip c.add.new.self)
    (list_all-set (are_loaded stops) (map stops_kept items) trip (stops_kept c.add.new.self) all one)
