-- The walk along the stops of a trip: what is carried from stop to stop is what the last update that isn't SKIPPED
-- supplies.
use Rattle.std.proofs.Common.{◌≡◌, ◌∙◌, ◌+◌, ◌==◌, ◌&&◌, ◌||◌, ◌++◌, ◌∷◌, ◌<◌, [], ℕ, zero, suc, ℤ, pos, ◌-ℤ◌, get_or, slice_get, nat_le, nat_lt, not, Bool, true, false, List, map, drop, length, Option, Some, None, option_map, is_some, if◌then◌else◌, refl, sym, ap, arith}
use Rattle.std.proofs.lemmas.Bool.{eqb-true, leb-true}
use Rattle.std.proofs.lemmas.Bool.Decides.{nat_tests}
use Rattle.std.proofs.lemmas.List.{append_assoc}
use Rattle.std.proofs.lemmas.List.Folds.{list_any-append}
use Rattle.std.specs.List.{list_all, range_with_len}
use Rattle.std.specs.Option.{option_map_or, option_or}
use Rattle.std.proofs.lemmas.List.FromFn.{map-range_with_len_more}
use Rattle.timetable.specs.Planned.{planned}
use Rattle.timetable.specs.declared.numbers.StopNo.{StopNo}
use Rattle.timetable.specs.declared.stop_row.StopRow.{StopRow}
use Rattle.timetable.proofs.IdLemmas.{and-left, and-right}
use Rattle.gw_base.specs.declared.messages.StopUpdate.{StopUpdate}
use Rattle.gw_base.proofs.Elements.{or_assoc, or_none}
use Rattle.journey_model.proofs.Suppliers.{Rise, last_supplier, supplier-last}
use Rattle.journey_model.specs.Propagation.{carried, prop, skips_at, supplied, supplier, supplies, timed}
use Rattle.journey_model.specs.Runs.{Run, planned_at, stop_at}
use Rattle.journey_model.specs.Updates.{is_no_data, is_skipped, place_at, times}
use Rattle.journey_model.specs.declared.readings.StopReading.{StopReading}
use Rattle.journey_model.specs.declared.readings.StopReading.TheVariants as reading
use Rattle.propagation.specs.Saying.{placed_at, says_at, says_times}
use Rattle.propagation.specs.Spreading.{are_rising_from, delay_after, first_at, later, reading_at}
use Rattle.propagation.specs.declared.placing.MatchedUpdate.{MatchedUpdate}
use Rattle.propagation.specs.declared.placing.Prediction.{Prediction}
use Rattle.propagation.specs.declared.placing.Prediction.TheVariants.{NoData}

-- the last update that isn't SKIPPED
abbrev pub unless_skipped : ℕ × StopUpdate → Option (ℕ × StopUpdate)
unless_skipped one = if is_skipped one.1 then None else Some one

abbrev pub last_supply : List (ℕ × StopUpdate) → Option (ℕ × StopUpdate)
last_supply [] = None
last_supply (one ∷ others) = option_or (last_supply others) (unless_skipped one)

-- the delay that it carries on
abbrev pub delay_of : Run → Option (ℕ × StopUpdate) → Option ℤ
delay_of run None = None
delay_of run (Some one) =
    if is_no_data one.1 then None
    else option_map (λ both. both.1 -ℤ (planned_at run one.0).1) (times (planned_at run one.0) one.1)

abbrev pub all_before : ℕ → List (ℕ × StopUpdate) → Bool
all_before position updates = list_all (λ one. nat_lt one.0 position) updates

or_both : (a b : Bool) → a ≡ false → b ≡ false → (a || b) ≡ false
or_both a b p q = rw (p, q) refl

-- another position than that one
other_position : (a b : ℕ) (skips : Bool) → (nat_le (b + 1) a ≡ true) → ((a == b) && skips) ≡ false
other_position a b skips e = let ne : (a == b) ≡ false = grind (arith, nat_tests) in rw ne refl

earlier_position : (a b : ℕ) → nat_lt a b ≡ true → (a == b) ≡ false
earlier_position a b e = grind (arith, nat_tests)

-- updates before a position don't skip it, and the last of them supplies it
skips-before : (position : ℕ) (before : List (ℕ × StopUpdate)) → all_before position before ≡ true
    → skips_at position before ≡ false
skips-before position [] e = refl
skips-before position (one ∷ others) e =
    let ne = earlier_position one.0 position (and-left (nat_lt one.0 position) (all_before position others) e) in
    rw ne (skips-before position others (and-right (nat_lt one.0 position) (all_before position others) e))

supplies-before : (position : ℕ) (one : ℕ × StopUpdate) → nat_lt one.0 position ≡ true
    → supplies position one ≡ not (is_skipped one.1)
supplies-before position one e = let le : nat_le one.0 position ≡ true = grind (arith, nat_tests) in rw le refl

unless-not : (one : ℕ × StopUpdate) (skips : Bool)
    → ◌≡◌ {A = Option (ℕ × StopUpdate)} (if not skips then Some one else None) (if skips then None else Some one)
unless-not one true = refl
unless-not one false = refl

supplier-before : (position : ℕ) (before : List (ℕ × StopUpdate)) → all_before position before ≡ true
    → last_supplier position before ≡ last_supply before
supplier-before position [] e = refl
supplier-before position (one ∷ others) e =
    let here = supplies-before position one (and-left (nat_lt one.0 position) (all_before position others) e) in
    rw (here, supplier-before position others (and-right (nat_lt one.0 position) (all_before position others) e))
    (ap (λ (last : Option (ℕ × StopUpdate)). option_or (last_supply others) last) (unless-not one (is_skipped one.1)))

-- places that rise
rises : (from : ℕ) (updates : List (ℕ × StopUpdate)) → are_rising_from from updates ≡ true → Rise from updates
rises from [] e = tt
rises from (one ∷ others) e = (
  leb-true from one.0 (and-left (nat_le from one.0) (are_rising_from (one.0 + 1) others) e),
  rises (one.0 + 1) others (and-right (nat_le from one.0) (are_rising_from (one.0 + 1) others) e),
)

-- updates after a position neither skip nor supply it
rising-lower : (from low : ℕ) (updates : List (ℕ × StopUpdate)) → nat_le low from ≡ true
    → are_rising_from from updates ≡ true → are_rising_from low updates ≡ true
rising-lower from low [] le e = refl
rising-lower from low (one ∷ others) le e =
    let h = and-left (nat_le from one.0) (are_rising_from (one.0 + 1) others) e in
    let here : nat_le low one.0 ≡ true = grind (arith, nat_tests) in
    rw here (and-right (nat_le from one.0) (are_rising_from (one.0 + 1) others) e)

rest-rising : (position at : ℕ) (others : List (ℕ × StopUpdate)) → nat_le (position + 1) at ≡ true
    → are_rising_from (at + 1) others ≡ true → are_rising_from (position + 1) others ≡ true
rest-rising position at others le e = rising-lower (at + 1) (position + 1) others (grind (arith, nat_tests)) e

skips-after : (position : ℕ) (after : List (ℕ × StopUpdate)) → are_rising_from (position + 1) after ≡ true
    → skips_at position after ≡ false
skips-after position [] e = refl
skips-after position (one ∷ others) e =
    let at = and-left (nat_le (position + 1) one.0) (are_rising_from (one.0 + 1) others) e in
    let more = and-right (nat_le (position + 1) one.0) (are_rising_from (one.0 + 1) others) e in
    or_both _ _ (other_position one.0 position (is_skipped one.1) at)
    (skips-after position others (rest-rising position one.0 others at more))

supplier-after : (position : ℕ) (after : List (ℕ × StopUpdate)) → are_rising_from (position + 1) after ≡ true
    → last_supplier position after ≡ None
supplier-after position [] e = refl
supplier-after position (one ∷ others) e =
    let at = and-left (nat_le (position + 1) one.0) (are_rising_from (one.0 + 1) others) e in
    let more = and-right (nat_le (position + 1) one.0) (are_rising_from (one.0 + 1) others) e in
    let not_here : nat_le one.0 position ≡ false = grind (arith, nat_tests) in
    rw (supplier-after position others (rest-rising position one.0 others at more), not_here) refl

supplier-append : (position : ℕ) (xs ys : List (ℕ × StopUpdate))
    → last_supplier position (xs ++ ys) ≡ option_or (last_supplier position ys) (last_supplier position xs)
supplier-append position [] ys = sym (or_none (last_supplier position ys))
supplier-append position (one ∷ xs) ys =
    rw (supplier-append position xs ys)
    (or_assoc (last_supplier position ys) (last_supplier position xs)
    (if supplies position one then Some one else None))

last_supply-push : (xs : List (ℕ × StopUpdate)) (one : ℕ × StopUpdate)
    → last_supply (xs ++ one ∷ []) ≡ option_or (unless_skipped one) (last_supply xs)
last_supply-push [] one = sym (or_none (unless_skipped one))
last_supply-push (x ∷ xs) one =
    rw (last_supply-push xs one) (or_assoc (unless_skipped one) (last_supply xs) (unless_skipped x))

-- how a stop after the last update reads
supplied-later : (run : Run) (position : ℕ) (before : List (ℕ × StopUpdate)) → all_before position before ≡ true
    → supplied run position (last_supply before)
    ≡ later (stop_at run position) (planned_at run position) (delay_of run (last_supply before))
supplied-later run position [] e = refl
supplied-later run position (one ∷ others) e =
    by (last_supply others)
    (supplied-later run position others (and-right (nat_lt one.0 position) (all_before position others) e))
    (is_skipped one.1)
  where
    timed-later : (both : Option (ℤ × ℤ))
        → carried (stop_at run position) (planned_at run position) (planned_at run one.0) both
        ≡ later (stop_at run position) (planned_at run position) (option_map (λ both. both.1 -ℤ (planned_at run one.0).1) both)
    timed-later None = refl
    timed-later (Some both) = refl

    alone : (no_data : Bool)
        → (if no_data then reading.Absent
        else carried (stop_at run position) (planned_at run position) (planned_at run one.0)
        (times (planned_at run one.0) one.1))
        ≡ later (stop_at run position) (planned_at run position)
        (if no_data then None
        else option_map (λ both. both.1 -ℤ (planned_at run one.0).1) (times (planned_at run one.0) one.1))
    alone true = refl
    alone false = timed-later (times (planned_at run one.0) one.1)

    by : (last : Option (ℕ × StopUpdate))
        → supplied run position last ≡ later (stop_at run position) (planned_at run position) (delay_of run last)
        → (skips : Bool)
        → supplied run position (option_or last (if skips then None else Some one))
        ≡ later (stop_at run position) (planned_at run position)
        (delay_of run (option_or last (if skips then None else Some one)))
    by (Some last) h skips = h
    by None h true = refl
    by None h false =
        rw (earlier_position one.0 position (and-left (nat_lt one.0 position) (all_before position others) e))
        (alone (is_no_data one.1))

-- up to a position this delay is carried, and these updates are left
pub record Reached (run : Run) (updates : List (ℕ × StopUpdate)) (position : ℕ) (delay : Option ℤ)
    (rest : List MatchedUpdate) : Type 0 where
  pub before : List (ℕ × StopUpdate)
  pub after : List (ℕ × StopUpdate)
  pub split : updates ≡ before ++ after
  pub rise : Rise 0 updates
  pub earlier : all_before position before ≡ true
  pub rising : are_rising_from position after ≡ true
  pub left : rest ≡ map (placed_at run) after
  pub carries : delay ≡ delay_of run (last_supply before)

pub reached_none : (run : Run) (updates : List (ℕ × StopUpdate)) (rest : List MatchedUpdate)
    → are_rising_from 0 updates ≡ true → rest ≡ map (placed_at run) updates
    → Reached run updates 0 None rest
reached_none run updates rest rising same =
    record {
      before = [];
      after = updates;
      split = refl;
      rise = rises 0 updates rising;
      earlier = refl;
      rising = rising;
      left = same;
      carries = refl;
    }

before-more : (position : ℕ) (before : List (ℕ × StopUpdate)) → all_before position before ≡ true
    → all_before (position + 1) before ≡ true
before-more position [] e = refl
before-more position (one ∷ others) e =
    let at = and-left (nat_lt one.0 position) (all_before position others) e in
    let more : nat_lt one.0 (position + 1) ≡ true = grind (arith, nat_tests) in
    rw more (before-more position others (and-right (nat_lt one.0 position) (all_before position others) e))

before-push : (position : ℕ) (before : List (ℕ × StopUpdate)) (one : ℕ × StopUpdate) → one.0 ≡ position
    → all_before (position + 1) before ≡ true → all_before (position + 1) (before ++ one ∷ []) ≡ true
before-push position [] one e h = let here : nat_lt one.0 (position + 1) ≡ true = grind (arith, nat_tests) in rw here refl
before-push position (first ∷ before) one e h =
    rw (and-left (nat_lt first.0 (position + 1)) (all_before (position + 1) before) h)
    (before-push position before one e (and-right (nat_lt first.0 (position + 1)) (all_before (position + 1) before) h))

-- a stop that no update is of
prop-after : (run : Run) (position : ℕ) (before after : List (ℕ × StopUpdate)) → Rise 0 (before ++ after)
    → all_before position before ≡ true
    → are_rising_from (position + 1) after ≡ true
    → prop run (before ++ after) position
    ≡ later (stop_at run position) (planned_at run position) (delay_of run (last_supply before))
prop-after run position before after rise earlier rising =
    let none : skips_at position (before ++ after) ≡ false =
    list_any-append (λ one. (one.0 == position) && is_skipped one.1) before after
    ∙ or_both _ _ (skips-before position before earlier) (skips-after position after rising) in
    let same : supplier position (before ++ after) ≡ last_supply before =
    supplier-last position 0 (before ++ after) rise ∙ supplier-append position before after
    ∙ (rw (supplier-after position after rising) (supplier-before position before earlier)) in
    rw (none, same) (supplied-later run position before earlier)

-- a stop that an update is of
says-reading : (run : Run) (position : ℕ) (update : StopUpdate) (delay : Option ℤ) (skips : Bool)
    → is_skipped update ≡ skips → (last : Option (ℕ × StopUpdate))
    → (if skips then reading.Skipped
    else supplied run position (option_or (if skips then None else Some (position, update)) last))
    ≡ reading_at (stop_at run position) (planned_at run position) delay (Some (says_at run position update))
says-reading run position update delay true e last = rw e refl
says-reading run position update delay false e last =
    rw e (no_data (is_no_data update) (times (planned_at run position) update))
  where
    here : (position == position) ≡ true
    here = grind (arith, nat_tests)

    no_data : (b : Bool) (both : Option (ℤ × ℤ))
        → (if b then reading.Absent
        else (if position == position then timed (place_at run position update) both
        else carried (stop_at run position) (planned_at run position) (planned_at run position) both))
        ≡ reading_at (stop_at run position) (planned_at run position) delay
        (Some (if b then NoData else says_times (place_at run position update) (planned_at run position) both))
    no_data true both = refl
    no_data false None = rw here refl
    no_data false (Some both) = rw here refl

carried-after : (run : Run) (position : ℕ) (update : StopUpdate) (before : List (ℕ × StopUpdate))
    → delay_after (delay_of run (last_supply before)) (Some (says_at run position update))
    ≡ delay_of run (last_supply (before ++ (position, update) ∷ []))
carried-after run position update before = rw (last_supply-push before (position, update)) (skips (is_skipped update) refl)
  where
    no_data : (b : Bool) → is_no_data update ≡ b → (both : Option (ℤ × ℤ)) → times (planned_at run position) update ≡ both
        → delay_after (delay_of run (last_supply before))
        (Some (if b then NoData else says_times (place_at run position update) (planned_at run position) both))
        ≡ delay_of run (Some (position, update))
    no_data true e both is = rw e refl
    no_data false e None is = rw (e, is) refl
    no_data false e (Some both) is = rw (e, is) refl

    skips : (b : Bool) → is_skipped update ≡ b
        → delay_after (delay_of run (last_supply before)) (Some (says_at run position update))
        ≡ delay_of run (option_or (unless_skipped (position, update)) (last_supply before))
    skips true e = rw e refl
    skips false e = rw e (no_data (is_no_data update) refl (times (planned_at run position) update) refl)

-- how the stop at a position reads, and what is carried after it
pub record Step (run : Run) (updates : List (ℕ × StopUpdate)) (position : ℕ) (delay : Option ℤ)
    (rest : List MatchedUpdate) : Type 0 where
  pub reads : prop run updates position
      ≡ reading_at (stop_at run position) (planned_at run position) delay (first_at rest position)
  pub reached : Reached run updates (position + 1) (delay_after delay (first_at rest position))
      (if is_some (first_at rest position) then drop 1 rest else rest)

step-here : (run : Run) (position : ℕ) (update : StopUpdate) (before others : List (ℕ × StopUpdate))
    → Rise 0 (before ++ (position, update) ∷ others)
    → all_before position before ≡ true → are_rising_from (position + 1) others ≡ true
    → Step run (before ++ (position, update) ∷ others) position (delay_of run (last_supply before))
    (placed_at run (position, update) ∷ map (placed_at run) others)
step-here run position update before others rise earlier rising =
    let here : (position == position) ≡ true = grind (arith, nat_tests) in
    let at : nat_le position position ≡ true = grind (arith, nat_tests) in
    let skips : skips_at position (before ++ (position, update) ∷ others) ≡ is_skipped update =
    list_any-append (λ one. (one.0 == position) && is_skipped one.1) before ((position, update) ∷ others)
    ∙ (rw (skips-before position before earlier, here, skips-after position others rising) (or_false (is_skipped update))) in
    let supply : supplier position (before ++ (position, update) ∷ others)
    ≡ option_or (unless_skipped (position, update)) (last_supply before) =
    supplier-last position 0 (before ++ (position, update) ∷ others) rise
    ∙ supplier-append position before ((position, update) ∷ others)
    ∙ (rw (supplier-after position others rising, at, supplier-before position before earlier)
    (ap (λ (last : Option (ℕ × StopUpdate)). option_or last (last_supply before))
    (unless-not (position, update) (is_skipped update)))) in
    record {
      reads = rw (here, skips, supply)
          (says-reading run position update (delay_of run (last_supply before)) (is_skipped update) refl
          (last_supply before));
      reached = rw here (record {
        before = before ++ (position, update) ∷ [];
        after = others;
        split = sym (append_assoc before ((position, update) ∷ []) others);
        rise = rise;
        earlier = before-push position before (position, update) refl (before-more position before earlier);
        rising = rising;
        left = refl;
        carries = carried-after run position update before;
      });
    }
  where
    or_false : (a : Bool) → (a || false) ≡ a
    or_false true = refl
    or_false false = refl

step-past : (run : Run) (position : ℕ) (before after : List (ℕ × StopUpdate)) → Rise 0 (before ++ after)
    → all_before position before ≡ true
    → are_rising_from (position + 1) after ≡ true → first_at (map (placed_at run) after) position ≡ None
    → Step run (before ++ after) position (delay_of run (last_supply before)) (map (placed_at run) after)
step-past run position before after rise earlier rising none = record {
  reads = rw none (prop-after run position before after rise earlier rising);
  reached = rw none (record {
    before = before;
    after = after;
    split = refl;
    rise = rise;
    earlier = before-more position before earlier;
    rising = rising;
    left = refl;
    carries = refl;
  });
}

step : (run : Run) (position : ℕ) (before after : List (ℕ × StopUpdate)) → Rise 0 (before ++ after)
    → all_before position before ≡ true
    → are_rising_from position after ≡ true
    → Step run (before ++ after) position (delay_of run (last_supply before)) (map (placed_at run) after)
step run position before [] rise earlier rising = step-past run position before [] rise earlier refl refl
step run position before ((at, update) ∷ others) rise earlier rising = by (at == position) refl
  where
    by : (b : Bool) → (at == position) ≡ b
        → Step run (before ++ (at, update) ∷ others) position (delay_of run (last_supply before))
        (placed_at run (at, update) ∷ map (placed_at run) others)
    by true e =
        let same : at ≡ position = eqb-true at position e in
        let more : are_rising_from (position + 1) others ≡ true =
        rw same at (and-right (nat_le position at) (are_rising_from (at + 1) others) rising) in
        let whole : Rise 0 (before ++ (position, update) ∷ others) = rw same at rise in
        rw same (step-here run position update before others whole earlier more)
    by false e =
        let low = and-left (nat_le position at) (are_rising_from (at + 1) others) rising in
        let past : nat_le (position + 1) at ≡ true = grind (arith, nat_tests) in
        step-past run position before ((at, update) ∷ others) rise earlier
        (rw past (and-right (nat_le position at) (are_rising_from (at + 1) others) rising)) (rw e refl)

pub step-reached : (run : Run) (updates : List (ℕ × StopUpdate)) (position : ℕ) (delay : Option ℤ) (rest : List MatchedUpdate)
    → Reached run updates position delay rest
    → Step run updates position delay rest
step-reached run updates position delay rest h =
    rw (h.split, h.left, h.carries) (step run position h.before h.after (rw h.split at h.rise) h.earlier h.rising)

-- the stops before a position read like this, and what is carried to it
pub record SpreadTo (run : Run) (updates : List (ℕ × StopUpdate)) (position : ℕ) (delay : Option ℤ) (rest : List MatchedUpdate)
    (all : List StopReading) : Type 0 where
  pub reads : all ≡ map (prop run updates) (range_with_len 0 position)
  pub reached : Reached run updates position delay rest

pub spread_none : (run : Run) (updates : List (ℕ × StopUpdate)) (placed : List MatchedUpdate) (all : List StopReading)
    → all ≡ [] → are_rising_from 0 updates ≡ true
    → placed ≡ map (placed_at run) updates → SpreadTo run updates 0 None placed all
spread_none run updates placed all empty rising same =
    record { reads = empty; reached = reached_none run updates placed rising same }

-- the planned times of a stop's row
pub planned_row : (start : ℤ) (stops : List StopRow) (position : ℕ) (other : StopRow) → position < length stops
    → planned start (get_or stops position other) ≡ option_map_or (planned start) (slice_get stops position) (pos 0, pos 0)
planned_row start [] position other within = absurd (omega arith)
planned_row start (row ∷ rows) zero other within = refl
planned_row start (row ∷ rows) (suc position) other within = planned_row start rows position other (omega arith)

-- and its scheduled stop
pub scheduled_row : (stops : List StopRow) (position : ℕ) (other : StopRow) → position < length stops
    → (get_or stops position other).stop ≡ option_map_or (λ row. row.stop) (slice_get stops position) (record { 0 = 0 })
scheduled_row [] position other within = absurd (omega arith)
scheduled_row (row ∷ rows) zero other within = refl
scheduled_row (row ∷ rows) (suc position) other within = scheduled_row rows position other (omega arith)

-- one stop more
pub spread_more : (run : Run) (updates : List (ℕ × StopUpdate)) (position : ℕ) (delay delay' : Option ℤ)
    (rest rest' : List MatchedUpdate) (all all' : List StopReading)
    (said : Option Prediction) (scheduled : StopNo) (planned : ℤ × ℤ) (read : StopReading) → SpreadTo run updates position delay rest all
    → said ≡ first_at rest position → scheduled ≡ stop_at run position → planned ≡ planned_at run position
    → read ≡ reading_at scheduled planned delay said → all' ≡ all ++ read ∷ [] → delay' ≡ delay_after delay said
    → rest' ≡ (if is_some said then drop 1 rest else rest)
    → SpreadTo run updates (position + 1) delay' rest' all'
spread_more run updates position delay delay' rest rest' all all' said scheduled planned read h is_said is_scheduled
    is_planned is_read pushed carries left =
    let next = step-reached run updates position delay rest h.reached in
    let reads : read ≡ prop run updates position = is_read ∙ (rw (is_said, is_scheduled, is_planned) (sym next.reads)) in
    record {
      reads = pushed ∙
          (rw (h.reads, reads) (sym (map-range_with_len_more (prop run updates) 0 position position (omega arith))));
      reached = rw (carries, left, is_said) next.reached;
    }
