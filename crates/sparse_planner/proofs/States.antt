-- The shortest list made in one walk, which keeps the delay that the stops so far supply.
use Rattle.std.proofs.Common.{◌≡◌, ◌∙◌, ◌||◌, ◌-ℤ◌, ℤ, Bool, true, false, not, List, [], ◌∷◌, ◌++◌, Option, Some, None, if◌then◌else◌, append_assoc, zip, IfSome, ◌⊎◌, inl, inr, refl, ap, ap₂, sym}
use Rattle.std.specs.Option.{option_map_or, option_or}
use Rattle.std.proofs.lemmas.Bool.{and_parts}
use Rattle.gw_base.specs.declared.messages.StopUpdate.{StopUpdate}
use Rattle.gw_base.proofs.Elements.{or_assoc, or_none}
use Rattle.timetable.specs.Planned.{planned}
use Rattle.timetable.specs.declared.numbers.StopNo.{StopNo}
use Rattle.timetable.specs.declared.stop_row.StopRow.{StopRow}
use Rattle.journey_model.specs.Propagation.{later_by}
use Rattle.journey_model.specs.Readings.{is_near, is_skipped}
use Rattle.journey_model.specs.Runs.{Run}
use Rattle.journey_model.specs.Times.{is_delay}
use Rattle.journey_model.specs.declared.readings.StopReading.{StopReading}
use Rattle.journey_model.specs.declared.readings.StopReading.TheVariants.{Absent, Skipped, Timed}
use Rattle.sparse_planner.specs.Shortest.{nearest, same_reading, supply, update, updates_from}

-- what a delay supplies to a stop
abbrev pub running : StopNo → ℤ × ℤ → Option ℤ → StopReading
running scheduled planned delay = option_map_or (later_by scheduled planned) delay Absent

-- the delay after a stop
abbrev pub delay_after : ℤ → Option ℤ → StopRow → StopReading → Option ℤ
delay_after start delay row Absent = None
delay_after start delay row Skipped = delay
delay_after start delay row (Timed arrival departure place) = Some (departure -ℤ (planned start row).1)

-- a stop needs an update of its own
abbrev pub needs : ℤ → Option ℤ → StopRow → StopReading → Bool
needs start delay row reading = is_skipped reading || not (same_reading reading (running row.stop (planned start row) delay))

-- the updates of stops after others that supply this delay
abbrev pub plan_from : Run → Option ℤ → List (StopRow × StopReading) → List StopUpdate
plan_from run delay [] = []
plan_from run delay (stop ∷ stops) =
    (if needs run.start delay stop.0 stop.1 then update run stop.0 stop.1 ∷ [] else []) ++ plan_from run (delay_after run.start delay stop.0 stop.1) stops

-- ---- the same updates

-- a stop, where it isn't skipped
abbrev unskipped : StopRow × StopReading → Option (StopRow × StopReading)
unskipped stop = if is_skipped stop.1 then None else Some stop

nearest-push : (before : List (StopRow × StopReading)) (stop : StopRow × StopReading)
    → nearest (before ++ stop ∷ []) ≡ option_or (unskipped stop) (nearest before)
nearest-push [] stop = sym (or_none (unskipped stop))
nearest-push (first ∷ before) stop = ap (λ found. option_or found (unskipped first)) (nearest-push before stop) ∙ or_assoc (unskipped stop) (nearest before) (unskipped first)

-- the delay that the nearest stop supplies
abbrev delay_of : ℤ → Option (StopRow × StopReading) → Option ℤ
delay_of start None = None
delay_of start (Some stop) = delay_after start None stop.0 stop.1

supply-running : (start : ℤ) (row : StopRow) (found : Option (StopRow × StopReading)) → supply start row found ≡ running row.stop (planned start row) (delay_of start found)
supply-running start row None = refl
supply-running start row (Some (earlier, Absent)) = refl
supply-running start row (Some (earlier, Skipped)) = refl
supply-running start row (Some (earlier, Timed arrival departure place)) = refl

delay-unskipped : (start : ℤ) (row : StopRow) (reading : StopReading) (found : Option (StopRow × StopReading))
    → delay_of start (option_or (unskipped (row, reading)) found) ≡ delay_after start (delay_of start found) row reading
delay-unskipped start row Absent found = refl
delay-unskipped start row Skipped found = refl
delay-unskipped start row (Timed arrival departure place) found = refl

delay-push : (start : ℤ) (before : List (StopRow × StopReading)) (row : StopRow) (reading : StopReading)
    → delay_of start (nearest (before ++ (row, reading) ∷ [])) ≡ delay_after start (delay_of start (nearest before)) row reading
delay-push start before row reading = ap (delay_of start) (nearest-push before (row, reading)) ∙ delay-unskipped start row reading (nearest before)

updates-plan-after : (run : Run) (before stops : List (StopRow × StopReading)) → updates_from run before stops ≡ plan_from run (delay_of run.start (nearest before)) stops
updates-plan-after run before [] = refl
updates-plan-after run before ((row, reading) ∷ stops) =
    ap₂ (λ (supplied : StopReading) (rest : List StopUpdate). (if is_skipped reading || not (same_reading reading supplied) then update run row reading ∷ [] else []) ++ rest)
    (supply-running run.start row (nearest before))
    (updates-plan-after run (before ++ (row, reading) ∷ []) stops ∙ ap (λ delay. plan_from run delay stops) (delay-push run.start before row reading))

pub updates-plan : (run : Run) (stops : List (StopRow × StopReading)) → updates_from run [] stops ≡ plan_from run None stops
updates-plan run stops = updates-plan-after run [] stops

-- ---- a step of the walk in code

pub delay-is : (start : ℤ) (delay next : Option ℤ) (row : StopRow) (reading : StopReading)
    → (reading ≡ Absent → next ≡ None) → (reading ≡ Skipped → next ≡ delay)
    → ((arrival departure : ℤ) (place : StopNo) → reading ≡ Timed arrival departure place → next ≡ Some (departure -ℤ (planned start row).1))
    → next ≡ delay_after start delay row reading
delay-is start delay next row Absent absent skipped at_times = absent refl
delay-is start delay next row Skipped absent skipped at_times = skipped refl
delay-is start delay next row (Timed arrival departure place) absent skipped at_times = at_times arrival departure place refl

pub delay-small : (start : ℤ) (delay : Option ℤ) (row : StopRow) (reading : StopReading) → is_near (planned start row) reading ≡ true
    → IfSome delay (λ d. is_delay d ≡ true) → IfSome (delay_after start delay row reading) (λ d. is_delay d ≡ true)
delay-small start delay row Absent near small = tt
delay-small start delay row Skipped near small = small
delay-small start delay row (Timed arrival departure place) near small =
    (and_parts (is_delay (arrival -ℤ (planned start row).0)) (is_delay (departure -ℤ (planned start row).1)) near).1

-- the update of a stop, if it needs one, stands after those so far
pub plan-more : (run : Run) (delay : Option ℤ) (row : StopRow) (reading : StopReading) (stops : List (StopRow × StopReading)) (updates whole : List StopUpdate)
    → updates ++ plan_from run delay ((row, reading) ∷ stops) ≡ whole
    → (if needs run.start delay row reading then updates ++ update run row reading ∷ [] else updates) ++ plan_from run (delay_after run.start delay row reading) stops ≡ whole
plan-more run delay row reading stops updates whole h = by (needs run.start delay row reading) ∙ h
  where
    by : (needed : Bool) → (if needed then updates ++ update run row reading ∷ [] else updates) ++ plan_from run (delay_after run.start delay row reading) stops
        ≡ updates ++ ((if needed then update run row reading ∷ [] else []) ++ plan_from run (delay_after run.start delay row reading) stops)
    by true = append_assoc updates _ _
    by false = refl

-- no stop is left where the rows or the readings are at their end
pub zip-over : (rows : List StopRow) (readings : List StopReading) → (rows ≡ []) ⊎ (readings ≡ []) → zip rows readings ≡ []
zip-over rows readings (inl e) = ap (λ (left : List StopRow). zip left readings) e
zip-over [] readings (inr e) = refl
zip-over (row ∷ rows) readings (inr e) = ap (λ (left : List StopReading). zip (row ∷ rows) left) e
