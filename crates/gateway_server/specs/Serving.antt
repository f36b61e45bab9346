-- What one connection is at its end: an entry of the log, and what a gateway stands for then.
use Rattle.std.specs.Prelude.{◌≡◌, ◌<◌, ◌+◌, ℕ, ℤ, Bool, List, [], ◌∷◌, ◌++◌, length, map, Option, Some, None, IfSome, option_map, Result, Ok, Err}
use Rattle.std.specs.List.{count_by}
use Rattle.gw_base.specs.Changes.{Change}
use Rattle.gw_base.specs.Connections.{Beside, Connections}
use Rattle.gw_base.specs.Count.{Rose}
use Rattle.gw_base.specs.declared.door.Entry.{Entry}
use Rattle.gateway_core.specs.Arrivals.{Arrival}
use Rattle.gateway_core.specs.Standing.{Kept, Stands}
use Rattle.gateway_core.specs.declared.setting.Setting.{Setting}
use Rattle.gateway_server.specs.Holding.{Held, Room}
use Rattle.gateway_server.specs.Log.{AreCounted, IsCausedLogBy, IsLawful, IsLogBy, Leaves, is_clock_fault, moments_given}
use Rattle.gateway_server.specs.Past.{IsLawfulAfter, LeavesPast, Past, StandsFor}

-- a door tells its connections, and of the present one nothing was read or written
pub record IsFresh (output : Option (List ℕ)) (beside : Beside) (told : Connections) : Type 0 where
  pub tells : beside.told ≡ Some told
  pub unread : told.unread ≡ told.input
  pub unwritten : output ≡ Some []

-- the clock was asked once: it gave this moment without a fault, or it failed, gave none and its count rose
abbrev pub AsksClock : Change (List ℤ) → Option ℤ → Type 0
AsksClock clock (Some moment) =
    (clock.before ≡ option_map (λ later. moment ∷ later) clock.now) × (clock.faults_now ≡ clock.faults_before)
AsksClock clock None = (clock.now ≡ clock.before) × Rose clock.faults_before clock.faults_now

-- the present connection was finished with this entry
pub record IsLogged (told : Connections) (now : Beside) (entry : Entry) : Type 0 where
  pub input : entry.input ≡ told.input
  pub log : now.told ≡ Some (record { coming = told.coming; input = []; unread = []; log = told.log ++ entry ∷ [] })

-- whatever is served, the log has one entry more, whose moment is the one that the clock gave
abbrev pub LogsOne : Connections → Change (List ℤ) → Beside → Type 0
LogsOne told clock beside = (entry : Entry) × IsLogged told beside entry × AsksClock clock entry.moment

-- a connection, after which the log has one entry more, which is lawful after what there was before; what there is by
-- its end is stood for, and nothing is written to the next connection yet
pub record ServesBy {P : Type 0} (Lawful : P → Entry → Type 0) (LeavesThis : P → Entry → P → Type 0)
    (IsStoodFor : P → Type 0) (past : P) (told : Connections) (clock : Change (List ℤ)) (output : Option (List ℕ))
    (beside : Beside) : Type 0 where
  pub entry : Entry
  pub logged : IsLogged told beside entry
  pub unwritten : output ≡ Some []
  pub asked : AsksClock clock entry.moment
  pub lawful : Lawful past entry
  pub arrived : P
  pub leaves : LeavesThis past entry arrived
  pub stands : IsStoodFor arrived

-- over a gateway that keeps no bodies: one that stood for these arrivals stands for what arrived by the end
abbrev pub Serves : Type 0 → Kept → List Arrival → Connections → Change (List ℤ) → Option (List ℕ) → Beside → Kept
    → Type 0
Serves Cause before arrivals told clock output beside now =
    ServesBy (IsLawful Cause before.setting) (Leaves before.setting) (Stands now) arrivals told clock output beside

-- over what holds a gateway
abbrev pub ServesAfter : Type 0 → Type 0 → Room → Held → Past → Connections → Change (List ℤ) → Option (List ℕ)
    → Beside → Held → Type 0
ServesAfter Cause Unkept room before past told clock output beside now =
    ServesBy (IsLawfulAfter Cause Unkept room before.gate.setting) (LeavesPast room before.gate.setting)
    (StandsFor now) past told clock output beside

-- a door tells its connections, of which none is present, and an output
pub record Tells (output : Option (List ℕ)) (beside : Beside) (told : Connections) : Type 0 where
  pub tells : beside.told ≡ Some told
  pub written : (held : List ℕ) × (output ≡ Some held)

-- connections one after the other: the log got so many entries more, which are the next inputs of the door in order and
-- lawful after what there was before them; their moments are those that the clock gave, and there are fewer only where
-- its count rose; and what there is by the end is stood for
pub record ServesAllBy {P : Type 0} (Lawful : P → Entry → Type 0) (LeavesThis : P → Entry → P → Type 0)
    (IsStoodFor : P → Type 0) (past : P) (told : Connections) (clock : Change (List ℤ)) (output : Option (List ℕ))
    (beside : Beside) (count : ℕ) : Type 0 where
  pub entries : List Entry
  pub left : Connections
  pub tells : Tells output beside left
  pub log : left.log ≡ told.log ++ entries
  pub inputs : told.coming ≡ map (λ entry. entry.input) entries ++ left.coming
  pub count_is : length entries ≡ count
  pub moments : clock.before ≡ option_map (λ later. moments_given entries ++ later) clock.now
  pub timed : length (moments_given entries) < length entries → Rose clock.faults_before clock.faults_now
  pub arrived : P
  pub lawful : IsLogBy Lawful LeavesThis past entries arrived
  pub stands : IsStoodFor arrived

-- over a gateway that keeps no bodies: one that stood for these arrivals stands for what arrived by the end
abbrev pub ServesAll : Type 0 → Kept → List Arrival → Connections → Change (List ℤ) → Option (List ℕ) → Beside → Kept
    → ℕ → Type 0
ServesAll Cause before arrivals told clock output beside now count =
    ServesAllBy (IsLawful Cause before.setting) (Leaves before.setting) (Stands now) arrivals told clock output beside
    count

-- over what holds a gateway
abbrev pub ServesAllAfter : Type 0 → Type 0 → Room → Held → Past → Connections → Change (List ℤ) → Option (List ℕ)
    → Beside → Held → ℕ → Type 0
ServesAllAfter Cause Unkept room before past told clock output beside now count =
    ServesAllBy (IsLawfulAfter Cause Unkept room before.gate.setting) (LeavesPast room before.gate.setting)
    (StandsFor now) past told clock output beside count

-- no connection is to come
abbrev pub IsEnd : Beside → Type 0
IsEnd beside = IfSome beside.told (λ told. told.coming ≡ [])

-- how many faults an answer tells
abbrev pub failures : {A E : Type 0} → Result A E → ℕ
failures (Ok value) = 0
failures (Err fault) = 1

-- the causes of entries, one by one: those that have one, for which alone an entry may be lost or its output shorter
-- than its answer, are with so many further faults no more than the door counted, and those for which the clock failed
-- no more than the clock counted
pub record CountsCausesBy {P : Type 0} (Lawful : Type 0 → P → Entry → Type 0) (LeavesThis : P → Entry → P → Type 0)
    (past : P) (entries : List Entry) (further door_before door_now clock_before clock_now : ℕ) : Type 0 where
  pub causes : List Bool
  pub arrived : P
  pub lawful : IsCausedLogBy Lawful LeavesThis past entries causes arrived
  pub door : AreCounted (count_by (λ cause. cause) causes + further) door_before door_now
  pub clock : AreCounted (count_by (λ entry. is_clock_fault entry.mark) entries) clock_before clock_now

-- over a gateway that keeps no bodies
abbrev pub CountsCauses : Setting → List Arrival → List Entry → ℕ → ℕ → ℕ → ℕ → ℕ → Type 0
CountsCauses setting arrivals entries further door_before door_now clock_before clock_now =
    CountsCausesBy (λ Cause. IsLawful Cause setting) (Leaves setting) arrivals entries further door_before door_now
    clock_before clock_now

-- over what holds a gateway
abbrev pub CountsCausesAfter : Type 0 → Room → Setting → Past → List Entry → ℕ → ℕ → ℕ → ℕ → ℕ → Type 0
CountsCausesAfter Unkept room setting past entries further door_before door_now clock_before clock_now =
    CountsCausesBy (λ Cause. IsLawfulAfter Cause Unkept room setting) (LeavesPast room setting) past entries further
    door_before door_now clock_before clock_now
