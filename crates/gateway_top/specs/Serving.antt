-- What a server does with the connections of its door (RFC 9112).
use Rattle.std.specs.Prelude.{◌≡◌, ◌≤◌, ◌<◌, ◌⊎◌, ℕ, ℤ, List, [], ◌++◌, length, map, Some, option_map}
use Rattle.gw_base.specs.Changes.{Change}
use Rattle.gw_base.specs.Connections.{Beside, Connections}
use Rattle.gw_base.specs.Count.{Rose}
use Rattle.gw_base.specs.declared.door.Entry.{Entry}
use Rattle.gateway_core.specs.Arrivals.{Arrival}
use Rattle.gateway_core.specs.declared.setting.Setting.{Setting}
use Rattle.gateway_server.specs.Completeness.{Completes}
use Rattle.gateway_server.specs.Log.{IsLawful, IsLogBy, Leaves, moments_given}
use Rattle.gateway_server.specs.Serving.{CountsCauses}

-- a log got these entries more
pub record HasLogged (told : Connections) (now : Beside) (entries : List Entry) (left : Connections) : Type 0 where
  pub tells : now.told ≡ Some left
  pub log : left.log ≡ told.log ++ entries

-- the connections that were served: their entries are the door's next inputs in order, at most so many, and where that
-- came to its end so many or all that were to come; their moments are those that the clock gave, fewer only where its
-- count rose; and each is lawful after what there was before them and what there is after those before it
pub record ServedBy {P : Type 0} (Lawful : P → Entry → Type 0) (LeavesThis : P → Entry → P → Type 0) (End : Type 0)
    (most : ℕ) (past : P) (told : Connections) (clock : Change (List ℤ)) (now : Beside) : Type 0 where
  pub entries : List Entry
  pub left : Connections
  pub logged : HasLogged told now entries left
  pub inputs : told.coming ≡ map (λ entry. entry.input) entries ++ left.coming
  pub few : length entries ≤ most
  pub all : End → (length entries ≡ most) ⊎ (left.coming ≡ [])
  pub moments : clock.before ≡ option_map (λ later. moments_given entries ++ later) clock.now
  pub timed : length (moments_given entries) < length entries → Rose clock.faults_before clock.faults_now
  pub arrived : P
  pub lawful : IsLogBy Lawful LeavesThis past entries arrived

-- an entry that is lawful after what arrived before it, and whose connection takes what is well formed and shows what
-- is asked for, where there is no cause for a shorter output
abbrev pub IsWhole : Type 0 → Setting → List Arrival → Entry → Type 0
IsWhole Cause setting arrivals entry = IsLawful Cause setting arrivals entry × Completes Cause setting arrivals entry

-- over a gateway that keeps no bodies, after what had arrived before
abbrev pub Served : Type 0 → Type 0 → ℕ → Setting → List Arrival → Connections → Change (List ℤ) → Beside → Type 0
Served Cause End most setting past told clock now =
    ServedBy (IsWhole Cause setting) (Leaves setting) End most past told clock now

-- each entry that is lost or shorter than its answer, and so many faults besides, have a fault of their own in the
-- count of the door, and each entry for which the clock failed has one in the clock's
abbrev pub HasCounted : {Told Given : Type 0} → Setting → List Arrival → Connections → Beside → ℕ → Change Told
    → Change Given → Type 0
HasCounted setting past told now besides door clock =
    (entries : List Entry) (left : Connections) → HasLogged told now entries left
    → CountsCauses setting past entries besides door.faults_before door.faults_now clock.faults_before clock.faults_now
