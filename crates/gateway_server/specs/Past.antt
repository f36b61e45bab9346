-- What there is before a connection over what holds a gateway, and what there is after it.
use Rattle.std.specs.Prelude.{◌≡◌, ℕ, Bool, true, false, List, not, length}
use Rattle.gw_base.specs.declared.door.Entry.{Entry}
use Rattle.gw_base.specs.declared.door.Mark.{Mark}
use Rattle.gw_base.specs.declared.door.Mark.TheVariants as mark
use Rattle.gw_base.specs.declared.kind.Kind.{Kind}
use Rattle.http_talk.specs.Request.{IsRequest, Post}
use Rattle.gateway_core.specs.Arrivals.{Arrival}
use Rattle.gateway_core.specs.Standing.{Stands}
use Rattle.gateway_core.specs.declared.setting.Setting.{Setting}
use Rattle.gateway_server.specs.Holding.{Held, Room}
use Rattle.gateway_server.specs.Log.{IsLawfulBy, Leaves, is_taken}

-- what there is: what arrived, the place at which what is kept of its bodies ends, and whether more can be taken
pub record Past : Type 0 where
  pub arrivals : List Arrival
  pub end : ℕ
  pub is_sound : Bool

-- what holds a gateway stands for that
pub record StandsFor (held : Held) (past : Past) : Type 0 where
  pub stands : Stands held.gate past.arrivals
  pub sound : past.is_sound ≡ held.is_sound
  pub end : held.is_sound ≡ true → past.end ≡ held.end

-- an entry is lawful after it, and more could be taken
abbrev pub IsLawfulAfter : Type 0 → Type 0 → Room → Setting → Past → Entry → Type 0
IsLawfulAfter Cause Unkept room setting past entry =
    (past.is_sound ≡ true)
    × IsLawfulBy Cause Unkept (λ body. room.is_full past.end (length body)) setting past.arrivals entry

-- keeping a body failed under this mark
abbrev pub is_unkept : Mark → Bool
is_unkept mark.Unkept = true
is_unkept mark.Taken = false
is_unkept mark.Fed = false
is_unkept mark.Shown = false
is_unkept (mark.Refused status) = false
is_unkept mark.Memory = false
is_unkept mark.ClockFault = false
is_unkept mark.Lost = false

-- what is kept ends at this place after a connection: behind the body where that was taken, and otherwise as before
pub data EndsAt (room : Room) (end : ℕ) (entry : Entry) (now : ℕ) : Type 0 where
  behind : (of : Kind) (body : List ℕ) → is_taken entry.mark ≡ true → IsRequest entry.input (Post of body)
      → now ≡ room.end_after end (length body) → EndsAt room end entry now
  stays : is_taken entry.mark ≡ false → now ≡ end → EndsAt room end entry now

-- what there is after a connection: more can be taken unless keeping its body failed
pub record LeavesPast (room : Room) (setting : Setting) (past : Past) (entry : Entry) (now : Past) : Type 0 where
  pub arrived : Leaves setting past.arrivals entry now.arrivals
  pub end : EndsAt room past.end entry now.end
  pub sound : now.is_sound ≡ not (is_unkept entry.mark)
