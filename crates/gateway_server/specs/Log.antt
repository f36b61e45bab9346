-- The log of a server: each connection that was finished, and what arrived of them.
use Rattle.std.specs.Prelude.{◌≡◌, ◌≤◌, ◌+◌, ◌⊎◌, ℕ, ℤ, Bool, true, false, List, [], ◌∷◌, Option, Some, None, Ok}
use Rattle.std.specs.List.{flat_map}
use Rattle.gw_base.specs.Count.{last_count}
use Rattle.gw_base.specs.Told.{PutsUnless}
use Rattle.gw_base.specs.declared.door.Entry.{Entry}
use Rattle.gw_base.specs.declared.door.Mark.{Mark}
use Rattle.gw_base.specs.declared.door.Mark.TheVariants as mark
use Rattle.gw_base.specs.declared.kind.Kind.{Kind}
use Rattle.http_talk.specs.Asked.{action_of}
use Rattle.http_talk.specs.Request.{IsHead, IsRequest, Post}
use Rattle.http_talk.specs.declared.refusal.Refusal.TheVariants as refusal
use Rattle.http_talk.specs.declared.target.Head.{Head}
use Rattle.http_talk.specs.declared.target.Action.TheVariants as action
use Rattle.journey_model.specs.declared.report.Report.{Report}
use Rattle.gateway_core.specs.Arrivals.{Arrival, Given}
use Rattle.gateway_core.specs.declared.setting.Setting.{Setting}
use Rattle.gateway_server.specs.Answers.{IsAnswered, mark_of, refused_with}
use Rattle.gateway_core.specs.Bodies.{Brings}
use Rattle.gateway_core.specs.KeptFirst.{CanBeTaken}

-- an output is a prefix of these bytes, put after nothing, and shorter only for this cause
abbrev pub IsFront : Type 0 → List ℕ → List ℕ → Type 0
IsFront Cause output bytes = PutsUnless Cause (Some []) (Some output) bytes

-- the head of an input is that of a POST, whose length is said
abbrev pub IsPosted : List ℕ → Type 0
IsPosted input =
    (count : ℕ) × (head : Head) × (of : Kind) × IsHead input count (Ok head) × (action_of head.target ≡ action.Post of)

-- a body was taken under this mark
abbrev pub is_taken : Mark → Bool
is_taken mark.Taken = true
is_taken mark.Fed = true
is_taken mark.Shown = false
is_taken (mark.Refused status) = false
is_taken mark.Memory = false
is_taken mark.ClockFault = false
is_taken mark.Lost = false
is_taken mark.Unkept = false

-- the body of an entry isn't full, where it was taken
abbrev pub HasRoom : (List ℕ → Bool) → Entry → Type 0
HasRoom is_full entry =
    is_taken entry.mark ≡ true
    → (of : Kind) × (body : List ℕ) × IsRequest entry.input (Post of body) × (is_full body ≡ false)

-- what a connection's entry may be after what arrived before it, where bodies may be kept before they are taken: the
-- clock failed and nothing was read; a read failed and nothing was answered; there was no memory for what was posted;
-- what was posted would be taken, and keeping it failed, or it is full; or the connection was answered. The output is a
-- prefix of the answer, and shorter only for a cause, which is a fault of the door; keeping a body fails only for a
-- cause of its own
pub data IsLawfulBy (Cause Unkept : Type 0) (is_full : List ℕ → Bool) (setting : Setting) (arrivals : List Arrival)
    (entry : Entry) : Type 0 where
  no_clock : entry.mark ≡ mark.ClockFault → entry.moment ≡ None
      → IsFront Cause entry.output (refused_with refusal.Clock)
      → IsLawfulBy Cause Unkept is_full setting arrivals entry
  lost : (moment : ℤ) → entry.mark ≡ mark.Lost → entry.moment ≡ Some moment → entry.output ≡ [] → Cause
      → IsLawfulBy Cause Unkept is_full setting arrivals entry
  no_memory : (moment : ℤ) → entry.mark ≡ mark.Memory → entry.moment ≡ Some moment → IsPosted entry.input
      → IsFront Cause entry.output (refused_with refusal.Memory)
      → IsLawfulBy Cause Unkept is_full setting arrivals entry
  unkept : (moment : ℤ) (of : Kind) (body : List ℕ) → entry.mark ≡ mark.Unkept → entry.moment ≡ Some moment
      → IsRequest entry.input (Post of body) → CanBeTaken setting arrivals moment of body → Unkept
      → IsFront Cause entry.output (refused_with refusal.Journal)
      → IsLawfulBy Cause Unkept is_full setting arrivals entry
  full : (moment : ℤ) (of : Kind) (body : List ℕ) → entry.mark ≡ mark.Refused 500 → entry.moment ≡ Some moment
      → IsRequest entry.input (Post of body) → CanBeTaken setting arrivals moment of body → is_full body ≡ true
      → IsFront Cause entry.output (refused_with refusal.JournalFull)
      → IsLawfulBy Cause Unkept is_full setting arrivals entry
  answered : (moment : ℤ) (bytes : List ℕ) → entry.moment ≡ Some moment
      → IsAnswered setting arrivals entry.input moment entry.mark bytes → HasRoom is_full entry
      → IsFront Cause entry.output bytes
      → IsLawfulBy Cause Unkept is_full setting arrivals entry

-- the same where bodies aren't kept: keeping one never fails, and none is full
abbrev pub IsLawful : Type 0 → Setting → List Arrival → Entry → Type 0
IsLawful Cause setting arrivals entry = IsLawfulBy Cause ⊥ (λ body. false) setting arrivals entry

-- what arrived by the end of a connection, after what arrived before: what its body gives where that was taken, and
-- otherwise nothing more
pub data Leaves (setting : Setting) (arrivals : List Arrival) (entry : Entry) (now : List Arrival) : Type 0 where
  brought : (moment : ℤ) (of : Kind) (body : List ℕ) (report : Report) (given : Given)
      → entry.moment ≡ Some moment → entry.mark ≡ mark_of given → IsRequest entry.input (Post of body)
      → Brings setting arrivals moment of body report given
      → now ≡ record { moment = moment; gives = given } ∷ arrivals
      → Leaves setting arrivals entry now
  nothing : is_taken entry.mark ≡ false → now ≡ arrivals → Leaves setting arrivals entry now

-- connections one after the other, after what there was before them: each entry is lawful after what there was before
-- it and leaves what there is after it, and this is what there is by the end
abbrev pub IsLogBy : {P : Type 0} → (P → Entry → Type 0) → (P → Entry → P → Type 0) → P → List Entry → P → Type 0
IsLogBy {P} Lawful LeavesThis before [] now = now ≡ before
IsLogBy {P} Lawful LeavesThis before (entry ∷ later) now =
    Lawful before entry
    × (after : P) × LeavesThis before entry after × IsLogBy Lawful LeavesThis after later now

-- the same after what had arrived before them, and what arrived by the end
abbrev pub IsLawfulLog : Type 0 → Setting → List Arrival → List Entry → List Arrival → Type 0
IsLawfulLog Cause setting before entries now = IsLogBy (IsLawful Cause setting) (Leaves setting) before entries now

-- the moments of entries, in order
abbrev pub with_moment : Option ℤ → List ℤ
with_moment None = []
with_moment (Some moment) = moment ∷ []

abbrev pub moments_given : List Entry → List ℤ
moments_given entries = flat_map (λ entry. with_moment entry.moment) entries

-- ---- the causes, one by one

-- so many faults were counted between two values of a count, which stands still at its last value
abbrev pub AreCounted : ℕ → ℕ → ℕ → Type 0
AreCounted many before now = (before + many ≤ now) ⊎ (last_count ≤ now)

-- connections one after the other, of which each has a cause of its own or none, as the list says
abbrev pub IsCausedLogBy : {P : Type 0} → (Type 0 → P → Entry → Type 0) → (P → Entry → P → Type 0) → P → List Entry
    → List Bool → P → Type 0
IsCausedLogBy {P} Lawful LeavesThis before [] [] now = now ≡ before
IsCausedLogBy {P} Lawful LeavesThis before [] (cause ∷ causes) now = ⊥
IsCausedLogBy {P} Lawful LeavesThis before (entry ∷ later) [] now = ⊥
IsCausedLogBy {P} Lawful LeavesThis before (entry ∷ later) (cause ∷ causes) now =
    Lawful (cause ≡ true) before entry
    × (after : P) × LeavesThis before entry after × IsCausedLogBy Lawful LeavesThis after later causes now

-- the clock failed for a connection
abbrev pub is_clock_fault : Mark → Bool
is_clock_fault mark.ClockFault = true
is_clock_fault mark.Taken = false
is_clock_fault mark.Fed = false
is_clock_fault mark.Shown = false
is_clock_fault (mark.Refused status) = false
is_clock_fault mark.Memory = false
is_clock_fault mark.Lost = false
is_clock_fault mark.Unkept = false
