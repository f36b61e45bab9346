-- What a durable gateway does with a posted body, by what it answers.
use Rattle.std.proofs.Common.{◌≡◌, ◌∙◌, ◌+◌, ◌≤◌, ◌<◌, ◌++◌, ◌∷◌, [], ℕ, ℤ, Bool, true, false, nat_lt, List, Option, Some, Result, Ok, Err, IfOk, OnOk, length, ap, refl, subst, sym, arith}
use Rattle.std.proofs.lemmas.Bool.{true≢false}
use Rattle.std.proofs.lemmas.List.{append_cancel_left}
use Rattle.std.proofs.lemmas.Option.{same_Some}
use Rattle.std.specs.Prelude.{not}
use Rattle.gw_base.specs.Changes.{Change}
use Rattle.gw_base.specs.Connections.{Beside, Connections}
use Rattle.gw_base.specs.Count.{Counts}
use Rattle.gw_base.specs.declared.door.Entry.{Entry}
use Rattle.gw_base.specs.declared.kind.Kind.{Kind}
use Rattle.gw_base.specs.declared.kind.Kind.TheVariants as kind
use Rattle.journey_model.specs.Schedules.{Schedule}
use Rattle.delivery_journal.specs.Kept.{KeptBody, kept}
use Rattle.gateway_core.specs.Arrivals.{Arrival, moments_of, schedule_at}
use Rattle.gateway_core.specs.Bodies.{Refuses}
use Rattle.gateway_core.specs.KeptFirst.{TakesKept}
use Rattle.gateway_core.specs.declared.accepted.Accepted.{Accepted}
use Rattle.gateway_core.specs.declared.setting.Setting.{Setting}
use Rattle.gateway_core.specs.declared.take.body.BodyRefusal.TheVariants as because
use Rattle.gateway_core.specs.declared.take.kept.KeptFault.{KeptFault}
use Rattle.gateway_core.specs.declared.take.kept.KeptFault.TheVariants.{Differential, Feed, Full, Memory, NotDelivery, NotJson, TooManyCalls, Unkept}
use Rattle.gateway_durable.specs.Appending.{journal_limit}
use Rattle.gateway_durable.specs.Runs as runs
use Rattle.gateway_durable.specs.Runs.{HasKept}
use Rattle.gateway_durable.specs.Standing.{DurableGate, DurableStandsOn}
use Rattle.gateway_durable.specs.Taking.{IsFullExactly, TakesDurably}
use Rattle.gateway_server.specs.Crashes.{HoldsOfBodies}
use Rattle.gateway_server.specs.Durable.{KeepsSince, answer_for, held_of, journal_room}
use Rattle.gateway_server.specs.Holding.{Held, IsLeft, IsUnkept, Room, TakesFirst, failed_of, taken_of}
use Rattle.gateway_server.specs.Past.{Past, is_unkept}
use Rattle.gateway_server.specs.Serving.{IsLogged, ServesAfter}

-- ---- a body

not_longer : (limit size : ℕ) → size ≤ limit → nat_lt limit size ≡ false
not_longer limit size le = grind arith

longer : (limit size : ℕ) → limit < size → nat_lt limit size ≡ true
longer limit size less = grind arith

-- want of memory is free
refuses_memory : (schedule : Schedule) (of : Kind) (bytes : List ℕ) → Refuses schedule of bytes because.Memory
refuses_memory schedule kind.Estimated bytes = tt
refuses_memory schedule kind.Situations bytes = tt
refuses_memory schedule kind.Feed bytes = tt

pub takes_first : (old now : DurableGate) (arrivals : List Arrival) (moment : ℤ) (of : Kind) (bytes : List ℕ) (answer : Result Accepted KeptFault)
    → TakesKept old.gate arrivals moment of bytes answer now.gate → IsFullExactly old.journal.end (length bytes) answer
    → OnOk answer (now.journal.end ≡ old.journal.end + 14 + length bytes)
    → TakesFirst journal_room (held_of old) arrivals moment of bytes (answer_for answer) (held_of now)
takes_first old now arrivals moment of bytes (Ok accepted) takes full end = (not_longer journal_limit (old.journal.end + 15 + length bytes) full, end, takes)
takes_first old now arrivals moment of bytes (Err NotJson) takes full end = takes
takes_first old now arrivals moment of bytes (Err (NotDelivery member)) takes full end = takes
takes_first old now arrivals moment of bytes (Err (Feed fault)) takes full end = takes
takes_first old now arrivals moment of bytes (Err Differential) takes full end = takes
takes_first old now arrivals moment of bytes (Err (TooManyCalls calls)) takes full end = takes
takes_first old now arrivals moment of bytes (Err Unkept) takes full end = takes
takes_first old now arrivals moment of bytes (Err (Full at)) takes full end = (longer journal_limit (old.journal.end + 15 + length bytes) full.1, takes)
takes_first old now arrivals moment of bytes (Err Memory) takes full end = refuses_memory (schedule_at old.gate.setting (moment ∷ moments_of arrivals)) of bytes

-- what is said of a body that is taken
pub says_text : (P : Accepted → Type 0) (answer : Result Accepted KeptFault) → IfOk answer P → IfOk (answer_for answer) P
says_text P (Ok accepted) says = says
says_text P (Err why) says = tt

-- keeping it failed where the durable gateway said so
unkept_said : (answer : Result Accepted KeptFault) → IsUnkept (answer_for answer) → answer ≡ Err Unkept
unkept_said (Ok accepted) is = absurd is
unkept_said (Err NotJson) is = absurd is
unkept_said (Err (NotDelivery member)) is = absurd is
unkept_said (Err (Feed fault)) is = absurd is
unkept_said (Err Differential) is = absurd is
unkept_said (Err (TooManyCalls calls)) is = absurd is
unkept_said (Err Unkept) is = refl
unkept_said (Err (Full at)) is = absurd is
unkept_said (Err Memory) is = absurd is

pub counts_unkept : (answer : Result Accepted KeptFault) (before now : ℕ) → Counts (answer ≡ Err Unkept) before now → Counts (IsUnkept (answer_for answer)) before now
counts_unkept answer before now counts = record { cause = λ is. counts.cause (unkept_said answer is); never_falls = counts.never_falls }

module _ {D : Type 0} (told : D → Option (List ℕ)) (may_leave : D → List ℕ → Type 0) (clock : D → ℕ) (left_since : D → ℕ → List ℕ → Type 0) (faults : D → ℕ)
    (old now : DurableGate) (before after : D) (new : KeptBody) where
  pub is_left : (answer : Result Accepted KeptFault) → TakesDurably told may_leave clock left_since faults old before new answer now after
      → IsLeft (held_of old) (answer_for answer) (held_of now)
  is_left (Ok accepted) takes = takes.sound (λ e. cc)
  is_left (Err NotJson) takes = ap held_of (takes.untouched (λ e. cc)).0
  is_left (Err (NotDelivery member)) takes = ap held_of (takes.untouched (λ e. cc)).0
  is_left (Err (Feed fault)) takes = ap held_of (takes.untouched (λ e. cc)).0
  is_left (Err Differential) takes = ap held_of (takes.untouched (λ e. cc)).0
  is_left (Err (TooManyCalls calls)) takes = ap held_of (takes.untouched (λ e. cc)).0
  is_left (Err Unkept) takes = (takes.refused, takes.unsound refl)
  is_left (Err (Full at)) takes = ap held_of (takes.untouched (λ e. cc)).0
  is_left (Err Memory) takes = ap held_of (takes.untouched (λ e. cc)).0

  pub still_ready : (answer : Result Accepted KeptFault) → TakesDurably told may_leave clock left_since faults old before new answer now after
      → now.journal.is_sound ≡ true → DurableStandsOn told may_leave now after
  still_ready answer takes sound = takes.stands (λ e. true≢false (sym sound ∙ takes.unsound e))

  same_lists : (answer : Result Accepted KeptFault) (taken : List KeptBody) (first : D) (setting : Setting) (bodies : List KeptBody)
      → HasKept told may_leave clock left_since first after setting bodies (taken ++ runs.taken_of answer new) (runs.failed_of answer new)
      → HasKept told may_leave clock left_since first after setting bodies (taken ++ taken_of (answer_for answer) new) (failed_of (answer_for answer) new)
  same_lists (Ok accepted) taken first setting bodies keeps = keeps
  same_lists (Err NotJson) taken first setting bodies keeps = keeps
  same_lists (Err (NotDelivery member)) taken first setting bodies keeps = keeps
  same_lists (Err (Feed fault)) taken first setting bodies keeps = keeps
  same_lists (Err Differential) taken first setting bodies keeps = keeps
  same_lists (Err (TooManyCalls calls)) taken first setting bodies keeps = keeps
  same_lists (Err Unkept) taken first setting bodies keeps = keeps
  same_lists (Err (Full at)) taken first setting bodies keeps = keeps
  same_lists (Err Memory) taken first setting bodies keeps = keeps

  -- what a crash leaves, with one body more
  pub keeps_since : (answer : Result Accepted KeptFault) → TakesDurably told may_leave clock left_since faults old before new answer now after
      → ((first : D) (bodies taken : List KeptBody) → HasKept told may_leave clock left_since first before old.gate.setting bodies taken []
      → HasKept told may_leave clock left_since first after old.gate.setting bodies (taken ++ runs.taken_of answer new) (runs.failed_of answer new))
      → (first : D) (taken : List KeptBody) → KeepsSince told may_leave clock left_since first taken [] old before
      → KeepsSince told may_leave clock left_since first (taken ++ taken_of (answer_for answer) new) (failed_of (answer_for answer) new) now after
  keeps_since answer takes goes_on first taken so_far file is bodies held =
      subst (λ (s : Setting). HasKept told may_leave clock left_since first after s bodies (taken ++ taken_of (answer_for answer) new) (failed_of (answer_for answer) new)) (sym takes.setting_is)
      (same_lists answer taken first old.gate.setting bodies (goes_on first bodies taken (so_far file is bodies held)))

-- ---- connections

-- what holds of the bodies, said by another fact
pub bodies_say : (Holds Says : List KeptBody → List KeptBody → Type 0) (is_sound : Bool) (entries : List Entry) → ((taken failed : List KeptBody) → Holds taken failed → Says taken failed)
    → HoldsOfBodies Holds is_sound entries → HoldsOfBodies Says is_sound entries
bodies_say Holds Says is_sound entries wider is = record {
  taken = is.taken;
  failed = is.failed;
  taken_are = is.taken_are;
  failed_are = is.failed_are;
  none_failed = is.none_failed;
  holds = wider is.taken is.failed is.holds;
}

-- the same of the bodies that a disk held at first
pub crash_says : {D : Type 0} (told : D → Option (List ℕ)) (may_leave : D → List ℕ → Type 0) (clock : D → ℕ) (left_since : D → ℕ → List ℕ → Type 0) (first now : D) (durable : DurableGate) (setting : Setting)
    (is_sound : Bool) (entries : List Entry) → durable.gate.setting ≡ setting
    → HoldsOfBodies (λ (taken failed : List KeptBody). KeepsSince told may_leave clock left_since first ([] ++ taken) failed durable now) is_sound entries
    → (file : List ℕ) → told first ≡ Some file → (bodies : List KeptBody) → kept file ≡ Ok bodies
    → HoldsOfBodies (HasKept told may_leave clock left_since first now setting bodies) is_sound entries
crash_says told may_leave clock left_since first now durable setting is_sound entries same says file is bodies held =
    bodies_say (λ (taken failed : List KeptBody). KeepsSince told may_leave clock left_since first ([] ++ taken) failed durable now) (HasKept told may_leave clock left_since first now setting bodies)
    is_sound entries
    (λ taken failed since. subst (λ (s : Setting). HasKept told may_leave clock left_since first now s bodies taken failed) same (since file is bodies held))
    says

same_entry : (a b : Entry) → ◌≡◌ {A = List Entry} (a ∷ []) (b ∷ []) → a ≡ b
same_entry a b e = cc

-- the present connection was finished with one entry
pub one_entry : (told : Connections) (beside : Beside) (one other : Entry) → IsLogged told beside one → IsLogged told beside other → one ≡ other
one_entry told beside one other is and =
    let logs : told.log ++ one ∷ [] ≡ told.log ++ other ∷ [] = ap (λ (c : Connections). c.log) (same_Some _ _ (sym is.log ∙ and.log)) in
    same_entry one other (append_cancel_left told.log (one ∷ []) (other ∷ []) logs)

-- more can be taken afterwards exactly where keeping the body of the entry didn't fail
pub sound_exactly : (P U : Type 0) (room : Room) (held now : Held) (past : Past) (told : Connections) (clock : Change (List ℤ)) (output : Option (List ℕ)) (beside : Beside) (entry : Entry)
    → ServesAfter P U room held past told clock output beside now → IsLogged told beside entry → now.is_sound ≡ not (is_unkept entry.mark)
sound_exactly P U room held now past told clock output beside entry serves logged =
    let same : serves.entry ≡ entry = one_entry told beside serves.entry entry serves.logged logged in
    sym serves.stands.sound ∙ serves.leaves.sound ∙ ap (λ (e : Entry). not (is_unkept e.mark)) same
