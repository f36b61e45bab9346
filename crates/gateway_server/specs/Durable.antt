-- What a durable gateway is that serves connections: its journal keeps each body on a disk before it is taken.
use Rattle.std.specs.Prelude.{◌≡◌, ◌+◌, ℕ, nat_lt, List, Option, Some, Result, Ok, Err}
use Rattle.delivery_journal.specs.Kept.{KeptBody, kept}
use Rattle.gateway_core.specs.declared.accepted.Accepted.{Accepted}
use Rattle.gateway_core.specs.declared.take.body.BodyRefusal.TheVariants as because
use Rattle.gateway_core.specs.declared.take.kept.KeptFault.{KeptFault}
use Rattle.gateway_core.specs.declared.take.kept.KeptFault.TheVariants.{Differential, Feed, Full, Memory, NotDelivery, NotJson, TooManyCalls, Unkept}
use Rattle.gateway_durable.specs.Appending.{journal_limit}
use Rattle.gateway_durable.specs.Runs.{HasKept}
use Rattle.gateway_durable.specs.Standing.{DurableGate}
use Rattle.gateway_server.specs.Holding.{Held, Room}
use Rattle.gateway_server.specs.declared.not_taken.NotTaken.{NotTaken}
use Rattle.gateway_server.specs.declared.not_taken.NotTaken.TheVariants as not_taken

-- the room in a journal's file: a body has its gate and 13 bytes before it, and a closed gate stands behind the last
-- one
abbrev pub journal_room : Room
journal_room = record {
  is_full = λ end size. nat_lt journal_limit (end + 15 + size);
  end_after = λ end size. end + 14 + size;
}

-- what is held: the place of the closed gate is where what is kept ends
abbrev pub held_of : DurableGate → Held
held_of durable = record { gate = durable.gate; end = durable.journal.end; is_sound = durable.journal.is_sound }

-- why a body isn't taken
abbrev pub not_taken_for : KeptFault → NotTaken
not_taken_for NotJson = not_taken.Refused because.NotJson
not_taken_for (NotDelivery member) = not_taken.Refused (because.NotDelivery member)
not_taken_for (Feed fault) = not_taken.Refused (because.Feed fault)
not_taken_for Differential = not_taken.Refused because.Differential
not_taken_for (TooManyCalls calls) = not_taken.Refused (because.TooManyCalls calls)
not_taken_for Unkept = not_taken.Unkept
not_taken_for (Full end) = not_taken.Full
not_taken_for Memory = not_taken.Refused because.Memory

abbrev pub answer_for : Result Accepted KeptFault → Result Accepted NotTaken
answer_for (Ok accepted) = Ok accepted
answer_for (Err why) = Err (not_taken_for why)

-- Of a disk at two moments, whatever bodies its file held at the first: a durable gateway of this setting took these
-- since, and then keeping those failed. What a crash at any moment since leaves, and one from now on, says `HasKept`.
abbrev pub KeepsSince : {D : Type 0} → (D → Option (List ℕ)) → (D → List ℕ → Type 0) → (D → ℕ)
    → (D → ℕ → List ℕ → Type 0) → D → List KeptBody → List KeptBody → DurableGate → D → Type 0
KeepsSince told may_leave clock left_since first taken failed durable now =
    (file : List ℕ) → told first ≡ Some file → (bodies : List KeptBody) → kept file ≡ Ok bodies
    → HasKept told may_leave clock left_since first now durable.gate.setting bodies taken failed
