-- What a durable gateway does with a body: it is on the disk before it is acknowledged.
use Rattle.std.specs.Prelude.{◌≡◌, ◌≢◌, ◌⊎◌, ◌+◌, ◌≤◌, ◌<◌, ℕ, true, false, List, [], ◌∷◌, ◌++◌, length, Option, Result, Ok, Err, IfOk, OnErr, OnOk, option_map, ⊤}
use Rattle.gw_base.specs.Count.{Counts}
use Rattle.delivery_journal.specs.Disk.{Survives, WhereTold}
use Rattle.delivery_journal.specs.Kept.{KeptBody, kept}
use Rattle.delivery_journal.specs.Standing.{Adds, appended_file}
use Rattle.gateway_core.specs.Arrivals.{Arrival}
use Rattle.gateway_core.specs.KeptFirst.{CanBeTaken, TakesKept}
use Rattle.gateway_core.specs.Standing.{Stands}
use Rattle.gateway_core.specs.Taking.{report_json}
use Rattle.gateway_core.specs.declared.accepted.Accepted.{Accepted}
use Rattle.gateway_core.specs.declared.setting.Setting.{Setting}
use Rattle.gateway_core.specs.declared.take.kept.KeptFault.{KeptFault}
use Rattle.gateway_core.specs.declared.take.kept.KeptFault.TheVariants.{Differential, Feed, Full, Memory, NotDelivery, NotJson, TooManyCalls, Unkept}
use Rattle.gateway_durable.specs.Appending.{journal_limit}
use Rattle.gateway_durable.specs.Standing.{DurableGate, DurableStandsOn}

-- Full comes exactly where the file would be longer than a journal's file may be, among the answers to a body that
-- would be taken: the gate behind the list stands at `end`, and the body has so many bytes
abbrev pub IsFullExactly : ℕ → ℕ → Result Accepted KeptFault → Type 0
IsFullExactly end count (Ok accepted) = end + 15 + count ≤ journal_limit
IsFullExactly end count (Err Unkept) = end + 15 + count ≤ journal_limit
IsFullExactly end count (Err (Full at)) = (at ≡ end) × (journal_limit < end + 15 + count)
IsFullExactly end count (Err NotJson) = ⊤
IsFullExactly end count (Err (NotDelivery member)) = ⊤
IsFullExactly end count (Err (Feed fault)) = ⊤
IsFullExactly end count (Err Differential) = ⊤
IsFullExactly end count (Err (TooManyCalls calls)) = ⊤
IsFullExactly end count (Err Memory) = ⊤

-- what a crash may leave while a body is taken after these arrivals: a file that holds the bodies from before, or those
-- and the new one behind them, which would be taken
abbrev pub HoldsTaken : Setting → List Arrival → List KeptBody → KeptBody → List ℕ → Type 0
HoldsTaken setting arrivals bodies new image =
    (kept image ≡ Ok bodies)
    ⊎ ((kept image ≡ Ok (bodies ++ new ∷ [])) × CanBeTaken setting arrivals new.moment new.kind new.body)

-- A durable gateway and its disk before a body is taken, what is answered, and both after. After Ok the body is on
-- the disk: every crash from then on leaves it, since the gateway stands on the disk again. After Unkept the journal
-- has to be opened again.
pub record TakesDurably {D : Type 0} (told : D → Option (List ℕ)) (may_leave : D → List ℕ → Type 0) (clock : D → ℕ)
    (left_since : D → ℕ → List ℕ → Type 0) (faults : D → ℕ) (old : DurableGate) (before : D) (new : KeptBody)
    (answer : Result Accepted KeptFault) (now : DurableGate) (after : D) : Type 0 where
  -- what is answered, and what the gateway stands for then
  pub takes : (arrivals : List Arrival) → Stands old.gate arrivals
      → TakesKept old.gate arrivals new.moment new.kind new.body answer now.gate
  pub text : IfOk answer (λ accepted. accepted.text ≡ report_json accepted.report)
  pub setting_is : now.gate.setting ≡ old.gate.setting
  pub refused : OnErr answer (now.gate ≡ old.gate)
  -- the disk: the body stands behind those from before, or nothing was done, unless the disk failed
  pub added : OnOk answer (Adds new (told before) (told after))
  pub bytes : OnOk answer (told after ≡ option_map (appended_file old.journal.end new) (told before))
  pub end : OnOk answer (now.journal.end ≡ old.journal.end + 14 + length new.body)
  pub untouched : OnErr answer (answer ≢ Err Unkept → (now ≡ old) × (after ≡ before))
  pub stands : answer ≢ Err Unkept → DurableStandsOn told may_leave now after
  pub sound : answer ≢ Err Unkept → now.journal.is_sound ≡ true
  pub unsound : answer ≡ Err Unkept → now.journal.is_sound ≡ false
  pub full : IsFullExactly old.journal.end (length new.body) answer
  pub counts : Counts (answer ≡ Err Unkept) (faults before) (faults after)
  -- a crash at any moment of the call
  pub any_moment : WhereTold (told before) (λ file. (bodies : List KeptBody) → kept file ≡ Ok bodies
      → (arrivals : List Arrival) → Stands old.gate arrivals
      → Survives clock left_since before after (HoldsTaken old.gate.setting arrivals bodies new))
