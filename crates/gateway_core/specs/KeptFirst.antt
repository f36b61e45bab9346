-- A body that is kept before it is taken: why it isn't taken, and what became of what keeps it (SIRI 2.0,
-- ServiceDelivery; GTFS Realtime, FeedMessage).
use Rattle.std.specs.Prelude.{◌≡◌, ℕ, ℤ, List, ◌∷◌, Option, Some, None, Result, Ok, Err, ⊤}
use Rattle.gw_base.specs.declared.kind.Kind.{Kind}
use Rattle.journey_model.specs.declared.report.Report.{Report}
use Rattle.gateway_core.specs.Arrivals.{Arrival, Given, moments_of, schedule_at}
use Rattle.gateway_core.specs.Before.{UnlessFailed}
use Rattle.gateway_core.specs.Bodies.{Brings, Refuses, Takes}
use Rattle.gateway_core.specs.Standing.{Kept}
use Rattle.gateway_core.specs.declared.accepted.Accepted.{Accepted}
use Rattle.gateway_core.specs.declared.before.KeepFault.{KeepFault}
use Rattle.gateway_core.specs.declared.before.KeepFault.TheVariants as keep_fault
use Rattle.gateway_core.specs.declared.setting.Setting.{Setting}
use Rattle.gateway_core.specs.declared.take.body.BodyRefusal.{BodyRefusal}
use Rattle.gateway_core.specs.declared.take.body.BodyRefusal.TheVariants as refusal
use Rattle.gateway_core.specs.declared.take.kept.KeptFault.{KeptFault}
use Rattle.gateway_core.specs.declared.take.kept.KeptFault.TheVariants.{NotJson, NotDelivery, Feed, Differential, TooManyCalls, Unkept, Full, Memory}

-- why a body isn't taken: it is refused, or it isn't kept
abbrev pub of_refusal : BodyRefusal → KeptFault
of_refusal refusal.NotJson = NotJson
of_refusal (refusal.NotDelivery member) = NotDelivery member
of_refusal (refusal.Feed fault) = Feed fault
of_refusal refusal.Differential = Differential
of_refusal (refusal.TooManyCalls calls) = TooManyCalls calls
of_refusal refusal.Memory = Memory

abbrev pub of_keep : KeepFault → KeptFault
of_keep keep_fault.Failed = Unkept
of_keep (keep_fault.Full end) = Full end

-- ---- what is answered

-- a body of a kind that arrives at a moment, after these arrivals, would be taken: it brings something
abbrev pub CanBeTaken : Setting → List Arrival → ℤ → Kind → List ℕ → Type 0
CanBeTaken setting arrivals moment of bytes =
    (report : Report) × (given : Given) × Brings setting arrivals moment of bytes report given

-- why a body isn't taken: for the causes for which a body of its kind is refused, or though it would be taken; want of
-- memory is free
abbrev pub RefusesKept : Setting → List Arrival → ℤ → Kind → List ℕ → KeptFault → Type 0
RefusesKept setting arrivals moment of bytes NotJson =
    Refuses (schedule_at setting (moment ∷ moments_of arrivals)) of bytes refusal.NotJson
RefusesKept setting arrivals moment of bytes (NotDelivery member) =
    Refuses (schedule_at setting (moment ∷ moments_of arrivals)) of bytes (refusal.NotDelivery member)
RefusesKept setting arrivals moment of bytes (Feed fault) =
    Refuses (schedule_at setting (moment ∷ moments_of arrivals)) of bytes (refusal.Feed fault)
RefusesKept setting arrivals moment of bytes Differential =
    Refuses (schedule_at setting (moment ∷ moments_of arrivals)) of bytes refusal.Differential
RefusesKept setting arrivals moment of bytes (TooManyCalls calls) =
    Refuses (schedule_at setting (moment ∷ moments_of arrivals)) of bytes (refusal.TooManyCalls calls)
RefusesKept setting arrivals moment of bytes Unkept = CanBeTaken setting arrivals moment of bytes
RefusesKept setting arrivals moment of bytes (Full end) = CanBeTaken setting arrivals moment of bytes
RefusesKept setting arrivals moment of bytes Memory = ⊤

-- what a gateway answers to a body of a kind that is kept first, and what it stands for then
abbrev pub TakesKept : Kept → List Arrival → ℤ → Kind → List ℕ → Result Accepted KeptFault → Kept → Type 0
TakesKept kept arrivals moment of bytes (Ok accepted) now = Takes kept arrivals moment of bytes (Ok accepted) now
TakesKept kept arrivals moment of bytes (Err why) now = RefusesKept kept.setting arrivals moment of bytes why

-- ---- what keeps it

-- what was answered by what keeps a body, where it was called for this answer to the body
abbrev pub keep_answer : {A : Type 0} → Result A KeptFault → Option (Result (Unit {0}) KeepFault)
keep_answer (Ok accepted) = Some (Ok tt)
keep_answer (Err NotJson) = None
keep_answer (Err (NotDelivery member)) = None
keep_answer (Err (Feed fault)) = None
keep_answer (Err Differential) = None
keep_answer (Err (TooManyCalls calls)) = None
keep_answer (Err Unkept) = Some (Err keep_fault.Failed)
keep_answer (Err (Full end)) = Some (Err (keep_fault.Full end))
keep_answer (Err Memory) = None

-- what keeps a body was called once, with this answer; or it wasn't called, and is as before
abbrev pub KeepsOnce : {B : Type 0} → (B → Result (Unit {0}) KeepFault → B → Type 0) → B
    → Option (Result (Unit {0}) KeepFault) → B → Type 0
KeepsOnce Keeps before None now = now ≡ before
KeepsOnce Keeps before (Some answer) now = Keeps before answer now

-- a fact that holds unless it was called and failed
abbrev pub UnlessItFailed : Option (Result (Unit {0}) KeepFault) → Type 0 → Type 0
UnlessItFailed None fact = fact
UnlessItFailed (Some answer) fact = UnlessFailed answer fact
