-- Why a posted body is refused, as it is told to who posted it (RFC 9112).
use Rattle.std.specs.Prelude.{◌≡◌, ℕ, List, Option, Some, None}
use Rattle.gw_base.specs.declared.door.Mark.{Mark}
use Rattle.gw_base.specs.declared.door.Mark.TheVariants as mark
use Rattle.gw_base.specs.declared.kind.Kind.{Kind}
use Rattle.gw_base.specs.declared.kind.Kind.TheVariants as kind
use Rattle.feed_reading.specs.declared.fault.FeedFault.{FeedFault}
use Rattle.feed_reading.specs.declared.fault.FeedFault.TheVariants as feed_fault
use Rattle.journey_model.specs.Schedules.{Schedule}
use Rattle.gateway_core.specs.Bodies.{Refuses}
use Rattle.gateway_core.specs.declared.take.body.BodyRefusal.{BodyRefusal}
use Rattle.gateway_core.specs.declared.take.body.BodyRefusal.TheVariants as why
use Rattle.gateway_server.specs.declared.not_taken.NotTaken.{NotTaken}
use Rattle.gateway_server.specs.declared.not_taken.NotTaken.TheVariants as not_taken
use Rattle.http_talk.specs.declared.refusal.Refusal.{Refusal}
use Rattle.http_talk.specs.declared.refusal.Refusal.TheVariants as refusal
use Rattle.http_talk.specs.declared.refusal.BodyFault.{BodyFault}
use Rattle.http_talk.specs.declared.refusal.BodyFault.TheVariants.{NotJson, NotDelivery, Wire, MissingField, NotText, EntityTooLong, Differential, TooManyCalls}

-- the fault of a feed's bytes, as it is told
abbrev pub feed_fault_of : FeedFault → Option BodyFault
feed_fault_of (feed_fault.Wire fault) = Some (Wire fault.at fault.kind)
feed_fault_of (feed_fault.MissingField at field) = Some (MissingField at field)
feed_fault_of (feed_fault.NotText at) = Some (NotText at)
feed_fault_of (feed_fault.EntityTooLong at) = Some (EntityTooLong at)
feed_fault_of feed_fault.Memory = None

-- the fault of a body that is refused for what it holds, and not for want of memory
abbrev pub fault_of : BodyRefusal → Option BodyFault
fault_of why.NotJson = Some NotJson
fault_of (why.NotDelivery member) = Some (NotDelivery member)
fault_of (why.Feed fault) = feed_fault_of fault
fault_of why.Differential = Some Differential
fault_of (why.TooManyCalls calls) = Some (TooManyCalls calls)
fault_of why.Memory = None

-- a body of a kind is refused for this fault, over what journeys are read over
abbrev pub RefusesBody : Schedule → Kind → List ℕ → BodyFault → Type 0
RefusesBody schedule of body fault =
    (cause : BodyRefusal) × Refuses schedule of body cause × (fault_of cause ≡ Some fault)

-- the refusal of a request whose body has a fault, or for which there is no memory, and the mark of its connection
abbrev pub refusal_of : Option BodyFault → Refusal
refusal_of None = refusal.Memory
refusal_of (Some fault) = refusal.Body fault

abbrev pub refused_mark : Option BodyFault → Mark
refused_mark None = mark.Memory
refused_mark (Some fault) = mark.Refused 400

-- the same of a body that isn't taken, for that or as it isn't kept
abbrev pub refusal_for : NotTaken → Refusal
refusal_for (not_taken.Refused why) = refusal_of (fault_of why)
refusal_for not_taken.Unkept = refusal.Journal
refusal_for not_taken.Full = refusal.JournalFull

abbrev pub mark_for : NotTaken → Mark
mark_for (not_taken.Refused why) = refused_mark (fault_of why)
mark_for not_taken.Unkept = mark.Unkept
mark_for not_taken.Full = mark.Refused 500

-- the mark of a connection whose body of a kind is taken
abbrev pub taken_mark : Kind → Mark
taken_mark kind.Estimated = mark.Taken
taken_mark kind.Situations = mark.Taken
taken_mark kind.Feed = mark.Fed
