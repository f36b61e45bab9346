-- How the work ends at a body that can't be read: the end names its file, and says the fault as a server says it of a
-- posted body.
use Rattle.std.specs.Prelude.{ℕ, List, ◌++◌, codes}
use Rattle.feed_reading.specs.declared.fault.FeedFault.{FeedFault}
use Rattle.feed_reading.specs.declared.fault.FeedFault.TheVariants as feeds
use Rattle.http_talk.specs.Texts.{fault_text}
use Rattle.http_talk.specs.declared.refusal.BodyFault.{BodyFault}
use Rattle.http_talk.specs.declared.refusal.BodyFault.TheVariants as said
use Rattle.siri_json.specs.declared.delivery.DeliveryFault.{DeliveryFault}
use Rattle.siri_json.specs.declared.delivery.DeliveryFault.TheVariants.{NotJson, NotDelivery, Memory}
use Rattle.file_commands.specs.declared.exit.Exit.{Exit}
use Rattle.file_commands.specs.declared.exit.Exit.TheVariants as exit

-- the end that a body's fault is
abbrev pub fault_end : List ℕ → BodyFault → Exit
fault_end name fault = exit.Refused (name ++ codes " " ++ fault_text fault)

-- the end that a fault of a delivery's body is
abbrev pub body_end : List ℕ → DeliveryFault → Exit
body_end name NotJson = fault_end name said.NotJson
body_end name (NotDelivery member) = fault_end name (said.NotDelivery member)
body_end name Memory = exit.Memory

-- the end that a fault of a feed's body is, with the place in bytes from the feed's first one
abbrev pub feed_end : List ℕ → FeedFault → Exit
feed_end name (feeds.EntityTooLong at) = fault_end name (said.EntityTooLong at)
feed_end name (feeds.Wire fault) = fault_end name (said.Wire fault.at fault.kind)
feed_end name (feeds.NotText at) = fault_end name (said.NotText at)
feed_end name (feeds.MissingField at field) = fault_end name (said.MissingField at field)
feed_end name feeds.Memory = exit.Memory

-- the end of a feed that isn't a full dataset, and of one with too many calls
abbrev pub differential_end : List ℕ → Exit
differential_end name = fault_end name said.Differential

abbrev pub many_calls_end : List ℕ → ℕ → Exit
many_calls_end name count = fault_end name (said.TooManyCalls count)
