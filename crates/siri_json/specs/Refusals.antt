-- Why a delivery is refused whose bytes were not read as a tree.
use Rattle.json_tree.specs.declared.reading.TreeFault.{TreeFault}
use Rattle.json_tree.specs.declared.reading.TreeFault.TheVariants as tree
use Rattle.siri_json.specs.declared.delivery.DeliveryFault.{DeliveryFault}
use Rattle.siri_json.specs.declared.delivery.DeliveryFault.TheVariants.{NotJson, Memory}

abbrev pub refusal : TreeFault → DeliveryFault
refusal tree.NotJson = NotJson
refusal tree.Memory = Memory
