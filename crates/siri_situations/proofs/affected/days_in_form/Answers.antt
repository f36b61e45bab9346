use Rattle.std.proofs.Common.{◌∙◌}
use Rattle.siri_json.proofs.TreeLemmas.{list_all-map}
use Rattle.siri_situations.specs.Affected.{day_in_form}
use Rattle.siri_situations.specs.Shown.{seen}
use Rattle.siri_situations.proofs.affected.days_in_form.Goals as goal

pub returns-in-VehicleJourney : goal.returns-in-VehicleJourney
returns-in-VehicleJourney c = rw c.in-VehicleJourney.is (c.each_day_in_form.ensures ∙ list_all-map day_in_form seen c.args.trees.now)
