-- The starts of periods are tested as the code holds them.
use Rattle.std.proofs.Common.{◌≡◌, refl, Bool, List, map, Err, if◌then◌else◌}
use Rattle.std.specs.List.{list_all}
use Rattle.gw_base.specs.declared.member.Member.{Member}
use Rattle.journey_model.specs.declared.fault.Fault.TheVariants.{BadField}
use Rattle.json_tree.specs.Trees.{Tree, view}
use Rattle.service_day.specs.declared.zones.Rules.{Rules}
use Rattle.siri_json.proofs.TreeLemmas.{list_all-map}
use Rattle.siri_situations.specs.Periods.{period, periods_in, start_in_form}
use Rattle.siri_situations.specs.Steps.{gather}

pub periods_by : (zone : Rules) (trees : List Tree) (test : Bool) → test ≡ list_all (λ tree. start_in_form zone (view tree)) trees
    → periods_in zone (map view trees) ≡ (if test then gather (period zone) (map view trees) else Err (BadField Member.StartTime))
periods_by zone trees test tested = rw (tested, list_all-map (start_in_form zone) view trees) refl
