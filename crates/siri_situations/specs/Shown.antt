-- What the values of the reading show.
use Rattle.std.specs.Prelude.{List, map}
use Rattle.serde_json.specs.Data.{Data}
use Rattle.json_tree.specs.Trees.{view}
use Rattle.siri_situations.specs.declared.steps.Branch.{Branch}

-- trees of a delivery
abbrev pub seen : Branch → Data
seen branch = view branch.tree.now

abbrev pub all_seen : List Branch → List Data
all_seen trees = map seen trees
