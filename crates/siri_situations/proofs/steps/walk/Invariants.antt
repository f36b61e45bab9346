use Rattle.std.proofs.Common.{◌≡◌, map, drop}
use Rattle.json_tree.specs.Trees.{view}
use Rattle.siri_situations.specs.Shown.{all_seen}
use Rattle.siri_situations.specs.Steps.{walk}
use Rattle.siri_situations.proofs.steps.walk.Given as goal

abbrev pub invariant-loop-step : goal.invariant-loop-step
invariant-loop-step l = walk (drop l.step-index l.steps) (all_seen l.trees.items) ≡ walk l.steps (map view l.start)
