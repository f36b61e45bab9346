-- What a situation that is taken refers to is there.
use Rattle.json_tree.specs.Trees.{view}
use Rattle.siri_situations.proofs.KnownLemmas.{knows_verdict}
use Rattle.siri_situations.proofs.delivery.take_item.Goals as goal

pub take-requires : goal.take-requires
take-requires g c = knows_verdict c.args.context.now (view c.args.tree.now) c.in-Ok.one c.in-Ok.ensures.found
