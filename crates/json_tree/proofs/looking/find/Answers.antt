use Rattle.json.specs.Value.{value_view}
use Rattle.json_tree.proofs.MemberLemmas.{found_by_name}
use Rattle.json_tree.proofs.looking.find.Goals as goal

pub returns : goal.returns
returns c = record { found = found_by_name c.args.name.now (value_view c.args.tree.now) c.get.result c.get.ensures }
