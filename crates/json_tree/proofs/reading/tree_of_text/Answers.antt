use Rattle.std.proofs.Common.{◌∙◌, sym}
use Rattle.json.specs.Value.{value_view}
use Rattle.json_tree.proofs.DataLemmas.{of_json-data}
use Rattle.json_tree.proofs.reading.tree_of_text.Goals as goal

pub returns-then-are_in_range-clause-tree : goal.returns-then-are_in_range-clause-tree
returns-then-are_in_range-clause-tree c =
    c.in_ok-tree.ensures.tree ∙ of_json-data (value_view c.in_ok-tree.tree) (sym c.are_in_range.ensures ∙ c.if-are_in_range.true)
