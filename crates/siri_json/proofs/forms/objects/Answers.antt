use Rattle.std.proofs.Common.{◌∙◌, sym}
use Rattle.siri_json.proofs.TreeLemmas.{objects_by}
use Rattle.siri_json.proofs.forms.objects.Goals as goal

pub returns-then-are_objects : goal.returns-then-are_objects
returns-then-are_objects c = objects_by _ c.repeated-trees.result.now _ c.repeated-trees.ensures (sym c.if-are_objects.true ∙ c.are_objects.ensures)

pub returns-else-are_objects : goal.returns-else-are_objects
returns-else-are_objects c = objects_by _ c.repeated-trees.result.now _ c.repeated-trees.ensures (sym c.if-are_objects.false ∙ c.are_objects.ensures)
