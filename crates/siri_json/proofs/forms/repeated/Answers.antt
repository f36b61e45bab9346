use Rattle.std.proofs.Common.{◌∙◌, sym, ap, map}
use Rattle.json_tree.specs.Trees.{view}
use Rattle.json_tree.proofs.ArrayLemmas.{view-Array}
use Rattle.siri_json.proofs.TreeLemmas.{listed-items_of}
use Rattle.siri_json.proofs.forms.repeated.Goals as goal

pub returns-in-Array : goal.returns-in-Array
returns-in-Array c = ap (map view) c.as_slice.ensures.value ∙ (rw (c.in-Array.is, view-Array c.in-Array.items) (sym (listed-items_of (map view c.in-Array.items.items))))
