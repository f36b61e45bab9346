-- The data of an array's items.
use Rattle.std.proofs.Common.{◌≡◌, ◌∙◌, refl, ap, List, [], ◌∷◌, map, Vec, Global, rules}
use Rattle.json.specs.Value.{value_view, items_of}
use Rattle.json.specs.Json as json
use Rattle.json.specs.declared.value.Value.{Array, the_lemmas}
use Rattle.serde_json.specs.Data.{array, item}
use Rattle.serde_json.specs.View as shown
use Rattle.json_tree.specs.Trees.{Tree, view, data_of, items_data}

items_shown : (trees : List Tree) → items_data (items_of (map value_view trees)) ≡ shown.items_of (map view trees)
items_shown [] = refl
items_shown (tree ∷ trees) = ap (item (view tree)) (items_shown trees)

array_seen : (trees : Vec Tree Global) → value_view (Array trees) ≡ json.array (items_of (map value_view trees.items))
array_seen trees = search (rules, the_lemmas)

pub view-Array : (trees : Vec Tree Global) → view (Array trees) ≡ array (shown.items_of (map view trees.items))
view-Array trees = ap data_of (array_seen trees) ∙ ap array (items_shown trees.items)
