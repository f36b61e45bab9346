-- What the places of a delivery show.
use Rattle.std.specs.Prelude.{List, [], ◌∷◌, map, Option, option_map}
use Rattle.json_tree.specs.Trees.{Tree, view}
use Rattle.serde_json.specs.Data.{Data}
use Rattle.siri_calls.specs.Frame.{Place}
use Rattle.siri_calls.specs.declared.frame.Place as the_place
use denote.Ref.{Bor}

-- a place of a delivery
abbrev pub tree_at : Option (Bor Tree) → Option Data
tree_at found = option_map (λ tree. view tree.now) found

abbrev pub place_of : the_place.Place → Place
place_of place = record {
  tree = view place.tree.now;
  further = tree_at place.frame ∷ tree_at place.delivery ∷ tree_at place.service ∷ [];
}

abbrev pub places_of : List the_place.Place → List Place
places_of places = map place_of places
