-- Trees of JSON that are written: objects, arrays and moments.
use Rattle.std.specs.Prelude.{ℕ, ℤ, List, [], ◌∷◌}
use Rattle.serde_json.specs.Data.{Data, string, array, object, Items, no_items, item, Members, no_members, member}
use Rattle.service_day.specs.Utc.{moment_text}

-- an object of named members, and an array of trees
abbrev pub members : List (List ℕ × Data) → Members
members [] = no_members
members (one ∷ others) = member one.0 one.1 (members others)

abbrev pub object_of : List (List ℕ × Data) → Data
object_of named = object (members named)

abbrev pub items_of : List Data → Items
items_of [] = no_items
items_of (tree ∷ trees) = item tree (items_of trees)

abbrev pub array_of : List Data → Data
array_of trees = array (items_of trees)

-- a moment as `YYYY-MM-DDThh:mm:ssZ`
abbrev pub moment_tree : ℤ → Data
moment_tree secs = string (moment_text secs)
