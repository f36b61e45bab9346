-- The items of arrays as lists of trees.
use Rattle.std.proofs.Common.{◌≡◌, refl, ap, List, [], ◌∷◌, Bool, ◌&&◌, map, if◌then◌else◌}
use Rattle.std.specs.List.{list_all}
use Rattle.serde_json.specs.Data.{Data}
use Rattle.serde_json.specs.View.{items_of}
use Rattle.json_tree.specs.Trees.{Tree, view}
use Rattle.siri_json.specs.Forms.{listed, is_object, objects, repeated}
use Rattle.siri_json.specs.declared.forms.Form.TheVariants.{Wrong, Found}

-- an array made of a list has the list's items
pub listed-items_of : (trees : List Data) → listed (items_of trees) ≡ trees
listed-items_of [] = refl
listed-items_of (tree ∷ trees) = ap (λ rest. tree ∷ rest) (listed-items_of trees)

-- a test of all that are shown
pub list_all-map : {A B : Type 0} (test : B → Bool) (shown : A → B) (all : List A) → list_all (λ one. test (shown one)) all ≡ list_all test (map shown all)
list_all-map test shown [] = refl
list_all-map test shown (one ∷ others) = ap (λ rest. test (shown one) && rest) (list_all-map test shown others)

-- the form of a repeated element by its items
pub objects_by : (tree : Data) (trees : List Tree) (test : Bool) → map view trees ≡ repeated tree
    → test ≡ list_all (λ one. is_object (view one)) trees → (if test then Found (map view trees) else Wrong) ≡ objects tree
objects_by tree trees test same tested = rw (← same, tested, list_all-map is_object view trees) refl
