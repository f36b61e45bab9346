-- Whether all numbers of a tree are in range, item by item.
use Rattle.std.proofs.Common.{◌≡◌, ℕ, List, ◌∷◌, Bool, ◌&&◌, Option, Some, None, option_map, option_and_then, is_some, refl, map, Bor}
use Rattle.json.specs.Json as json
use Rattle.json.specs.Value.{value_view, items_of, members_of}
use Rattle.serde_json.specs.Data.{Data, Items, Members, no_members, item, put}
use Rattle.serde_json.specs.Read.{of_json, of_items, of_members}
use Rattle.json_tree.specs.Trees.{Tree}

pub is_some-map : {A B : Type 0} (make : A → B) (found : Option A) → is_some (option_map make found) ≡ is_some found
is_some-map make None = refl
is_some-map make (Some a) = refl

-- whether a number of items or of members is out of range
abbrev pub items_fit : List Tree → Bool
items_fit trees = is_some (of_items (items_of (map value_view trees)))

abbrev pub members_fit : List (Bor (List ℕ) × Tree) → Bool
members_fit members = is_some (of_members (members_of (map (λ m. (m.0, value_view m.1)) members)) no_members)

pub one_item : (first : Option Data) (others : Option Items) → is_some (option_and_then (λ one. option_map (item one) others) first) ≡ is_some first && is_some others
one_item None others = refl
one_item (Some one) others = is_some-map (item one) others

-- members before don't count
either : (first : Option Data) (a b : Data → Option Members) → ((d : Data) → is_some (a d) ≡ is_some (b d)) → is_some (option_and_then a first) ≡ is_some (option_and_then b first)
either None a b same = refl
either (Some d) a b same = same d

pub whatever : (members : json.Members) (a b : Members) → is_some (of_members members a) ≡ is_some (of_members members b)
whatever json.no_members a b = refl
whatever (json.member name first others) a b =
    either (of_json first) (λ d. of_members others (put name d a)) (λ d. of_members others (put name d b)) (λ d. whatever others (put name d a) (put name d b))

pub one_member : (first : Option Data) (others : Data → Option Members) (left : Bool) → ((d : Data) → is_some (others d) ≡ left) → is_some (option_and_then others first) ≡ is_some first && left
one_member None others left same = refl
one_member (Some d) others left same = same d

pub members_fit-more : (first : Bor (List ℕ) × Tree) (others : List (Bor (List ℕ) × Tree))
    → members_fit (first ∷ others) ≡ is_some (of_json (value_view first.1)) && members_fit others
members_fit-more first others =
    let rest = members_of (map (λ m. (m.0, value_view m.1)) others) in
    one_member (of_json (value_view first.1)) (λ d. of_members rest (put first.0.now d no_members)) (members_fit others) (λ d. whatever rest (put first.0.now d no_members) no_members)
