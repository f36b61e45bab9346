-- Two trees that differ in members alone whose names nobody asks for, and what is made of them in the same way.
use Rattle.std.proofs.Common.{◌≡◌, ◌∙◌, ℕ, List, [], ◌∷◌, ◌++◌, ◌&&◌, map, Bool, true, false, cond, Option, Some, None, option_map, unwrap_or, Result, Ok, Err, refl, sym, ap, bytes_eq, true≢false}
use Rattle.std.specs.List.{list_all, flat_map}
use Rattle.std.proofs.lemmas.Slice.Eq.{bytes_eq-Decides}
use Rattle.json.specs.Json as json
use Rattle.json.specs.Find as json_find
use Rattle.serde_json.specs.Data.{Data}
use Rattle.serde_json.specs.Find.{get}
use Rattle.json_tree.specs.Kept.{kept, kept_members, member_if}
use Rattle.json_tree.specs.Trees.{data_of}
use Rattle.json_tree.proofs.MemberLemmas.{found_in}

-- ---- a member with a kept name is found among the kept ones as among all

-- a member that stays: it is found, or what comes after it
stays : (has : List ℕ → Bool) (later : Option json.Json) (first : json.Json) (is : Bool)
    → json_find.later_or (option_map (kept has) later) (cond is (Some (kept has first)) None)
    ≡ option_map (kept has) (json_find.later_or later (cond is (Some first) None))
stays has None first true = refl
stays has None first false = refl
stays has (Some tree) first is = refl

-- a member that is dropped is of another name
goes : (has : List ℕ → Bool) (later : Option json.Json) (first : json.Json) (is : Bool) → is ≡ false
    → option_map (kept has) later ≡ option_map (kept has) (json_find.later_or later (cond is (Some first) None))
goes has later first true e = absurd (true≢false e)
goes has None first false e = refl
goes has (Some tree) first false e = refl

-- a name that is dropped is none that is kept
other_name : (has : List ℕ → Bool) (name key : List ℕ) → has name ≡ true → has key ≡ false → bytes_eq key name ≡ false
other_name has name key asked dropped = by (bytes_eq key name) refl
  where
    by : (is : Bool) → bytes_eq key name ≡ is → is ≡ false
    by true e = absurd (true≢false (sym asked ∙ ap has (sym ((bytes_eq-Decides key name).0 e)) ∙ dropped))
    by false e = refl

-- what is found among the kept members is what is found among all, with its kept members
pub get_member-kept : (has : List ℕ → Bool) (name : List ℕ) → has name ≡ true → (members : json.Members)
    → json_find.get_member name (kept_members has members) ≡ option_map (kept has) (json_find.get_member name members)
get_member-kept has name asked json.no_members = refl
get_member-kept has name asked (json.member key first others) = by (has key) refl (get_member-kept has name asked others)
  where
    by : (stay : Bool) → has key ≡ stay
        → json_find.get_member name (kept_members has others) ≡ option_map (kept has) (json_find.get_member name others)
        → json_find.get_member name (member_if stay key (kept has first) (kept_members has others))
        ≡ option_map (kept has) (json_find.get_member name (json.member key first others))
    by true e later =
        ap (λ rest. json_find.later_or rest (cond (bytes_eq key name) (Some (kept has first)) None)) later
        ∙ stays has (json_find.get_member name others) first (bytes_eq key name)
    by false e later =
        later ∙ goes has (json_find.get_member name others) first (bytes_eq key name) (other_name has name key asked e)

-- the same in a tree
pub get-kept : (has : List ℕ → Bool) (name : List ℕ) → has name ≡ true → (tree : json.Json)
    → json_find.get name (kept has tree) ≡ option_map (kept has) (json_find.get name tree)
get-kept has name asked json.null = refl
get-kept has name asked (json.boolean b) = refl
get-kept has name asked (json.number text) = refl
get-kept has name asked (json.string text) = refl
get-kept has name asked (json.array items) = refl
get-kept has name asked (json.object members) = get_member-kept has name asked members

-- ---- what is alike

-- the data of a tree's kept members, and that of all of them
pub data Alike (has : List ℕ → Bool) : Data → Data → Type 0 where
  alike : (tree : json.Json) → Alike has (data_of (kept has tree)) (data_of tree)

-- none twice, or two that are related
pub data AlikeOption {A B : Type 0} (Related : A → B → Type 0) : Option A → Option B → Type 0 where
  neither : AlikeOption Related None None
  both : {a : A} {b : B} → Related a b → AlikeOption Related (Some a) (Some b)

-- lists of one length, whose items are related in turn
pub data AlikeList {A B : Type 0} (Related : A → B → Type 0) : List A → List B → Type 0 where
  empty : AlikeList Related [] []
  more : {a : A} {b : B} {xs : List A} {ys : List B} → Related a b → AlikeList Related xs ys → AlikeList Related (a ∷ xs) (b ∷ ys)

-- the same fault, or two values that are related
pub data AlikeResult {A B E : Type 0} (Related : A → B → Type 0) : Result A E → Result B E → Type 0 where
  fine : {a : A} {b : B} → Related a b → AlikeResult Related (Ok a) (Ok b)
  fault : (e : E) → AlikeResult Related (Err e) (Err e)

-- what is found, as data
found : (has : List ℕ → Bool) (member : Option json.Json)
    → AlikeOption (Alike has) (option_map data_of (option_map (kept has) member)) (option_map data_of member)
found has None = neither
found has (Some tree) = both (alike tree)

-- a member with a kept name is found in both
pub get-alike : {has : List ℕ → Bool} (name : List ℕ) → has name ≡ true → {a b : Data} → Alike has a b
    → AlikeOption (Alike has) (get name a) (get name b)
get-alike {has} name asked (alike tree) =
    let few : get name (data_of (kept has tree)) ≡ option_map data_of (option_map (kept has) (json_find.get name tree)) =
    found_in name (kept has tree) ∙ ap (option_map data_of) (get-kept has name asked tree) in
    rw (few, found_in name tree) (found has (json_find.get name tree))

-- ---- what is made of what is alike

-- what there is, or else what stands for it
pub unwrap_or-alike : {A B : Type 0} {Related : A → B → Type 0} {x : Option A} {y : Option B} (a : A) (b : B)
    → AlikeOption Related x y → Related a b → Related (unwrap_or x a) (unwrap_or y b)
unwrap_or-alike a b neither otherwise = otherwise
unwrap_or-alike a b (both one) otherwise = one

-- what is made of each item
pub map-alike : {A B C D : Type 0} {Before : A → B → Type 0} {After : C → D → Type 0} (f : A → C) (g : B → D) {xs : List A} {ys : List B}
    → ((a : A) (b : B) → Before a b → After (f a) (g b)) → AlikeList Before xs ys → AlikeList After (map f xs) (map g ys)
map-alike f g each empty = empty
map-alike f g each (more first others) = more (each _ _ first) (map-alike f g each others)

-- what is made of each item, where that is the same
pub map-same : {A B C : Type 0} {Related : A → B → Type 0} (f : A → C) (g : B → C) {xs : List A} {ys : List B}
    → ((a : A) (b : B) → Related a b → f a ≡ g b) → AlikeList Related xs ys → map f xs ≡ map g ys
map-same f g each empty = refl
map-same f g each (more first others) = λ i. each _ _ first i ∷ map-same f g each others i

-- two lists after each other
pub append-alike : {A B : Type 0} {Related : A → B → Type 0} {xs us : List A} {ys vs : List B}
    → AlikeList Related xs ys → AlikeList Related us vs → AlikeList Related (xs ++ us) (ys ++ vs)
append-alike empty after = after
append-alike (more first others) after = more first (append-alike others after)

-- the lists that are made of the items, after each other
pub flat_map-alike : {A B C D : Type 0} {Before : A → B → Type 0} {After : C → D → Type 0} (f : A → List C) (g : B → List D) {xs : List A} {ys : List B}
    → ((a : A) (b : B) → Before a b → AlikeList After (f a) (g b)) → AlikeList Before xs ys → AlikeList After (flat_map f xs) (flat_map g ys)
flat_map-alike f g each empty = empty
flat_map-alike f g each (more first others) = append-alike (each _ _ first) (flat_map-alike f g each others)

-- a test of all items
pub list_all-same : {A B : Type 0} {Related : A → B → Type 0} (f : A → Bool) (g : B → Bool) {xs : List A} {ys : List B}
    → ((a : A) (b : B) → Related a b → f a ≡ g b) → AlikeList Related xs ys → list_all f xs ≡ list_all g ys
list_all-same f g each empty = refl
list_all-same f g each (more first others) = λ i. each _ _ first i && list_all-same f g each others i
