-- The data of a tree whose numbers are in range.
use Rattle.std.proofs.Common.{◌≡◌, ◌∙◌, true, Option, Some, None, option_map, option_and_then, is_some, pos, unwrap_or, refl, sym, ap}
use Rattle.json.specs.Json as json
use Rattle.serde_json.specs.Data.{Num, negative, Data, number, array, object, item, Items, Members, no_members, put}
use Rattle.serde_json.specs.Read.{number_of, of_json, of_items, of_members}
use Rattle.json_tree.specs.Trees.{data_of, items_data, members_data}

ranged : (found : Option Num) → is_some (option_map number found) ≡ true → option_map number found ≡ Some (number (unwrap_or found (negative (pos 0))))
ranged None h = absurd (cc)
ranged (Some n) h = refl

made : {A B : Type 0} (make : A → B) (found : Option A) (value : A) → (is_some found ≡ true → found ≡ Some value) → is_some (option_map make found) ≡ true
    → option_map make found ≡ Some (make value)
made make None value is h = absurd (cc)
made make (Some a) value is h = ap (option_map make) (is refl)

one_item : (first : Option Data) (others : Option Items) (d : Data) (ds : Items) → (is_some first ≡ true → first ≡ Some d) → (is_some others ≡ true → others ≡ Some ds)
    → is_some (option_and_then (λ one. option_map (item one) others) first) ≡ true → option_and_then (λ one. option_map (item one) others) first ≡ Some (item d ds)
one_item None others d ds is are h = absurd (cc)
one_item (Some one) None d ds is are h = absurd (cc)
one_item (Some one) (Some more) d ds is are h = let a = is refl in let b = are refl in cc

one_member : (first : Option Data) (others : Data → Option Members) (d : Data) (ms : Members) → (is_some first ≡ true → first ≡ Some d) → (is_some (others d) ≡ true → others d ≡ Some ms)
    → is_some (option_and_then others first) ≡ true → option_and_then others first ≡ Some ms
one_member None others d ms is are h = absurd (cc)
one_member (Some one) others d ms is are h = let same : one ≡ d = ap (λ found. unwrap_or found one) (is refl) in ap others same ∙ are (sym (ap (λ x. is_some (others x)) same) ∙ h)

mutual
  pub of_json-data : (tree : json.Json) → is_some (of_json tree) ≡ true → of_json tree ≡ Some (data_of tree)
  of_json-data json.null h = refl
  of_json-data (json.boolean b) h = refl
  of_json-data (json.number text) h = ranged (number_of text) h
  of_json-data (json.string text) h = refl
  of_json-data (json.array items) h = made array (of_items items) (items_data items) (of_items-data items) h
  of_json-data (json.object members) h = made object (of_members members no_members) (members_data members no_members) (of_members-data members no_members) h

  of_items-data : (items : json.Items) → is_some (of_items items) ≡ true → of_items items ≡ Some (items_data items)
  of_items-data json.no_items h = refl
  of_items-data (json.item first others) h = one_item (of_json first) (of_items others) (data_of first) (items_data others) (of_json-data first) (of_items-data others) h

  of_members-data : (members : json.Members) (found : Members) → is_some (of_members members found) ≡ true → of_members members found ≡ Some (members_data members found)
  of_members-data json.no_members found h = refl
  of_members-data (json.member name first others) found h =
      one_member (of_json first) (λ d. of_members others (put name d found)) (data_of first) (members_data others (put name (data_of first) found))
      (of_json-data first) (of_members-data others (put name (data_of first) found)) h
