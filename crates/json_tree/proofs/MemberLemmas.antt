-- A member by its name, in a tree and in its data.
use Rattle.std.proofs.Common.{◌≡◌, ◌∙◌, ℕ, List, Bool, true, false, cond, Option, Some, None, option_map, refl, sym, ap, bytes_eq, true≢false, Bor}
use Rattle.std.proofs.lemmas.Slice.Eq.{bytes_eq-Decides}
use Rattle.json.specs.Json as json
use Rattle.json.specs.Find as json_find
use Rattle.json.specs.Value.{value_view}
use Rattle.serde_json.specs.Data.{Data, Members, no_members, put}
use Rattle.serde_json.specs.Find.{get, get_member}
use Rattle.serde_json.proofs.Views.{get_member-put, get_member-put_other}
use Rattle.json_tree.specs.Trees.{Tree, view, data_of, members_data}

-- what was found later, or else before
abbrev later : Option json.Json → Option Data → Option Data
later None before = before
later (Some tree) before = Some (data_of tree)

put_found : (name key : List ℕ) (tree : json.Json) (found : Members) (same : Bool) → bytes_eq key name ≡ same
    → get_member name (put key (data_of tree) found) ≡ later (cond same (Some tree) None) (get_member name found)
put_found name key tree found true e = rw ((bytes_eq-Decides key name).0 e) (get_member-put name (data_of tree) found)
put_found name key tree found false e = get_member-put_other name key (data_of tree) found (λ is. true≢false (sym ((bytes_eq-Decides key name).1 (sym is)) ∙ e))

joined : (rest one : Option json.Json) (before : Option Data) → later rest (later one before) ≡ later (json_find.later_or rest one) before
joined None one before = refl
joined (Some tree) one before = refl

members_found : (name : List ℕ) (members : json.Members) (found : Members)
    → get_member name (members_data members found) ≡ later (json_find.get_member name members) (get_member name found)
members_found name json.no_members found = refl
members_found name (json.member key first others) found =
    members_found name others (put key (data_of first) found)
    ∙ ap (later (json_find.get_member name others)) (put_found name key first found (bytes_eq key name) refl)
    ∙ joined (json_find.get_member name others) (cond (bytes_eq key name) (Some first) None) (get_member name found)

at_last : (found : Option json.Json) → later found None ≡ option_map data_of found
at_last None = refl
at_last (Some tree) = refl

pub found_in : (name : List ℕ) (tree : json.Json) → get name (data_of tree) ≡ option_map data_of (json_find.get name tree)
found_in name json.null = refl
found_in name (json.boolean b) = refl
found_in name (json.number text) = refl
found_in name (json.string text) = refl
found_in name (json.array items) = refl
found_in name (json.object members) = members_found name members no_members ∙ at_last (json_find.get_member name members)

shown : (found : Option (Bor Tree)) → option_map (λ tree. view tree.now) found ≡ option_map data_of (option_map (λ tree. value_view tree.now) found)
shown None = refl
shown (Some tree) = refl

pub found_by_name : (name : List ℕ) (tree : json.Json) (found : Option (Bor Tree)) → option_map (λ one. value_view one.now) found ≡ json_find.get name tree
    → option_map (λ one. view one.now) found ≡ get name (data_of tree)
found_by_name name tree found is = shown found ∙ ap (option_map data_of) is ∙ sym (found_in name tree)
