-- What is kept of a tree when members are kept by their names, at any depth.
use Rattle.std.specs.Prelude.{◌≡◌, ℕ, List, Bool, true, false, Option, Some}
use Rattle.json.specs.Json as json
use Rattle.json.specs.Value.{value_view}
use Rattle.serde_json.specs.Data.{Data}
use Rattle.json_tree.specs.Trees.{Tree, data_of}

-- a member before others, if its name is kept
abbrev pub member_if : Bool → List ℕ → json.Json → json.Members → json.Members
member_if true name first others = json.member name first others
member_if false name first others = others

-- the tree without the members whose names aren't kept; the others stay in order
abbrev mutual
  pub kept : (List ℕ → Bool) → json.Json → json.Json
  kept has json.null = json.null
  kept has (json.boolean b) = json.boolean b
  kept has (json.number text) = json.number text
  kept has (json.string text) = json.string text
  kept has (json.array items) = json.array (kept_items has items)
  kept has (json.object members) = json.object (kept_members has members)

  pub kept_items : (List ℕ → Bool) → json.Items → json.Items
  kept_items has json.no_items = json.no_items
  kept_items has (json.item first others) = json.item (kept has first) (kept_items has others)

  pub kept_members : (List ℕ → Bool) → json.Members → json.Members
  kept_members has json.no_members = json.no_members
  kept_members has (json.member name first others) =
      member_if (has name) name (kept has first) (kept_members has others)

-- the tree is what is kept of a whole one, whose data is the answer
abbrev pub IsKeptOf : (List ℕ → Bool) → Option Data → Tree → Type 0
IsKeptOf has answer tree =
    (whole : json.Json) × (answer ≡ Some (data_of whole)) × (value_view tree ≡ kept has whole)
