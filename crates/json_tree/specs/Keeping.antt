-- What is kept, where all numbers are in range; those of members that aren't kept count too.
use Rattle.std.specs.Prelude.{ℕ, List, Bool, cond, Option, Some, None, is_some}
use Rattle.json.specs.Json as json
use Rattle.serde_json.specs.Data.{no_members}
use Rattle.serde_json.specs.Read.{of_json, of_items, of_members}
use Rattle.json_tree.specs.Kept.{kept, kept_items, kept_members}

-- whether each number of a tree, of items or of members is in range
abbrev pub fits : json.Json → Bool
fits tree = is_some (of_json tree)

abbrev pub items_fit : json.Items → Bool
items_fit items = is_some (of_items items)

abbrev pub members_fit : json.Members → Bool
members_fit members = is_some (of_members members no_members)

-- what is kept of what fits
abbrev pub kept_if_fits : (List ℕ → Bool) → json.Json → Option json.Json
kept_if_fits has tree = cond (fits tree) (Some (kept has tree)) None

abbrev pub items_if_fit : (List ℕ → Bool) → json.Items → Option json.Items
items_if_fit has items = cond (items_fit items) (Some (kept_items has items)) None

abbrev pub members_if_fit : (List ℕ → Bool) → json.Members → Option json.Members
members_if_fit has members = cond (members_fit members) (Some (kept_members has members)) None
