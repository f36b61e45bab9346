-- What a JSON tree over borrowed text is as data: a number has its value, and of members of one name the last counts.
use Rattle.std.specs.Prelude.{List, ℕ, pos, unwrap_or}
use Rattle.std.specs.declared.alloc.Global.{Global}
use Rattle.json.specs.Json as json
use Rattle.json.specs.Value.{value_view}
use Rattle.json.specs.declared.value.Value.{Value}
use Rattle.serde_json.specs.Data.{Num, negative, Data, null, boolean, number, string, array, object, Items, no_items, item, Members, no_members, put}
use Rattle.serde_json.specs.Read.{number_of}

-- a tree over borrowed text
abbrev pub Tree : Type 0
Tree = Value Global

-- the number that a text writes; of a tree that was read each is in range, and what stands for others is never met
abbrev pub num : List ℕ → Num
num text = unwrap_or (number_of text) (negative (pos 0))

abbrev mutual
  pub data_of : json.Json → Data
  data_of json.null = null
  data_of (json.boolean b) = boolean b
  data_of (json.number text) = number (num text)
  data_of (json.string text) = string text
  data_of (json.array items) = array (items_data items)
  data_of (json.object members) = object (members_data members no_members)

  pub items_data : json.Items → Items
  items_data json.no_items = no_items
  items_data (json.item first others) = item (data_of first) (items_data others)

  -- the members go in one after another
  pub members_data : json.Members → Members → Members
  members_data json.no_members found = found
  members_data (json.member name first others) found = members_data others (put name (data_of first) found)

abbrev pub view : Tree → Data
view tree = data_of (value_view tree)
