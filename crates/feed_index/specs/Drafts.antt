-- What an index will be, while the entries that are to be put into it are gathered.
use Rattle.std.specs.Prelude.{ℕ, List}
use Rattle.std.specs.declared.cmp.Ordering.{Ordering}
use Rattle.feed_index.specs.Entries.{put_all}
use Rattle.feed_index.specs.declared.entry.Entry.{Entry}

-- the entries of an index that stay, those that are to be put, and how many bytes are dead beside them
pub record Drafted (K R : Type 0) : Type 0 where
  pub kept : List (Entry K R)
  pub items : List (Entry K R)
  pub dead : ℕ

-- the entries that there will be
abbrev pub after : {K R : Type 0} → (K → K → Ordering) → Drafted K R → List (Entry K R)
after cmp draft = put_all cmp draft.kept draft.items
