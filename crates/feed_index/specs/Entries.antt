-- What a clause sees of an index: its entries in the order of their keys, and the numbers beside them.
use Rattle.std.specs.Prelude.{◌≡◌, ◌==◌, ◌+◌, ◌-◌, ◌⊎◌, ℕ, List, [], ◌++◌, Option, Some, is_some, option_map, count_by, map, find, length, nat_le, sum_by, if◌then◌else◌}
use Rattle.std.specs.Ordering.{is_eq}
use Rattle.std.specs.declared.cmp.Ordering.{Ordering}
use Rattle.span_pool.specs.Spans.{bytes_of}
use Rattle.feed_index.specs.declared.entry.Entry.{Entry}
use Rattle.feed_index.specs.Order.{AreRising, above, below, with_all, with_one}

-- what is gathered: the entries, and how many bytes are dead
pub record Gathered (K R : Type 0) : Type 0 where
  pub entries : List (Entry K R)
  pub dead : ℕ

-- the entries; how many more entries and how many more bytes can be put without memory; and how many bytes are dead
pub record Kept (K R : Type 0) : Type 0 where
  pub entries : List (Entry K R)
  pub spare_entries : ℕ
  pub spare_bytes : ℕ
  pub dead : ℕ

module _ {K R : Type 0} where
  -- the bytes of all entries together
  abbrev pub total : List (Entry K R) → ℕ
  total entries = sum_by (λ one. length one.bytes) entries

  module _ (cmp : K → K → Ordering) where
    -- the keys are distinct and rising
    abbrev pub Rising : List (Entry K R) → Type 0
    Rising entries = AreRising (λ one. one.key) cmp entries

    -- the entries with this one at its key: those of lesser keys, this one, and those of greater keys
    abbrev pub put : List (Entry K R) → Entry K R → List (Entry K R)
    put entries one = with_one (λ each. each.key) cmp entries one

    -- the entries after these were put one after the other
    abbrev pub put_all : List (Entry K R) → List (Entry K R) → List (Entry K R)
    put_all entries items = with_all (λ each. each.key) cmp entries items

    -- the entries without that of a key: those of lesser keys and those of greater ones
    abbrev pub removed : List (Entry K R) → K → List (Entry K R)
    removed entries key = below (λ each. each.key) cmp key entries ++ above (λ each. each.key) cmp key entries

    -- the entry of a key, if it has one, its value and its bytes
    abbrev pub entry_at : List (Entry K R) → K → Option (Entry K R)
    entry_at entries key = find (λ one. is_eq (cmp one.key key)) entries

    abbrev pub value_at : List (Entry K R) → K → Option R
    value_at entries key = option_map (λ one. one.value) (entry_at entries key)

    abbrev pub bytes_at : List (Entry K R) → K → Option (List ℕ)
    bytes_at entries key = option_map (λ one. one.bytes) (entry_at entries key)

-- how many bytes may be dead beside so many that live
abbrev pub most_dead : ℕ → ℕ
most_dead live = live + 65536

-- the dead bytes at the end of a call that found so many: none where they would be too many
abbrev pub settled : ℕ → ℕ → ℕ
settled live dead = if nat_le dead (most_dead live) then dead else 0

-- the dead bytes after a call that found so many beside these entries, put so many bytes and left these entries: all
-- that were there before and are in no entry now were given back, and are dead unless these would be too many
abbrev pub dead_with : {K R : Type 0} → ℕ → List (Entry K R) → ℕ → List (Entry K R) → ℕ
dead_with dead before added entries = settled (total entries) (dead + (total before + added - total entries))

abbrev pub dead_after : {K R : Type 0} → Kept K R → ℕ → List (Entry K R) → ℕ
dead_after before added entries = dead_with before.dead before.entries added entries

-- the dead bytes after what was gathered was put: those of a call that put its bytes; or, where nothing was there,
-- those that are dead in its region, which is taken as it is
abbrev pub IsDeadAfter : {K R : Type 0} → Kept K R → Gathered K R → List (Entry K R) → ℕ → Type 0
IsDeadAfter before batch entries dead =
    (dead ≡ dead_after before (total batch.entries) entries)
    ⊎ ((before.entries ≡ []) × (before.dead ≡ 0) × (dead ≡ settled (total entries) batch.dead))

-- the live spans of a pool are those of the entries: each entry has a slot whose span has its bytes, each slot that has
-- a live span is that of one entry, and each other slot that of none
pub record AreSpansOf {K R : Type 0} (spans : List (ℕ × List ℕ)) (entries : List (Entry K R)) : Type 0 where
  pub slots : List ℕ
  pub bytes : map (bytes_of spans) slots ≡ map (λ one. Some one.bytes) entries
  pub once : (slot : ℕ) → count_by (λ each. each == slot) slots ≡ (if is_some (bytes_of spans slot) then 1 else 0)
