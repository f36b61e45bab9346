-- How an index keeps its entries: rows in the order of their keys, whose bytes are spans of a pool.
use Rattle.std.specs.Prelude.{◌≡◌, ◌==◌, ◌+◌, ◌<◌, ◌≤◌, ◌⊎◌, ℕ, suc, List, [], is_some, unwrap_or, length, map, count_by, take, drop, slice_index_or, if◌then◌else◌}
use Rattle.std.specs.declared.cmp.Ordering.{Ordering}
use Rattle.std.specs.declared.cmp.Ordering.TheVariants.{Equal}
use Rattle.span_pool.specs.Spans.{Spans, bytes_of, live_bytes}
use Rattle.feed_index.specs.declared.entry.Entry.{Entry}
use Rattle.feed_index.specs.declared.row.Row.{Row}
use Rattle.feed_index.specs.Entries.{most_dead, total}
use Rattle.feed_index.specs.Order.{AreRising, above, below}

-- one where a slot has a live span, and none where it has not
abbrev pub lives : List (ℕ × List ℕ) → ℕ → ℕ
lives spans slot = if is_some (bytes_of spans slot) then 1 else 0

module _ {K R : Type 0} where
  -- the entry of a row, whose bytes are the span of its slot
  abbrev pub entry_of : List (ℕ × List ℕ) → Row K R → Entry K R
  entry_of spans row = record { key = row.key; value = row.value; bytes = unwrap_or (bytes_of spans row.slot) [] }

  abbrev pub entries_of : List (ℕ × List ℕ) → List (Row K R) → List (Entry K R)
  entries_of spans rows = map (entry_of spans) rows

  -- each slot that has a live span is of one row, each other one of none; and the live bytes are those of the rows
  pub record AreHeld (rows : List (Row K R)) (spans : List (ℕ × List ℕ)) : Type 0 where
    pub once : (slot : ℕ) → count_by (λ row. row.slot == slot) rows ≡ lives spans slot
    pub total_is : live_bytes spans ≡ total (entries_of spans rows)

  module _ (cmp : K → K → Ordering) where
    abbrev pub AreSorted : List (Row K R) → Type 0
    AreSorted rows = AreRising (λ row. row.key) cmp rows

    -- what an index keeps of its rows, the room for them, its pool, and how many more rows it takes
    pub record IsSound (rows : List (Row K R)) (capacity : ℕ) (pool : Spans) (spare : ℕ) : Type 0 where
      pub sorted : AreSorted rows
      pub held : AreHeld rows pool.spans
      pub bounded : pool.dead ≤ most_dead (live_bytes pool.spans)
      pub rows_room : length rows + spare ≤ capacity
      pub spans_room : spare ≤ pool.spare_spans

    -- the row of a key stands there, between the rows of lesser keys and those of greater ones
    pub record StandsAt (rows : List (Row K R)) (key : K) (at : ℕ) : Type 0 where
      pub within : at < length rows
      pub same : (other : Row K R) → cmp (slice_index_or rows at other).key key ≡ Equal
      pub low : below (λ row. row.key) cmp key rows ≡ take at rows
      pub high : above (λ row. row.key) cmp key rows ≡ drop (suc at) rows

    -- no row has the key, and it would stand there
    pub record IsGapAt (rows : List (Row K R)) (key : K) (at : ℕ) : Type 0 where
      pub within : at ≤ length rows
      pub low : below (λ row. row.key) cmp key rows ≡ take at rows
      pub high : above (λ row. row.key) cmp key rows ≡ drop at rows

-- the bytes that were given back between two moments, when so many were put, are dead
pub record GaveBack (before : Spans) (added : ℕ) (now : Spans) : Type 0 where
  pub never_falls : before.dead ≤ now.dead
  pub sums : now.dead + live_bytes now.spans ≡ before.dead + live_bytes before.spans + added

-- the bytes that were given back while so many came from another pool are dead; or nothing was there, and the other
-- pool is there as it was
abbrev pub MergesDead : {X : Type 0} → Spans → Spans → ℕ → List X → Spans → Type 0
MergesDead before from added rows now =
    GaveBack before added now ⊎ ((rows ≡ []) × (before.dead ≡ 0) × (now.dead ≡ from.dead))

-- nothing is there, and so many rows in a list of this capacity, with their pool, have its room and that of more rows
pub record MayReplace {X : Type 0} (rows : List X) (pool : Spans) (len capacity : ℕ) (from : Spans) (more : ℕ)
    : Type 0 where
  pub no_rows : rows ≡ []
  pub no_bytes : live_bytes pool.spans + pool.dead ≡ 0
  pub rows_room : len + more ≤ capacity
  pub spans_room : more ≤ from.spare_spans
  pub bytes_room : pool.spare_bytes ≤ from.spare_bytes + live_bytes from.spans
