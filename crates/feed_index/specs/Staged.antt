-- Two runs that stand for one list: a front, and a back whose elements are still to be put into it one after the other.
use Rattle.std.specs.Prelude.{◌≡◌, ◌≤◌, ◌+◌, ◌++◌, ℕ, false, List, length, take, drop}
use Rattle.std.specs.List.{AllByRecursion}
use Rattle.std.specs.Ordering.{is_eq}
use Rattle.std.specs.declared.cmp.Ordering.{Ordering}
use Rattle.span_pool.specs.Spans.{Spans, live_bytes}
use Rattle.feed_index.specs.declared.entry.Entry.{Entry}
use Rattle.feed_index.specs.declared.row.Row.{Row}
use Rattle.feed_index.specs.Entries.{most_dead, put_all}
use Rattle.feed_index.specs.Order.{AreRising, with_all, with_one}
use Rattle.feed_index.specs.Rows.{AreHeld, GaveBack, entries_of}

module _ {K X : Type 0} (key_of : X → K) (cmp : K → K → Ordering) where
  -- no element has the key
  abbrev pub IsNew : List X → K → Type 0
  IsNew xs key = AllByRecursion (λ x. is_eq (cmp (key_of x) key) ≡ false) xs

  -- a front that rises, and a back that rises, whose keys are new to the front
  pub record AreStaged (front back : List X) : Type 0 where
    pub front_rises : AreRising key_of cmp front
    pub back_rises : AreRising key_of cmp back
    pub apart : AllByRecursion (λ x. IsNew front (key_of x)) back

  -- one more element came: the two stand for the list with it
  pub record Stages (front back : List X) (one : X) (front' back' : List X) : Type 0 where
    pub staged : AreStaged front' back'
    pub merged : with_all key_of cmp front' back' ≡ with_one key_of cmp (with_all key_of cmp front back) one

module _ {K R : Type 0} (cmp : K → K → Ordering) where
  -- the entries of rows, up to there the front, are staged
  abbrev pub RowsAreStaged : List (Row K R) → Spans → ℕ → Type 0
  RowsAreStaged rows pool front =
      AreStaged (λ one. one.key) cmp (take front (entries_of pool.spans rows)) (drop front (entries_of pool.spans rows))

  -- the entries of rows whose front ends there: those of the front, with those after put one after the other
  abbrev pub gathered : List (Row K R) → List (ℕ × List ℕ) → ℕ → List (Entry K R)
  gathered rows spans front = put_all cmp (take front (entries_of spans rows)) (drop front (entries_of spans rows))

  -- what is kept of such rows and their pool
  pub record AreGathered (rows : List (Row K R)) (pool : Spans) (front : ℕ) : Type 0 where
    pub held : AreHeld rows pool.spans
    pub staged : RowsAreStaged rows pool front
    pub within : front ≤ length rows
    pub bounded : pool.dead ≤ most_dead (live_bytes pool.spans)

  -- rows and their pool after one more item came
  pub record Takes (rows : List (Row K R)) (pool : Spans) (front : ℕ) (item : Entry K R)
      (now : List (Row K R)) (after : Spans) (next : ℕ) : Type 0 where
    pub held : AreHeld now after.spans
    pub stages : Stages (λ one. one.key) cmp
        (take front (entries_of pool.spans rows)) (drop front (entries_of pool.spans rows)) item
        (take next (entries_of after.spans now)) (drop next (entries_of after.spans now))
    pub within : next ≤ length now
    pub long : length now ≤ length rows + 1
    pub dead : GaveBack pool (length item.bytes) after
    pub spare_bytes : pool.spare_bytes ≤ after.spare_bytes + length item.bytes
    pub spare_spans : pool.spare_spans ≤ after.spare_spans + 1

-- two neighbouring parts of a list changed places
abbrev pub IsTurned : {X : Type 0} → ℕ → ℕ → ℕ → List X → List X → Type 0
IsTurned {X} at front end old new =
    (A B C D : List X) → old ≡ A ++ (B ++ (C ++ D)) →
    length A ≡ at → length A + length B ≡ front → length A + length B + length C ≡ end →
    new ≡ A ++ (C ++ (B ++ D))
