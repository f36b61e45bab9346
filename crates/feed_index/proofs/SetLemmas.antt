-- The entries of rows when the row of a key is set or goes.
use Rattle.std.proofs.Common.{◌≡◌, ◌∙◌, ◌∷◌, [], ◌<◌, ℕ, zero, suc, List, map, length, get_or, take, drop, set, Option, Some, None, option_map, sym, ap, refl, subst, arith}
use Rattle.std.proofs.lemmas.List.{length-map, set_split, take-append-drop, take-map, drop-map}
use Rattle.std.specs.Prelude.{find, insert, remove, slice_get}
use Rattle.std.specs.Cmp.{IsTotalOrder}
use Rattle.std.specs.List.{AllByRecursion}
use Rattle.std.specs.List.Sorted.{IsStrictlySortedBy}
use Rattle.std.specs.Ordering.{is_lt, is_gt, is_eq}
use Rattle.std.specs.declared.cmp.Ordering.{Ordering}
use Rattle.std.specs.declared.cmp.Ordering.TheVariants.{Equal}
use Rattle.span_pool.specs.Spans.{bytes_of}
use Rattle.feed_index.specs.declared.entry.Entry.{Entry}
use Rattle.feed_index.specs.declared.row.Row.{Row}
use Rattle.feed_index.specs.Entries.{Rising, entry_at, bytes_at, put, removed, value_at}
use Rattle.feed_index.specs.Order.{above, below}
use Rattle.feed_index.specs.Rows.{AreSorted, IsGapAt, StandsAt, entries_of, entry_of}
use Rattle.feed_index.proofs.MapLemmas.{filter-map, find-map}
use Rattle.feed_index.proofs.RisingLemmas.{find_at, find_gap, rising_drop, rising_one, rising_without, split_at}

module _ {X Y : Type 0} (show : X → Y) where
  pub each_shown : (P : Y → Type 0) (xs : List X) → AllByRecursion (λ x. P (show x)) xs → AllByRecursion P (map show xs)
  each_shown P [] h = tt
  each_shown P (x ∷ xs) h = (h.0, each_shown P xs h.1)

  pub each_seen : (P : Y → Type 0) (xs : List X) → AllByRecursion P (map show xs) → AllByRecursion (λ x. P (show x)) xs
  each_seen P [] h = tt
  each_seen P (x ∷ xs) h = (h.0, each_seen P xs h.1)

  sorted_shown : (c : Y → Y → Ordering) (xs : List X) → IsStrictlySortedBy (λ a b. c (show a) (show b)) xs → IsStrictlySortedBy c (map show xs)
  unfolding IsStrictlySortedBy
  sorted_shown c [] h = tt
  sorted_shown c (x ∷ xs) h = (each_shown _ xs h.0, sorted_shown c xs h.1)

  sorted_seen : (c : Y → Y → Ordering) (xs : List X) → IsStrictlySortedBy c (map show xs) → IsStrictlySortedBy (λ a b. c (show a) (show b)) xs
  unfolding IsStrictlySortedBy
  sorted_seen c [] h = tt
  sorted_seen c (x ∷ xs) h = (each_seen _ xs h.0, sorted_seen c xs h.1)

module _ {K R : Type 0} {cmp : K → K → Ordering} (o : IsTotalOrder cmp) where
  -- rows are sorted where their entries rise
  pub rising_entries : (spans : List (ℕ × List ℕ)) (rows : List (Row K R)) → AreSorted cmp rows → Rising cmp (entries_of spans rows)
  rising_entries spans rows h = sorted_shown (entry_of spans) (λ a b. cmp a.key b.key) rows h

  pub sorted_rows : (spans : List (ℕ × List ℕ)) (rows : List (Row K R)) → Rising cmp (entries_of spans rows) → AreSorted cmp rows
  sorted_rows spans rows h = sorted_seen (entry_of spans) (λ a b. cmp a.key b.key) rows h

  pub low_entries : (spans : List (ℕ × List ℕ)) (rows : List (Row K R)) (key : K) (at : ℕ) → below (λ (row : Row K R). row.key) cmp key rows ≡ take at rows → below (λ (one : Entry K R). one.key) cmp key (entries_of spans rows) ≡ take at (entries_of spans rows)
  low_entries spans rows key at h = filter-map (entry_of spans) (λ one. is_lt (cmp one.key key)) rows ∙ rw h (sym (take-map (entry_of spans) at rows))

  pub high_entries : (spans : List (ℕ × List ℕ)) (rows : List (Row K R)) (key : K) (at : ℕ) → above (λ (row : Row K R). row.key) cmp key rows ≡ drop at rows → above (λ (one : Entry K R). one.key) cmp key (entries_of spans rows) ≡ drop at (entries_of spans rows)
  high_entries spans rows key at h = filter-map (entry_of spans) (λ one. is_gt (cmp one.key key)) rows ∙ rw h (sym (drop-map (entry_of spans) at rows))

  pub put_found : (spans : List (ℕ × List ℕ)) (rows : List (Row K R)) (one : Entry K R) (at : ℕ) → StandsAt cmp rows one.key at → set (entries_of spans rows) at one ≡ put cmp (entries_of spans rows) one
  put_found spans rows one at h =
      let within : at < length (entries_of spans rows) = rw (length-map rows (entry_of spans)) h.within in
      set_split (entries_of spans rows) at one within ∙ rw (low_entries spans rows one.key at h.low, high_entries spans rows one.key (suc at) h.high) refl

  pub put_gap : (spans : List (ℕ × List ℕ)) (rows : List (Row K R)) (one : Entry K R) (at : ℕ) → IsGapAt cmp rows one.key at → insert (entries_of spans rows) at one ≡ put cmp (entries_of spans rows) one
  put_gap spans rows one at h = rw (low_entries spans rows one.key at h.low, high_entries spans rows one.key at h.high) refl

  pub removed_found : (spans : List (ℕ × List ℕ)) (rows : List (Row K R)) (key : K) (at : ℕ) → StandsAt cmp rows key at → remove (entries_of spans rows) at ≡ removed cmp (entries_of spans rows) key
  removed_found spans rows key at h = rw (low_entries spans rows key at h.low, high_entries spans rows key (suc at) h.high) refl

  pub removed_gap : (spans : List (ℕ × List ℕ)) (rows : List (Row K R)) (key : K) (at : ℕ) → IsGapAt cmp rows key at → entries_of spans rows ≡ removed cmp (entries_of spans rows) key
  removed_gap spans rows key at h = rw (low_entries spans rows key at h.low, high_entries spans rows key at h.high) (sym (take-append-drop at (entries_of spans rows)))

  -- the entry of a key
  pub row_found : (rows : List (Row K R)) (key : K) (at : ℕ) → AreSorted cmp rows → StandsAt cmp rows key at → find (λ (row : Row K R). is_eq (cmp row.key key)) rows ≡ slice_get rows at
  row_found rows key at sorted h =
      let parts = split_at rows at h.within in
      let P : List (Row K R) → Type 0 = λ all. AreSorted cmp all in
      let Q : List (Row K R) → Type 0 = λ all. find (λ (row : Row K R). is_eq (cmp row.key key)) all ≡ Some parts.0 in
      let here : cmp parts.0.key key ≡ Equal = ap (λ (row : Row K R). cmp row.key key) (sym (parts.2 parts.0)) ∙ h.same parts.0 in
      subst Q (sym parts.1) (find_at (λ (row : Row K R). row.key) o key (take at rows) parts.0 (drop (suc at) rows) (subst P parts.1 sorted) here) ∙ sym (read rows at h.within parts.0 (parts.2 parts.0))
    where
      read : (rows : List (Row K R)) (at : ℕ) → at < length rows → (row : Row K R) → get_or rows at row ≡ row → slice_get rows at ≡ Some row
      read [] at h row e = absurd (omega arith)
      read (first ∷ rows) zero h row e = ap Some e
      read (first ∷ rows) (suc at) h row e = read rows at (omega arith) row e

  pub entry_found : (spans : List (ℕ × List ℕ)) (rows : List (Row K R)) (key : K) (at : ℕ) → AreSorted cmp rows → StandsAt cmp rows key at → entry_at cmp (entries_of spans rows) key ≡ option_map (entry_of spans) (slice_get rows at)
  entry_found spans rows key at sorted h = find-map (entry_of spans) (λ one. is_eq (cmp one.key key)) rows ∙ rw (row_found rows key at sorted h) refl

  pub entry_gap : (spans : List (ℕ × List ℕ)) (rows : List (Row K R)) (key : K) (at : ℕ) → IsGapAt cmp rows key at → entry_at cmp (entries_of spans rows) key ≡ None
  entry_gap spans rows key at h =
      find-map (entry_of spans) (λ one. is_eq (cmp one.key key)) rows
      ∙ ap (option_map (entry_of spans)) (find_gap (λ (row : Row K R). row.key) o key rows (rw (h.low, h.high) (take-append-drop at rows)))

  pub value_found : (spans : List (ℕ × List ℕ)) (rows : List (Row K R)) (key : K) (at : ℕ) (value : R) → AreSorted cmp rows → StandsAt cmp rows key at →
      option_map (λ (row : Row K R). row.value) (slice_get rows at) ≡ Some value → Some value ≡ value_at cmp (entries_of spans rows) key
  value_found spans rows key at value sorted h e = sym e ∙ by (slice_get rows at) ∙ ap (option_map (λ (one : Entry K R). one.value)) (sym (entry_found spans rows key at sorted h))
    where
      by : (o : Option (Row K R)) → option_map (λ (row : Row K R). row.value) o ≡ option_map (λ (one : Entry K R). one.value) (option_map (entry_of spans) o)
      by None = refl
      by (Some row) = refl

  pub value_gap : (spans : List (ℕ × List ℕ)) (rows : List (Row K R)) (key : K) (at : ℕ) → IsGapAt cmp rows key at → value_at cmp (entries_of spans rows) key ≡ None
  value_gap spans rows key at h = ap (option_map (λ (one : Entry K R). one.value)) (entry_gap spans rows key at h)

  -- they stay sorted
  pub sorted_put : (spans now : List (ℕ × List ℕ)) (rows new : List (Row K R)) (one : Entry K R) → AreSorted cmp rows → entries_of now new ≡ put cmp (entries_of spans rows) one → AreSorted cmp new
  sorted_put spans now rows new one h e =
      let P : List (Entry K R) → Type 0 = λ all. Rising cmp all in
      sorted_rows now new (subst P (sym e) (rising_one (λ (each : Entry K R). each.key) o (entries_of spans rows) one (rising_entries spans rows h)))

  pub sorted_removed : (spans now : List (ℕ × List ℕ)) (rows new : List (Row K R)) (key : K) → AreSorted cmp rows → entries_of now new ≡ removed cmp (entries_of spans rows) key → AreSorted cmp new
  sorted_removed spans now rows new key h e =
      let P : List (Entry K R) → Type 0 = λ all. Rising cmp all in
      sorted_rows now new (subst P (sym e) (rising_without (λ (each : Entry K R). each.key) o key (entries_of spans rows) (rising_entries spans rows h)))

  read : (rows : List (Row K R)) (at : ℕ) → at < length rows → (row : Row K R) → row ≡ get_or rows at row → slice_get rows at ≡ Some row
  read [] at h row e = absurd (omega arith)
  read (first ∷ rows) zero h row e = ap Some (sym e)
  read (first ∷ rows) (suc at) h row e = read rows at (omega arith) row e

  pub bytes_found : (spans : List (ℕ × List ℕ)) (rows : List (Row K R)) (key : K) (at : ℕ) (row : Row K R) (bytes : List ℕ) → AreSorted cmp rows → StandsAt cmp rows key at →
      row ≡ get_or rows at row → bytes_of spans row.slot ≡ Some bytes → Some bytes ≡ bytes_at cmp (entries_of spans rows) key
  bytes_found spans rows key at row bytes sorted h is_row held =
      sym (ap (option_map (λ (one : Entry K R). one.bytes)) (entry_found spans rows key at sorted h) ∙ rw (read rows at h.within row is_row, held) refl)

  pub bytes_gap : (spans : List (ℕ × List ℕ)) (rows : List (Row K R)) (key : K) (at : ℕ) → IsGapAt cmp rows key at → bytes_at cmp (entries_of spans rows) key ≡ None
  bytes_gap spans rows key at h = ap (option_map (λ (one : Entry K R). one.bytes)) (entry_gap spans rows key at h)

  pub sorted_cut : (spans now : List (ℕ × List ℕ)) (rows new : List (Row K R)) (n : ℕ) → AreSorted cmp rows → entries_of now new ≡ drop n (entries_of spans rows) → AreSorted cmp new
  sorted_cut spans now rows new n h e =
      let P : List (Entry K R) → Type 0 = λ all. Rising cmp all in
      sorted_rows now new (subst P (sym e) (rising_drop (λ (each : Entry K R). each.key) o n (entries_of spans rows) (rising_entries spans rows h)))

pub sorted_none : (K R : Type 0) (cmp : K → K → Ordering) → AreSorted {K = K} {R = R} cmp []
unfolding IsStrictlySortedBy
sorted_none K R cmp = tt
