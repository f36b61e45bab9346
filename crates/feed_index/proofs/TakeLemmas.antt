-- What the steps of the merging calls know of rows and of their entries.
use Rattle.std.proofs.Common.{◌≡◌, ◌∙◌, ℕ, false, List, map, take, drop, set, sym, ap, refl, subst}
use Rattle.std.proofs.lemmas.Bool.{true≢false}
use Rattle.std.proofs.lemmas.List.{take-append-drop, take-map, drop-map}
use Rattle.std.proofs.lemmas.List.Elements.{All-from_recursion}
use Rattle.std.specs.Prelude.{insert}
use Rattle.std.specs.Cmp.{IsTotalOrder}
use Rattle.std.specs.List.{AllByRecursion}
use Rattle.std.specs.Ordering.{is_eq}
use Rattle.std.specs.declared.cmp.Ordering.{Ordering}
use Rattle.feed_index.specs.declared.entry.Entry.{Entry}
use Rattle.feed_index.specs.declared.row.Row.{Row}
use Rattle.feed_index.specs.Entries.{Rising, put_all}
use Rattle.feed_index.specs.Order.{with_all, with_one}
use Rattle.feed_index.specs.Rows.{AreSorted, IsGapAt, StandsAt, entries_of, entry_of}
use Rattle.feed_index.specs.Staged.{AreStaged, IsNew}
use Rattle.feed_index.proofs.MapLemmas.{all-map}
use Rattle.feed_index.proofs.OrderLemmas.{each_weaker}
use Rattle.feed_index.proofs.RisingLemmas.{split_at}
use Rattle.feed_index.proofs.SetLemmas.{each_seen, each_shown, put_found, put_gap, sorted_rows}
use Rattle.feed_index.proofs.StageLemmas.{new_at_gap, new_after}

module _ {K R : Type 0} {cmp : K → K → Ordering} (o : IsTotalOrder cmp) where
  pub never_new : (rows : List (Row K R)) (key : K) (at : ℕ) → IsNew (λ (row : Row K R). row.key) cmp rows key → StandsAt cmp rows key at → ⊥
  never_new rows key at new h =
      let one = (split_at rows at h.within).0 in
      true≢false (sym (ap is_eq (h.same one)) ∙ All-from_recursion (λ (row : Row K R). is_eq (cmp row.key key) ≡ false) rows new at one h.within)

  -- rows up to the front and from it on, and their entries
  pub front_sorted : (spans : List (ℕ × List ℕ)) (rows : List (Row K R)) (front : ℕ) → Rising cmp (take front (entries_of spans rows)) → AreSorted cmp (take front rows)
  front_sorted spans rows front h =
      let P : List (Entry K R) → Type 0 = λ all. Rising cmp all in
      sorted_rows o spans (take front rows) (subst P (take-map (entry_of spans) front rows) h)

  pub back_sorted : (spans : List (ℕ × List ℕ)) (rows : List (Row K R)) (front : ℕ) → Rising cmp (drop front (entries_of spans rows)) → AreSorted cmp (drop front rows)
  back_sorted spans rows front h =
      let P : List (Entry K R) → Type 0 = λ all. Rising cmp all in
      sorted_rows o spans (drop front rows) (subst P (drop-map (entry_of spans) front rows) h)

  pub front_found : (spans : List (ℕ × List ℕ)) (rows : List (Row K R)) (front at : ℕ) (one : Entry K R) → StandsAt cmp (take front rows) one.key at →
      set (take front (entries_of spans rows)) at one ≡ with_one (λ (each : Entry K R). each.key) cmp (take front (entries_of spans rows)) one
  front_found spans rows front at one h =
      let P : List (Entry K R) → Type 0 = λ xs. set xs at one ≡ with_one (λ (each : Entry K R). each.key) cmp xs one in
      subst P (sym (take-map (entry_of spans) front rows)) (put_found o spans (take front rows) one at h)

  pub back_found : (spans : List (ℕ × List ℕ)) (rows : List (Row K R)) (front at : ℕ) (one : Entry K R) → StandsAt cmp (drop front rows) one.key at →
      set (drop front (entries_of spans rows)) at one ≡ with_one (λ (each : Entry K R). each.key) cmp (drop front (entries_of spans rows)) one
  back_found spans rows front at one h =
      let P : List (Entry K R) → Type 0 = λ xs. set xs at one ≡ with_one (λ (each : Entry K R). each.key) cmp xs one in
      subst P (sym (drop-map (entry_of spans) front rows)) (put_found o spans (drop front rows) one at h)

  pub back_gap : (spans : List (ℕ × List ℕ)) (rows : List (Row K R)) (front at : ℕ) (one : Entry K R) → IsGapAt cmp (drop front rows) one.key at →
      insert (drop front (entries_of spans rows)) at one ≡ with_one (λ (each : Entry K R). each.key) cmp (drop front (entries_of spans rows)) one
  back_gap spans rows front at one h =
      let P : List (Entry K R) → Type 0 = λ xs. insert xs at one ≡ with_one (λ (each : Entry K R). each.key) cmp xs one in
      subst P (sym (drop-map (entry_of spans) front rows)) (put_gap o spans (drop front rows) one at h)

  -- staged entries are those of staged rows
  pub staged_rows : (spans : List (ℕ × List ℕ)) (rows : List (Row K R)) (front : ℕ) → AreStaged (λ (one : Entry K R). one.key) cmp (take front (entries_of spans rows)) (drop front (entries_of spans rows)) → AreStaged (λ (row : Row K R). row.key) cmp (take front rows) (drop front rows)
  staged_rows spans rows front h =
      let low = take-map (entry_of spans) front rows in
      let high = drop-map (entry_of spans) front rows in
      let P : List (Entry K R) → Type 0 = λ xs. AllByRecursion (λ (one : Entry K R). IsNew (λ (each : Entry K R). each.key) cmp (map (entry_of spans) (take front rows)) one.key) xs in
      let Q : List (Entry K R) → Type 0 = λ xs. AllByRecursion (λ (one : Entry K R). IsNew (λ (each : Entry K R). each.key) cmp xs one.key) (drop front (entries_of spans rows)) in
      record {
        front_rises = front_sorted spans rows front h.front_rises;
        back_rises = back_sorted spans rows front h.back_rises;
        apart = each_weaker _ _ (λ (row : Row K R) g. each_seen (entry_of spans) (λ (one : Entry K R). is_eq (cmp one.key row.key) ≡ false) (take front rows) g) (drop front rows)
            (each_seen (entry_of spans) (λ (one : Entry K R). IsNew (λ (each : Entry K R). each.key) cmp (map (entry_of spans) (take front rows)) one.key) (drop front rows) (subst P high (subst Q low h.apart)));
      }

  pub merged_entries : (spans : List (ℕ × List ℕ)) (rows now : List (Row K R)) (front : ℕ) → now ≡ with_all (λ (row : Row K R). row.key) cmp (take front rows) (drop front rows) →
      entries_of spans now ≡ put_all cmp (take front (entries_of spans rows)) (drop front (entries_of spans rows))
  merged_entries spans rows now front e =
      ap (entries_of spans) e ∙ sym (all-map (entry_of spans) (λ (one : Entry K R). one.key) cmp (take front rows) (drop front rows))
      ∙ rw (take-map (entry_of spans) front rows, drop-map (entry_of spans) front rows) refl

  -- a key that a row of the front has is new to the others
  pub back_new : (spans : List (ℕ × List ℕ)) (rows : List (Row K R)) (front at : ℕ) (key : K) → AreStaged (λ (one : Entry K R). one.key) cmp (take front (entries_of spans rows)) (drop front (entries_of spans rows)) →
      StandsAt cmp (take front rows) key at → IsNew (λ (one : Entry K R). one.key) cmp (drop front (entries_of spans rows)) key
  back_new spans rows front at key staged h =
      let P : List (Entry K R) → Type 0 = λ xs. IsNew (λ (each : Entry K R). each.key) cmp xs key in
      subst P (sym (drop-map (entry_of spans) front rows))
      (each_shown (entry_of spans) (λ (one : Entry K R). is_eq (cmp one.key key) ≡ false) (drop front rows)
      (new_after (λ (row : Row K R). row.key) o (take front rows) (drop front rows) at key h.within h.same (staged_rows spans rows front staged).apart))

  -- a key is new to the rows of the front, and to their entries
  pub new_rows : (rows : List (Row K R)) (front at : ℕ) (key : K) → IsGapAt cmp (take front rows) key at → IsNew (λ (row : Row K R). row.key) cmp (take front rows) key
  new_rows rows front at key h = new_at_gap (λ (row : Row K R). row.key) o key (take front rows) (rw (h.low, h.high) (take-append-drop at (take front rows)))

  pub new_entries : (spans : List (ℕ × List ℕ)) (rows : List (Row K R)) (front : ℕ) (key : K) → IsNew (λ (row : Row K R). row.key) cmp (take front rows) key → IsNew (λ (one : Entry K R). one.key) cmp (take front (entries_of spans rows)) key
  new_entries spans rows front key h =
      let P : List (Entry K R) → Type 0 = λ xs. IsNew (λ (each : Entry K R). each.key) cmp xs key in
      subst P (sym (take-map (entry_of spans) front rows)) (each_shown (entry_of spans) (λ (one : Entry K R). is_eq (cmp one.key key) ≡ false) (take front rows) h)
