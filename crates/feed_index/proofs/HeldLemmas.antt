-- The rows of an index and the spans of its pool, when a row comes and when one goes.
use Rattle.std.proofs.Common.{◌≡◌, ◌∙◌, ◌++◌, ◌∷◌, [], ◌+◌, ◌≤◌, ℕ, Bool, true, false, cond, List, map, length, Option, Some, None, IsSome, unwrap_or, sym, refl, arith}
use Rattle.std.proofs.lemmas.List.{map-append}
use Rattle.std.proofs.lemmas.List.Sums.{sum_by-append, sum_by-cons}
use Rattle.std.proofs.lemmas.List.Sorted.{IsPermutation-map, sum_by-IsPermutation}
use Rattle.std.specs.Prelude.{◌==◌, count_by, IsPermutation}
use Rattle.span_pool.specs.Spans.{bytes_of, without, live_bytes}
use Rattle.span_pool.proofs.SpanLemmas.{bytes_of_put}
use Rattle.feed_index.specs.declared.entry.Entry.{Entry}
use Rattle.feed_index.specs.declared.row.Row.{Row}
use Rattle.feed_index.specs.Entries.{AreSpansOf, total}
use Rattle.feed_index.specs.Rows.{AreHeld, entries_of, entry_of, lives}
use Rattle.feed_index.proofs.SpanLemmas.{added_other, lives-added, lives-without, same_number, without_gone, without_other}
use borrow.Author.Tests.{eqb-true}

module _ {K R : Type 0} where
  -- how many rows have a slot
  abbrev pub count : List (Row K R) → ℕ → ℕ
  count rows slot = count_by (λ row. row.slot == slot) rows

  pub count-cons : (row : Row K R) (rows : List (Row K R)) (slot : ℕ) → count (row ∷ rows) slot ≡ cond (row.slot == slot) 1 0 + count rows slot
  count-cons row rows slot = sum_by-cons (λ each. cond (each.slot == slot) 1 0) row rows

  pub count-append : (xs ys : List (Row K R)) (slot : ℕ) → count (xs ++ ys) slot ≡ count xs slot + count ys slot
  count-append xs ys slot = sum_by-append (λ each. cond (each.slot == slot) 1 0) xs ys

  pub count-round : (xs : List (Row K R)) (row : Row K R) (ys : List (Row K R)) (slot : ℕ) → count (xs ++ row ∷ ys) slot ≡ cond (row.slot == slot) 1 0 + count (xs ++ ys) slot
  count-round xs row ys slot = omega (arith, count-append xs (row ∷ ys) slot, count-cons row ys slot, count-append xs ys slot)

  pub entries-append : (spans : List (ℕ × List ℕ)) (xs ys : List (Row K R)) → entries_of spans (xs ++ ys) ≡ entries_of spans xs ++ entries_of spans ys
  entries-append spans xs ys = map-append (entry_of spans) xs ys

  pub total-round : (xs : List (Entry K R)) (one : Entry K R) (ys : List (Entry K R)) → total (xs ++ one ∷ ys) ≡ length one.bytes + total (xs ++ ys)
  total-round xs one ys = omega (arith, sum_by-append (λ each. length each.bytes) xs (one ∷ ys), sum_by-cons (λ each. length each.bytes) one ys, sum_by-append (λ each. length each.bytes) xs ys)

  -- a row is counted at its own slot
  pub count-own : (row : Row K R) (rows : List (Row K R)) → count (row ∷ rows) row.slot ≡ 1 + count rows row.slot
  count-own row rows = count-cons row rows row.slot ∙ rw (same_number row.slot) refl

  -- rows whose spans stay show the same entries
  pub same_entries : (spans now : List (ℕ × List ℕ)) (rows : List (Row K R)) → ((slot : ℕ) → 1 ≤ count rows slot → bytes_of now slot ≡ bytes_of spans slot) → entries_of now rows ≡ entries_of spans rows
  same_entries spans now [] same = refl
  same_entries spans now (row ∷ rows) same =
      rw (
        same row.slot (omega (arith, count-own row rows)),
        same_entries spans now rows (λ slot h. same slot (omega (arith, count-cons row rows slot))),
      ) refl

  -- a slot of a row has a live span
  pub live_from_count : (rows : List (Row K R)) (spans : List (ℕ × List ℕ)) → AreHeld rows spans → (slot : ℕ) → 1 ≤ count rows slot → (bytes : List ℕ) × (bytes_of spans slot ≡ Some bytes)
  live_from_count rows spans held slot h = by (bytes_of spans slot) refl
    where
      by : (o : Option (List ℕ)) → bytes_of spans slot ≡ o → (bytes : List ℕ) × (bytes_of spans slot ≡ Some bytes)
      by None e =
          let none : lives spans slot ≡ 0 = rw e refl in
          let once : count rows slot ≡ lives spans slot = held.once slot in
          absurd (omega arith)
      by (Some bytes) e = (bytes, e)

  -- what a new span leaves of rows
  pub record Added (before : List (Row K R)) (row : Row K R) (after : List (Row K R)) (spans now : List (ℕ × List ℕ)) (bytes : List ℕ) : Type 0 where
    pub held : AreHeld (before ++ row ∷ after) now
    pub front : entries_of now before ≡ entries_of spans before
    pub back : entries_of now after ≡ entries_of spans after
    pub own : bytes_of now row.slot ≡ Some bytes

  pub added : (before : List (Row K R)) (row : Row K R) (after : List (Row K R)) (spans now : List (ℕ × List ℕ)) (bytes : List ℕ) →
      AreHeld (before ++ after) spans → bytes_of spans row.slot ≡ None → now ≡ spans ++ (row.slot, bytes) ∷ [] → live_bytes now ≡ live_bytes spans + length bytes →
      Added before row after spans now bytes
  added before row after spans now bytes held none is more =
      let kept : (slot : ℕ) → 1 ≤ count (before ++ after) slot → bytes_of now slot ≡ bytes_of spans slot = λ slot h.
      let live = live_from_count (before ++ after) spans held slot h in
      rw is (added_other spans row.slot bytes slot live.0 live.1 ∙ sym live.1) in
      let front = same_entries spans now before (λ slot h. kept slot (omega (arith, count-append before after slot))) in
      let back = same_entries spans now after (λ slot h. kept slot (omega (arith, count-append before after slot))) in
      let own : bytes_of now row.slot ≡ Some bytes = rw is (bytes_of_put spans row.slot bytes none) in
      record {
        held = record {
          once = λ slot.
              let was : count (before ++ after) slot ≡ lives spans slot = held.once slot in
              let one : lives now slot ≡ lives spans slot + cond (row.slot == slot) 1 0 = rw is (lives-added spans row.slot bytes none slot) in
              omega (arith, count-round before row after slot);
          total_is =
              let joined : entries_of spans before ++ entries_of spans after ≡ entries_of spans (before ++ after) = sym (entries-append spans before after) in
              let was : live_bytes spans ≡ total (entries_of spans before ++ entries_of spans after) = rw joined held.total_is in
              let size : length (entry_of now row).bytes ≡ length bytes = rw own refl in
              let round = total-round (entries_of spans before) (entry_of now row) (entries_of spans after) in
              let all : total (entries_of now (before ++ row ∷ after)) ≡ total (entries_of spans before ++ entry_of now row ∷ entries_of spans after) = rw (entries-append now before (row ∷ after), front, back) refl in
              omega arith;
        };
        front = front;
        back = back;
        own = own;
      }

  -- what a span that is given back leaves of rows
  pub record Removed (before : List (Row K R)) (after : List (Row K R)) (spans now : List (ℕ × List ℕ)) : Type 0 where
    pub held : AreHeld (before ++ after) now
    pub front : entries_of now before ≡ entries_of spans before
    pub back : entries_of now after ≡ entries_of spans after

  pub own_is_live : (before : List (Row K R)) (row : Row K R) (after : List (Row K R)) (spans : List (ℕ × List ℕ)) → AreHeld (before ++ row ∷ after) spans → IsSome (bytes_of spans row.slot)
  own_is_live before row after spans held =
      let at : count (before ++ row ∷ after) row.slot ≡ 1 + count (before ++ after) row.slot = count-round before row after row.slot ∙ rw (same_number row.slot) refl in
      let live = live_from_count (before ++ row ∷ after) spans held row.slot (omega arith) in
      rw live.1 refl

  pub gone : (before : List (Row K R)) (row : Row K R) (after : List (Row K R)) (spans now : List (ℕ × List ℕ)) →
      AreHeld (before ++ row ∷ after) spans → now ≡ without spans row.slot → live_bytes spans ≡ live_bytes now + length (unwrap_or (bytes_of spans row.slot) []) →
      Removed before after spans now
  gone before row after spans now held is less =
      let own = own_is_live before row after spans held in
      let each : (slot : ℕ) → count (before ++ after) slot ≡ lives now slot = λ slot.
      let was : count (before ++ row ∷ after) slot ≡ lives spans slot = held.once slot in
      let one : lives spans slot ≡ lives now slot + cond (row.slot == slot) 1 0 = rw is (lives-without spans row.slot own slot) in
      omega (arith, count-round before row after slot) in
      let kept : (slot : ℕ) → 1 ≤ count (before ++ after) slot → bytes_of now slot ≡ bytes_of spans slot = λ slot h. stays slot (row.slot == slot) refl (each slot) h in
      let front = same_entries spans now before (λ slot h. kept slot (omega (arith, count-append before after slot))) in
      let back = same_entries spans now after (λ slot h. kept slot (omega (arith, count-append before after slot))) in
      record {
        held = record {
          once = each;
          total_is =
              let was : live_bytes spans ≡ total (entries_of spans (before ++ row ∷ after)) = held.total_is in
              let parts : total (entries_of spans (before ++ row ∷ after)) ≡ total (entries_of spans before ++ entry_of spans row ∷ entries_of spans after) = rw (entries-append spans before (row ∷ after)) refl in
              let round = total-round (entries_of spans before) (entry_of spans row) (entries_of spans after) in
              let all : total (entries_of now (before ++ after)) ≡ total (entries_of spans before ++ entries_of spans after) = rw (entries-append now before after, front, back) refl in
              omega arith;
        };
        front = front;
        back = back;
      }
    where
      stays : (slot : ℕ) (c : Bool) → (row.slot == slot) ≡ c → count (before ++ after) slot ≡ lives now slot → 1 ≤ count (before ++ after) slot → bytes_of now slot ≡ bytes_of spans slot
      stays slot true e once h =
          let same : row.slot ≡ slot = eqb-true row.slot slot e in
          let none : lives now slot ≡ 0 = rw (is, ← same, without_gone spans row.slot) refl in
          absurd (omega arith)
      stays slot false e once h = rw is (without_other spans row.slot slot e)

  -- rows in another order
  pub held_moved : (rows moved : List (Row K R)) (spans : List (ℕ × List ℕ)) → IsPermutation rows moved → AreHeld rows spans → AreHeld moved spans
  held_moved rows moved spans moves held = record {
    once = λ slot. sum_by-IsPermutation (λ (row : Row K R). cond (row.slot == slot) 1 0) rows moved moves ∙ held.once slot;
    total_is = held.total_is ∙ sym (sum_by-IsPermutation (λ (one : Entry K R). length one.bytes) (entries_of spans rows) (entries_of spans moved) (IsPermutation-map (entry_of spans) rows moved moves));
  }

  -- the spans of rows are those of their entries
  pub slots_shown : (spans : List (ℕ × List ℕ)) (rows : List (Row K R)) → ((slot : ℕ) → 1 ≤ count rows slot → (bytes : List ℕ) × (bytes_of spans slot ≡ Some bytes)) →
      map (bytes_of spans) (map (λ (row : Row K R). row.slot) rows) ≡ map (λ (one : Entry K R). Some one.bytes) (entries_of spans rows)
  slots_shown spans [] live = refl
  slots_shown spans (row ∷ rows) live =
      let here = live row.slot (omega (arith, count-own row rows)) in
      rw (here.1, slots_shown spans rows (λ slot h. live slot (omega (arith, count-cons row rows slot)))) refl

  slots_count : (rows : List (Row K R)) (slot : ℕ) → count_by (λ (each : ℕ). each == slot) (map (λ (row : Row K R). row.slot) rows) ≡ count rows slot
  slots_count [] slot = refl
  slots_count (row ∷ rows) slot =
      let rest = slots_count rows slot in
      omega (arith, count-cons row rows slot, sum_by-cons (λ (each : ℕ). cond (each == slot) 1 0) row.slot (map (λ (one : Row K R). one.slot) rows))

  pub spans_of_entries : (rows : List (Row K R)) (spans : List (ℕ × List ℕ)) → AreHeld rows spans → AreSpansOf spans (entries_of spans rows)
  spans_of_entries rows spans held = record {
    slots = map (λ (row : Row K R). row.slot) rows;
    bytes = slots_shown spans rows (live_from_count rows spans held);
    once = λ slot. slots_count rows slot ∙ held.once slot;
  }
