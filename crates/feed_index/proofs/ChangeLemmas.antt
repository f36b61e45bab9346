-- The rows of an index and its pool after a row came, took another one's place, or went.
use Rattle.std.proofs.Common.{◌≡◌, ◌∙◌, ◌++◌, ◌∷◌, [], ◌+◌, ◌-◌, ◌<◌, ◌≤◌, ℕ, zero, suc, List, length, take, drop, set, get_or, Some, None, option_map, IsSome, unwrap_or, sym, ap, refl, subst, arith, append_assoc}
use Rattle.std.proofs.lemmas.List.{append-nil, drop_all, length-drop, length-map, length-take-le, set_split, take-append-drop, take-take, take-map, drop-map}
use Rattle.std.proofs.lemmas.List.Edits.{remove-append_right}
use Rattle.std.specs.Prelude.{insert, remove, slice_get}
use Rattle.span_pool.specs.Spans.{bytes_of, without, live_bytes}
use Rattle.feed_index.specs.declared.entry.Entry.{Entry}
use Rattle.feed_index.specs.declared.row.Row.{Row}
use Rattle.feed_index.specs.Rows.{AreHeld, entries_of, entry_of}
use Rattle.feed_index.proofs.HeldLemmas.{added, entries-append, gone, own_is_live}
use Rattle.feed_index.proofs.RisingLemmas.{split_at}

module _ {K R : Type 0} where
  -- rows of which each slot is live show these entries
  pub record Shows (rows : List (Row K R)) (spans : List (ℕ × List ℕ)) (entries : List (Entry K R)) : Type 0 where
    pub held : AreHeld rows spans
    pub entries_are : entries_of spans rows ≡ entries

  -- a row comes
  pub inserted : (rows : List (Row K R)) (spans now : List (ℕ × List ℕ)) (at : ℕ) (row : Row K R) (bytes : List ℕ) →
      AreHeld rows spans → bytes_of spans row.slot ≡ None → now ≡ spans ++ (row.slot, bytes) ∷ [] → live_bytes now ≡ live_bytes spans + length bytes →
      Shows (insert rows at row) now (insert (entries_of spans rows) at (record { key = row.key; value = row.value; bytes = bytes }))
  inserted rows spans now at row bytes held none is more =
      let P : List (Row K R) → Type 0 = λ all. AreHeld all spans in
      let one = added (take at rows) row (drop at rows) spans now bytes (subst P (sym (take-append-drop at rows)) held) none is more in
      record {
        held = one.held;
        entries_are = entries-append now (take at rows) (row ∷ drop at rows) ∙ rw (one.front, one.back, one.own, take-map (entry_of spans) at rows, drop-map (entry_of spans) at rows) refl;
      }

  -- a row goes
  pub taken : (rows : List (Row K R)) (spans now : List (ℕ × List ℕ)) (at : ℕ) (old : Row K R) → at < length rows → old ≡ get_or rows at old →
      AreHeld rows spans → now ≡ without spans old.slot → live_bytes spans ≡ live_bytes now + length (unwrap_or (bytes_of spans old.slot) []) →
      Shows (remove rows at) now (remove (entries_of spans rows) at)
  taken rows spans now at old within is_old held is less =
      let parts = split_at rows at within in
      let same : parts.0 ≡ old = sym (parts.2 old) ∙ sym is_old in
      let P : List (Row K R) → Type 0 = λ all. AreHeld all spans in
      let Q : Row K R → Type 0 = λ one. AreHeld (take at rows ++ one ∷ drop (suc at) rows) spans in
      let one = gone (take at rows) old (drop (suc at) rows) spans now (subst Q same (subst P parts.1 held)) is less in
      record {
        held = one.held;
        entries_are = entries-append now (take at rows) (drop (suc at) rows) ∙ rw (one.front, one.back, take-map (entry_of spans) at rows, drop-map (entry_of spans) (suc at) rows) refl;
      }

  same_rest : (x y : Entry K R) (xs ys : List (Entry K R)) → x ∷ xs ≡ y ∷ ys → xs ≡ ys
  same_rest x y xs ys h = cc

  -- a row takes the place of another one: the new one's span is put before the old one's is given back
  pub record Joined (rows : List (Row K R)) (spans mid : List (ℕ × List ℕ)) (at : ℕ) (old row : Row K R) (bytes : List ℕ) : Type 0 where
    pub held : AreHeld ((take at rows ++ row ∷ []) ++ old ∷ drop (suc at) rows) mid
    pub front : entries_of mid (take at rows) ≡ take at (entries_of spans rows)
    pub back : entries_of mid (drop (suc at) rows) ≡ drop (suc at) (entries_of spans rows)
    pub own : bytes_of mid row.slot ≡ Some bytes

  pub joined : (rows : List (Row K R)) (spans mid : List (ℕ × List ℕ)) (at : ℕ) (old row : Row K R) (bytes : List ℕ) → at < length rows → old ≡ get_or rows at old →
      AreHeld rows spans → bytes_of spans row.slot ≡ None → mid ≡ spans ++ (row.slot, bytes) ∷ [] → live_bytes mid ≡ live_bytes spans + length bytes →
      Joined rows spans mid at old row bytes
  joined rows spans mid at old row bytes within is_old held none is more =
      let parts = split_at rows at within in
      let same : parts.0 ≡ old = sym (parts.2 old) ∙ sym is_old in
      let P : List (Row K R) → Type 0 = λ all. AreHeld all spans in
      let Q : Row K R → Type 0 = λ one. AreHeld (take at rows ++ one ∷ drop (suc at) rows) spans in
      let one = added (take at rows) row (old ∷ drop (suc at) rows) spans mid bytes (subst Q same (subst P parts.1 held)) none is more in
      let S : List (Row K R) → Type 0 = λ all. AreHeld all mid in
      record {
        held = subst S (sym (append_assoc (take at rows) (row ∷ []) (old ∷ drop (suc at) rows))) one.held;
        front = one.front ∙ sym (take-map (entry_of spans) at rows);
        back = same_rest (entry_of mid old) (entry_of spans old) _ _ one.back ∙ sym (drop-map (entry_of spans) (suc at) rows);
        own = one.own;
      }

  pub exchanged : (rows : List (Row K R)) (spans mid now : List (ℕ × List ℕ)) (at : ℕ) (old row : Row K R) (bytes : List ℕ) → at < length rows →
      Joined rows spans mid at old row bytes → now ≡ without mid old.slot → live_bytes mid ≡ live_bytes now + length (unwrap_or (bytes_of mid old.slot) []) →
      Shows (set rows at row) now (set (entries_of spans rows) at (record { key = row.key; value = row.value; bytes = bytes }))
  exchanged rows spans mid now at old row bytes within two gone_is less =
      let one = gone (take at rows ++ row ∷ []) old (drop (suc at) rows) mid now two.held gone_is less in
      let S : List (Row K R) → Type 0 = λ all. AreHeld all now in
      let new : Entry K R = record { key = row.key; value = row.value; bytes = bytes } in
      let whole : set rows at row ≡ (take at rows ++ row ∷ []) ++ drop (suc at) rows = set_split rows at row within ∙ sym (append_assoc (take at rows) (row ∷ []) (drop (suc at) rows)) in
      let longer : at < length (entries_of spans rows) = rw (length-map rows (entry_of spans)) within in
      record {
        held = subst S (sym whole) one.held;
        entries_are =
            ap (entries_of now) whole
            ∙ entries-append now (take at rows ++ row ∷ []) (drop (suc at) rows)
            ∙ rw (one.front, one.back, entries-append mid (take at rows) (row ∷ []), two.front, two.back, two.own)
            (append_assoc (take at (entries_of spans rows)) (new ∷ []) (drop (suc at) (entries_of spans rows)) ∙ sym (set_split (entries_of spans rows) at new longer));
      }

  pub is_live_then : (rows : List (Row K R)) (spans mid : List (ℕ × List ℕ)) (at : ℕ) (old row : Row K R) (bytes : List ℕ) →
      Joined rows spans mid at old row bytes → IsSome (bytes_of mid old.slot)
  is_live_then rows spans mid at old row bytes two = own_is_live (take at rows ++ row ∷ []) old (drop (suc at) rows) mid two.held

  -- the value of a row that was read
  pub value_is : (rows : List (Row K R)) (at : ℕ) (old : Row K R) → at < length rows → old ≡ get_or rows at old → option_map (λ (row : Row K R). row.value) (slice_get rows at) ≡ Some old.value
  value_is [] at old within is_old = absurd (omega arith)
  value_is (row ∷ rows) zero old within is_old = ap (λ (one : Row K R). Some one.value) (sym is_old)
  value_is (row ∷ rows) (suc at) old within is_old = value_is rows at old (omega arith) is_old

-- the last of the rows that go
pub cut_more : {X : Type 0} (xs : List X) (n i : ℕ) → i < n → n ≤ length xs → remove (drop n xs ++ take (n - i) xs) (length xs - i - 1) ≡ drop n xs ++ take (n - (i + 1)) xs
cut_more xs n i lt le =
    let k = n - (i + 1) in
    let first : length (drop n xs) ≡ length xs - n = length-drop n xs in
    let right : length xs - n ≤ length xs - i - 1 = omega arith in
    let place : length xs - i - 1 - (length xs - n) ≡ k = omega arith in
    let more : n - i ≡ suc k = omega arith in
    let short : length (take (suc k) xs) ≤ suc k = omega (arith, length-take-le (suc k) xs (omega arith)) in
    remove-append_right (drop n xs) (take (n - i) xs) (length xs - n) (length xs - i - 1) first right
    ∙ rw (place, more, take-take k (suc k) xs (omega arith), drop_all (suc k) (take (suc k) xs) short) (ap (λ (ys : List _). drop n xs ++ ys) (append-nil (take k xs)))
