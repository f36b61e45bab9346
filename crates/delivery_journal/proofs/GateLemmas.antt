-- What stands at the gates of a list.
use Rattle.std.proofs.Common.{◌≡◌, ◌≢◌, ℕ, ◌+◌, ◌≤◌, List, [], ◌∷◌, ◌++◌, length, take, drop, Some, None, Ok, refl, sym, ◌∙◌, ap, subst, arith, append_assoc, length-append}
use Rattle.std.proofs.lemmas.List.{drop_at, append-nil, drop-drop}
use Rattle.delivery_journal.specs.declared.header.Header.{Header}
use Rattle.delivery_journal.specs.Kept.{KeptBody, header_of, record_of, kept, size_of, place_after}
use Rattle.delivery_journal.specs.Standing.{IsAtRest, Gives}
use Rattle.delivery_journal.proofs.BlockLemmas.{IsBlock, IsBlocks, whole, body_length}
use Rattle.delivery_journal.proofs.AppendLemmas.{file_parts, kept_found}

record AtGate (size : ℕ) (bytes tail : List ℕ) (first : KeptBody) : Type 0 where
  gate : ℕ
  behind : List ℕ
  split : drop size (bytes ++ tail) ≡ gate ∷ behind
  reads : record_of behind ≡ Some first
  fits : size + 14 + length first.body ≤ length bytes

blocks_length : (bodies : List KeptBody) (front : List ℕ) → IsBlocks bodies front → length front ≡ size_of bodies
blocks_length [] front is = ap length is
blocks_length (first ∷ bodies) front is =
    let b : IsBlock first is.0 is.1.0 = is.1.1.1.1.0 in
    omega (arith, ap length is.1.1.1.0, length-append is.1.0 is.1.1.0, b.size, blocks_length bodies is.1.1.0 is.1.1.1.1.1)

gate_in : (before : List KeptBody) (first : KeptBody) (rest : List KeptBody) (bytes : List ℕ) → IsBlocks (before ++ first ∷ rest) bytes
    → (tail : List ℕ) → AtGate (size_of before) bytes tail first
gate_in [] first rest bytes is tail =
    let block = is.1.0 in
    let later = is.1.1.0 in
    let b : IsBlock first is.0 block = is.1.1.1.1.0 in
    record {
      gate = is.0;
      behind = block ++ (later ++ tail);
      split = ap (λ (l : List ℕ). l ++ tail) is.1.1.1.0 ∙ ap (λ (l : List ℕ). is.0 ∷ l) (append_assoc block later tail);
      reads = b.reads (later ++ tail);
      fits = omega (arith, ap length is.1.1.1.0, length-append block later, b.size);
    }
gate_in (one ∷ before) first rest bytes is tail =
    let block = is.1.0 in
    let later = is.1.1.0 in
    let b : IsBlock one is.0 block = is.1.1.1.1.0 in
    let inner = gate_in before first rest later is.1.1.1.1.1 tail in
    let n = 14 + length one.body in
    let bytes_are : bytes ≡ (is.0 ∷ block) ++ later = is.1.1.1.0 in
    record {
      gate = inner.gate;
      behind = inner.behind;
      split = ap (λ (l : List ℕ). drop (n + size_of before) (l ++ tail)) bytes_are
          ∙ sym (drop-drop (size_of before) n (((is.0 ∷ block) ++ later) ++ tail))
          ∙ ap (λ (l : List ℕ). drop (size_of before) (drop n l)) (append_assoc (is.0 ∷ block) later tail)
          ∙ ap (drop (size_of before)) (drop_at (is.0 ∷ block) (later ++ tail) n (omega (arith, b.size)))
          ∙ inner.split;
      reads = inner.reads;
      fits = omega (arith, ap length bytes_are, length-append (is.0 ∷ block) later, b.size, inner.fits);
    }

module _ (may_leave : List ℕ → Type 0) (end : ℕ) (file : List ℕ) (at_rest : IsAtRest may_leave end file) where
  pub gives_end : (at : ℕ) (before rest : List KeptBody) → kept file ≡ Ok (before ++ rest) → at ≡ place_after before → at ≡ end
      → (read : List ℕ) → Gives rest at None read
  gives_end at before [] is place last read = refl
  gives_end at before (first ∷ rest) is place last read =
      let p = file_parts file (record { bodies = at_rest.bodies; end = end }) at_rest.holds in
      let same : Ok at_rest.bodies ≡ Ok (before ++ first ∷ rest) = sym (kept_found file (record { bodies = at_rest.bodies; end = end }) at_rest.holds) ∙ is in
      let bodies_are : at_rest.bodies ≡ before ++ first ∷ rest = cc in
      let g = gate_in before first rest p.front (subst (λ (l : List KeptBody). IsBlocks l p.front) bodies_are p.blocks) [] in
      absurd (omega (arith, g.fits, p.end, place, last))

  pub gives_next : (at : ℕ) (before rest : List KeptBody) → kept file ≡ Ok (before ++ rest) → at ≡ place_after before → at ≢ end
      → (header : Header) → ((h : Header) → header_of (drop (at + 1) file) ≡ Some h → at + 14 + h.count ≤ end → Some header ≡ Some h)
      → (read : List ℕ) → read ≡ take header.count (drop (at + 14) file)
      → Gives rest at (Some (header.kind, header.moment, at + 14 + header.count)) read
  gives_next at before [] is place other header header_is read read_is =
      let p = file_parts file (record { bodies = at_rest.bodies; end = end }) at_rest.holds in
      let same : Ok at_rest.bodies ≡ Ok (before ++ []) = sym (kept_found file (record { bodies = at_rest.bodies; end = end }) at_rest.holds) ∙ is in
      let bodies_are : at_rest.bodies ≡ before ++ [] = cc in
      let size : length p.front ≡ size_of before = blocks_length at_rest.bodies p.front p.blocks ∙ ap size_of (bodies_are ∙ append-nil before) in
      absurd (other (omega (arith, p.end, size, place)))
  gives_next at before (first ∷ rest) is place other header header_is read read_is =
      let p = file_parts file (record { bodies = at_rest.bodies; end = end }) at_rest.holds in
      let same : Ok at_rest.bodies ≡ Ok (before ++ first ∷ rest) = sym (kept_found file (record { bodies = at_rest.bodies; end = end }) at_rest.holds) ∙ is in
      let bodies_are : at_rest.bodies ≡ before ++ first ∷ rest = cc in
      let g = gate_in before first rest p.front (subst (λ (l : List KeptBody). IsBlocks l p.front) bodies_are p.blocks) (0 ∷ p.rest) in
      let here : drop at file ≡ g.gate ∷ g.behind =
      ap (λ (n : ℕ). drop n file) place ∙ sym (drop-drop (size_of before) 8 file) ∙ ap (λ (l : List ℕ). drop (size_of before) (drop 8 l)) p.split ∙ g.split in
      let behind : drop (at + 1) file ≡ g.behind = sym (drop-drop 1 at file) ∙ ap (drop 1) here in
      let reads : record_of (drop (at + 1) file) ≡ Some first = ap record_of behind ∙ g.reads in
      let w = whole (drop (at + 1) file) first reads in
      let count : length first.body ≡ w.header.count = body_length (drop (at + 1) file) first w in
      let found_is : Some header ≡ Some w.header = header_is w.header w.reads (omega (arith, g.fits, p.end, place, count)) in
      let header_same : header ≡ w.header = cc in
      let bytes : drop 13 (drop (at + 1) file) ≡ drop (at + 14) file = drop-drop 13 (at + 1) file ∙ ap (λ (n : ℕ). drop n file) (omega arith) in
      let kinds : header.kind ≡ first.kind = ap (λ (h : Header). h.kind) header_same ∙ sym (ap (λ (k : KeptBody). k.kind) w.same) in
      let moments : header.moment ≡ first.moment = ap (λ (h : Header). h.moment) header_same ∙ sym (ap (λ (k : KeptBody). k.moment) w.same) in
      let counts : header.count ≡ length first.body = ap (λ (h : Header). h.count) header_same ∙ sym count in (
        (λ i. Some (kinds i, moments i, at + 14 + counts i)),
        read_is ∙ (λ i. take (header_same i).count (sym bytes i)) ∙ sym (ap (λ (k : KeptBody). k.body) w.same),
      )
