-- Two neighbouring parts of a list exchanged, and a list's last element.
use Rattle.std.proofs.Common.{◌≡◌, ◌∙◌, ◌++◌, ◌∷◌, [], ◌<◌, ◌+◌, ◌-◌, ℕ, List, length, take, drop, sym, ap, refl, arith, append_assoc, length-append}
use Rattle.std.proofs.lemmas.List.{take_at, drop_at}
use borrow.Rule.Slice.PartMut.{put_mid, mid_of}

module _ {X : Type 0} where
  mid_is : (A B C D : List X) (at k : ℕ) → length A ≡ at → k ≡ length (B ++ C) → mid_of at k (A ++ (B ++ (C ++ D))) ≡ B ++ C
  mid_is A B C D at k a e =
      rw (drop_at A (B ++ (C ++ D)) at a, ← append_assoc B C D) (take_at (B ++ C) D k (sym e))

  pub turned : (A B C D : List X) (rows part : List X) (at front end : ℕ) → rows ≡ A ++ (B ++ (C ++ D)) → length A ≡ at → length A + length B ≡ front → length A + length B + length C ≡ end →
      part ≡ drop (front - at) (mid_of at (end - at) rows) ++ take (front - at) (mid_of at (end - at) rows) → put_mid at (end - at) rows part ≡ A ++ (C ++ (B ++ D))
  turned A B C D rows part at front end is a b e turn =
      let both : end - at ≡ length (B ++ C) = omega (arith, length-append B C) in
      let one : length B ≡ front - at = omega arith in
      let mid : mid_of at (end - at) rows ≡ B ++ C = ap (mid_of at (end - at)) is ∙ mid_is A B C D at (end - at) a both in
      let now : part ≡ C ++ B = turn ∙ rw (mid, drop_at B C (front - at) one, take_at B C (front - at) one) refl in
      let rest : drop (end - at) (drop at rows) ≡ D = rw (is, drop_at A (B ++ (C ++ D)) at a, ← append_assoc B C D) (drop_at (B ++ C) D (end - at) (sym both)) in
      let low : take at rows ≡ A = ap (take at) is ∙ take_at A (B ++ (C ++ D)) at a in
      rw (low, now, rest) (ap (λ (ys : List X). A ++ ys) (append_assoc C B D))

  -- the last element
  pub last_of : (xs : List X) → 0 < length xs → (front : List X) × (x : X) × (xs ≡ front ++ x ∷ [])
  last_of [] h = absurd (omega arith)
  last_of (x ∷ []) h = ([], x, refl)
  last_of (x ∷ y ∷ xs) h = let rest = last_of (y ∷ xs) (omega arith) in (x ∷ rest.0, rest.1, ap (λ (ys : List X). x ∷ ys) rest.2)
