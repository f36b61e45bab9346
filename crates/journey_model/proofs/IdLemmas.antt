-- Ids that are distinct, by their places.
use Rattle.std.proofs.Common.{◌≡◌, ℕ, zero, suc, ◌<◌, List, [], ◌∷◌, length, get_or, position, bytes_eq, Bool, true, false, not, IsUtf8, arith, lt-ltb, refl, sym, ap, ◌∙◌, Some}
use Rattle.std.specs.List.{list_all, list_any}
use Rattle.std.proofs.lemmas.Bool.{and_parts, or_parts, not-true, leb-true, true≢false}
use Rattle.std.proofs.lemmas.List.Sums.{position_or_len_is}
use Rattle.std.proofs.lemmas.Slice.Eq.{bytes_eq-Decides}
use Rattle.std.proofs.lemmas.Str.{IsUtf8-from_is_utf8}
use Rattle.timetable.specs.Ids.{are_distinct, are_ids, has_id, is_id}

-- a test of all passes at each position, and a test of none fails there
pub all-at : {A : Type 0} (test : A → Bool) (xs : List A) (i : ℕ) (d : A) → list_all test xs ≡ true → i < length xs → test (get_or xs i d) ≡ true
all-at test [] i d h less = absurd (omega arith)
all-at test (x ∷ xs) zero d h less = (and_parts (test x) (list_all test xs) h).0
all-at test (x ∷ xs) (suc i) d h less = all-at test xs i d (and_parts (test x) (list_all test xs) h).1 (omega arith)

none-at : {A : Type 0} (test : A → Bool) (xs : List A) (i : ℕ) (d : A) → list_any test xs ≡ false → i < length xs → test (get_or xs i d) ≡ false
none-at test [] i d h less = absurd (omega arith)
none-at test (x ∷ xs) zero d h less = (or_parts (test x) (list_any test xs) h).0
none-at test (x ∷ xs) (suc i) d h less = none-at test xs i d (or_parts (test x) (list_any test xs) h).1 (omega arith)

pub same-bytes : (xs : List ℕ) → bytes_eq xs xs ≡ true
same-bytes xs = (bytes_eq-Decides xs xs).1 refl

other-bytes : (xs ys : List ℕ) → bytes_eq xs ys ≡ false → bytes_eq ys xs ≡ false
other-bytes xs ys h = by (bytes_eq ys xs) refl
  where
    by : (b : Bool) → bytes_eq ys xs ≡ b → b ≡ false
    by false e = refl
    by true e =
        let same : ys ≡ xs = (bytes_eq-Decides ys xs).0 e in
        absurd (true≢false (sym (same-bytes xs) ∙ ap (bytes_eq xs) (sym same) ∙ h))

-- of distinct ids a later one is none of those before
apart : (ids : List (List ℕ)) (k i : ℕ) → are_distinct ids ≡ true → k < i → i < length ids → bytes_eq (get_or ids i []) (get_or ids k []) ≡ false
apart [] k i h before less = absurd (omega arith)
apart (id ∷ ids) k zero h before less = absurd (omega arith)
apart (id ∷ ids) zero (suc i) h before less =
    let none = not-true (has_id id ids) (and_parts (not (has_id id ids)) (are_distinct ids) h).0 in
    other-bytes id (get_or ids i []) (none-at (bytes_eq id) ids i [] none (omega arith))
apart (id ∷ ids) (suc k) (suc i) h before less =
    apart ids k i (and_parts (not (has_id id ids)) (are_distinct ids) h).1 (omega arith) (omega arith)

-- an id is found at its own position
pub position-id : (ids : List (List ℕ)) (at : ℕ) → are_ids ids ≡ true → at < length ids → position (bytes_eq (get_or ids at [])) ids ≡ Some at
position-id ids at h less =
    let distinct = (and_parts (list_all is_id ids) (are_distinct ids) h).1 in
    let here = position_or_len_is (bytes_eq (get_or ids at [])) ids at [] (omega arith) (λ k before. apart ids k at distinct before less) (λ in-list. same-bytes (get_or ids at [])) in
    rw (here, lt-ltb at (length ids) less) refl

-- it isn't empty, and UTF-8
pub some-id : (id : List ℕ) → is_id id ≡ true → 0 < length id
some-id id h = let lens = and_parts _ _ (and_parts _ _ h).0 in let one = leb-true 1 (length id) lens.0 in omega arith

pub IsUtf8-id : (id : List ℕ) → is_id id ≡ true → IsUtf8 id
IsUtf8-id id h = IsUtf8-from_is_utf8 id (and_parts _ _ h).1

pub id-at : (ids : List (List ℕ)) (position : ℕ) → are_ids ids ≡ true → position < length ids → is_id (get_or ids position []) ≡ true
id-at ids position h less = all-at is_id ids position [] (and_parts (list_all is_id ids) (are_distinct ids) h).0 less
