-- A list without the elements that pass a test.
use Rattle.std.proofs.Common.{◌≡◌, ◌∷◌, ◌||◌, ◌<◌, ◌≤◌, [], suc, Bool, true, false, cond, not, List, length, sym, refl, arith}
use Rattle.std.proofs.lemmas.Bool.{true≢false}
use Rattle.std.specs.Prelude.{filter}
use Rattle.std.specs.List.{list_any}

pub no_more : {X : Type 0} (t : X → Bool) (xs : List X) → length (filter (λ x. not (t x)) xs) ≤ length xs
no_more t [] = omega arith
no_more {X} t (x ∷ xs) = by (t x) (no_more t xs)
  where
    by : (b : Bool) → length (filter (λ x. not (t x)) xs) ≤ length xs → length (cond (not b) (x ∷ filter (λ x. not (t x)) xs) (filter (λ x. not (t x)) xs)) ≤ suc (length xs)
    by true h = omega arith
    by false h = omega arith

pub one_goes : {X : Type 0} (t : X → Bool) (xs : List X) → list_any t xs ≡ true → length (filter (λ x. not (t x)) xs) < length xs
one_goes t [] e = absurd (true≢false (sym e))
one_goes {X} t (x ∷ xs) e = by (t x) (no_more t xs) (one_goes t xs) e
  where
    by : (b : Bool) → length (filter (λ x. not (t x)) xs) ≤ length xs → (list_any t xs ≡ true → length (filter (λ x. not (t x)) xs) < length xs) → (b || list_any t xs) ≡ true
        → length (cond (not b) (x ∷ filter (λ x. not (t x)) xs) (filter (λ x. not (t x)) xs)) < suc (length xs)
    by true h rest f = omega arith
    by false h rest f = let lt : length (filter (λ x. not (t x)) xs) < length xs = rest f in omega arith

pub none_left : {X : Type 0} (t p : X → Bool) (xs : List X) → list_any t xs ≡ false → list_any t (filter p xs) ≡ false
none_left t p [] h = refl
none_left {X} t p (x ∷ xs) h = by (t x) (p x) refl (none_left t p xs) h
  where
    by : (b c : Bool) → t x ≡ b → (list_any t xs ≡ false → list_any t (filter p xs) ≡ false) → (b || list_any t xs) ≡ false
        → list_any t (cond c (x ∷ filter p xs) (filter p xs)) ≡ false
    by true c e rest f = absurd (true≢false f)
    by false true e rest f = rw e (rest f)
    by false false e rest f = rest f
