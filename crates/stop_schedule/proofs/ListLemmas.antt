-- Lists of what belongs to ids, of which one changes.
use Rattle.std.proofs.Common.{◌≡◌, ◌∙◌, ◌+◌, ℕ, zero, suc, Bool, true, false, not, List, [], ◌∷◌, ◌++◌, length, map, set, slice_get, Some, refl, ap, sym, arith}
use Rattle.std.specs.List.{enumerate_from, list_all}
use Rattle.std.specs.Cmp.Derive.{both_true}
use Rattle.std.specs.Str.{bytes_eq}
use Rattle.std.proofs.lemmas.Bool.{false≢true}
use Rattle.timetable.specs.Ids.{are_distinct, has_id}
use Rattle.timetable.proofs.IdLemmas.{and-left, and-right, has-at, lacked}

module _ {A : Type 0} (f g : List ℕ → A) (id : List ℕ)
    (others : (other : List ℕ) → bytes_eq id other ≡ false → f other ≡ g other) where
  -- what belongs to ids of which this is none stays
  map-lacking : (ids : List (List ℕ)) → not (has_id id ids) ≡ true → map f ids ≡ map g ids
  map-lacking [] lacks = refl
  map-lacking (first ∷ ids) lacks = by (map-lacking ids) (bytes_eq id first) refl
    where
      by : (not (has_id id ids) ≡ true → map f ids ≡ map g ids) → (b : Bool) → bytes_eq id first ≡ b
          → map f (first ∷ ids) ≡ map g (first ∷ ids)
      by rest true e = absurd (false≢true (rw e at lacks))
      by rest false e =
          let later : not (has_id id ids) ≡ true = rw e at lacks in
          ap (λ head. head ∷ map f ids) (others first e) ∙ ap (λ tail. g first ∷ tail) (rest later)

  -- what belongs to the id at a place changes alone
  pub set-one : (ids : List (List ℕ)) (place : ℕ) (value : A) → are_distinct ids ≡ true
      → slice_get ids place ≡ Some id → value ≡ g id → set (map f ids) place value ≡ map g ids
  set-one [] place value distinct at is = cc
  set-one (first ∷ ids) zero value distinct at is =
      let same : first ≡ id = cc in
      let lacks : not (has_id id ids) ≡ true = rw (← same) (and-left _ _ distinct) in
      ap (λ head. head ∷ map f ids) (is ∙ ap g (sym same)) ∙ ap (λ rest. g first ∷ rest) (map-lacking ids lacks)
  set-one (first ∷ ids) (suc place) value distinct at is =
      let other : bytes_eq id first ≡ false = lacked first id ids (and-left _ _ distinct) (has-at ids place id at) in
      ap (λ head. head ∷ set (map f ids) place value) (others first other)
      ∙ ap (λ rest. g first ∷ rest) (set-one ids place value (and-right _ _ distinct) at is)

pub list_all-set : {A : Type 0} (test : A → Bool) (xs : List A) (place : ℕ) (value : A) → list_all test xs ≡ true
    → test value ≡ true → list_all test (set xs place value) ≡ true
list_all-set test [] place value all one = refl
list_all-set test (x ∷ xs) zero value all one = both_true one (and-right (test x) _ all)
list_all-set test (x ∷ xs) (suc place) value all one =
    both_true (and-left (test x) _ all) (list_all-set test xs place value (and-right (test x) _ all) one)

pub enumerate-after : {A : Type 0} (n : ℕ) (xs : List A) (x : A)
    → enumerate_from n (xs ++ x ∷ []) ≡ enumerate_from n xs ++ (n + length xs, x) ∷ []
enumerate-after n [] x = ap (λ k. (k, x) ∷ []) (let e : n ≡ n + 0 = omega arith in e)
enumerate-after n (y ∷ xs) x =
    ap (λ rest. (n, y) ∷ rest)
    (enumerate-after (n + 1) xs x
    ∙ ap (λ k. enumerate_from (n + 1) xs ++ (k, x) ∷ [])
    (let e : n + 1 + length xs ≡ n + suc (length xs) = omega arith in e))
