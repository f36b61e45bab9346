-- A list in strict order is the only sorted list of its elements.
use Rattle.std.proofs.Common.{◌≡◌, ◌∙◌, ◌≤◌, ◌<◌, ◌+◌, ◌∷◌, [], ℕ, suc, Bool, true, false, cond, List, length, get_or, ◌⊎◌, inl, inr, refl, sym, ap, subst, arith}
use Rattle.std.proofs.lemmas.Bool.{false≢true}
use Rattle.std.proofs.lemmas.List.Elements.{All-from_recursion, recursion_from_All}
use Rattle.std.proofs.lemmas.List.Sorted.{All-permutation, sorted_far, sum_by-IsPermutation}
use Rattle.std.proofs.lemmas.List.Sums.{sum_by-cons}
use Rattle.std.specs.Cmp.{IsStrictWeakOrder}
use Rattle.std.specs.List.{AllByRecursion, sum_by}
use Rattle.std.specs.List.Sorted.{IsPermutation, IsSortedBy}

-- how many pass a test
abbrev pub count : {X : Type 0} → (X → Bool) → List X → ℕ
count p [] = 0
count p (x ∷ xs) = cond (p x) 1 0 + count p xs

pub count_is : {X : Type 0} (p : X → Bool) (xs : List X) → count p xs ≡ sum_by (λ x. cond (p x) 1 0) xs
count_is p [] = refl
count_is {X} p (x ∷ xs) =
    ap (λ n. cond (p x) 1 0 + n) (count_is p xs) ∙ sym (sum_by-cons (λ (y : X). cond (p y) 1 0) x xs)

-- one is among a list
abbrev pub Among : {X : Type 0} → List X → X → Type 0
Among [] z = ⊥
Among (x ∷ xs) z = (z ≡ x) ⊎ Among xs z

-- each of a list is among it
later_among : {X : Type 0} (x : X) (xs ys : List X) → AllByRecursion (Among xs) ys → AllByRecursion (Among (x ∷ xs)) ys
later_among x xs [] among = tt
later_among x xs (y ∷ ys) among = (inr among.0, later_among x xs ys among.1)

all_among : {X : Type 0} (xs : List X) → AllByRecursion (Among xs) xs
all_among [] = tt
all_among (x ∷ xs) = (inl refl, later_among x xs xs (all_among xs))

none_pass : {X : Type 0} (p : X → Bool) (xs : List X) → count p xs ≡ 0 → AllByRecursion (λ z. p z ≡ false) xs
none_pass p [] none = tt
none_pass {X} p (x ∷ xs) none = by (p x) refl none (none_pass p xs)
  where
    by : (b : Bool) → p x ≡ b → cond b 1 0 + count p xs ≡ 0 → (count p xs ≡ 0 → AllByRecursion (λ z. p z ≡ false) xs)
        → AllByRecursion (λ z. p z ≡ false) (x ∷ xs)
    by true is none rest = absurd (omega arith)
    by false is none rest = (is, rest (omega arith))

all_fail : {X : Type 0} (p : X → Bool) (xs : List X) → AllByRecursion (λ z. p z ≡ false) xs → count p xs ≡ 0
all_fail p [] fail = refl
all_fail p (x ∷ xs) fail = let none = all_fail p xs fail.1 in rw fail.0 (omega arith)

of_one : {X : Type 0} (P : X → Type 0) (xs : List X) (z : X) → AllByRecursion P xs → Among xs z → P z
of_one P [] z all among = absurd among
of_one P (x ∷ xs) z all (inl is) = subst P (sym is) all.0
of_one P (x ∷ xs) z all (inr later) = of_one P xs z all.1 later

-- one that is another fails a test that the other passes
not_itself : {X : Type 0} (p : X → Bool) (x : X) (xs zs : List X) → p x ≡ true → AllByRecursion (λ z. p z ≡ false) zs
    → AllByRecursion (Among (x ∷ xs)) zs → AllByRecursion (Among xs) zs
not_itself p x xs [] passes fail among = tt
not_itself {X} p x xs (z ∷ zs) passes fail among = (by among.0, not_itself p x xs zs passes fail.1 among.1)
  where
    by : (z ≡ x) ⊎ Among xs z → Among xs z
    by (inl is) = absurd (false≢true (sym fail.0 ∙ ap p is ∙ passes))
    by (inr later) = later

-- each stands before those that follow; and none that follows stands before it
abbrev pub IsStrict : {X : Type 0} → (X → X → Bool) → List X → Type 0
IsStrict before [] = Unit {0}
IsStrict before (x ∷ xs) = AllByRecursion (λ y. before x y ≡ true) xs × IsStrict before xs

abbrev pub IsRising : {X : Type 0} → (X → X → Bool) → List X → Type 0
IsRising before [] = Unit {0}
IsRising before (x ∷ xs) = AllByRecursion (λ y. before y x ≡ false) xs × IsRising before xs

-- a sorted list rises
none_before : {X : Type 0} (before : X → X → Bool) (x : X) (xs : List X) → ((k : ℕ) → k < length xs → before (get_or xs k x) x ≡ false)
    → AllByRecursion (λ y. before y x ≡ false) xs
none_before before x [] far = tt
none_before before x (y ∷ ys) far = (far 0 (omega arith), none_before before x ys (λ k lt. far (suc k) (omega arith)))

rises : {X : Type 0} (before : X → X → Bool) (xs : List X)
    → ((i j : ℕ) (d : X) → i ≤ j → j < length xs → before (get_or xs j d) (get_or xs i d) ≡ false) → IsRising before xs
rises before [] far = tt
rises before (x ∷ xs) far =
    (none_before before x xs (λ k lt. far 0 (suc k) x (omega arith) (omega arith)), rises before xs (λ i j d le lt. far (suc i) (suc j) d (omega arith) (omega arith)))

pub sorted_rises : {X : Type 0} (before : X → X → Bool) → IsStrictWeakOrder before → (xs : List X) → IsSortedBy before xs → IsRising before xs
sorted_rises before order xs sorted = rises before xs (sorted_far before order xs sorted)

module _ {X : Type 0} (before same : X → X → Bool) (self : (x : X) → same x x ≡ true)
    (apart : (x y : X) → before x y ≡ true → same x y ≡ false)
    (moved : (x y z : X) → same x z ≡ true → before x y ≡ true → before z y ≡ true) where
  -- those after one are apart from it
  all_apart : (x : X) (xs : List X) → AllByRecursion (λ y. before x y ≡ true) xs → AllByRecursion (λ y. same x y ≡ false) xs
  all_apart x [] after = tt
  all_apart x (y ∷ ys) after = (apart x y after.0, all_apart x ys after.1)

  -- one before y isn't the same as any that follows y
  all_other : (x y : X) (zs : List X) → before x y ≡ true → AllByRecursion (λ z. before z y ≡ false) zs → AllByRecursion (λ z. same x z ≡ false) zs
  all_other x y [] first rising = tt
  all_other x y (z ∷ zs) first rising = (by (same x z) refl, all_other x y zs first rising.1)
    where
      by : (b : Bool) → same x z ≡ b → same x z ≡ false
      by true is = absurd (false≢true (sym rising.0 ∙ moved x y z is first))
      by false is = is

  one_list : (xs ys : List X) → IsStrict before xs → IsRising before ys → AllByRecursion (Among xs) ys → ((p : X → Bool) → count p ys ≡ count p xs) → ys ≡ xs
  one_list [] [] strict rising among alike = refl
  one_list [] (y ∷ ys) strict rising among alike = absurd among.0
  one_list (x ∷ xs) [] strict rising among alike = absurd (let none = alike (λ y. true) in omega arith)
  one_list (x ∷ xs) (y ∷ ys) strict rising among alike = by among.0 (one_list xs ys strict.1 rising.1)
    where
      counts : y ≡ x → (p : X → Bool) → count p ys ≡ count p xs
      counts is p = omega (arith, alike p, ap (λ (z : X). cond {A = ℕ} (p z) 1 0) is)

      by : (y ≡ x) ⊎ Among xs y → (AllByRecursion (Among xs) ys → ((p : X → Bool) → count p ys ≡ count p xs) → ys ≡ xs) → y ∷ ys ≡ x ∷ xs
      by (inl is) rest =
          let others = none_pass (same x) ys (counts is (same x) ∙ all_fail (same x) xs (all_apart x xs strict.0)) in
          ap (λ (z : X). z ∷ ys) is ∙ ap (λ (zs : List X). x ∷ zs) (rest (not_itself (same x) x xs ys (self x) others among.1) (counts is))
      by (inr later) rest =
          let first : before x y ≡ true = of_one (λ (z : X). before x z ≡ true) xs y strict.0 later in
          let none : count (same x) ys ≡ 0 = all_fail (same x) ys (all_other x y ys first rising.0) in
          absurd (omega (
            arith,
            none,
            alike (same x),
            ap (λ (b : Bool). cond {A = ℕ} b 1 0) (apart x y first),
            ap (λ (b : Bool). cond {A = ℕ} b 1 0) (self x),
          ))

  -- a sorted list of the elements of a list in strict order is that list
  pub only_order : (xs ys : List X) → IsStrict before xs → IsRising before ys → IsPermutation xs ys → ys ≡ xs
  only_order xs ys strict rising turned =
      one_list xs ys strict rising (recursion_from_All (Among xs) ys (All-permutation (Among xs) xs ys turned (All-from_recursion (Among xs) xs (all_among xs))))
      (λ p. count_is p ys ∙ sum_by-IsPermutation (λ x. cond (p x) 1 0) xs ys turned ∙ sym (count_is p xs))
