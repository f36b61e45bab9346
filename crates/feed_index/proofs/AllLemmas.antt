-- Lists in the order of their keys: several elements and one more, how many there are then, and what a key finds.
use Rattle.std.proofs.Common.{◌≡◌, ◌∙◌, ◌++◌, ◌∷◌, [], ◌+◌, ℕ, Bool, true, false, cond, List, length, Option, Some, None, sym, ap, refl, subst, arith, append_assoc}
use Rattle.std.proofs.lemmas.Bool.{true≢false}
use Rattle.std.proofs.lemmas.Cmp.{alike_right}
use Rattle.std.proofs.lemmas.List.{append-nil}
use Rattle.std.proofs.lemmas.List.Folds.{find-append}
use Rattle.std.proofs.lemmas.List.Sums.{sum_by-append, sum_by-cons}
use Rattle.std.specs.Prelude.{filter, find, is_some, sum_by}
use Rattle.std.specs.Cmp.{IsTotalOrder}
use Rattle.std.specs.List.{AllByRecursion}
use Rattle.std.specs.Option.{option_or}
use Rattle.std.specs.Ordering.{is_eq, is_gt, is_lt, ordering_reverse}
use Rattle.std.specs.declared.cmp.Ordering.{Ordering}
use Rattle.std.specs.declared.cmp.Ordering.TheVariants.{Less, Equal, Greater}
use Rattle.gw_base.proofs.Elements.{all_append, all_filter, or_none}
use Rattle.feed_index.specs.Order.{AreRising, above, below, with_all, with_one}
use Rattle.feed_index.specs.Staged.{AreStaged, IsNew}
use Rattle.feed_index.proofs.OrderLemmas.{AreAbove, each_weaker, either_order, filter_all, filter_none, greater_trans, later_counts, turned_greater, turned_less}
use Rattle.feed_index.proofs.RisingLemmas.{Parts, parts_at, parts_between, rising_one, rising_parts}

module _ {X : Type 0} where
  -- what a test finds among those that pass another one
  find_first : (c : Bool) (p q : X → Bool) (x : X) (xs : List X) → p x ≡ c → ((y : X) → q y ≡ true → p y ≡ true) → find q (filter p xs) ≡ find q xs → find q (cond c (x ∷ filter p xs) (filter p xs)) ≡ cond (q x) (Some x) (find q xs)
  find_first true p q x xs e f h = ap (cond (q x) (Some x)) h
  find_first false p q x xs e f h = by (q x) refl
    where
      by : (b : Bool) → q x ≡ b → find q (filter p xs) ≡ cond b (Some x) (find q xs)
      by true g = absurd (true≢false (sym (f x g) ∙ e))
      by false g = h

  pub find_within : (p q : X → Bool) → ((y : X) → q y ≡ true → p y ≡ true) → (xs : List X) → find q (filter p xs) ≡ find q xs
  find_within p q f [] = refl
  find_within p q f (x ∷ xs) = find_first (p x) p q x xs refl f (find_within p q f xs)

  pub find_apart : (p q : X → Bool) → ((y : X) → q y ≡ true → p y ≡ false) → (xs : List X) → find q (filter p xs) ≡ None
  find_apart p q f [] = refl
  find_apart p q f (x ∷ xs) = by (p x) refl (find_apart p q f xs)
    where
      by : (c : Bool) → p x ≡ c → find q (filter p xs) ≡ None → find q (cond c (x ∷ filter p xs) (filter p xs)) ≡ None
      by false e h = h
      by true e h = passes (q x) refl
        where
          passes : (b : Bool) → q x ≡ b → cond b (Some x) (find q (filter p xs)) ≡ None
          passes true g = absurd (true≢false (sym e ∙ f x g))
          passes false g = h

is_equal : (a : Ordering) → is_eq a ≡ true → a ≡ Equal
is_equal Less e = absurd (true≢false (sym e))
is_equal Equal e = refl
is_equal Greater e = absurd (true≢false (sym e))

pub eq_turned : (a : Ordering) → is_eq (ordering_reverse a) ≡ is_eq a
eq_turned Less = refl
eq_turned Equal = refl
eq_turned Greater = refl

module _ {K X : Type 0} (key_of : X → K) {cmp : K → K → Ordering} (o : IsTotalOrder cmp) where
  -- ---- one more element among several

  -- one whose key is new to others may come before them or after
  pub one_apart : (xs more : List X) (x : X) → IsNew key_of cmp more (key_of x) → with_one key_of cmp (with_all key_of cmp xs more) x ≡ with_all key_of cmp (with_one key_of cmp xs x) more
  one_apart xs [] x new = refl
  one_apart xs (y ∷ more) x new = one_apart (with_one key_of cmp xs y) more x new.1 ∙ ap (λ (ys : List X). with_all key_of cmp ys more) (turns (cmp (key_of y) (key_of x)) refl new.0)
    where
      turns : (r : Ordering) → cmp (key_of y) (key_of x) ≡ r → is_eq (cmp (key_of y) (key_of x)) ≡ false → with_one key_of cmp (with_one key_of cmp xs y) x ≡ with_one key_of cmp (with_one key_of cmp xs x) y
      turns Less e n = either_order key_of o xs y x e
      turns Equal e n = absurd (true≢false (sym (ap is_eq e) ∙ n))
      turns Greater e n = sym (either_order key_of o xs x y (turned_greater o (key_of y) (key_of x) e))

  pub new_above : (k : K) (xs : List X) → AreAbove key_of o k xs → IsNew key_of cmp xs k
  new_above k xs h = each_weaker (λ x. cmp (key_of x) k ≡ Greater) (λ x. is_eq (cmp (key_of x) k) ≡ false) (λ x e. ap is_eq e) xs h

  -- a rising list's first element and one more
  less_first : (y x : X) (ys : List X) → cmp (key_of y) (key_of x) ≡ Less → with_one key_of cmp (y ∷ ys) x ≡ y ∷ with_one key_of cmp ys x
  less_first y x ys e = rw e refl

  equal_first : (y x : X) (ys : List X) → AreRising key_of cmp (y ∷ ys) → cmp (key_of y) (key_of x) ≡ Equal → with_one key_of cmp (y ∷ ys) x ≡ x ∷ ys
  equal_first y x ys h e = let parts = parts_at key_of o (key_of x) [] y ys h e in rw (parts.0, parts.1) refl

  above_equal : (y x : X) (ys : List X) → AreRising key_of cmp (y ∷ ys) → cmp (key_of y) (key_of x) ≡ Equal → AreAbove key_of o (key_of x) ys
  above_equal y x ys h e = each_weaker (λ z. cmp (key_of z) (key_of y) ≡ Greater) (λ z. cmp (key_of z) (key_of x) ≡ Greater) (λ z g. sym (alike_right o (key_of y) (key_of x) (key_of z) e) ∙ g) ys (rising_parts key_of o [] y ys h).high

  above_greater : (y x : X) (ys : List X) → AreRising key_of cmp (y ∷ ys) → cmp (key_of y) (key_of x) ≡ Greater → AreAbove key_of o (key_of x) (y ∷ ys)
  above_greater y x ys h e = (e, each_weaker (λ z. cmp (key_of z) (key_of y) ≡ Greater) (λ z. cmp (key_of z) (key_of x) ≡ Greater) (λ z g. greater_trans o (key_of z) (key_of y) (key_of x) g e) ys (rising_parts key_of o [] y ys h).high)

  greater_first : (y x : X) (ys : List X) → AreRising key_of cmp (y ∷ ys) → cmp (key_of y) (key_of x) ≡ Greater → with_one key_of cmp (y ∷ ys) x ≡ x ∷ y ∷ ys
  greater_first y x ys h e = let parts = parts_between key_of o (key_of x) [] (y ∷ ys) tt (above_greater y x ys h e) in rw (parts.0, parts.1) refl

  -- one more among several is one more after all
  pub all_one : (xs more : List X) (x : X) → AreRising key_of cmp more → with_all key_of cmp xs (with_one key_of cmp more x) ≡ with_one key_of cmp (with_all key_of cmp xs more) x
  all_one xs [] x h = refl
  all_one xs (y ∷ more) x h = by (cmp (key_of y) (key_of x)) refl (all_one (with_one key_of cmp xs y) more x (rising_parts key_of o [] y more h).back)
    where
      by : (r : Ordering) → cmp (key_of y) (key_of x) ≡ r → with_all key_of cmp (with_one key_of cmp xs y) (with_one key_of cmp more x) ≡ with_one key_of cmp (with_all key_of cmp (with_one key_of cmp xs y) more) x →
          with_all key_of cmp xs (with_one key_of cmp (y ∷ more) x) ≡ with_one key_of cmp (with_all key_of cmp xs (y ∷ more)) x
      by Less e more_is = ap (with_all key_of cmp xs) (less_first y x more e) ∙ more_is
      by Equal e more_is = ap (with_all key_of cmp xs) (equal_first y x more h e)
          ∙ ap (λ (ys : List X). with_all key_of cmp ys more) (sym (later_counts key_of o xs y x e))
          ∙ sym (one_apart (with_one key_of cmp xs y) more x (new_above (key_of x) more (above_equal y x more h e)))
      by Greater e more_is = ap (with_all key_of cmp xs) (greater_first y x more h e) ∙ sym (one_apart xs (y ∷ more) x (new_above (key_of x) (y ∷ more) (above_greater y x more h e)))

  -- elements after a rising list
  one_after : (xs : List X) (y : X) (ys : List X) → AreRising key_of cmp (xs ++ y ∷ ys) → with_one key_of cmp xs y ≡ xs ++ y ∷ []
  one_after xs y ys h =
      let low = (rising_parts key_of o xs y ys h).low in
      rw (
        filter_all (λ x. is_lt (cmp (key_of x) (key_of y))) xs (each_weaker (λ x. cmp (key_of x) (key_of y) ≡ Less) (λ x. is_lt (cmp (key_of x) (key_of y)) ≡ true) (λ x e. ap is_lt e) xs low),
        filter_none (λ x. is_gt (cmp (key_of x) (key_of y))) xs (each_weaker (λ x. cmp (key_of x) (key_of y) ≡ Less) (λ x. is_gt (cmp (key_of x) (key_of y)) ≡ false) (λ x e. ap is_gt e) xs low),
      ) refl

  pub all_after : (xs ys : List X) → AreRising key_of cmp (xs ++ ys) → with_all key_of cmp xs ys ≡ xs ++ ys
  all_after xs [] h = sym (append-nil xs)
  all_after xs (y ∷ ys) h =
      let P : List X → Type 0 = λ zs. AreRising key_of cmp zs in
      ap (λ (zs : List X). with_all key_of cmp zs ys) (one_after xs y ys h)
      ∙ all_after (xs ++ y ∷ []) ys (subst P (sym (append_assoc xs (y ∷ []) ys)) h)
      ∙ append_assoc xs (y ∷ []) ys

  -- ---- what a key finds

  abbrev pub found : K → List X → Option X
  found k xs = find (λ y. is_eq (cmp (key_of y) k)) xs

  pub found_new : (k : K) (xs : List X) → IsNew key_of cmp xs k → found k xs ≡ None
  found_new k [] h = refl
  found_new k (x ∷ xs) h = rw (h.0) (found_new k xs h.1)

  pub found_one : (k : K) (xs : List X) (x : X) → found k (with_one key_of cmp xs x) ≡ cond (is_eq (cmp (key_of x) k)) (Some x) (found k xs)
  found_one k xs x = find-append (λ y. is_eq (cmp (key_of y) k)) (below key_of cmp (key_of x) xs) (x ∷ above key_of cmp (key_of x) xs) ∙ by (cmp (key_of x) k) refl
    where
      -- an element of the key k stands to x as k does
      same : (y : X) → is_eq (cmp (key_of y) k) ≡ true → cmp (key_of y) (key_of x) ≡ cmp k (key_of x)
      same y e = o.congr (key_of y) k (key_of x) (is_equal _ e)

      by : (r : Ordering) → cmp (key_of x) k ≡ r →
          option_or (found k (below key_of cmp (key_of x) xs)) (cond (is_eq (cmp (key_of x) k)) (Some x) (found k (above key_of cmp (key_of x) xs))) ≡ cond (is_eq (cmp (key_of x) k)) (Some x) (found k xs)
      by Less e =
          let turned = turned_less o (key_of x) k e in
          rw (
            e,
            find_apart (λ y. is_lt (cmp (key_of y) (key_of x))) (λ y. is_eq (cmp (key_of y) k)) (λ y g. ap is_lt (same y g ∙ turned)) xs,
            find_within (λ y. is_gt (cmp (key_of y) (key_of x))) (λ y. is_eq (cmp (key_of y) k)) (λ y g. ap is_gt (same y g ∙ turned)) xs,
          ) refl
      by Equal e =
          let turned : cmp k (key_of x) ≡ Equal = o.antisymm k (key_of x) ∙ ap ordering_reverse e in
          rw (e, find_apart (λ y. is_lt (cmp (key_of y) (key_of x))) (λ y. is_eq (cmp (key_of y) k)) (λ y g. ap is_lt (same y g ∙ turned)) xs) refl
      by Greater e =
          let turned = turned_greater o (key_of x) k e in
          rw (
            e,
            find_within (λ y. is_lt (cmp (key_of y) (key_of x))) (λ y. is_eq (cmp (key_of y) k)) (λ y g. ap is_lt (same y g ∙ turned)) xs,
            find_apart (λ y. is_gt (cmp (key_of y) (key_of x))) (λ y. is_eq (cmp (key_of y) k)) (λ y g. ap is_gt (same y g ∙ turned)) xs,
          ) (or_none (found k xs))

  pub found_all : (k : K) (xs more : List X) → AreRising key_of cmp more → found k (with_all key_of cmp xs more) ≡ option_or (found k more) (found k xs)
  found_all k xs [] h = refl
  found_all k xs (x ∷ more) h = found_all k (with_one key_of cmp xs x) more parts.back ∙ rw (found_one k xs x) (by (cmp (key_of x) k) refl)
    where
      parts : Parts key_of o [] x more
      parts = rising_parts key_of o [] x more h

      by : (r : Ordering) → cmp (key_of x) k ≡ r → option_or (found k more) (cond (is_eq (cmp (key_of x) k)) (Some x) (found k xs)) ≡ option_or (cond (is_eq (cmp (key_of x) k)) (Some x) (found k more)) (found k xs)
      by Less e = rw e refl
      by Equal e = rw (e, found_new k more (new_above k more (each_weaker (λ y. cmp (key_of y) (key_of x) ≡ Greater) (λ y. cmp (key_of y) k ≡ Greater) (λ y g. sym (alike_right o (key_of x) k (key_of y) e) ∙ g) more parts.high))) refl
      by Greater e = rw e refl

  -- ---- how many there are

  pub length-one : (xs : List X) (x : X) → AreRising key_of cmp xs → length (with_one key_of cmp xs x) ≡ length xs + cond (is_some (found (key_of x) xs)) 0 1
  length-one [] x h = refl
  length-one (y ∷ ys) x h = by (cmp (key_of y) (key_of x)) refl (length-one ys x (rising_parts key_of o [] y ys h).back)
    where
      by : (r : Ordering) → cmp (key_of y) (key_of x) ≡ r → length (with_one key_of cmp ys x) ≡ length ys + cond (is_some (found (key_of x) ys)) 0 1 →
          length (with_one key_of cmp (y ∷ ys) x) ≡ length (y ∷ ys) + cond (is_some (found (key_of x) (y ∷ ys))) 0 1
      by Less e more = ap length (less_first y x ys e) ∙ rw e (omega (arith, more))
      by Equal e more = ap length (equal_first y x ys h e) ∙ rw e (omega arith)
      by Greater e more = ap length (greater_first y x ys h e) ∙ rw (found_new (key_of x) (y ∷ ys) (new_above (key_of x) (y ∷ ys) (above_greater y x ys h e))) (omega arith)

  pub new_to_put : (front : List X) (one : X) (k : K) → is_eq (cmp (key_of one) k) ≡ false → IsNew key_of cmp front k → IsNew key_of cmp (with_one key_of cmp front one) k
  new_to_put front one k apart new =
      all_append (λ x. is_eq (cmp (key_of x) k) ≡ false) _ (one ∷ above key_of cmp (key_of one) front) (all_filter _ _ front new) (apart, all_filter _ _ front new)

  -- an element of the back comes to the front
  staged_rest : (front : List X) (x : X) (back : List X) → AreStaged key_of cmp front (x ∷ back) → AreStaged key_of cmp (with_one key_of cmp front x) back
  staged_rest front x back h =
      let parts = rising_parts key_of o [] x back h.back_rises in
      record { front_rises = rising_one key_of o front x h.front_rises; back_rises = parts.back; apart = both back h.apart.1 parts.high }
    where
      both : (ys : List X) → AllByRecursion (λ y. IsNew key_of cmp front (key_of y)) ys → AreAbove key_of o (key_of x) ys → AllByRecursion (λ y. IsNew key_of cmp (with_one key_of cmp front x) (key_of y)) ys
      both [] h g = tt
      both (y ∷ ys) h g = (new_to_put front x (key_of y) (ap is_eq (turned_greater o (key_of y) (key_of x) g.0)) h.0, both ys h.1 g.1)

  pub length-all : (front back : List X) → AreStaged key_of cmp front back → length (with_all key_of cmp front back) ≡ length front + length back
  length-all front [] h = omega arith
  length-all front (x ∷ back) h =
      let new = ap (λ (it : Option X). length front + cond (is_some it) 0 1) (found_new (key_of x) front h.apart.0) in
      omega (arith, length-all (with_one key_of cmp front x) back (staged_rest front x back h), length-one front x h.front_rises, new)

  -- ---- sums over all

  sum-parts : (f : X → ℕ) (k : K) (xs : List X) → IsNew key_of cmp xs k → sum_by f (below key_of cmp k xs) + sum_by f (above key_of cmp k xs) ≡ sum_by f xs
  sum-parts f k [] h = refl
  sum-parts f k (x ∷ xs) h = by (cmp (key_of x) k) refl h.0 (sum-parts f k xs h.1)
    where
      by : (r : Ordering) → cmp (key_of x) k ≡ r → is_eq (cmp (key_of x) k) ≡ false → sum_by f (below key_of cmp k xs) + sum_by f (above key_of cmp k xs) ≡ sum_by f xs →
          sum_by f (below key_of cmp k (x ∷ xs)) + sum_by f (above key_of cmp k (x ∷ xs)) ≡ sum_by f (x ∷ xs)
      by Less e n more = rw e (omega (arith, more, sum_by-cons f x xs, sum_by-cons f x (below key_of cmp k xs)))
      by Equal e n more = absurd (true≢false (sym (ap is_eq e) ∙ n))
      by Greater e n more = rw e (omega (arith, more, sum_by-cons f x xs, sum_by-cons f x (above key_of cmp k xs)))

  sum-one : (f : X → ℕ) (xs : List X) (x : X) → IsNew key_of cmp xs (key_of x) → sum_by f (with_one key_of cmp xs x) ≡ sum_by f xs + f x
  sum-one f xs x h =
      omega (arith, sum_by-append f (below key_of cmp (key_of x) xs) (x ∷ above key_of cmp (key_of x) xs), sum_by-cons f x (above key_of cmp (key_of x) xs), sum-parts f (key_of x) xs h)

  pub sum-all : (f : X → ℕ) (front back : List X) → AreStaged key_of cmp front back → sum_by f (with_all key_of cmp front back) ≡ sum_by f front + sum_by f back
  sum-all f front [] h = omega arith
  sum-all f front (x ∷ back) h =
      omega (arith, sum-all f (with_one key_of cmp front x) back (staged_rest front x back h), sum-one f front x h.apart.0, sum_by-cons f x back)
