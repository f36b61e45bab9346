-- Lists in the order of their keys: their parts, and where a search in them ends.
use Rattle.std.proofs.Common.{◌≡◌, ◌∙◌, ◌++◌, ◌∷◌, [], ℕ, zero, ◌<◌, ◌≤◌, ◌+◌, suc, Bool, List, length, get_or, take, drop, Some, None, sym, ap, refl, subst, arith}
use Rattle.std.proofs.lemmas.Cmp.{alike_right}
use Rattle.std.proofs.lemmas.List.{append-nil, get_or-take, get_or-drop, take-append-drop, length-take-le, length-drop}
use Rattle.std.proofs.lemmas.List.Elements.{recursion_from_All, filter-append}
use Rattle.std.proofs.lemmas.List.Kept.{IsStrictlySortedBy-filter}
use Rattle.std.proofs.lemmas.List.Sorted.{searchable_from_sorted}
use Rattle.std.proofs.lemmas.Map.Keys.{Less-from_sorted}
use Rattle.std.specs.Prelude.{filter, find}
use Rattle.std.specs.Cmp.{IsTotalOrder}
use Rattle.std.specs.List.{AllByRecursion, HoldsAt}
use Rattle.std.specs.List.Sorted.{IsStrictlySortedBy, IsNonDecreasingBy, IsPartitionPoint}
use Rattle.std.specs.Ordering.{is_lt, is_gt, is_eq, ordering_index}
use Rattle.std.specs.declared.cmp.Ordering.{Ordering}
use Rattle.std.specs.declared.cmp.Ordering.TheVariants.{Less, Equal, Greater}
use Rattle.gw_base.proofs.Elements.{all_append}
use Rattle.feed_index.specs.Order.{AreRising, below, above, with_one, with_all}
use Rattle.feed_index.proofs.OrderLemmas.{AreBelow, AreAbove, each_weaker, each_front, each_back, each_passes, filter_all, filter_none, is_less, is_greater, turned_less, turned_greater}

-- a list at an index
pub split_at : {X : Type 0} (xs : List X) (i : ℕ) → i < length xs → (x : X) × (xs ≡ take i xs ++ x ∷ drop (suc i) xs) × ((d : X) → get_or xs i d ≡ x)
split_at [] i h = absurd (omega arith)
split_at (x ∷ xs) zero h = (x, refl, λ d. refl)
split_at (x ∷ xs) (suc i) h =
    let rest = split_at xs i (omega arith) in
    (rest.0, ap (λ (ys : List _). x ∷ ys) rest.1, rest.2)

module _ {K X : Type 0} (key_of : X → K) {cmp : K → K → Ordering} (o : IsTotalOrder cmp) where
  -- ---- parts of a rising list

  rising_joined : (k : K) (xs ys : List X) → AreRising key_of cmp xs → AreRising key_of cmp ys → AreBelow key_of o k xs → AreAbove key_of o k ys → AreRising key_of cmp (xs ++ ys)
  unfolding IsStrictlySortedBy
  rising_joined k [] ys h e low high = e
  rising_joined k (x ∷ xs) ys h e low high = (
    all_append (λ y. cmp (key_of x) (key_of y) ≡ Less) xs ys h.0 (each_weaker _ _ (λ y g. o.trans (key_of x) k (key_of y) low.0 (turned_greater o (key_of y) k g)) ys high),
    rising_joined k xs ys h.1 e low.1 high,
  )

  pub rising_round : (xs : List X) (x : X) (ys : List X) → AreRising key_of cmp xs → AreRising key_of cmp ys → AreBelow key_of o (key_of x) xs → AreAbove key_of o (key_of x) ys → AreRising key_of cmp (xs ++ x ∷ ys)
  unfolding IsStrictlySortedBy
  rising_round [] x ys h e low high = (each_weaker _ _ (λ y g. turned_greater o (key_of y) (key_of x) g) ys high, e)
  rising_round (w ∷ xs) x ys h e low high = (
    all_append (λ y. cmp (key_of w) (key_of y) ≡ Less) xs (x ∷ ys) h.0 (low.0, each_weaker _ _ (λ y g. o.trans (key_of w) (key_of x) (key_of y) low.0 (turned_greater o (key_of y) (key_of x) g)) ys high),
    rising_round xs x ys h.1 e low.1 high,
  )

  pub record Parts (xs : List X) (x : X) (ys : List X) : Type 0 where
    pub front : AreRising key_of cmp xs
    pub back : AreRising key_of cmp ys
    pub low : AreBelow key_of o (key_of x) xs
    pub high : AreAbove key_of o (key_of x) ys

  pub rising_parts : (xs : List X) (x : X) (ys : List X) → AreRising key_of cmp (xs ++ x ∷ ys) → Parts xs x ys
  unfolding IsStrictlySortedBy
  rising_parts [] x ys h = record { front = tt; back = h.1; low = tt; high = each_weaker _ _ (λ y e. turned_less o (key_of x) (key_of y) e) ys h.0 }
  rising_parts (w ∷ xs) x ys h =
      let rest = rising_parts xs x ys h.1 in
      let ends : AllByRecursion (λ y. cmp (key_of w) (key_of y) ≡ Less) (x ∷ ys) = each_back _ xs (x ∷ ys) h.0 in
      record { front = (each_front _ xs (x ∷ ys) h.0, rest.front); back = rest.back; low = (ends.0, rest.low); high = rest.high }

  pub rising_filter : (p : X → Bool) (xs : List X) → AreRising key_of cmp xs → AreRising key_of cmp (filter p xs)
  rising_filter p xs h = IsStrictlySortedBy-filter _ p xs h

  pub low_parts : (k : K) (xs : List X) → AreBelow key_of o k (below key_of cmp k xs)
  low_parts k xs = each_weaker _ _ (λ y e. is_less _ e) _ (each_passes (λ y. is_lt (cmp (key_of y) k)) xs)

  pub high_parts : (k : K) (xs : List X) → AreAbove key_of o k (above key_of cmp k xs)
  high_parts k xs = each_weaker _ _ (λ y e. is_greater _ e) _ (each_passes (λ y. is_gt (cmp (key_of y) k)) xs)

  pub rising_one : (xs : List X) (x : X) → AreRising key_of cmp xs → AreRising key_of cmp (with_one key_of cmp xs x)
  rising_one xs x h = rising_round _ x _ (rising_filter _ xs h) (rising_filter _ xs h) (low_parts (key_of x) xs) (high_parts (key_of x) xs)

  pub rising_all : (xs more : List X) → AreRising key_of cmp xs → AreRising key_of cmp (with_all key_of cmp xs more)
  rising_all xs [] h = h
  rising_all xs (x ∷ more) h = rising_all (with_one key_of cmp xs x) more (rising_one xs x h)

  pub rising_without : (k : K) (xs : List X) → AreRising key_of cmp xs → AreRising key_of cmp (below key_of cmp k xs ++ above key_of cmp k xs)
  rising_without k xs h = rising_joined k _ _ (rising_filter _ xs h) (rising_filter _ xs h) (low_parts k xs) (high_parts k xs)

  pub rising_front : (xs ys : List X) → AreRising key_of cmp (xs ++ ys) → AreRising key_of cmp xs
  unfolding IsStrictlySortedBy
  rising_front [] ys h = tt
  rising_front (x ∷ xs) ys h = (each_front _ xs ys h.0, rising_front xs ys h.1)

  pub rising_back : (xs ys : List X) → AreRising key_of cmp (xs ++ ys) → AreRising key_of cmp ys
  unfolding IsStrictlySortedBy
  rising_back [] ys h = h
  rising_back (x ∷ xs) ys h = rising_back xs ys h.1

  pub rising_drop : (n : ℕ) (xs : List X) → AreRising key_of cmp xs → AreRising key_of cmp (drop n xs)
  rising_drop n xs h = let P : List X → Type 0 = λ ys. AreRising key_of cmp ys in rising_back (take n xs) (drop n xs) (subst P (sym (take-append-drop n xs)) h)

  pub rising_take : (n : ℕ) (xs : List X) → AreRising key_of cmp xs → AreRising key_of cmp (take n xs)
  rising_take n xs h = let P : List X → Type 0 = λ ys. AreRising key_of cmp ys in rising_front (take n xs) (drop n xs) (subst P (sym (take-append-drop n xs)) h)

  -- ---- where a search ends

  -- what a search by a key says of a rising list
  pub searchable : (k : K) (xs : List X) → AreRising key_of cmp xs → IsNonDecreasingBy (λ y. ordering_index (cmp (key_of y) k)) xs
  searchable k xs h = searchable_from_sorted o key_of xs k
      (λ i d lo lt. ap is_lt (turned_less o _ _ (Less-from_sorted (λ a b. cmp (key_of a) (key_of b)) xs i (i + 1) d h (omega arith) lt)))

  -- the parts of a list round an element of this key, and at the place where it would stand
  pub parts_at : (k : K) (xs : List X) (x : X) (ys : List X) → AreRising key_of cmp (xs ++ x ∷ ys) → cmp (key_of x) k ≡ Equal →
      (below key_of cmp k (xs ++ x ∷ ys) ≡ xs) × (above key_of cmp k (xs ++ x ∷ ys) ≡ ys)
  parts_at k xs x ys h e =
      let parts = rising_parts xs x ys h in
      let same : (y : X) → cmp (key_of y) (key_of x) ≡ cmp (key_of y) k = λ y. alike_right o (key_of x) k (key_of y) e in
      let low : AreBelow key_of o k xs = each_weaker _ _ (λ y g. sym (same y) ∙ g) xs parts.low in
      let high : AreAbove key_of o k ys = each_weaker _ _ (λ y g. sym (same y) ∙ g) ys parts.high in (
        filter-append _ xs (x ∷ ys) ∙ rw (e, filter_all (λ y. is_lt (cmp (key_of y) k)) xs (each_weaker _ _ (λ y g. ap is_lt g) xs low), filter_none (λ y. is_lt (cmp (key_of y) k)) ys (each_weaker _ _ (λ y g. ap is_lt g) ys high)) (append-nil xs),
        filter-append _ xs (x ∷ ys) ∙ rw (e, filter_none (λ y. is_gt (cmp (key_of y) k)) xs (each_weaker _ _ (λ y g. ap is_gt g) xs low), filter_all (λ y. is_gt (cmp (key_of y) k)) ys (each_weaker _ _ (λ y g. ap is_gt g) ys high)) refl,
      )

  pub parts_between : (k : K) (xs ys : List X) → AreBelow key_of o k xs → AreAbove key_of o k ys →
      (below key_of cmp k (xs ++ ys) ≡ xs) × (above key_of cmp k (xs ++ ys) ≡ ys)
  parts_between k xs ys low high = (
    filter-append _ xs ys ∙ rw (filter_all (λ y. is_lt (cmp (key_of y) k)) xs (each_weaker _ _ (λ y g. ap is_lt g) xs low), filter_none (λ y. is_lt (cmp (key_of y) k)) ys (each_weaker _ _ (λ y g. ap is_lt g) ys high)) (append-nil xs),
    filter-append _ xs ys ∙ rw (filter_none (λ y. is_gt (cmp (key_of y) k)) xs (each_weaker _ _ (λ y g. ap is_gt g) xs low), filter_all (λ y. is_gt (cmp (key_of y) k)) ys (each_weaker _ _ (λ y g. ap is_gt g) ys high)) refl,
  )

  -- the same by index
  pub found_at : (k : K) (xs : List X) (i : ℕ) → AreRising key_of cmp xs → i < length xs → HoldsAt (λ y. cmp (key_of y) k ≡ Equal) xs i →
      (below key_of cmp k xs ≡ take i xs) × (above key_of cmp k xs ≡ drop (suc i) xs)
  found_at k xs i h lt e =
      let at = split_at xs i lt in
      let P : List X → Type 0 = λ ys. AreRising key_of cmp ys in
      let Q : List X → Type 0 = λ ys. (below key_of cmp k ys ≡ take i xs) × (above key_of cmp k ys ≡ drop (suc i) xs) in
      let here : cmp (key_of at.0) k ≡ Equal = ap (λ (y : X). cmp (key_of y) k) (sym (at.2 at.0)) ∙ e at.0 in
      subst Q (sym at.1) (parts_at k (take i xs) at.0 (drop (suc i) xs) (subst P at.1 h) here)

  pub gap_at : (k : K) (xs : List X) (i : ℕ) → i ≤ length xs → IsPartitionPoint (λ y. cmp (key_of y) k ≡ Less) (λ y. cmp (key_of y) k ≡ Greater) xs i →
      (below key_of cmp k xs ≡ take i xs) × (above key_of cmp k xs ≡ drop i xs)
  gap_at k xs i le point =
      let Q : List X → Type 0 = λ ys. (below key_of cmp k ys ≡ take i xs) × (above key_of cmp k ys ≡ drop i xs) in
      let low : AreBelow key_of o k (take i xs) = recursion_from_All _ (take i xs) (λ j d lt. let within : j < i = omega (arith, length-take-le i xs le) in rw (get_or-take i xs j d within) (point.0 j d (omega arith) within)) in
      let high : AreAbove key_of o k (drop i xs) = recursion_from_All _ (drop i xs) (λ j d lt. rw (get_or-drop i xs j d) (point.1 (i + j) d (omega arith) (omega (arith, length-drop i xs)))) in
      subst Q (take-append-drop i xs) (parts_between k (take i xs) (drop i xs) low high)

  -- ---- the element of a key

  none_below : (k : K) (xs ys : List X) → AreBelow key_of o k xs → find (λ y. is_eq (cmp (key_of y) k)) (xs ++ ys) ≡ find (λ y. is_eq (cmp (key_of y) k)) ys
  none_below k [] ys low = refl
  none_below k (x ∷ xs) ys low = rw (low.0) (none_below k xs ys low.1)

  none_above : (k : K) (xs : List X) → AreAbove key_of o k xs → find (λ y. is_eq (cmp (key_of y) k)) xs ≡ None
  none_above k [] high = refl
  none_above k (x ∷ xs) high = rw (high.0) (none_above k xs high.1)

  pub find_at : (k : K) (xs : List X) (x : X) (ys : List X) → AreRising key_of cmp (xs ++ x ∷ ys) → cmp (key_of x) k ≡ Equal →
      find (λ y. is_eq (cmp (key_of y) k)) (xs ++ x ∷ ys) ≡ Some x
  find_at k xs x ys h e =
      let parts = rising_parts xs x ys h in
      none_below k xs (x ∷ ys) (each_weaker _ _ (λ y g. sym (alike_right o (key_of x) k (key_of y) e) ∙ g) xs parts.low) ∙ rw e refl

  pub find_gap : (k : K) (xs : List X) → below key_of cmp k xs ++ above key_of cmp k xs ≡ xs → find (λ y. is_eq (cmp (key_of y) k)) xs ≡ None
  find_gap k xs h =
      let P : List X → Type 0 = λ ys. find (λ y. is_eq (cmp (key_of y) k)) ys ≡ None in
      subst P h (none_below k (below key_of cmp k xs) (above key_of cmp k xs) (low_parts k xs) ∙ none_above k (above key_of cmp k xs) (high_parts k xs))

pub rising_none : {K X : Type 0} (key_of : X → K) (cmp : K → K → Ordering) → AreRising key_of cmp []
unfolding IsStrictlySortedBy
rising_none key_of cmp = tt
