-- Lists in the order of their keys, with one more element and with several.
use Rattle.std.proofs.Common.{◌≡◌, ◌∙◌, ◌++◌, ◌∷◌, [], Bool, true, false, cond, List, sym, ap, refl, append_assoc}
use Rattle.std.proofs.lemmas.Bool.{true≢false}
use Rattle.std.proofs.lemmas.Cmp.{tied_itself, alike_right}
use Rattle.std.proofs.lemmas.List.{append-nil}
use Rattle.std.proofs.lemmas.List.Elements.{filter-append, filter_agree}
use Rattle.std.proofs.lemmas.List.Sums.{fold-append}
use Rattle.std.specs.Prelude.{filter}
use Rattle.std.specs.Cmp.{IsTotalOrder}
use Rattle.std.specs.List.{AllByRecursion}
use Rattle.std.specs.Ordering.{is_lt, is_gt, ordering_reverse}
use Rattle.std.specs.declared.cmp.Ordering.{Ordering}
use Rattle.std.specs.declared.cmp.Ordering.TheVariants.{Less, Equal, Greater}
use Rattle.feed_index.specs.Order.{below, above, with_one, with_all}

-- ---- filters

module _ {X : Type 0} where
  -- one test within another
  keeps : (b c : Bool) (x : X) (p : X → Bool) (ys zs : List X) → (b ≡ p x) → (p x ≡ true → c ≡ true)
      → filter p ys ≡ filter p zs → filter p (cond c (x ∷ ys) ys) ≡ cond b (x ∷ filter p zs) (filter p zs)
  keeps b true x p ys zs e f h = rw (e, h) refl
  keeps true false x p ys zs e f h = absurd (true≢false (sym (f (sym e))))
  keeps false false x p ys zs e f h = h

  pub filter_within : (p q : X → Bool) → ((x : X) → p x ≡ true → q x ≡ true) → (xs : List X) → filter p (filter q xs) ≡ filter p xs
  filter_within p q f [] = refl
  filter_within p q f (x ∷ xs) = keeps (p x) (q x) x p (filter q xs) xs refl (f x) (filter_within p q f xs)

  leaves : (c : Bool) (x : X) (p : X → Bool) (ys : List X) → (c ≡ true → p x ≡ false) → filter p ys ≡ [] → filter p (cond c (x ∷ ys) ys) ≡ []
  leaves true x p ys f h = rw (f refl) h
  leaves false x p ys f h = h

  pub filter_apart : (p q : X → Bool) → ((x : X) → q x ≡ true → p x ≡ false) → (xs : List X) → filter p (filter q xs) ≡ []
  filter_apart p q f [] = refl
  filter_apart p q f (x ∷ xs) = leaves (q x) x p (filter q xs) (f x) (filter_apart p q f xs)

  swaps : (b c : Bool) (x : X) (p q : X → Bool) (ys zs : List X) → b ≡ p x → c ≡ q x → filter p ys ≡ filter q zs
      → filter p (cond c (x ∷ ys) ys) ≡ filter q (cond b (x ∷ zs) zs)
  swaps true true x p q ys zs e f h = rw (← e, ← f, h) refl
  swaps true false x p q ys zs e f h = rw (← f) h
  swaps false true x p q ys zs e f h = rw (← e) h
  swaps false false x p q ys zs e f h = h

  pub filter_comm : (p q : X → Bool) (xs : List X) → filter p (filter q xs) ≡ filter q (filter p xs)
  filter_comm p q [] = refl
  filter_comm p q (x ∷ xs) = swaps (p x) (q x) x p q (filter q xs) (filter p xs) refl refl (filter_comm p q xs)

  pub filter_all : (p : X → Bool) (xs : List X) → AllByRecursion (λ x. p x ≡ true) xs → filter p xs ≡ xs
  filter_all p [] h = refl
  filter_all p (x ∷ xs) h = rw (h.0, filter_all p xs h.1) refl

  pub filter_none : (p : X → Bool) (xs : List X) → AllByRecursion (λ x. p x ≡ false) xs → filter p xs ≡ []
  filter_none p [] h = refl
  filter_none p (x ∷ xs) h = rw (h.0) (filter_none p xs h.1)

  -- what holds of all
  pub each_weaker : (P Q : X → Type 0) → ((x : X) → P x → Q x) → (xs : List X) → AllByRecursion P xs → AllByRecursion Q xs
  each_weaker P Q f [] h = tt
  each_weaker P Q f (x ∷ xs) h = (f x h.0, each_weaker P Q f xs h.1)

  pub each_front : (P : X → Type 0) (xs ys : List X) → AllByRecursion P (xs ++ ys) → AllByRecursion P xs
  each_front P [] ys h = tt
  each_front P (x ∷ xs) ys h = (h.0, each_front P xs ys h.1)

  pub each_back : (P : X → Type 0) (xs ys : List X) → AllByRecursion P (xs ++ ys) → AllByRecursion P ys
  each_back P [] ys h = h
  each_back P (x ∷ xs) ys h = each_back P xs ys h.1

  pub each_passes : (p : X → Bool) (xs : List X) → AllByRecursion (λ x. p x ≡ true) (filter p xs)
  each_passes p [] = tt
  each_passes p (x ∷ xs) = by (p x) refl (each_passes p xs)
    where
      by : (b : Bool) → p x ≡ b → AllByRecursion (λ y. p y ≡ true) (filter p xs) → AllByRecursion (λ y. p y ≡ true) (cond b (x ∷ filter p xs) (filter p xs))
      by true e k = (e, k)
      by false e k = k

-- ---- the answers of an order

pub is_less : (a : Ordering) → is_lt a ≡ true → a ≡ Less
is_less Less e = refl
is_less Equal e = absurd (true≢false (sym e))
is_less Greater e = absurd (true≢false (sym e))

pub is_greater : (a : Ordering) → is_gt a ≡ true → a ≡ Greater
is_greater Less e = absurd (true≢false (sym e))
is_greater Equal e = absurd (true≢false (sym e))
is_greater Greater e = refl

module _ {K : Type 0} {cmp : K → K → Ordering} (o : IsTotalOrder cmp) where
  pub turned_less : (a b : K) → cmp a b ≡ Less → cmp b a ≡ Greater
  turned_less a b h = o.antisymm b a ∙ ap ordering_reverse h

  pub turned_greater : (a b : K) → cmp a b ≡ Greater → cmp b a ≡ Less
  turned_greater a b h = o.antisymm b a ∙ ap ordering_reverse h

  pub greater_trans : (a b c : K) → cmp a b ≡ Greater → cmp b c ≡ Greater → cmp a c ≡ Greater
  greater_trans a b c h k = turned_less c a (o.trans c b a (turned_greater b c k) (turned_greater a b h))

module _ {K X : Type 0} (key_of : X → K) {cmp : K → K → Ordering} (o : IsTotalOrder cmp) where
  abbrev pub IsBelow : K → X → Type 0
  IsBelow key x = cmp (key_of x) key ≡ Less

  abbrev pub IsAbove : K → X → Type 0
  IsAbove key x = cmp (key_of x) key ≡ Greater

  -- ---- parts of parts: a is below b

  pub below_below : (a b : K) → cmp a b ≡ Less → (xs : List X) → below key_of cmp a (below key_of cmp b xs) ≡ below key_of cmp a xs
  below_below a b h xs = filter_within (λ x. is_lt (cmp (key_of x) a)) (λ x. is_lt (cmp (key_of x) b)) (λ x e. ap is_lt (o.trans (key_of x) a b (is_less _ e) h)) xs

  pub above_above : (a b : K) → cmp a b ≡ Less → (xs : List X) → above key_of cmp b (above key_of cmp a xs) ≡ above key_of cmp b xs
  above_above a b h xs = filter_within (λ x. is_gt (cmp (key_of x) b)) (λ x. is_gt (cmp (key_of x) a)) (λ x e. ap is_gt (greater_trans o (key_of x) b a (is_greater _ e) (turned_less o a b h))) xs

  pub below_over : (a b : K) → cmp a b ≡ Less → (xs : List X) → below key_of cmp b (below key_of cmp a xs) ≡ below key_of cmp a xs
  below_over a b h xs = filter_comm _ _ xs ∙ below_below a b h xs

  pub above_over : (a b : K) → cmp a b ≡ Less → (xs : List X) → above key_of cmp a (above key_of cmp b xs) ≡ above key_of cmp b xs
  above_over a b h xs = filter_comm _ _ xs ∙ above_above a b h xs

  pub above_below : (a b : K) → cmp a b ≡ Less → (xs : List X) → above key_of cmp b (below key_of cmp a xs) ≡ []
  above_below a b h xs = filter_apart (λ x. is_gt (cmp (key_of x) b)) (λ x. is_lt (cmp (key_of x) a)) (λ x e. ap is_gt (o.trans (key_of x) a b (is_less _ e) h)) xs

  pub below_above : (a b : K) → cmp a b ≡ Less → (xs : List X) → below key_of cmp a (above key_of cmp b xs) ≡ []
  below_above a b h xs = filter_apart (λ x. is_lt (cmp (key_of x) a)) (λ x. is_gt (cmp (key_of x) b)) (λ x e. ap is_lt (greater_trans o (key_of x) b a (is_greater _ e) (turned_less o a b h))) xs

  -- ---- one more element, and one part

  below_one : (b : K) (x : X) → IsBelow b x → (xs : List X) → below key_of cmp b (with_one key_of cmp xs x) ≡ with_one key_of cmp (below key_of cmp b xs) x
  below_one b x h xs =
      let low = below key_of cmp (key_of x) xs in
      let high = above key_of cmp (key_of x) xs in
      filter-append (λ y. is_lt (cmp (key_of y) b)) low (x ∷ high)
      ∙ rw (h, below_over (key_of x) b h xs, below_below (key_of x) b h xs, filter_comm (λ y. is_lt (cmp (key_of y) b)) (λ y. is_gt (cmp (key_of y) (key_of x))) xs) refl

  above_one : (b : K) (x : X) → IsBelow b x → (xs : List X) → above key_of cmp b (with_one key_of cmp xs x) ≡ above key_of cmp b xs
  above_one b x h xs =
      filter-append (λ y. is_gt (cmp (key_of y) b)) (below key_of cmp (key_of x) xs) (x ∷ above key_of cmp (key_of x) xs)
      ∙ rw (h, above_below (key_of x) b h xs, above_above (key_of x) b h xs) refl

  -- an element takes the place of one of the same key
  below_same : (b : K) (x : X) → cmp (key_of x) b ≡ Equal → (xs : List X) → below key_of cmp b xs ≡ below key_of cmp (key_of x) xs
  below_same b x h xs = filter_agree (λ y. is_lt (cmp (key_of y) b)) (λ y. is_lt (cmp (key_of y) (key_of x))) (λ y. ap is_lt (sym (alike_right o (key_of x) b (key_of y) h))) xs

  above_same : (b : K) (x : X) → cmp (key_of x) b ≡ Equal → (xs : List X) → above key_of cmp b xs ≡ above key_of cmp (key_of x) xs
  above_same b x h xs = filter_agree (λ y. is_gt (cmp (key_of y) b)) (λ y. is_gt (cmp (key_of y) (key_of x))) (λ y. ap is_gt (sym (alike_right o (key_of x) b (key_of y) h))) xs

  below_itself : (x : X) (xs : List X) → below key_of cmp (key_of x) (with_one key_of cmp xs x) ≡ below key_of cmp (key_of x) xs
  below_itself x xs =
      filter-append (λ y. is_lt (cmp (key_of y) (key_of x))) (below key_of cmp (key_of x) xs) (x ∷ above key_of cmp (key_of x) xs)
      ∙ rw (tied_itself o (key_of x), filter_within (λ y. is_lt (cmp (key_of y) (key_of x))) (λ y. is_lt (cmp (key_of y) (key_of x))) (λ y e. e) xs, filter_apart (λ y. is_lt (cmp (key_of y) (key_of x))) (λ y. is_gt (cmp (key_of y) (key_of x))) (λ y e. ap is_lt (is_greater _ e)) xs) (append-nil _)

  above_itself : (x : X) (xs : List X) → above key_of cmp (key_of x) (with_one key_of cmp xs x) ≡ above key_of cmp (key_of x) xs
  above_itself x xs =
      filter-append (λ y. is_gt (cmp (key_of y) (key_of x))) (below key_of cmp (key_of x) xs) (x ∷ above key_of cmp (key_of x) xs)
      ∙ rw (tied_itself o (key_of x), filter_apart (λ y. is_gt (cmp (key_of y) (key_of x))) (λ y. is_lt (cmp (key_of y) (key_of x))) (λ y e. ap is_gt (is_less _ e)) xs, filter_within (λ y. is_gt (cmp (key_of y) (key_of x))) (λ y. is_gt (cmp (key_of y) (key_of x))) (λ y e. e) xs) refl

  -- of two elements of one key the later counts
  pub later_counts : (xs : List X) (x y : X) → cmp (key_of x) (key_of y) ≡ Equal → with_one key_of cmp (with_one key_of cmp xs x) y ≡ with_one key_of cmp xs y
  later_counts xs x y h =
      rw (below_same (key_of y) x h (with_one key_of cmp xs x), above_same (key_of y) x h (with_one key_of cmp xs x), below_itself x xs, above_itself x xs, ← below_same (key_of y) x h xs, ← above_same (key_of y) x h xs) refl

  -- the mirrored parts
  below_one_above : (a : K) (y : X) → IsAbove a y → (xs : List X) → below key_of cmp a (with_one key_of cmp xs y) ≡ below key_of cmp a xs
  below_one_above a y h xs =
      let lt = turned_greater o (key_of y) a h in
      filter-append (λ z. is_lt (cmp (key_of z) a)) (below key_of cmp (key_of y) xs) (y ∷ above key_of cmp (key_of y) xs)
      ∙ rw (h, below_below a (key_of y) lt xs, below_above a (key_of y) lt xs) (append-nil _)

  above_one_above : (a : K) (y : X) → IsAbove a y → (xs : List X) → above key_of cmp a (with_one key_of cmp xs y) ≡ with_one key_of cmp (above key_of cmp a xs) y
  above_one_above a y h xs =
      let lt = turned_greater o (key_of y) a h in
      filter-append (λ z. is_gt (cmp (key_of z) a)) (below key_of cmp (key_of y) xs) (y ∷ above key_of cmp (key_of y) xs)
      ∙ rw (h, above_over a (key_of y) lt xs, above_above a (key_of y) lt xs, filter_comm (λ z. is_gt (cmp (key_of z) a)) (λ z. is_lt (cmp (key_of z) (key_of y))) xs) refl

  -- two elements in either order
  pub either_order : (xs : List X) (x y : X) → IsBelow (key_of y) x → with_one key_of cmp (with_one key_of cmp xs x) y ≡ with_one key_of cmp (with_one key_of cmp xs y) x
  either_order xs x y h =
      rw (
        below_one (key_of y) x h xs,
        above_one (key_of y) x h xs,
        below_below (key_of x) (key_of y) h xs,
        below_one_above (key_of x) y (turned_less o (key_of x) (key_of y) h) xs,
        above_one_above (key_of x) y (turned_less o (key_of x) (key_of y) h) xs,
        above_above (key_of x) (key_of y) h xs,
        filter_comm (λ z. is_gt (cmp (key_of z) (key_of x))) (λ z. is_lt (cmp (key_of z) (key_of y))) xs,
      )
      (append_assoc (below key_of cmp (key_of x) xs) _ _)

  -- ---- several more elements

  abbrev pub AreBelow : K → List X → Type 0
  AreBelow key xs = AllByRecursion (λ x. cmp (key_of x) key ≡ Less) xs

  abbrev pub AreAbove : K → List X → Type 0
  AreAbove key xs = AllByRecursion (λ x. cmp (key_of x) key ≡ Greater) xs

  below_all : (b : K) (xs more : List X) → AreBelow b more → below key_of cmp b (with_all key_of cmp xs more) ≡ with_all key_of cmp (below key_of cmp b xs) more
  below_all b xs [] h = refl
  below_all b xs (x ∷ more) h = below_all b (with_one key_of cmp xs x) more h.1 ∙ ap (λ (ys : List X). with_all key_of cmp ys more) (below_one b x h.0 xs)

  above_all : (b : K) (xs more : List X) → AreBelow b more → above key_of cmp b (with_all key_of cmp xs more) ≡ above key_of cmp b xs
  above_all b xs [] h = refl
  above_all b xs (x ∷ more) h = above_all b (with_one key_of cmp xs x) more h.1 ∙ above_one b x h.0 xs

  -- elements behind one that stay behind it
  after_one : (low : List X) (b : X) (high : List X) (x : X) → AreBelow (key_of b) low → IsAbove (key_of b) x →
      with_one key_of cmp (low ++ b ∷ high) x ≡ low ++ b ∷ with_one key_of cmp high x
  after_one low b high x h k =
      let lt : cmp (key_of b) (key_of x) ≡ Less = turned_greater o (key_of x) (key_of b) k in
      let front : AllByRecursion (λ y. is_lt (cmp (key_of y) (key_of x)) ≡ true) low = each_weaker _ _ (λ y e. ap is_lt (o.trans (key_of y) (key_of b) (key_of x) e lt)) low h in
      let back : AllByRecursion (λ y. is_gt (cmp (key_of y) (key_of x)) ≡ false) low = each_weaker _ _ (λ y e. ap is_gt (o.trans (key_of y) (key_of b) (key_of x) e lt)) low h in
      rw (
        filter-append (λ y. is_lt (cmp (key_of y) (key_of x))) low (b ∷ high),
        filter-append (λ y. is_gt (cmp (key_of y) (key_of x))) low (b ∷ high),
        filter_all (λ y. is_lt (cmp (key_of y) (key_of x))) low front,
        filter_none (λ y. is_gt (cmp (key_of y) (key_of x))) low back,
        lt,
      )
      (append_assoc low _ _)

  after_all : (low : List X) (b : X) (high more : List X) → AreBelow (key_of b) low → AreAbove (key_of b) more →
      with_all key_of cmp (low ++ b ∷ high) more ≡ low ++ b ∷ with_all key_of cmp high more
  after_all low b high [] h k = refl
  after_all low b high (x ∷ more) h k = ap (λ (ys : List X). with_all key_of cmp ys more) (after_one low b high x h k.0) ∙ after_all low b (with_one key_of cmp high x) more h k.1

  -- elements in two parts round one
  pub all_round : (xs before : List X) (b : X) (after : List X) → AreBelow (key_of b) before → AreAbove (key_of b) after →
      with_all key_of cmp xs (before ++ b ∷ after) ≡ with_all key_of cmp (below key_of cmp (key_of b) xs) before ++ b ∷ with_all key_of cmp (above key_of cmp (key_of b) xs) after
  all_round xs before b after h k =
      let mid = with_all key_of cmp xs before in
      let low : AreBelow (key_of b) (below key_of cmp (key_of b) mid) = each_weaker _ _ (λ y e. is_less _ e) _ (each_passes (λ y. is_lt (cmp (key_of y) (key_of b))) mid) in
      fold-append (with_one key_of cmp) xs before (b ∷ after)
      ∙ after_all (below key_of cmp (key_of b) mid) b (above key_of cmp (key_of b) mid) after low k
      ∙ rw (below_all (key_of b) xs before h, above_all (key_of b) xs before h) refl
