-- A list in the order of its keys, seen by what each element shows.
use Rattle.std.proofs.Common.{◌≡◌, ◌∙◌, ◌∷◌, [], Bool, true, false, cond, List, map, Some, option_map, sym, ap, refl}
use Rattle.std.proofs.lemmas.List.{map-append}
use Rattle.std.specs.Prelude.{filter, find}
use Rattle.std.specs.Ordering.{is_lt, is_gt}
use Rattle.std.specs.declared.cmp.Ordering.{Ordering}
use Rattle.feed_index.specs.Order.{with_one, with_all}

module _ {X Y : Type 0} (show : X → Y) where
  pub filter-map : (p : Y → Bool) (xs : List X) → filter p (map show xs) ≡ map show (filter (λ x. p (show x)) xs)
  filter-map p [] = refl
  filter-map p (x ∷ xs) = by (p (show x)) (filter-map p xs)
    where
      by : (b : Bool) → filter p (map show xs) ≡ map show (filter (λ y. p (show y)) xs) → cond b (show x ∷ filter p (map show xs)) (filter p (map show xs)) ≡ map show (cond b (x ∷ filter (λ y. p (show y)) xs) (filter (λ y. p (show y)) xs))
      by true h = ap (λ (ys : List Y). show x ∷ ys) h
      by false h = h

  pub find-map : (p : Y → Bool) (xs : List X) → find p (map show xs) ≡ option_map show (find (λ x. p (show x)) xs)
  find-map p [] = refl
  find-map p (x ∷ xs) = by (p (show x)) (find-map p xs)
    where
      by : (b : Bool) → find p (map show xs) ≡ option_map show (find (λ y. p (show y)) xs) → cond b (Some (show x)) (find p (map show xs)) ≡ option_map show (cond b (Some x) (find (λ y. p (show y)) xs))
      by true h = refl
      by false h = h

  module _ {K : Type 0} (key_of : Y → K) (cmp : K → K → Ordering) where
    pub one-map : (xs : List X) (x : X) → with_one key_of cmp (map show xs) (show x) ≡ map show (with_one (λ y. key_of (show y)) cmp xs x)
    one-map xs x =
        rw (filter-map (λ y. is_lt (cmp (key_of y) (key_of (show x)))) xs, filter-map (λ y. is_gt (cmp (key_of y) (key_of (show x)))) xs)
        (sym (map-append show _ _))

    pub all-map : (xs more : List X) → with_all key_of cmp (map show xs) (map show more) ≡ map show (with_all (λ y. key_of (show y)) cmp xs more)
    all-map xs [] = refl
    all-map xs (x ∷ more) = ap (λ (ys : List Y). with_all key_of cmp ys (map show more)) (one-map xs x) ∙ all-map (with_one (λ y. key_of (show y)) cmp xs x) more
