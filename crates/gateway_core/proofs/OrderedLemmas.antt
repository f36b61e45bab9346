-- Lists in the order of their keys: one more element at its key, those that pass a test, and how many there are.
use Rattle.std.proofs.Common.{◌≡◌, ◌∙◌, ◌++◌, ◌∷◌, ◌||◌, [], Bool, true, false, cond, List, map, Option, Some, None, ap, sym, refl}
use Rattle.std.proofs.lemmas.Bool.{and_parts}
use Rattle.std.proofs.lemmas.List.Folds.{list_all-append, find-append}
use Rattle.std.specs.Prelude.{find, filter}
use Rattle.std.specs.List.{list_all, list_any}
use Rattle.std.specs.Option.{option_or}
use Rattle.std.specs.Ordering.{is_eq, is_gt, is_lt, ordering_reverse}
use Rattle.std.specs.declared.cmp.Ordering.{Ordering}
use Rattle.std.specs.declared.cmp.Ordering.TheVariants.{Less, Equal, Greater}
use Rattle.feed_index.specs.Order.{above, below, with_one}
use Rattle.gateway_core.specs.Winners.{IsKeyed}
use Rattle.gateway_core.specs.Feeds.{are_ordered_by}

-- ---- what passes a test

pub find_filter : {X : Type 0} (test p : X → Bool) (b : Bool) → ((x : X) → test x ≡ true → p x ≡ b) → (xs : List X)
    → find test (filter p xs) ≡ cond b (find test xs) None
find_filter test p true same [] = refl
find_filter test p false same [] = refl
find_filter {X} test p b same (x ∷ xs) = by (test x) (p x) refl refl (find_filter test p b same xs)
  where
    by : (t c : Bool) → test x ≡ t → p x ≡ c → find test (filter p xs) ≡ cond b (find test xs) None
        → find test (filter p (x ∷ xs)) ≡ cond b (find test (x ∷ xs)) None
    by true true e f rest = rw (f, e, sym (same x e) ∙ f) refl
    by true false e f rest = rw (f, e, rest, sym (same x e) ∙ f) refl
    by false true e f rest = rw (f, e) rest
    by false false e f rest = rw (f, e) rest

pub none_found : {X : Type 0} (test : X → Bool) (xs : List X) → find test xs ≡ None → list_any test xs ≡ false
none_found test [] e = refl
none_found {X} test (x ∷ xs) e = by (test x) (none_found test xs) e
  where
    by : (b : Bool) → (find test xs ≡ None → list_any test xs ≡ false) → cond b (Some x) (find test xs) ≡ None → (b || list_any test xs) ≡ false
    by true rest e = absurd cc
    by false rest e = rest e

pub some_found : {X : Type 0} (test : X → Bool) (xs : List X) (x : X) → find test xs ≡ Some x → list_any test xs ≡ true
some_found test [] x e = absurd cc
some_found {X} test (y ∷ xs) x e = by (test y) (some_found test xs x) e
  where
    by : (b : Bool) → (find test xs ≡ Some x → list_any test xs ≡ true) → cond b (Some y) (find test xs) ≡ Some x → (b || list_any test xs) ≡ true
    by true rest e = refl
    by false rest e = rest e

all_filter : {X : Type 0} (p q : X → Bool) (xs : List X) → list_all q xs ≡ true → list_all q (filter p xs) ≡ true
all_filter p q [] h = refl
all_filter {X} p q (x ∷ xs) h =
    let both = and_parts (q x) (list_all q xs) h in
    by (p x) both.0 (all_filter p q xs both.1)
  where
    by : (b : Bool) → q x ≡ true → list_all q (filter p xs) ≡ true → list_all q (cond b (x ∷ filter p xs) (filter p xs)) ≡ true
    by true e rest = rw (e, rest) refl
    by false e rest = rest

pub map-filter : {X Y : Type 0} (f : X → Y) (p : X → Bool) (q : Y → Bool) → ((x : X) → q (f x) ≡ p x) → (xs : List X)
    → map f (filter p xs) ≡ filter q (map f xs)
map-filter f p q same [] = refl
map-filter {X} {Y} f p q same (x ∷ xs) = by (p x) (same x) (map-filter f p q same xs)
  where
    by : (b : Bool) → q (f x) ≡ b → map f (filter p xs) ≡ filter q (map f xs) → map f (cond b (x ∷ filter p xs) (filter p xs)) ≡ filter q (map f (x ∷ xs))
    by true e rest = rw (e, rest) refl
    by false e rest = rw (e) rest

-- ---- order

module _ {A Q : Type 0} (cmp : Q → Q → Ordering) (key_of : A → Q) (is_its : Q → A → Bool) (is_later : A → A → Bool)
    (keyed : IsKeyed cmp key_of is_its is_later) (comes_before : A → A → Bool)
    (by_key : (a b : A) → comes_before a b ≡ is_lt (cmp (key_of a) (key_of b))) where
  pub ordered_filter : (p : A → Bool) (xs : List A) → are_ordered_by comes_before xs ≡ true → are_ordered_by comes_before (filter p xs) ≡ true
  ordered_filter p [] h = refl
  ordered_filter p (x ∷ xs) h =
      let both = and_parts (list_all (comes_before x) xs) (are_ordered_by comes_before xs) h in
      by (p x) (all_filter p (comes_before x) xs both.0) (ordered_filter p xs both.1)
    where
      by : (b : Bool) → list_all (comes_before x) (filter p xs) ≡ true → are_ordered_by comes_before (filter p xs) ≡ true
          → are_ordered_by comes_before (cond b (x ∷ filter p xs) (filter p xs)) ≡ true
      by true e rest = rw (e, rest) refl
      by false e rest = rest

  joined_ordered : (xs ys : List A) → are_ordered_by comes_before xs ≡ true → are_ordered_by comes_before ys ≡ true
      → list_all (λ x. list_all (comes_before x) ys) xs ≡ true → are_ordered_by comes_before (xs ++ ys) ≡ true
  joined_ordered [] ys h k less = k
  joined_ordered (x ∷ xs) ys h k less =
      let both = and_parts (list_all (comes_before x) xs) (are_ordered_by comes_before xs) h in
      let first = and_parts (list_all (comes_before x) ys) (list_all (λ x. list_all (comes_before x) ys) xs) less in
      rw (list_all-append (comes_before x) xs ys, both.0, first.0, joined_ordered xs ys both.1 k first.1) refl

  is_less : (o : Ordering) → is_lt o ≡ true → o ≡ Less
  is_less Less e = refl
  is_less Equal e = absurd cc
  is_less Greater e = absurd cc

  is_greater : (o : Ordering) → is_gt o ≡ true → o ≡ Greater
  is_greater Less e = absurd cc
  is_greater Equal e = absurd cc
  is_greater Greater e = refl

  is_equal : (o : Ordering) → is_eq o ≡ true → o ≡ Equal
  is_equal Less e = absurd cc
  is_equal Equal e = refl
  is_equal Greater e = absurd cc

  after_all : (a one : A) (xs : List A) → is_lt (cmp (key_of a) (key_of one)) ≡ true
      → list_all (comes_before a) (above key_of cmp (key_of one) xs) ≡ true
  after_all a one [] less = refl
  after_all a one (x ∷ xs) less = by (is_gt (cmp (key_of x) (key_of one))) refl (after_all a one xs less)
    where
      by : (b : Bool) → is_gt (cmp (key_of x) (key_of one)) ≡ b → list_all (comes_before a) (above key_of cmp (key_of one) xs) ≡ true
          → list_all (comes_before a) (cond b (x ∷ above key_of cmp (key_of one) xs) (above key_of cmp (key_of one) xs)) ≡ true
      by true e rest =
          let up : cmp (key_of one) (key_of x) ≡ Less =
          keyed.total.antisymm (key_of one) (key_of x) ∙ ap ordering_reverse (is_greater (cmp (key_of x) (key_of one)) e) in
          let down : cmp (key_of a) (key_of x) ≡ Less =
          keyed.total.trans (key_of a) (key_of one) (key_of x) (is_less (cmp (key_of a) (key_of one)) less) up in
          let first : comes_before a x ≡ true = by_key a x ∙ ap is_lt down in
          rw (first, rest) refl
      by false e rest = rest

  all_below : (one : A) (xs ys : List A) → list_all (λ x. list_all (comes_before x) (one ∷ above key_of cmp (key_of one) ys)) (below key_of cmp (key_of one) xs) ≡ true
  all_below one [] ys = refl
  all_below one (x ∷ xs) ys = by (is_lt (cmp (key_of x) (key_of one))) refl (all_below one xs ys)
    where
      by : (b : Bool) → is_lt (cmp (key_of x) (key_of one)) ≡ b
          → list_all (λ x. list_all (comes_before x) (one ∷ above key_of cmp (key_of one) ys)) (below key_of cmp (key_of one) xs) ≡ true
          → list_all (λ x. list_all (comes_before x) (one ∷ above key_of cmp (key_of one) ys)) (cond b (x ∷ below key_of cmp (key_of one) xs) (below key_of cmp (key_of one) xs)) ≡ true
      by true e rest =
          let first : comes_before x one ≡ true = by_key x one ∙ e in
          rw (first, after_all x one ys e, rest) refl
      by false e rest = rest

  all_above : (one : A) (xs : List A) → list_all (comes_before one) (above key_of cmp (key_of one) xs) ≡ true
  all_above one [] = refl
  all_above one (x ∷ xs) = by (is_gt (cmp (key_of x) (key_of one))) refl (all_above one xs)
    where
      by : (b : Bool) → is_gt (cmp (key_of x) (key_of one)) ≡ b → list_all (comes_before one) (above key_of cmp (key_of one) xs) ≡ true
          → list_all (comes_before one) (cond b (x ∷ above key_of cmp (key_of one) xs) (above key_of cmp (key_of one) xs)) ≡ true
      by true e rest =
          let up : cmp (key_of one) (key_of x) ≡ Less =
          keyed.total.antisymm (key_of one) (key_of x) ∙ ap ordering_reverse (is_greater (cmp (key_of x) (key_of one)) e) in
          let first : comes_before one x ≡ true = by_key one x ∙ ap is_lt up in
          rw (first, rest) refl
      by false e rest = rest

  -- with one more at its key
  pub put_ordered : (xs : List A) (one : A) → are_ordered_by comes_before xs ≡ true → are_ordered_by comes_before (with_one key_of cmp xs one) ≡ true
  put_ordered xs one h =
      let back : are_ordered_by comes_before (one ∷ above key_of cmp (key_of one) xs) ≡ true =
      (rw (all_above one xs, ordered_filter (λ x. is_gt (cmp (key_of x) (key_of one))) xs h) refl) in
      joined_ordered (below key_of cmp (key_of one) xs) (one ∷ above key_of cmp (key_of one) xs)
      (ordered_filter (λ x. is_lt (cmp (key_of x) (key_of one))) xs h) back (all_below one xs xs)

  pub of_key : (q : Q) (a : A) → is_its q a ≡ true → q ≡ key_of a
  of_key q a its = keyed.same q (key_of a) (is_equal (cmp q (key_of a)) (sym (keyed.its q a) ∙ its))

  or_none : (found : Option A) → option_or found None ≡ found
  or_none None = refl
  or_none (Some one) = refl

  pub find_put : (xs : List A) (one : A) (q : Q) → find (is_its q) (with_one key_of cmp xs one) ≡ cond (is_its q one) (Some one) (find (is_its q) xs)
  find_put xs one q =
      find-append (is_its q) (below key_of cmp (key_of one) xs) (one ∷ above key_of cmp (key_of one) xs) ∙ by (cmp q (key_of one)) refl (is_its q one) refl
    where
      passes : (t : Ordering → Bool) (x : A) (o : Ordering) → cmp q (key_of one) ≡ o → is_its q x ≡ true → t (cmp (key_of x) (key_of one)) ≡ t o
      passes t x o e its = ap (λ (key : Q). t (cmp key (key_of one))) (sym (of_key q x its)) ∙ ap t e

      low : (o : Ordering) → cmp q (key_of one) ≡ o → find (is_its q) (below key_of cmp (key_of one) xs) ≡ cond (is_lt o) (find (is_its q) xs) None
      low o e = find_filter (is_its q) (λ x. is_lt (cmp (key_of x) (key_of one))) (is_lt o) (λ x its. passes is_lt x o e its) xs

      high : (o : Ordering) → cmp q (key_of one) ≡ o → find (is_its q) (above key_of cmp (key_of one) xs) ≡ cond (is_gt o) (find (is_its q) xs) None
      high o e = find_filter (is_its q) (λ x. is_gt (cmp (key_of x) (key_of one))) (is_gt o) (λ x its. passes is_gt x o e its) xs

      by : (o : Ordering) → cmp q (key_of one) ≡ o → (b : Bool) → is_its q one ≡ b
          → option_or (find (is_its q) (below key_of cmp (key_of one) xs)) (cond (is_its q one) (Some one) (find (is_its q) (above key_of cmp (key_of one) xs)))
          ≡ cond (is_its q one) (Some one) (find (is_its q) xs)
      by Equal e b f =
          let its : is_its q one ≡ true = keyed.its q one ∙ ap is_eq e in
          rw (low Equal e, its) refl
      by Less e b f =
          let its : is_its q one ≡ false = keyed.its q one ∙ ap is_eq e in
          rw (low Less e, high Less e, its) (or_none (find (is_its q) xs))
      by Greater e b f =
          let its : is_its q one ≡ false = keyed.its q one ∙ ap is_eq e in
          rw (low Greater e, high Greater e, its) refl

  -- entries of what is in order
  module _ {E : Type 0} (entry : A → E) (key_in : E → Q) (its_key : (a : A) → key_in (entry a) ≡ key_of a) where
    pub map-put : (xs : List A) (one : A) → map entry (with_one key_of cmp xs one) ≡ with_one key_in cmp (map entry xs) (entry one)
    map-put xs one =
        map-joined (below key_of cmp (key_of one) xs) (one ∷ above key_of cmp (key_of one) xs)
        ∙ ap (λ (low : List E). low ++ map entry (one ∷ above key_of cmp (key_of one) xs)) (part is_lt)
        ∙ ap (λ (high : List E). below key_in cmp (key_in (entry one)) (map entry xs) ++ entry one ∷ high) (part is_gt)
      where
        map-joined : (xs ys : List A) → map entry (xs ++ ys) ≡ map entry xs ++ map entry ys
        map-joined [] ys = refl
        map-joined (x ∷ xs) ys = ap (λ (rest : List E). entry x ∷ rest) (map-joined xs ys)

        part : (t : Ordering → Bool) → map entry (filter (λ x. t (cmp (key_of x) (key_of one))) xs) ≡ filter (λ x. t (cmp (key_in x) (key_in (entry one)))) (map entry xs)
        part t =
            map-filter entry (λ x. t (cmp (key_of x) (key_of one))) (λ x. t (cmp (key_in x) (key_in (entry one)))) (λ x.
            ap (λ (key : Q). t (cmp key (key_in (entry one)))) (its_key x) ∙ ap (λ (key : Q). t (cmp (key_of x) key)) (its_key one)) xs
