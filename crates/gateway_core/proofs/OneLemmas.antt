-- What is rebuilt is one: of all only one counts, and a list in order is known by what is found in it.
use Rattle.std.proofs.Common.{◌≡◌, ◌∙◌, ◌++◌, ◌∷◌, ◌&&◌, ◌||◌, ℕ, ℤ, List, [], Bool, true, false, cond, Option, Some, None, refl, sym, ap, subst, arith}
use Rattle.std.proofs.lemmas.Bool.{and_parts, both_ways}
use Rattle.std.proofs.lemmas.Cmp.{eq_by_cmp_equiv}
use Rattle.std.proofs.lemmas.Int.{ints}
use Rattle.std.proofs.lemmas.Option.{none-some, same_Some}
use Rattle.std.specs.Prelude.{find, int_lt, nat_lt}
use Rattle.std.specs.Cmp.Lexicographic.{slice_cmp}
use Rattle.std.specs.List.{AllByRecursion, list_all, list_any}
use Rattle.std.specs.Ordering.{int_eq, is_eq, is_lt, nat_cmp, ordering_reverse}
use Rattle.std.specs.declared.cmp.Ordering.{Ordering}
use Rattle.std.specs.declared.cmp.Ordering.TheVariants.{Less, Equal, Greater}
use Rattle.journey_model.specs.Records.{Recorded}
use Rattle.journey_model.specs.Schedules.{Schedule}
use Rattle.journey_model.specs.declared.situation.Situation.{Situation}
use Rattle.feed_writing.specs.Written.{written_feed}
use Rattle.latest_store.specs.Latest.{HasLatestOf, IsLatestOf, has_number, is_newer, is_of, was_later}
use Rattle.gateway_core.specs.Feeds.{CountAlike, IsRebuilt, are_ordered_by, comes_before, entities_of, has_lesser_number}
use Rattle.gateway_core.specs.Winners.{IsKeyed, has_key, key_cmp, key_of}
use Rattle.gateway_core.proofs.HeldLemmas.{IsEarlier, IsNoLater, all_among, passes_among}
use Rattle.gateway_core.proofs.WinnerLemmas.{journeys, numbers}

-- ---- only one counts

module _ {A : Type 0} (is_its : A → Bool) (is_later : A → A → Bool) where
  same_place : (a b : A) (before_a rest_a before_b rest_b : List A) → before_a ++ a ∷ rest_a ≡ before_b ++ b ∷ rest_b
      → is_its a ≡ true → is_its b ≡ true
      → AllByRecursion (IsNoLater is_its is_later a) before_a → AllByRecursion (IsEarlier is_its is_later a) rest_a
      → AllByRecursion (IsNoLater is_its is_later b) before_b → AllByRecursion (IsEarlier is_its is_later b) rest_b → a ≡ b
  same_place a b [] rest_a [] rest_b e its_a its_b before_a_no after_a before_b_no after_b = cc
  same_place a b [] rest_a (y ∷ before_b) rest_b e its_a its_b no_a earlier_a no_b earlier_b =
      let head : y ≡ a = cc in
      let tail : rest_a ≡ before_b ++ b ∷ rest_b = cc in
      let late : is_later a b ≡ true = all_among (IsEarlier is_its is_later a) before_b b rest_b (subst (AllByRecursion (IsEarlier is_its is_later a)) tail earlier_a) its_b in
      let not_late : is_later a b ≡ false = subst (IsNoLater is_its is_later b) head no_b.0 its_a in
      absurd (both_ways (is_later a b) not_late late)
  same_place a b (x ∷ before_a) rest_a [] rest_b e its_a its_b no_a earlier_a no_b earlier_b =
      let head : x ≡ b = cc in
      let tail : rest_b ≡ before_a ++ a ∷ rest_a = cc in
      let late : is_later b a ≡ true = all_among (IsEarlier is_its is_later b) before_a a rest_a (subst (AllByRecursion (IsEarlier is_its is_later b)) tail earlier_b) its_a in
      let not_late : is_later b a ≡ false = subst (IsNoLater is_its is_later a) head no_a.0 its_b in
      absurd (both_ways (is_later b a) not_late late)
  same_place a b (x ∷ before_a) rest_a (y ∷ before_b) rest_b e its_a its_b no_a earlier_a no_b earlier_b =
      let tail : before_a ++ a ∷ rest_a ≡ before_b ++ b ∷ rest_b = cc in
      same_place a b before_a rest_a before_b rest_b tail its_a its_b no_a.1 earlier_a no_b.1 earlier_b

  not_none : (all : List A) (one : A) → list_any is_its all ≡ false → IsLatestOf is_its is_later all one → ⊥
  not_none all one none latest =
      both_ways (list_any is_its all) none (ap (list_any is_its) latest.among ∙ passes_among is_its latest.before latest.after one latest.its)

  pub same_counts : (all : List A) (a b : Option A) → HasLatestOf is_its is_later all a → HasLatestOf is_its is_later all b → a ≡ b
  same_counts all None None of_a of_b = refl
  same_counts all None (Some b) of_a of_b = absurd (not_none all b of_a of_b)
  same_counts all (Some a) None of_a of_b = absurd (not_none all a of_b of_a)
  same_counts all (Some a) (Some b) of_a of_b =
      ap (λ one. Some one) (same_place a b of_a.before of_a.after of_b.before of_b.after (sym of_a.among ∙ of_b.among) of_a.its of_b.its
      of_a.none_later of_a.all_earlier of_b.none_later of_b.all_earlier)

-- ---- a list in order is known by what is found in it

module _ {A Q : Type 0} (is_its : Q → A → Bool) (key_of : A → Q) (comes_before : A → A → Bool)
    (own : (a : A) → is_its (key_of a) a ≡ true)
    (other : (q : Q) (a b : A) → comes_before a b ≡ true → is_its q a ≡ true → is_its q b ≡ false)
    (turned : (a b : A) → comes_before a b ≡ true → comes_before b a ≡ true → ⊥) where
  -- what is found after one comes after it, and is of another key
  found_after : (test : A → Bool) (a x : A) (ys : List A) → list_all (comes_before a) ys ≡ true → find test ys ≡ Some x → comes_before a x ≡ true
  found_after test a x [] h e = absurd (none-some x e)
  found_after test a x (y ∷ ys) h e =
      let parts = and_parts (comes_before a y) (list_all (comes_before a) ys) h in
      by parts.0 (test y) (found_after test a x ys parts.1) e
    where
      by : comes_before a y ≡ true → (b : Bool) → (find test ys ≡ Some x → comes_before a x ≡ true) → cond b (Some y) (find test ys) ≡ Some x → comes_before a x ≡ true
      by before true rest e = subst (λ (z : A). comes_before a z ≡ true) (same_Some y x e) before
      by before false rest e = rest e

  none_after : (q : Q) (a : A) (ys : List A) → list_all (comes_before a) ys ≡ true → is_its q a ≡ true → find (is_its q) ys ≡ None
  none_after q a [] h its = refl
  none_after q a (y ∷ ys) h its =
      let parts = and_parts (comes_before a y) (list_all (comes_before a) ys) h in
      rw (other q a y parts.0 its) (none_after q a ys parts.1 its)

  first_found : (q : Q) (x : A) (xs : List A) → is_its q x ≡ true → find (is_its q) (x ∷ xs) ≡ Some x
  first_found q x xs its = rw its refl

  first_same : (x y : A) (xs ys : List A) → list_all (comes_before x) xs ≡ true → list_all (comes_before y) ys ≡ true
      → ((q : Q) → find (is_its q) (x ∷ xs) ≡ find (is_its q) (y ∷ ys)) → x ≡ y
  first_same x y xs ys before_xs before_ys same =
      by (is_its (key_of x) y) (is_its (key_of y) x) (sym (same (key_of x)) ∙ first_found (key_of x) x xs (own x)) (same (key_of y) ∙ first_found (key_of y) y ys (own y))
    where
      by : (b c : Bool) → cond b (Some y) (find (is_its (key_of x)) ys) ≡ Some x → cond c (Some x) (find (is_its (key_of y)) xs) ≡ Some y → x ≡ y
      by true c e f = sym (same_Some y x e)
      by false true e f = same_Some x y f
      by false false e f = absurd (turned y x (found_after (is_its (key_of x)) y x ys before_ys e) (found_after (is_its (key_of y)) x y xs before_xs f))

  pub one_order : (xs ys : List A) → are_ordered_by comes_before xs ≡ true → are_ordered_by comes_before ys ≡ true
      → ((q : Q) → find (is_its q) xs ≡ find (is_its q) ys) → xs ≡ ys
  one_order [] [] h k same = refl
  one_order [] (y ∷ ys) h k same = absurd (none-some y (same (key_of y) ∙ first_found (key_of y) y ys (own y)))
  one_order (x ∷ xs) [] h k same = absurd (none-some x (sym (same (key_of x)) ∙ first_found (key_of x) x xs (own x)))
  one_order (x ∷ xs) (y ∷ ys) h k same =
      ap (λ (z : A). z ∷ xs) head ∙ ap (λ (zs : List A). y ∷ zs) (one_order xs ys of_xs.1 of_ys.1 (λ q. by q (is_its q x) refl))
    where
      of_xs : (list_all (comes_before x) xs ≡ true) × (are_ordered_by comes_before xs ≡ true)
      of_xs = and_parts (list_all (comes_before x) xs) (are_ordered_by comes_before xs) h

      of_ys : (list_all (comes_before y) ys ≡ true) × (are_ordered_by comes_before ys ≡ true)
      of_ys = and_parts (list_all (comes_before y) ys) (are_ordered_by comes_before ys) k

      head : x ≡ y
      head = first_same x y xs ys of_xs.0 of_ys.0 same

      by : (q : Q) (b : Bool) → is_its q x ≡ b → find (is_its q) xs ≡ find (is_its q) ys
      by q true its =
          let its_y : is_its q y ≡ true = ap (is_its q) (sym head) ∙ its in
          none_after q x xs of_xs.0 its ∙ sym (none_after q y ys of_ys.0 its_y)
      by q false not_its =
          let not_y : is_its q y ≡ false = ap (is_its q) (sym head) ∙ not_its in
          rw (not_its, not_y) at (same q)

-- where the keys of what comes before another are less
module _ {A Q : Type 0} (cmp : Q → Q → Ordering) (key_of : A → Q) (is_its : Q → A → Bool) (is_later : A → A → Bool)
    (keyed : IsKeyed cmp key_of is_its is_later) (comes_before : A → A → Bool)
    (less : (a b : A) → comes_before a b ≡ true → cmp (key_of a) (key_of b) ≡ Less) where
  own : (a : A) → is_its (key_of a) a ≡ true
  own a = keyed.its (key_of a) a ∙ (eq_by_cmp_equiv keyed.total).refl (key_of a)

  is_equal : (o : Ordering) → is_eq o ≡ true → o ≡ Equal
  is_equal Less e = absurd cc
  is_equal Equal e = refl
  is_equal Greater e = absurd cc

  other : (q : Q) (a b : A) → comes_before a b ≡ true → is_its q a ≡ true → is_its q b ≡ false
  other q a b before its =
      let same : q ≡ key_of a = keyed.same q (key_of a) (is_equal (cmp q (key_of a)) (sym (keyed.its q a) ∙ its)) in
      keyed.its q b ∙ ap (λ (key : Q). is_eq (cmp key (key_of b))) same ∙ ap is_eq (less a b before)

  turned : (a b : A) → comes_before a b ≡ true → comes_before b a ≡ true → ⊥
  turned a b before after =
      let e : Less ≡ Greater = sym (less a b before) ∙ keyed.total.antisymm (key_of a) (key_of b) ∙ ap ordering_reverse (less b a after) in
      absurd cc

  pub one_keyed : (xs ys : List A) → are_ordered_by comes_before xs ≡ true → are_ordered_by comes_before ys ≡ true
      → ((q : Q) → find (is_its q) xs ≡ find (is_its q) ys) → xs ≡ ys
  one_keyed xs ys h k same = one_order is_its key_of comes_before own other turned xs ys h k same

-- ---- one feed

pub before_less : (a b : Recorded) → comes_before a b ≡ true → key_cmp (key_of a) (key_of b) ≡ Less
before_less a b h = of_keys (a.day, a.trip) (b.day, b.trip) h
  where
    of_keys : (a b : ℤ × ℕ) → (int_lt a.0 b.0 || (int_eq a.0 b.0 && nat_lt a.1 b.1)) ≡ true → key_cmp a b ≡ Less
    of_keys a b h = grind (arith, ints)

pub number_less : (a b : Situation) → has_lesser_number a b ≡ true → slice_cmp nat_cmp a.number b.number ≡ Less
number_less a b h = by (slice_cmp nat_cmp a.number b.number) h
  where
    by : (o : Ordering) → is_lt o ≡ true → o ≡ Less
    by Less e = refl
    by Equal e = absurd cc
    by Greater e = absurd cc

-- feeds that are rebuilt of what counts alike are equal
pub one_feed : (at : ℤ) (schedule : Schedule) (records others : List Recorded) (situations further : List Situation) (a b : List ℕ)
    → CountAlike records others situations further → IsRebuilt at schedule records situations a → IsRebuilt at schedule others further b → a ≡ b
one_feed at schedule records others situations further a b alike of_a of_b =
    of_a.is_feed.bytes
    ∙ ap (λ (ordered : List Recorded). written_feed at (entities_of schedule ordered of_a.numbered)) journeys_same
    ∙ ap (λ (numbered : List Situation). written_feed at (entities_of schedule of_b.ordered numbered)) numbers_same
    ∙ sym of_b.is_feed.bytes
  where
    journeys_same : of_a.ordered ≡ of_b.ordered
    journeys_same =
        one_keyed key_cmp key_of has_key was_later journeys comes_before before_less of_a.ordered of_b.ordered of_a.in_order of_b.in_order (λ key.
        same_counts (is_of key.1 key.0) was_later others (find (is_of key.1 key.0) of_a.ordered) (find (is_of key.1 key.0) of_b.ordered)
        (alike.latest key.1 key.0 (find (is_of key.1 key.0) of_a.ordered) (of_a.latest key.1 key.0)) (of_b.latest key.1 key.0))

    numbers_same : of_a.numbered ≡ of_b.numbered
    numbers_same =
        one_keyed (slice_cmp nat_cmp) (λ (one : Situation). one.number) has_number is_newer numbers has_lesser_number number_less of_a.numbered of_b.numbered
        of_a.by_number of_b.by_number (λ number.
        same_counts (has_number number) is_newer further (find (has_number number) of_a.numbered) (find (has_number number) of_b.numbered)
        (alike.newest number (find (has_number number) of_a.numbered) (of_a.newest number)) (of_b.newest number))

-- and so are those of the same
pub one_rebuilt : (at : ℤ) (schedule : Schedule) (records : List Recorded) (situations : List Situation) (a b : List ℕ)
    → IsRebuilt at schedule records situations a → IsRebuilt at schedule records situations b → a ≡ b
one_rebuilt at schedule records situations a b of_a of_b =
    one_feed at schedule records records situations situations a b (record { latest = λ trip day found h. h; newest = λ number found h. h }) of_a of_b
