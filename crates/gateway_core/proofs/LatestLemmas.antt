-- Of each key the latest, in the order of the keys: with one more, of those that pass a test, and how many they are.
use Rattle.std.proofs.Common.{◌≡◌, ◌∙◌, ◌++◌, ◌∷◌, ◌||◌, [], ℕ, suc, Bool, true, false, cond, not, List, Option, Some, None, ap, sym, refl, subst}
use Rattle.std.proofs.lemmas.Bool.{true≢false, and_parts, both_ways}
use Rattle.std.proofs.lemmas.Cmp.{eq_by_cmp_equiv}
use Rattle.std.proofs.lemmas.List.Elements.{filter-append}
use Rattle.std.proofs.lemmas.Map.Views.{any-filter_same}
use Rattle.std.specs.Prelude.{find, filter, is_some, length, nat_lt}
use Rattle.std.specs.List.{list_all, list_any}
use Rattle.std.specs.Ordering.{is_eq, is_lt}
use Rattle.std.specs.declared.cmp.Ordering.{Ordering}
use Rattle.std.specs.declared.cmp.Ordering.TheVariants.{Less, Equal, Greater}
use Rattle.feed_index.specs.Order.{with_one}
use Rattle.gw_base.proofs.Elements.{all_filter}
use Rattle.gateway_core.specs.Keeping.{AreLatest}
use Rattle.latest_store.specs.Latest.{HasLatestOf}
use Rattle.gateway_core.specs.Winners.{IsKeyed, counts_by}
use Rattle.gateway_core.specs.Feeds.{are_ordered_by}
use Rattle.gateway_core.specs.Arrivals.{firsts, has_room}
use Rattle.gateway_core.proofs.HeldLemmas.{IsEarlier, IsNoLater, latest_at, latest_other, latest_stays, passes_among}
use Rattle.gateway_core.proofs.OrderedLemmas.{find_filter, find_put, none_found, of_key, ordered_filter, put_ordered, some_found}
use Rattle.gateway_core.proofs.FewerLemmas.{none_left}

all_stay : {X : Type 0} (p : X → Bool) (xs : List X) → list_any p xs ≡ false → filter (λ x. not (p x)) xs ≡ xs
all_stay p [] h = refl
all_stay {X} p (x ∷ xs) h = by (p x) (all_stay p xs) h
  where
    by : (b : Bool) → (list_any p xs ≡ false → filter (λ x. not (p x)) xs ≡ xs) → (b || list_any p xs) ≡ false
        → cond (not b) (x ∷ filter (λ x. not (p x)) xs) (filter (λ x. not (p x)) xs) ≡ x ∷ xs
    by true rest e = absurd (true≢false e)
    by false rest e = ap (λ (ys : List X). x ∷ ys) (rest e)

module _ {A Q : Type 0} (cmp : Q → Q → Ordering) (key_of : A → Q) (is_its : Q → A → Bool) (is_later : A → A → Bool)
    (keyed : IsKeyed cmp key_of is_its is_later) (comes_before : A → A → Bool)
    (by_key : (a b : A) → comes_before a b ≡ is_lt (cmp (key_of a) (key_of b))) where
  pub key_is : (q : Q) (a : A) → is_its q a ≡ true → q ≡ key_of a
  key_is q a its = of_key cmp key_of is_its is_later keyed comes_before by_key q a its

  pub own : (a : A) → is_its (key_of a) a ≡ true
  own a = keyed.its (key_of a) a ∙ (eq_by_cmp_equiv keyed.total).refl (key_of a)

  -- ---- one more

  pub latest_put : (all xs : List A) (one : A) → AreLatest is_its is_later comes_before all xs → counts_by is_later (find (is_its (key_of one)) xs) one ≡ true
      → AreLatest is_its is_later comes_before (all ++ one ∷ []) (with_one key_of cmp xs one)
  latest_put all xs one h won = record {
    in_order = put_ordered cmp key_of is_its is_later keyed comes_before by_key xs one h.in_order;
    latest = λ q. subst (HasLatestOf (is_its q) is_later (all ++ one ∷ [])) (sym (find_put cmp key_of is_its is_later keyed comes_before by_key xs one q)) (by q (is_its q one) refl);
  }
    where
      by : (q : Q) (b : Bool) → is_its q one ≡ b → HasLatestOf (is_its q) is_later (all ++ one ∷ []) (cond b (Some one) (find (is_its q) xs))
      by q true its =
          latest_at (is_its q) is_later keyed.gap keyed.after all one (find (is_its q) xs) its (h.latest q)
          (ap (λ (key : Q). counts_by is_later (find (is_its key) xs) one) (key_is q one its) ∙ won)
      by q false its = latest_other (is_its q) is_later all one (find (is_its q) xs) its (h.latest q)

  pub latest_same : (all xs : List A) (one : A) → AreLatest is_its is_later comes_before all xs → counts_by is_later (find (is_its (key_of one)) xs) one ≡ false
      → AreLatest is_its is_later comes_before (all ++ one ∷ []) xs
  latest_same all xs one h lost = record { in_order = h.in_order; latest = λ q. by q (is_its q one) refl }
    where
      by : (q : Q) (b : Bool) → is_its q one ≡ b → HasLatestOf (is_its q) is_later (all ++ one ∷ []) (find (is_its q) xs)
      by q true its =
          latest_stays (is_its q) is_later all one (find (is_its q) xs) (h.latest q)
          (ap (λ (key : Q). counts_by is_later (find (is_its key) xs) one) (key_is q one its) ∙ lost)
      by q false its = latest_other (is_its q) is_later all one (find (is_its q) xs) its (h.latest q)

  -- ---- those that pass a test on their keys

  module _ (p : A → Bool) (passes : Q → Bool) (same : (a : A) → p a ≡ passes (key_of a)) where
    at_key : (q : Q) (a : A) → is_its q a ≡ true → p a ≡ passes q
    at_key q a its = same a ∙ ap passes (sym (key_is q a its))

    pub latest_filter : (all xs : List A) → AreLatest is_its is_later comes_before all xs → AreLatest is_its is_later comes_before (filter p all) (filter p xs)
    latest_filter all xs h = record {
      in_order = ordered_filter cmp key_of is_its is_later keyed comes_before by_key p xs h.in_order;
      latest = λ q. subst (HasLatestOf (is_its q) is_later (filter p all)) (sym (find_filter (is_its q) p (passes q) (at_key q) xs)) (by q (passes q) refl);
    }
      where
        left : (q : Q) → passes q ≡ true → (found : Option A) → HasLatestOf (is_its q) is_later all found → HasLatestOf (is_its q) is_later (filter p all) found
        left q e None none = any-filter_same (is_its q) p true (λ a its. at_key q a its ∙ e) all ∙ none
        left q e (Some one) l = record {
          before = filter p l.before;
          after = filter p l.after;
          among =
              ap (filter p) l.among ∙ filter-append p l.before (one ∷ l.after)
              ∙ ap (λ (b : Bool). filter p l.before ++ cond b (one ∷ filter p l.after) (filter p l.after)) (at_key q one l.its ∙ e);
          its = l.its;
          none_later = all_filter (IsNoLater (is_its q) is_later one) p l.before l.none_later;
          all_earlier = all_filter (IsEarlier (is_its q) is_later one) p l.after l.all_earlier;
        }

        by : (q : Q) (b : Bool) → passes q ≡ b → HasLatestOf (is_its q) is_later (filter p all) (cond b (find (is_its q) xs) None)
        by q true e = left q e (find (is_its q) xs) (h.latest q)
        by q false e = any-filter_same (is_its q) p false (λ a its. at_key q a its ∙ e) all

  -- ---- how many there are

  abbrev pub AreDistinct : List A → Type 0
  AreDistinct [] = Unit {0}
  AreDistinct (x ∷ xs) = (list_any (is_its (key_of x)) xs ≡ false) × AreDistinct xs

  pub none_after : (a : A) (xs : List A) → list_all (comes_before a) xs ≡ true → list_any (is_its (key_of a)) xs ≡ false
  none_after a [] h = refl
  none_after a (x ∷ xs) h =
      let both = and_parts (comes_before a x) (list_all (comes_before a) xs) h in
      let other : is_its (key_of a) x ≡ false = keyed.its (key_of a) x ∙ unequal (cmp (key_of a) (key_of x)) (sym (by_key a x) ∙ both.0) in
      rw (other, none_after a xs both.1) refl
    where
      unequal : (o : Ordering) → is_lt o ≡ true → is_eq o ≡ false
      unequal Less e = refl
      unequal Equal e = absurd cc
      unequal Greater e = refl

  distinct_ordered : (xs : List A) → are_ordered_by comes_before xs ≡ true → AreDistinct xs
  distinct_ordered [] h = tt
  distinct_ordered (x ∷ xs) h =
      let both = and_parts (list_all (comes_before x) xs) (are_ordered_by comes_before xs) h in
      (none_after x xs both.0, distinct_ordered xs both.1)

  pub distinct_filter : (p : A → Bool) (xs : List A) → AreDistinct xs → AreDistinct (filter p xs)
  distinct_filter p [] h = tt
  distinct_filter p (x ∷ xs) h = by (p x) (distinct_filter p xs h.1)
    where
      by : (b : Bool) → AreDistinct (filter p xs) → AreDistinct (cond b (x ∷ filter p xs) (filter p xs))
      by true rest = (none_left (is_its (key_of x)) p xs h.0, rest)
      by false rest = rest

  -- of each key the first
  abbrev pub is_same : A → A → Bool
  is_same a b = is_its (key_of a) b

  not_true : (b : Bool) → b ≡ true → not b ≡ false
  not_true b e = ap not e

  pub distinct_firsts : (all : List A) → AreDistinct (firsts is_same all)
  distinct_firsts [] = tt
  distinct_firsts (one ∷ others) = (
    any-filter_same (is_same one) (λ other. not (is_same one other)) false (λ a its. not_true (is_same one a) its) (firsts is_same others),
    distinct_filter (λ other. not (is_same one other)) (firsts is_same others) (distinct_firsts others),
  )

  -- one of a key is of no other
  pub no_other : (q : Q) (a b : A) → is_its q a ≡ false → is_its q b ≡ true → not (is_its (key_of a) b) ≡ true
  no_other q a b lost its = by (is_its (key_of a) b) refl
    where
      by : (c : Bool) → is_its (key_of a) b ≡ c → not c ≡ true
      by false e = refl
      by true e =
          let same : q ≡ key_of a = key_is q b its ∙ sym (key_is (key_of a) b e) in
          absurd (both_ways (is_its q a) lost (ap (λ (key : Q). is_its key a) same ∙ own a))

  pub any_firsts : (q : Q) (all : List A) → list_any (is_its q) (firsts is_same all) ≡ list_any (is_its q) all
  any_firsts q [] = refl
  any_firsts q (one ∷ others) = by (is_its q one) refl (any_firsts q others)
    where
      by : (b : Bool) → is_its q one ≡ b → list_any (is_its q) (firsts is_same others) ≡ list_any (is_its q) others
          → (b || list_any (is_its q) (filter (λ other. not (is_same one other)) (firsts is_same others))) ≡ (b || list_any (is_its q) others)
      by true e rest = refl
      by false e rest = any-filter_same (is_its q) (λ other. not (is_same one other)) true (λ a its. no_other q one a e its) (firsts is_same others) ∙ rest

  one_less : (q : Q) (xs : List A) → AreDistinct xs → list_any (is_its q) xs ≡ true → length xs ≡ suc (length (filter (λ x. not (is_its q x)) xs))
  one_less q [] h e = absurd (true≢false (sym e))
  one_less q (x ∷ xs) h e = by (is_its q x) refl (one_less q xs h.1) e
    where
      by : (b : Bool) → is_its q x ≡ b → (list_any (is_its q) xs ≡ true → length xs ≡ suc (length (filter (λ x. not (is_its q x)) xs))) → (b || list_any (is_its q) xs) ≡ true
          → suc (length xs) ≡ suc (length (cond (not b) (x ∷ filter (λ x. not (is_its q x)) xs) (filter (λ x. not (is_its q x)) xs)))
      by true its rest f =
          let none : list_any (is_its q) xs ≡ false = ap (λ (key : Q). list_any (is_its key) xs) (key_is q x its) ∙ h.0 in
          ap (λ (ys : List A). suc (length ys)) (sym (all_stay (is_its q) xs none))
      by false its rest f = ap suc (rest f)

  same_length : (xs ys : List A) → AreDistinct xs → AreDistinct ys → ((q : Q) → list_any (is_its q) xs ≡ list_any (is_its q) ys) → length xs ≡ length ys
  same_length [] [] h k same = refl
  same_length [] (y ∷ ys) h k same = absurd (true≢false (ap (λ (b : Bool). b || list_any (is_its (key_of y)) ys) (sym (own y)) ∙ sym (same (key_of y))))
  same_length (x ∷ xs) ys h k same =
      let there : list_any (is_its (key_of x)) ys ≡ true = sym (same (key_of x)) ∙ ap (λ (b : Bool). b || list_any (is_its (key_of x)) xs) (own x) in
      ap suc (same_length xs (filter (λ y. not (is_its (key_of x) y)) ys) h.1 (distinct_filter (λ y. not (is_its (key_of x) y)) ys k) (λ q. by q (is_its q x) refl (same q)))
      ∙ sym (one_less (key_of x) ys k there)
    where
      by : (q : Q) (b : Bool) → is_its q x ≡ b → (b || list_any (is_its q) xs) ≡ list_any (is_its q) ys
          → list_any (is_its q) xs ≡ list_any (is_its q) (filter (λ y. not (is_its (key_of x) y)) ys)
      by q true its e =
          ap (λ (key : Q). list_any (is_its key) xs) (key_is q x its) ∙ h.0
          ∙ sym (any-filter_same (is_its q) (λ y. not (is_its (key_of x) y)) false (λ a of_q. not_true (is_its (key_of x) a) (ap (λ (key : Q). is_its key a) (sym (key_is q x its)) ∙ of_q)) ys)
      by q false its e = e ∙ sym (any-filter_same (is_its q) (λ y. not (is_its (key_of x) y)) true (λ a of_q. no_other q x a its of_q) ys)

  -- what is found is there
  any_found : (q : Q) (all : List A) (found : Option A) → HasLatestOf (is_its q) is_later all found → list_any (is_its q) all ≡ is_some found
  any_found q all None h = h
  any_found q all (Some one) h = ap (list_any (is_its q)) h.among ∙ passes_among (is_its q) h.before h.after one h.its

  any_is : (q : Q) (xs : List A) → list_any (is_its q) xs ≡ is_some (find (is_its q) xs)
  any_is q xs = by (find (is_its q) xs) refl
    where
      by : (found : Option A) → find (is_its q) xs ≡ found → list_any (is_its q) xs ≡ is_some found
      by None e = none_found (is_its q) xs e
      by (Some x) e = some_found (is_its q) xs x e

  -- there are as many as keys
  pub latest_count : (all xs : List A) → AreLatest is_its is_later comes_before all xs → length (firsts is_same all) ≡ length xs
  latest_count all xs h =
      same_length (firsts is_same all) xs (distinct_firsts all) (distinct_ordered xs h.in_order)
      (λ q. any_firsts q all ∙ any_found q all (find (is_its q) xs) (h.latest q) ∙ sym (any_is q xs))

  -- what has room: one of a key that is kept, or any where fewer are kept than the limit
  pub room_is : (counts : A → Bool) (passes : Q → Bool) (limit : ℕ) (before xs : List A) (one : A) → ((a : A) → counts a ≡ passes (key_of a))
      → counts one ≡ true → AreLatest is_its is_later comes_before (filter counts before) xs
      → has_room is_same counts limit before one ≡ (is_some (find (is_its (key_of one)) xs) || nat_lt (length xs) limit)
  room_is counts passes limit before xs one same within h =
      ap (λ (b : Bool). b || nat_lt (length (firsts is_same (filter counts before))) limit) there
      ∙ ap (λ (n : ℕ). is_some (find (is_its (key_of one)) xs) || nat_lt n limit) (latest_count (filter counts before) xs h)
    where
      there : list_any (is_same one) before ≡ is_some (find (is_its (key_of one)) xs)
      there =
          sym (any-filter_same (is_same one) counts true (λ a its. same a ∙ ap passes (sym (key_is (key_of one) a its)) ∙ sym (same one) ∙ within) before)
          ∙ any_found (key_of one) (filter counts before) (find (is_its (key_of one)) xs) (h.latest (key_of one))
