-- The moments of recording decide, and not the order in which records arrive.
use Rattle.std.proofs.Common.{◌≡◌, ◌∙◌, ◌++◌, ◌∷◌, ◌||◌, ◌&&◌, ◌<◌, ◌≤◌, [], ℕ, zero, suc, Bool, true, false, cond, not, List, Option, Some, None, ap, sym, refl, subst, arith}
use Rattle.std.proofs.lemmas.Bool.{true≢false, and_parts, both_ways, or_left, or_right}
use Rattle.std.proofs.lemmas.List.{append-nil, append_assoc}
use Rattle.std.proofs.lemmas.List.Folds.{list_any-append}
use Rattle.std.proofs.lemmas.List.Sorted.{Contains-permutation, IsPermutation-sym, list_any-IsPermutation}
use Rattle.std.proofs.lemmas.Map.Views.{any-filter_same}
use Rattle.std.specs.Prelude.{filter, length, nat_lt, slice_index_or}
use Rattle.std.specs.List.{AllByRecursion, Contains, list_any}
use Rattle.std.specs.List.Sorted.{IsPermutation}
use Rattle.std.specs.Ordering.{is_lt}
use Rattle.std.specs.declared.cmp.Ordering.{Ordering}
use Rattle.gw_base.proofs.Elements.{all_append}
use Rattle.latest_store.specs.Latest.{HasLatestOf, IsLatestOf}
use Rattle.gateway_core.specs.Winners.{IsKeyed}
use Rattle.gateway_core.specs.Arrivals.{admit, firsts, has_room}
use Rattle.gateway_core.proofs.HeldLemmas.{IsEarlier, IsNoLater, all_weaker, passes_among}
use Rattle.gateway_core.proofs.LatestLemmas.{AreDistinct, any_firsts, distinct_firsts, key_is, no_other, own}
use Rattle.gateway_core.proofs.FewerLemmas.{none_left, one_goes}

-- ---- elements

here : {X : Type 0} (x : X) (xs : List X) → Contains (x ∷ xs) x
here x xs = (0, omega arith, refl)

there : {X : Type 0} (x y : X) (xs : List X) → Contains xs y → Contains (x ∷ xs) y
there x y xs h = (suc h.0, omega (arith, h.1), h.2)

pub all_from : {X : Type 0} (P : X → Type 0) (xs : List X) → ((x : X) → Contains xs x → P x) → AllByRecursion P xs
all_from P [] f = tt
all_from P (x ∷ xs) f = (f x (here x xs), all_from P xs (λ y h. f y (there x y xs h)))

holds_at : {X : Type 0} (P : X → Type 0) (xs : List X) → AllByRecursion P xs → (k : ℕ) (d : X) → k < length xs → P (slice_index_or xs k d)
holds_at P [] h k d lt = absurd (omega arith)
holds_at P (x ∷ xs) h zero d lt = h.0
holds_at P (x ∷ xs) h (suc k) d lt = holds_at P xs h.1 k d (omega arith)

pub holds_of : {X : Type 0} (P : X → Type 0) (xs : List X) → AllByRecursion P xs → (x : X) → Contains xs x → P x
holds_of P xs h x c = subst P c.2 (holds_at P xs h c.0 x c.1)

among_all : {X : Type 0} (before : List X) (x : X) (after : List X) → Contains (before ++ x ∷ after) x
among_all [] x after = here x after
among_all (y ∷ before) x after = there y x (before ++ x ∷ after) (among_all before x after)

front_holds : {X : Type 0} (P : X → Type 0) (before after : List X) → AllByRecursion P (before ++ after) → AllByRecursion P before
front_holds P [] after h = tt
front_holds P (x ∷ before) after h = (h.0, front_holds P before after h.1)

-- the last that passes a test
record IsLast {X : Type 0} (t : X → Bool) (xs : List X) : Type 0 where
  before : List X
  one : X
  after : List X
  is : xs ≡ before ++ one ∷ after
  passes : t one ≡ true
  no_more : list_any t after ≡ false

last_of : {X : Type 0} (t : X → Bool) (xs : List X) → list_any t xs ≡ true → IsLast t xs
last_of t [] h = absurd (true≢false (sym h))
last_of {X} t (x ∷ xs) h = by (list_any t xs) refl (last_of t xs)
  where
    by : (b : Bool) → list_any t xs ≡ b → (list_any t xs ≡ true → IsLast t xs) → IsLast t (x ∷ xs)
    by true e rest =
        let l : IsLast t xs = rest e in
        record { before = x ∷ l.before; one = l.one; after = l.after; is = ap (λ (ys : List X). x ∷ ys) l.is; passes = l.passes; no_more = l.no_more }
    by false e rest =
        record { before = []; one = x; after = xs; is = refl; passes = first (t x) (ap (λ (b : Bool). t x || b) (sym e) ∙ h); no_more = e }
      where
        first : (b : Bool) → (b || false) ≡ true → b ≡ true
        first true f = refl
        first false f = f

none_pass : {X : Type 0} (t : X → Bool) (xs : List X) → list_any t xs ≡ false → AllByRecursion (λ x. t x ≡ false) xs
none_pass t [] h = tt
none_pass {X} t (x ∷ xs) h = by (t x) refl (none_pass t xs) h
  where
    by : (b : Bool) → t x ≡ b → (list_any t xs ≡ false → AllByRecursion (λ x. t x ≡ false) xs) → (b || list_any t xs) ≡ false → AllByRecursion (λ x. t x ≡ false) (x ∷ xs)
    by true e rest f = absurd (true≢false f)
    by false e rest f = (e, rest f)

-- what passes a test, in any order

any_filter : {X : Type 0} (t p : X → Bool) (xs : List X) → list_any t (filter p xs) ≡ list_any (λ x. p x && t x) xs
any_filter t p [] = refl
any_filter {X} t p (x ∷ xs) = by (p x) (any_filter t p xs)
  where
    by : (b : Bool) → list_any t (filter p xs) ≡ list_any (λ x. p x && t x) xs → list_any t (cond b (x ∷ filter p xs) (filter p xs)) ≡ ((b && t x) || list_any (λ x. p x && t x) xs)
    by true rest = ap (λ (c : Bool). t x || c) rest
    by false rest = rest

filter_has : {X : Type 0} (p : X → Bool) (xs : List X) → AllByRecursion (λ x. p x ≡ true → Contains (filter p xs) x) xs
filter_has p [] = tt
filter_has {X} p (x ∷ xs) = by (p x) refl (filter_has p xs)
  where
    by : (b : Bool) → p x ≡ b → AllByRecursion (λ y. p y ≡ true → Contains (filter p xs) y) xs
        → (p x ≡ true → Contains (cond b (x ∷ filter p xs) (filter p xs)) x) × AllByRecursion (λ y. p y ≡ true → Contains (cond b (x ∷ filter p xs) (filter p xs)) y) xs
    by true e rest = (
      (λ passes. here x (filter p xs)),
      all_weaker (λ y. p y ≡ true → Contains (filter p xs) y) (λ y. p y ≡ true → Contains (x ∷ filter p xs) y) (λ y f passes. there x y (filter p xs) (f passes)) xs rest,
    )
    by false e rest = ((λ passes. absurd (both_ways (p x) e passes)), rest)

pub filter_of : {X : Type 0} (P : X → Type 0) (p : X → Bool) (xs : List X) → AllByRecursion P xs → AllByRecursion (λ x. P x × (p x ≡ true)) (filter p xs)
filter_of P p [] h = tt
filter_of {X} P p (x ∷ xs) h = by (p x) refl (filter_of P p xs h.1)
  where
    by : (b : Bool) → p x ≡ b → AllByRecursion (λ x. P x × (p x ≡ true)) (filter p xs) → AllByRecursion (λ x. P x × (p x ≡ true)) (cond b (x ∷ filter p xs) (filter p xs))
    by true e rest = ((h.0, e), rest)
    by false e rest = rest

pub in_filter : {X : Type 0} (p : X → Bool) (xs : List X) (x : X) → Contains (filter p xs) x → Contains xs x × (p x ≡ true)
in_filter p xs x c = holds_of (λ y. Contains xs y × (p y ≡ true)) (filter p xs) (filter_of (Contains xs) p xs (all_from (Contains xs) xs (λ y there_is. there_is))) x c

module _ {X : Type 0} (p : X → Bool) (xs ys : List X) (turned : IsPermutation xs ys) where
  pub any_turned : (t : X → Bool) → list_any t (filter p xs) ≡ list_any t (filter p ys)
  any_turned t = any_filter t p xs ∙ list_any-IsPermutation (λ x. p x && t x) xs ys turned ∙ sym (any_filter t p ys)

  pub back_turned : (x : X) → Contains (filter p ys) x → Contains (filter p xs) x
  back_turned x c =
      let there_is : Contains ys x × (p x ≡ true) = in_filter p ys x c in
      holds_of (λ y. p y ≡ true → Contains (filter p xs) y) xs (filter_has p xs) x (Contains-permutation ys xs x (IsPermutation-sym xs ys turned) there_is.0) there_is.1

-- ---- the latest is the same in any order

module _ {A : Type 0} (is_its : A → Bool) (is_later : A → A → Bool) (never_both : (a b : A) → is_later a b ≡ true → is_later b a ≡ false) where
  no_self : (a : A) → is_later a a ≡ false
  no_self a = by (is_later a a) refl
    where
      by : (b : Bool) → is_later a a ≡ b → is_later a a ≡ false
      by true e = never_both a a e
      by false e = e

  pub latest_turned : (xs ys : List A) → ((t : A → Bool) → list_any t xs ≡ list_any t ys) → ((x : A) → Contains ys x → Contains xs x)
      → ((a b : A) → Contains xs a → Contains xs b → is_its a ≡ true → is_its b ≡ true → is_later a b ≡ false → is_later b a ≡ false → a ≡ b)
      → (found : Option A) → HasLatestOf is_its is_later xs found → HasLatestOf is_its is_later ys found
  latest_turned xs ys any back ties None h = sym (any is_its) ∙ h
  latest_turned xs ys any back ties (Some one) h = subst (λ (z : A). IsLatestOf is_its is_later ys z) same at_last
    where
      no_later : AllByRecursion (IsNoLater is_its is_later one) xs
      no_later =
          subst (AllByRecursion (IsNoLater is_its is_later one)) (sym h.among)
          (all_append (IsNoLater is_its is_later one) h.before (one ∷ h.after) h.none_later
          ((λ its. no_self one), all_weaker (IsEarlier is_its is_later one) (IsNoLater is_its is_later one) (λ other earlier its. never_both one other (earlier its)) h.after h.all_earlier))

      tested : (other : A) → (is_its other && not (is_later one other)) ≡ true → (is_its other ≡ true) × (is_later one other ≡ false)
      tested other e =
          let both = and_parts (is_its other) (not (is_later one other)) e in
          (both.0, un_not (is_later one other) both.1)
        where
          un_not : (b : Bool) → not b ≡ true → b ≡ false
          un_not true f = sym f
          un_not false f = refl

      last : IsLast (λ other. is_its other && not (is_later one other)) ys
      last =
          last_of (λ other. is_its other && not (is_later one other)) ys
          (sym (any (λ other. is_its other && not (is_later one other))) ∙ ap (list_any (λ other. is_its other && not (is_later one other))) h.among
          ∙ passes_among (λ other. is_its other && not (is_later one other)) h.before h.after one (rw (h.its, no_self one) refl))

      same : last.one ≡ one
      same =
          let there_is : Contains ys last.one = subst (λ (zs : List A). Contains zs last.one) (sym last.is) (among_all last.before last.one last.after) in
          let both : (is_its last.one ≡ true) × (is_later one last.one ≡ false) = tested last.one last.passes in
          ties last.one one (back last.one there_is) (subst (λ (zs : List A). Contains zs one) (sym h.among) (among_all h.before one h.after)) both.0 h.its
          (holds_of (IsNoLater is_its is_later one) xs no_later last.one (back last.one there_is) both.0) both.1

      all_earlier : (other : A) → (is_its other && not (is_later one other)) ≡ false → is_its other ≡ true → is_later one other ≡ true
      all_earlier other e its = by (is_later one other) (ap (λ (b : Bool). b && not (is_later one other)) (sym its) ∙ e)
        where
          by : (b : Bool) → not b ≡ false → b ≡ true
          by true f = refl
          by false f = absurd (true≢false f)

      at_last : IsLatestOf is_its is_later ys last.one
      at_last = record {
        before = last.before;
        after = last.after;
        among = last.is;
        its = (tested last.one last.passes).0;
        none_later =
            subst (λ (z : A). AllByRecursion (IsNoLater is_its is_later z) last.before) (sym same)
            (front_holds (IsNoLater is_its is_later one) last.before (last.one ∷ last.after)
            (subst (AllByRecursion (IsNoLater is_its is_later one)) last.is
            (all_from (IsNoLater is_its is_later one) ys (λ x c. holds_of (IsNoLater is_its is_later one) xs no_later x (back x c)))));
        all_earlier =
            subst (λ (z : A). AllByRecursion (IsEarlier is_its is_later z) last.after) (sym same)
            (all_weaker (λ x. (is_its x && not (is_later one x)) ≡ false) (IsEarlier is_its is_later one) all_earlier last.after
            (none_pass (λ other. is_its other && not (is_later one other)) last.after last.no_more));
      }

-- ---- all are admitted where no more keys arrive than the limit

module _ {A Q : Type 0} (cmp : Q → Q → Ordering) (key_of : A → Q) (is_its : Q → A → Bool) (is_later : A → A → Bool)
    (keyed : IsKeyed cmp key_of is_its is_later) (comes_before : A → A → Bool)
    (by_key : (a b : A) → comes_before a b ≡ is_lt (cmp (key_of a) (key_of b))) where
  abbrev Distinct : List A → Type 0
  Distinct xs = AreDistinct cmp key_of is_its is_later keyed comes_before by_key xs

  abbrev alike : A → A → Bool
  alike a b = is_its (key_of a) b

  pub at_most : (xs ys : List A) → Distinct xs → ((q : Q) → list_any (is_its q) xs ≡ true → list_any (is_its q) ys ≡ true) → length xs ≤ length ys
  at_most [] ys h among = omega arith
  at_most (x ∷ xs) ys h among =
      let less : length (filter (λ y. not (is_its (key_of x) y)) ys) < length ys =
      one_goes (is_its (key_of x)) ys (among (key_of x) (or_left (is_its (key_of x) x) (list_any (is_its (key_of x)) xs) (own cmp key_of is_its is_later keyed comes_before by_key x))) in
      let rest : length xs ≤ length (filter (λ y. not (is_its (key_of x) y)) ys) = at_most xs (filter (λ y. not (is_its (key_of x) y)) ys) h.1 (λ q e. by q e (is_its q x) refl) in
      omega arith
    where
      by : (q : Q) → list_any (is_its q) xs ≡ true → (b : Bool) → is_its q x ≡ b → list_any (is_its q) (filter (λ y. not (is_its (key_of x) y)) ys) ≡ true
      by q e true its =
          let none : list_any (is_its q) xs ≡ false = ap (λ (key : Q). list_any (is_its key) xs) (key_is cmp key_of is_its is_later keyed comes_before by_key q x its) ∙ h.0 in
          absurd (both_ways (list_any (is_its q) xs) none e)
      by q e false its =
          any-filter_same (is_its q) (λ y. not (is_its (key_of x) y)) true (λ a of_q. no_other cmp key_of is_its is_later keyed comes_before by_key q x a its of_q) ys
          ∙ among q (or_right (is_its q x) (list_any (is_its q) xs) e)

  module _ (counts : A → Bool) (limit : ℕ) (total : List A) (few : length (firsts alike total) ≤ limit) where
    pub admit_each : (before xs : List A) → ((q : Q) → list_any (is_its q) (before ++ xs) ≡ true → list_any (is_its q) total ≡ true) → admit alike counts limit before xs ≡ before ++ xs
    admit_each before [] among = sym (append-nil before)
    admit_each before (one ∷ others) among =
        ap (λ (b : Bool). admit alike counts limit (cond b (before ++ one ∷ []) before) others) room
        ∙ admit_each (before ++ one ∷ []) others (λ q e. among q (sym (ap (list_any (is_its q)) (append_assoc before (one ∷ []) others)) ∙ e))
        ∙ append_assoc before (one ∷ []) others
      where
        less : list_any (is_its (key_of one)) before ≡ false → length (firsts alike (filter counts before)) < limit
        less none =
            let most : suc (length (firsts alike (filter counts before))) ≤ length (firsts alike total) =
            at_most (one ∷ firsts alike (filter counts before)) (firsts alike total) (
              any_firsts cmp key_of is_its is_later keyed comes_before by_key (key_of one) (filter counts before) ∙ none_left (is_its (key_of one)) counts before none,
              distinct_firsts cmp key_of is_its is_later keyed comes_before by_key (filter counts before),
            )
            (λ q e. any_firsts cmp key_of is_its is_later keyed comes_before by_key q total ∙ among q (by q (is_its q one) refl e)) in
            omega arith
          where
            more : (q : Q) (c : Bool) → list_any (is_its q) before ≡ c → list_any (is_its q) (filter counts before) ≡ true → list_any (is_its q) before ≡ true
            more q true e f = e
            more q false e f = absurd (both_ways (list_any (is_its q) (filter counts before)) (none_left (is_its q) counts before e) f)

            by : (q : Q) (b : Bool) → is_its q one ≡ b → (b || list_any (is_its q) (firsts alike (filter counts before))) ≡ true → list_any (is_its q) (before ++ one ∷ others) ≡ true
            by q true its e = passes_among (is_its q) before others one its
            by q false its e =
                list_any-append (is_its q) before (one ∷ others)
                ∙ or_left (list_any (is_its q) before) (list_any (is_its q) (one ∷ others))
                (more q (list_any (is_its q) before) refl (sym (any_firsts cmp key_of is_its is_later keyed comes_before by_key q (filter counts before)) ∙ e))

        room : has_room alike counts limit before one ≡ true
        room = by (list_any (is_its (key_of one)) before) refl
          where
            decided : (a b : ℕ) → a < b → nat_lt a b ≡ true
            decided a b h = grind arith

            by : (b : Bool) → list_any (is_its (key_of one)) before ≡ b → (b || nat_lt (length (firsts alike (filter counts before))) limit) ≡ true
            by true e = refl
            by false e = decided (length (firsts alike (filter counts before))) limit (less e)
