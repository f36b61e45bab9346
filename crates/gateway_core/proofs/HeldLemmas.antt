-- The latest of a key, when one more arrives.
use Rattle.std.proofs.Common.{◌≡◌, ◌∙◌, ◌++◌, ◌∷◌, [], ℕ, suc, Bool, true, false, not, ◌||◌, List, Option, Some, None, sym, ap, refl, subst}
use Rattle.std.proofs.lemmas.Bool.{or_left, or_right, true≢false}
use Rattle.std.proofs.lemmas.List.{append_assoc}
use Rattle.std.proofs.lemmas.List.Folds.{list_any-append}
use Rattle.std.specs.Prelude.{slice_get}
use Rattle.std.specs.List.{AllByRecursion, list_any}
use Rattle.gw_base.proofs.Elements.{all_append}
use Rattle.latest_store.specs.Latest.{HasLatestOf, IsLatestOf}
use Rattle.gateway_core.specs.Winners.{counts_by}

-- ---- tests over lists

or_false : (a b : Bool) → (a || b) ≡ false → (a ≡ false) × (b ≡ false)
or_false false b h = (refl, h)
or_false true b h = absurd (true≢false h)

not_false : (b : Bool) → not b ≡ false → b ≡ true
not_false true h = refl
not_false false h = absurd (true≢false h)

none_joined : {X : Type 0} (p : X → Bool) (xs ys : List X) → list_any p xs ≡ false → list_any p ys ≡ false → list_any p (xs ++ ys) ≡ false
none_joined p xs ys h k = list_any-append p xs ys ∙ (rw (h, k) refl)

one_none : {X : Type 0} (p : X → Bool) (x : X) → p x ≡ false → list_any p (x ∷ []) ≡ false
one_none p x h = rw h refl

-- one of the elements passes a test
pub passes_among : {X : Type 0} (test : X → Bool) (before after : List X) (one : X) → test one ≡ true → list_any test (before ++ one ∷ after) ≡ true
passes_among test [] after one e = or_left (test one) (list_any test after) e
passes_among test (first ∷ before) after one e = or_right (test first) (list_any test (before ++ one ∷ after)) (passes_among test before after one e)

-- ---- what holds of all

pub all_among : {A : Type 0} (P : A → Type 0) (before : List A) (one : A) (after : List A) → AllByRecursion P (before ++ one ∷ after) → P one
all_among P [] one after h = h.0
all_among P (first ∷ before) one after h = all_among P before one after h.1

all_at : {X : Type 0} (P : X → Type 0) (xs : List X) → ((i : ℕ) (x : X) → slice_get xs i ≡ Some x → P x) → AllByRecursion P xs
all_at P [] f = tt
all_at P (x ∷ xs) f = (f 0 x refl, all_at P xs (λ i y h. f (suc i) y h))

pub all_weaker : {X : Type 0} (P Q : X → Type 0) → ((x : X) → P x → Q x) → (xs : List X) → AllByRecursion P xs → AllByRecursion Q xs
all_weaker P Q f [] h = tt
all_weaker P Q f (x ∷ xs) h = (f x h.0, all_weaker P Q f xs h.1)

-- ---- the one that counts, when one more arrives

module _ {A : Type 0} (is_its : A → Bool) (is_later : A → A → Bool) where
  -- what is said of those before the one that counts, and of those after it
  abbrev pub IsNoLater : A → A → Type 0
  IsNoLater one other = is_its other ≡ true → is_later other one ≡ false

  abbrev pub IsEarlier : A → A → Type 0
  IsEarlier one other = is_its other ≡ true → is_later one other ≡ true

  -- none of another key is compared
  never_its : {P : Type 0} (one : A) → is_its one ≡ false → is_its one ≡ true → P
  never_its one lost its = absurd (true≢false (sym its ∙ lost))

  none_its : (one : A) (others : List A) → list_any is_its others ≡ false → AllByRecursion (IsNoLater one) others
  none_its one [] none = tt
  none_its one (other ∷ others) none =
      let both = or_false (is_its other) (list_any is_its others) none in
      (never_its other both.0, none_its one others both.1)

  -- one of another key
  pub latest_other : (all : List A) (one : A) (found : Option A) → is_its one ≡ false → HasLatestOf is_its is_later all found → HasLatestOf is_its is_later (all ++ one ∷ []) found
  latest_other all one None lost h = none_joined is_its all (one ∷ []) h (one_none is_its one lost)
  latest_other all one (Some old) lost h = record {
    before = h.before;
    after = h.after ++ one ∷ [];
    among = ap (λ (front : List A). front ++ one ∷ []) h.among ∙ append_assoc h.before (old ∷ h.after) (one ∷ []);
    its = h.its;
    none_later = h.none_later;
    all_earlier = all_append (IsEarlier old) h.after (one ∷ []) h.all_earlier (never_its one lost, tt);
  }

  -- one that isn't as late
  latest_kept : (all : List A) (one old : A) → is_later old one ≡ true → IsLatestOf is_its is_later all old → IsLatestOf is_its is_later (all ++ one ∷ []) old
  latest_kept all one old late h = record {
    before = h.before;
    after = h.after ++ one ∷ [];
    among = ap (λ (front : List A). front ++ one ∷ []) h.among ∙ append_assoc h.before (old ∷ h.after) (one ∷ []);
    its = h.its;
    none_later = h.none_later;
    all_earlier = all_append (IsEarlier old) h.after (one ∷ []) h.all_earlier (λ its. late, tt);
  }

  -- the first of its key
  latest_first : (all : List A) (one : A) → is_its one ≡ true → list_any is_its all ≡ false → IsLatestOf is_its is_later (all ++ one ∷ []) one
  latest_first all one its none = record {
    before = all;
    after = [];
    among = refl;
    its = its;
    none_later = none_its one all none;
    all_earlier = tt;
  }

  module _ (gap : (a b c : A) → is_later a b ≡ false → is_later b c ≡ false → is_later a c ≡ false)
      (later_after : (a b c : A) → is_later a b ≡ true → is_later a c ≡ false → is_later b c ≡ false) where
    -- one that is as late
    latest_new : (all : List A) (one old : A) → is_its one ≡ true → is_later old one ≡ false → IsLatestOf is_its is_later all old → IsLatestOf is_its is_later (all ++ one ∷ []) one
    latest_new all one old its late h = record {
      before = all;
      after = [];
      among = refl;
      its = its;
      none_later =
          let front : AllByRecursion (IsNoLater one) h.before =
          all_weaker (IsNoLater old) (IsNoLater one) (λ other late_not its. gap other old one (late_not its) late) h.before h.none_later in
          let back : AllByRecursion (IsNoLater one) h.after =
          all_weaker (IsEarlier old) (IsNoLater one) (λ other earlier its. later_after old other one (earlier its) late) h.after h.all_earlier in
          subst (AllByRecursion (IsNoLater one)) (sym h.among) (all_append (IsNoLater one) h.before (old ∷ h.after) front (λ its. late, back));
      all_earlier = tt;
    }

    pub latest_at : (all : List A) (one : A) (found : Option A) → is_its one ≡ true → HasLatestOf is_its is_later all found → counts_by is_later found one ≡ true
        → IsLatestOf is_its is_later (all ++ one ∷ []) one
    latest_at all one None its h won = latest_first all one its h
    latest_at all one (Some old) its h won = latest_new all one old its (is_false (is_later old one) won) h
      where
        is_false : (b : Bool) → not b ≡ true → b ≡ false
        is_false true e = sym e
        is_false false e = refl

  pub latest_stays : (all : List A) (one : A) (found : Option A) → HasLatestOf is_its is_later all found → counts_by is_later found one ≡ false
      → HasLatestOf is_its is_later (all ++ one ∷ []) found
  latest_stays all one None h lost = absurd (true≢false lost)
  latest_stays all one (Some old) h lost = latest_kept all one old (not_false (is_later old one) lost) h
