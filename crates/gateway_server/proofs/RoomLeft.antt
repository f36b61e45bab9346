-- Where all keys have room, none is set aside as full.
use Rattle.std.proofs.Common.{◌≡◌, ◌∙◌, ◌++◌, ◌∷◌, ◌||◌, ◌<◌, ◌≤◌, ◌+◌, [], ℕ, ℤ, suc, Bool, true, false, cond, not, List, Result, Ok, Err, length, ap, sym, refl, subst, arith}
use Rattle.std.proofs.lemmas.Bool.{true≢false, and_parts, both_ways, eqb-true, or_left, or_right}
use Rattle.std.proofs.lemmas.Bool.Decides.{Decides-int_eq}
use Rattle.std.proofs.lemmas.Int.{ints}
use Rattle.std.proofs.lemmas.List.{append-nil, append_assoc}
use Rattle.std.proofs.lemmas.List.Elements.{filter-append}
use Rattle.std.proofs.lemmas.List.Folds.{list_any-append}
use Rattle.std.proofs.lemmas.List.Sums.{length-filter}
use Rattle.std.proofs.lemmas.Map.Views.{any-filter_same}
use Rattle.std.proofs.lemmas.Slice.Eq.{bytes_eq-Decides}
use Rattle.std.specs.Prelude.{◌==◌, ◌&&◌, filter, is_none, map, nat_lt}
use Rattle.std.specs.List.{count_by, list_any}
use Rattle.std.specs.Ordering.{int_eq}
use Rattle.std.specs.Result.{result_err}
use Rattle.journey_model.specs.Records.{Recorded}
use Rattle.journey_model.specs.declared.fault.Fault.{Fault}
use Rattle.journey_model.specs.declared.fault.Fault.TheVariants.{Full}
use Rattle.journey_model.specs.declared.situation.Situation.{Situation}
use Rattle.latest_store.specs.Latest.{has_number, is_of}
use Rattle.gateway_core.specs.Arrivals.{always, firsts, has_room, is_same_journey, is_same_number}
use Rattle.journey_model.specs.Reports.{aside_from}
use Rattle.gateway_core.specs.Taking.{report_on, with_room}
use Rattle.gateway_core.proofs.FewerLemmas.{none_left, one_goes}
use Rattle.gateway_server.specs.Completeness as completeness

-- verdicts of which none is a fault
abbrev pub all_ok : {A : Type 0} → List A → List (Result A Fault)
all_ok xs = map (λ one. Ok one) xs

-- ---- fewer

-- ---- keys

module _ {A : Type 0} (is_same : A → A → Bool) (own : (a : A) → is_same a a ≡ true) (alike : (a b : A) → is_same a b ≡ true → (c : A) → is_same a c ≡ is_same b c) where
  abbrev AreDistinct : List A → Type 0
  AreDistinct [] = Unit {0}
  AreDistinct (x ∷ xs) = (list_any (is_same x) xs ≡ false) × AreDistinct xs

  distinct_filter : (p : A → Bool) (xs : List A) → AreDistinct xs → AreDistinct (filter p xs)
  distinct_filter p [] h = tt
  distinct_filter p (x ∷ xs) h = by (p x) (distinct_filter p xs h.1)
    where
      by : (b : Bool) → AreDistinct (filter p xs) → AreDistinct (cond b (x ∷ filter p xs) (filter p xs))
      by true rest = (none_left (is_same x) p xs h.0, rest)
      by false rest = rest

  distinct_firsts : (all : List A) → AreDistinct (firsts is_same all)
  distinct_firsts [] = tt
  distinct_firsts (one ∷ others) = (
    any-filter_same (is_same one) (λ other. not (is_same one other)) false (λ a its. ap not its) (firsts is_same others),
    distinct_filter (λ other. not (is_same one other)) (firsts is_same others) (distinct_firsts others),
  )

  -- one of a key is of no other
  no_other : (q a b : A) → is_same q a ≡ false → is_same q b ≡ true → not (is_same a b) ≡ true
  no_other q a b lost its = by (is_same a b) refl
    where
      by : (c : Bool) → is_same a b ≡ c → not c ≡ true
      by false e = refl
      by true e = absurd (both_ways (is_same q a) lost (alike q b its a ∙ sym (alike a b e a) ∙ own a))

  any_firsts : (q : A) (all : List A) → list_any (is_same q) (firsts is_same all) ≡ list_any (is_same q) all
  any_firsts q [] = refl
  any_firsts q (one ∷ others) = by (is_same q one) refl (any_firsts q others)
    where
      by : (b : Bool) → is_same q one ≡ b → list_any (is_same q) (firsts is_same others) ≡ list_any (is_same q) others
          → (b || list_any (is_same q) (filter (λ other. not (is_same one other)) (firsts is_same others))) ≡ (b || list_any (is_same q) others)
      by true e rest = refl
      by false e rest = any-filter_same (is_same q) (λ other. not (is_same one other)) true (λ a its. no_other q one a e its) (firsts is_same others) ∙ rest

  -- different ones are no more than those among which their keys are
  at_most : (xs ys : List A) → AreDistinct xs → ((q : A) → list_any (is_same q) xs ≡ true → list_any (is_same q) ys ≡ true) → length xs ≤ length ys
  at_most [] ys h among = omega arith
  at_most (x ∷ xs) ys h among =
      let less : length (filter (λ y. not (is_same x y)) ys) < length ys =
      one_goes (is_same x) ys (among x (or_left (is_same x x) (list_any (is_same x) xs) (own x))) in
      let rest : length xs ≤ length (filter (λ y. not (is_same x y)) ys) = at_most xs (filter (λ y. not (is_same x y)) ys) h.1 (λ q e. by q e (is_same q x) refl) in
      omega arith
    where
      same_any : (q : A) → is_same q x ≡ true → (zs : List A) → list_any (is_same q) zs ≡ list_any (is_same x) zs
      same_any q its [] = refl
      same_any q its (z ∷ zs) = λ i. alike q x its z i || same_any q its zs i

      by : (q : A) → list_any (is_same q) xs ≡ true → (b : Bool) → is_same q x ≡ b → list_any (is_same q) (filter (λ y. not (is_same x y)) ys) ≡ true
      by q e true its = absurd (both_ways (list_any (is_same q) xs) (same_any q its xs ∙ h.0) e)
      by q e false its =
          any-filter_same (is_same q) (λ y. not (is_same x y)) true (λ a of_q. no_other q x a its of_q) ys
          ∙ among q (or_right (is_same q x) (list_any (is_same q) xs) e)

  -- with one left out there are no more keys
  no_more_keys : (before others : List A) (one : A) → length (firsts is_same (before ++ others)) ≤ length (firsts is_same (before ++ one ∷ others))
  no_more_keys before others one =
      at_most (firsts is_same (before ++ others)) (firsts is_same (before ++ one ∷ others)) (distinct_firsts (before ++ others))
      (λ q e. any_firsts q (before ++ one ∷ others) ∙ list_any-append (is_same q) before (one ∷ others)
      ∙ wider (list_any (is_same q) before) (is_same q one) (list_any (is_same q) others) (sym (list_any-append (is_same q) before others) ∙ sym (any_firsts q (before ++ others)) ∙ e))
    where
      wider : (a b c : Bool) → (a || c) ≡ true → (a || (b || c)) ≡ true
      wider true b c e = refl
      wider false b c e = or_right b c e

  -- one of a key that isn't there is one more
  one_key_more : (before others : List A) (one : A) → list_any (is_same one) before ≡ false → length (firsts is_same before) < length (firsts is_same (before ++ one ∷ others))
  one_key_more before others one none =
      let most : suc (length (firsts is_same before)) ≤ length (firsts is_same (before ++ one ∷ others)) =
      at_most (one ∷ firsts is_same before) (firsts is_same (before ++ one ∷ others)) (any_firsts one before ∙ none, distinct_firsts before)
      (λ q e. any_firsts q (before ++ one ∷ others) ∙ list_any-append (is_same q) before (one ∷ others)
      ∙ wider (list_any (is_same q) before) (is_same q one) (list_any (is_same q) others) (sym (ap (λ (b : Bool). is_same q one || b) (any_firsts q before)) ∙ e)) in
      omega arith
    where
      wider : (a b c : Bool) → (b || a) ≡ true → (a || (b || c)) ≡ true
      wider true b c e = refl
      wider false true c e = refl
      wider false false c e = absurd (true≢false (sym e))

  -- where all keys have room, none is set aside
  pub all_fit : (counts : A → Bool) (limit : ℕ) (before xs : List A) → length (firsts is_same (filter counts before ++ xs)) ≤ limit
      → with_room is_same counts limit before (all_ok xs) ≡ all_ok xs
  all_fit counts limit before [] few = refl
  all_fit counts limit before (one ∷ others) few =
      ap (λ (b : Bool). cond b (Ok one ∷ with_room is_same counts limit (before ++ one ∷ []) (all_ok others)) (Err Full ∷ with_room is_same counts limit before (all_ok others))) room
      ∙ ap (λ (rest : List (Result A Fault)). Ok one ∷ rest) (all_fit counts limit (before ++ one ∷ []) others left)
    where
      by_count : (b : Bool) → length (firsts is_same ((filter counts before ++ cond b (one ∷ []) []) ++ others)) ≤ limit
      by_count true = subst (λ (zs : List A). length (firsts is_same zs) ≤ limit) (sym (append_assoc (filter counts before) (one ∷ []) others)) few
      by_count false =
          let fewer : length (firsts is_same (filter counts before ++ others)) ≤ length (firsts is_same (filter counts before ++ one ∷ others)) = no_more_keys (filter counts before) others one in
          subst (λ (zs : List A). length (firsts is_same (zs ++ others)) ≤ limit) (sym (append-nil (filter counts before))) (omega arith)

      left : length (firsts is_same (filter counts (before ++ one ∷ []) ++ others)) ≤ limit
      left = subst (λ (zs : List A). length (firsts is_same (zs ++ others)) ≤ limit) (sym (filter-append counts before (one ∷ []))) (by_count (counts one))

      decided : (a b : ℕ) → a < b → nat_lt a b ≡ true
      decided a b h = grind arith

      room : has_room is_same counts limit before one ≡ true
      room = by (list_any (is_same one) before) refl
        where
          by : (b : Bool) → list_any (is_same one) before ≡ b → (b || nat_lt (length (firsts is_same (filter counts before))) limit) ≡ true
          by true e = refl
          by false e =
              let less : length (firsts is_same (filter counts before)) < length (firsts is_same (filter counts before ++ one ∷ others)) =
              one_key_more (filter counts before) others one (none_left (is_same one) counts before e) in
              decided (length (firsts is_same (filter counts before))) limit (omega arith)

-- ---- the report on verdicts of which none is a fault

no_fault : {A : Type 0} (xs : List A) (number : ℕ) → aside_from number (map result_err (all_ok xs)) ≡ []
no_fault [] number = refl
no_fault (x ∷ xs) number = no_fault xs (number + 1)

all_counted : {A : Type 0} (xs : List A) → count_by is_none (map result_err (all_ok xs)) ≡ length xs
all_counted xs = sym (length-filter is_none (map result_err (all_ok xs))) ∙ kept xs
  where
    kept : {A : Type 0} (xs : List A) → length (filter is_none (map result_err (all_ok xs))) ≡ length xs
    kept [] = refl
    kept (x ∷ xs) = ap suc (kept xs)

pub report_of : {A : Type 0} (xs : List A) (passed : ℕ) → report_on (all_ok xs) passed ≡ completeness.none_aside (length xs) passed
report_of xs passed = λ i. record { taken = all_counted xs i; passed = passed; aside = no_fault xs 0 i }

-- ---- journeys and numbers

pub own_journey : (a : Recorded) → is_same_journey a a ≡ true
own_journey a = at a.trip a.day
  where
    at : (trip : ℕ) (day : ℤ) → ((trip == trip) && int_eq day day) ≡ true
    at trip day = grind (arith, ints)

pub alike_journeys : (a b : Recorded) → is_same_journey a b ≡ true → (c : Recorded) → is_same_journey a c ≡ is_same_journey b c
alike_journeys a b same c =
    let both : ((b.trip == a.trip) ≡ true) × (int_eq b.day a.day ≡ true) = and_parts (b.trip == a.trip) (int_eq b.day a.day) same in
    let trips : b.trip ≡ a.trip = eqb-true b.trip a.trip both.0 in
    let days : b.day ≡ a.day = (Decides-int_eq b.day a.day).0 both.1 in
    sym (λ i. is_of (trips i) (days i) c)

pub own_number : (a : Situation) → is_same_number a a ≡ true
own_number a = (bytes_eq-Decides a.number a.number).1 refl

pub alike_numbers : (a b : Situation) → is_same_number a b ≡ true → (c : Situation) → is_same_number a c ≡ is_same_number b c
alike_numbers a b same c = sym (ap (λ (number : List ℕ). has_number number c) ((bytes_eq-Decides b.number a.number).0 same))

pub all_pass : (xs : List Situation) → filter always xs ≡ xs
all_pass [] = refl
all_pass (x ∷ xs) = ap (λ (ys : List Situation). x ∷ ys) (all_pass xs)
