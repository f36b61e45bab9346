-- The order of the slots after one is added or two have changed places.
use Rattle.std.proofs.Common.{◌≡◌, ◌≢◌, ◌+◌, ◌-◌, ◌<◌, ◌≤◌, ◌++◌, ◌∷◌, [], ℕ, suc, List, None, length, get_or, set, take, drop, arith, ◌⊎◌, inl, inr, refl, sym, ◌∙◌, ap, subst, length-take, length-drop, get_or-take, get_or-drop}
use Rattle.std.specs.List.{slice_get, slice_range, swap, cons_option}
use Rattle.std.proofs.lemmas.Bool.{cases_eq, cases_lt}
use Rattle.std.proofs.lemmas.List.{take_more_set, take-set-le, drop-set-lt, drop_more, length-set, take-set, length_push, get_or_push, get_or_append_left, append_assoc}
use Rattle.std.proofs.lemmas.List.Edits.{swapped_from_swap, Swapped, length-swap, swap_is}
use Rattle.span_pool.specs.Places.{with_place, standing, Lacks, AreDistinct, AreBelow, IsOrder}
use Rattle.span_pool.specs.declared.place.Place.{Place}
use Rattle.span_pool.proofs.PlaceLemmas.{standing-append}

pub Lacks-take : (order : List ℕ) (i : ℕ) → AreDistinct order → i < length order → Lacks (take i order) (get_or order i 0)
Lacks-take order i distinct within k below e =
    let small : k < i = omega (arith, length-take i order) in
    let same : k ≡ i = distinct k i (omega arith) within (sym (get_or-take i order k 0 small) ∙ e) in
    absurd (omega arith)

pub Lacks-drop : (order : List ℕ) (i : ℕ) → AreDistinct order → i < length order → Lacks (drop (i + 1) order) (get_or order i 0)
Lacks-drop order i distinct within k below e =
    let inside : i + 1 + k < length order = omega (arith, length-drop (i + 1) order) in
    let same : i + 1 + k ≡ i = distinct (i + 1 + k) i inside within (sym (get_or-drop (i + 1) order k 0) ∙ e) in
    absurd (omega arith)

-- a slot more than all there are
pub Lacks-below : (order : List ℕ) (rows : ℕ) → AreBelow order rows → Lacks order rows
Lacks-below order rows below k within e = omega (arith, below k within)

-- at the end is one more, or what was there
at_end : (order : List ℕ) (rows k : ℕ) → k < length (order ++ rows ∷ []) → ((k < length order) × (get_or (order ++ rows ∷ []) k 0 ≡ get_or order k 0)) ⊎ ((k ≡ length order) × (get_or (order ++ rows ∷ []) k 0 ≡ rows))
at_end order rows k within =
    elim (cases_lt k (length order)) [
      | inl small ↦ inl (small, get_or_append_left order (rows ∷ []) 0 k small)
      | inr large ↦ let e : length order ≡ k = omega (arith, length_push order rows) in inr (sym e, get_or_push order rows 0 k e)
    ]

pub IsOrder-push : (rows : ℕ) (order : List ℕ) (used : ℕ) → IsOrder rows order used → IsOrder (rows + 1) (order ++ rows ∷ []) (length order + 1)
IsOrder-push rows order used is = record {
  in_order = omega (arith, length_push order rows);
  as_long = omega (arith, length_push order rows, is.as_long);
  distinct = λ i j le ge e.
      elim (at_end order rows i le) [
        | inl a ↦ elim (at_end order rows j ge) [
          | inl b ↦ is.distinct i j a.0 b.0 (sym a.1 ∙ e ∙ b.1)
          | inr b ↦ absurd (omega (arith, is.below i a.0, sym a.1 ∙ e ∙ b.1))
        ]
        | inr a ↦ elim (at_end order rows j ge) [
          | inl b ↦ absurd (omega (arith, is.below j b.0, sym b.1 ∙ sym e ∙ a.1))
          | inr b ↦ omega (arith, a.0, b.0)
        ]
      ];
  below = λ k within. elim (at_end order rows k within) [
    | inl a ↦ omega (arith, is.below k a.0, a.1)
    | inr a ↦ omega (arith, a.1)
  ];
}

-- where an element comes from when two changed places
record CameFrom (order now : List ℕ) (a b m : ℕ) : Type 0 where
  place : ℕ
  within : place < length order
  same : get_or now m 0 ≡ get_or order place 0
  how : ((m ≡ a) × (place ≡ b)) ⊎ ((m ≡ b) × (place ≡ a)) ⊎ ((m ≢ a) × (m ≢ b) × (place ≡ m))

came_from : (order now : List ℕ) (a b m : ℕ) → a < length order → b < length order → m < length order → Swapped (λ i. get_or order i 0) (λ i. get_or now i 0) a b → CameFrom order now a b m
came_from order now a b m a_in b_in m_in swapped =
    elim (cases_eq m a) [
      | inl is_a ↦ record { place = b; within = b_in; same = ap (λ k. get_or now k 0) is_a ∙ swapped.0; how = inl (is_a, refl) }
      | inr not_a ↦ elim (cases_eq m b) [
        | inl is_b ↦ record { place = a; within = a_in; same = ap (λ k. get_or now k 0) is_b ∙ swapped.1; how = inr (inl (is_b, refl)) }
        | inr not_b ↦ record { place = m; within = m_in; same = swapped.2 m not_a not_b; how = inr (inr (not_a, not_b, refl)) }
      ]
    ]

apart_or_one : (a b i j p q : ℕ) → p ≡ q → ((i ≡ a) × (p ≡ b)) ⊎ ((i ≡ b) × (p ≡ a)) ⊎ ((i ≢ a) × (i ≢ b) × (p ≡ i)) → ((j ≡ a) × (q ≡ b)) ⊎ ((j ≡ b) × (q ≡ a)) ⊎ ((j ≢ a) × (j ≢ b) × (q ≡ j)) → i ≡ j
apart_or_one a b i j p q e x y = grind arith

AreDistinct-swapped : (order now : List ℕ) (a b : ℕ) → a < length order → b < length order → length now ≡ length order → Swapped (λ i. get_or order i 0) (λ i. get_or now i 0) a b → AreDistinct order → AreDistinct now
AreDistinct-swapped order now a b a_in b_in as_long swapped distinct i j le ge e =
    let x : CameFrom order now a b i = came_from order now a b i a_in b_in (omega (arith, as_long)) swapped in
    let y : CameFrom order now a b j = came_from order now a b j a_in b_in (omega (arith, as_long)) swapped in
    let one : x.place ≡ y.place = distinct x.place y.place x.within y.within (sym x.same ∙ e ∙ y.same) in
    apart_or_one a b i j x.place y.place one x.how y.how

pub IsOrder-swap : (rows : ℕ) (order : List ℕ) (used a b : ℕ) → a < length order → b < length order → IsOrder rows order used → IsOrder rows (swap order a b) used
IsOrder-swap rows order used a b a_in b_in is =
    let swapped : Swapped (λ i. get_or order i 0) (λ i. get_or (swap order a b) i 0) a b = swapped_from_swap order (swap order a b) a b 0 a_in b_in refl in
    record {
      in_order = omega (arith, length-swap order a b, is.in_order);
      as_long = length-swap order a b ∙ is.as_long;
      distinct = AreDistinct-swapped order (swap order a b) a b a_in b_in (length-swap order a b) swapped is.distinct;
      below = λ k within.
          let x : CameFrom order (swap order a b) a b k = came_from order (swap order a b) a b k a_in b_in (omega (arith, length-swap order a b)) swapped in
          subst (λ y. y < rows) (sym x.same) (is.below x.place x.within);
    }

-- the order while it is swept: those that are kept so far, and those still to be looked at
pub record IsSwept (places : List Place) (rows : ℕ) (first order : List ℕ) (used kept i : ℕ) : Type 0 where
  pub is_order : IsOrder rows order used
  pub within : kept ≤ i
  pub same : standing places (take kept order) ++ standing places (slice_range order i used) ≡ standing places (take used first)

rest_more : (order : List ℕ) (used i : ℕ) → used ≤ length order → i < used → slice_range order i used ≡ get_or order i 0 ∷ slice_range order (i + 1) used
rest_more order used i le lt =
    let e : used - i ≡ suc (used - (i + 1)) = omega arith in
    let within : i < length order = omega arith in
    ap (λ n. take n (drop i order)) e ∙ ap (take (suc (used - (i + 1)))) (drop_more order i 0 within)

-- the front and what is still to be looked at, when the one looked at goes to the end of the front
swapped_front : (order : List ℕ) (kept i : ℕ) → kept ≤ i → i < length order → take (kept + 1) (swap order kept i) ≡ take kept order ++ get_or order i 0 ∷ []
swapped_front order kept i le within =
    let kept_in : kept < length order = omega arith in
    let inner : length (set order kept (get_or order i 0)) ≡ length order = length-set order kept (get_or order i 0) in
    ap (take (kept + 1)) (sym (swap_is order kept i 0 kept_in within))
    ∙ elim (cases_lt kept i) [
      | inl lt ↦ take-set-le (kept + 1) (set order kept (get_or order i 0)) i (get_or order kept 0) (omega arith) ∙ take_more_set order kept (get_or order i 0) kept_in
      | inr ge ↦ let e : i ≡ kept = omega arith in
          ap (λ k. take (kept + 1) (set (set order kept (get_or order k 0)) k (get_or order kept 0))) e
          ∙ take_more_set (set order kept (get_or order kept 0)) kept (get_or order kept 0) (omega (arith, length-set order kept (get_or order kept 0)))
          ∙ ap (λ front. front ++ get_or order kept 0 ∷ []) (take-set order kept (get_or order kept 0))
          ∙ ap (λ k. take kept order ++ get_or order k 0 ∷ []) (sym e)
    ]

swapped_rest : (order : List ℕ) (kept i used : ℕ) → kept ≤ i → i < length order → slice_range (swap order kept i) (i + 1) used ≡ slice_range order (i + 1) used
swapped_rest order kept i used le within =
    ap (λ list. slice_range list (i + 1) used) (sym (swap_is order kept i 0 (omega arith) within))
    ∙ ap (take (used - (i + 1))) (drop-set-lt (i + 1) (set order kept (get_or order i 0)) i (get_or order kept 0) (omega arith) ∙ drop-set-lt (i + 1) order kept (get_or order i 0) (omega arith))

pub swept_skip : (places : List Place) (rows : ℕ) (first order : List ℕ) (used kept i : ℕ) → i < used → with_place (get_or order i 0) (slice_get places (get_or order i 0)) ≡ None → IsSwept places rows first order used kept i → IsSwept places rows first order used kept (i + 1)
swept_skip places rows first order used kept i lt nobodys is = record {
  is_order = is.is_order;
  within = omega (arith, is.within);
  same =
      ap (λ back. standing places (take kept order) ++ back)
      (sym (ap (standing places) (rest_more order used i is.is_order.in_order lt)
      ∙ ap (λ row. cons_option row (standing places (slice_range order (i + 1) used))) nobodys))
      ∙ is.same;
}

pub swept_take : (places : List Place) (rows : ℕ) (first order : List ℕ) (used kept i : ℕ) → i < used → IsSwept places rows first order used kept i → IsSwept places rows first (swap order kept i) used (kept + 1) (i + 1)
swept_take places rows first order used kept i lt is = record {
  is_order = IsOrder-swap rows order used kept i (omega (arith, is.within, is.is_order.in_order)) (omega (arith, is.is_order.in_order)) is.is_order;
  within = omega (arith, is.within);
  same =
      let x : ℕ = get_or order i 0 in
      let rest : List ℕ = slice_range order (i + 1) used in
      let inside : i < length order = omega (arith, is.is_order.in_order) in
      ap (λ front. standing places front ++ standing places (slice_range (swap order kept i) (i + 1) used)) (swapped_front order kept i is.within inside)
      ∙ ap (λ back. standing places (take kept order ++ x ∷ []) ++ standing places back) (swapped_rest order kept i used is.within inside)
      ∙ ap (λ front. front ++ standing places rest) (standing-append places (take kept order) (x ∷ []))
      ∙ append_assoc (standing places (take kept order)) (standing places (x ∷ [])) (standing places rest)
      ∙ ap (λ back. standing places (take kept order) ++ back) (sym (standing-append places (x ∷ []) rest))
      ∙ ap (λ back. standing places (take kept order) ++ standing places back) (sym (rest_more order used i is.is_order.in_order lt))
      ∙ is.same;
}
