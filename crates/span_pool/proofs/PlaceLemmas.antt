-- What stands where after a move of one slot or one span.
use Rattle.std.proofs.Common.{◌≡◌, ◌≢◌, ◌+◌, ◌-◌, ◌<◌, ◌≤◌, ◌++◌, ◌∷◌, [], ℕ, zero, suc, List, Option, None, Some, length, get_or, set, take, drop, eqb, leb, arith, ◌⊎◌, inl, inr, refl, sym, ◌∙◌, ap, subst, Bool, true, false, cond}
use Rattle.std.specs.List.{slice_get, slice_range, cons_option}
use Rattle.std.proofs.lemmas.Bool.Decides.{nat_tests}
use Rattle.std.proofs.lemmas.Grind.{common_steps}
use Rattle.std.proofs.lemmas.Bool.{eqb-true, cases_eq, eq-eqb, ne_eqb, lt-leb}
use Rattle.std.proofs.lemmas.List.{take-take, drop-drop, map-append}
use Rattle.std.proofs.lemmas.Slice.{between_is}
use Rattle.std.proofs.lemmas.List.Elements.{filter_map-append}
use Rattle.std.proofs.lemmas.Option.{gets, slice_get-get_or}
use Rattle.span_pool.specs.Spans.{bytes_of, without}
use Rattle.span_pool.specs.Places.{with_place, standing, cut, Ascends, Lacks, AreBelow}
use Rattle.span_pool.specs.declared.place.Place.{Place}

slice_get-set_first : (p place : Place) (places : List Place) (other : ℕ) → other ≢ zero → slice_get (place ∷ places) other ≡ slice_get (p ∷ places) other
slice_get-set_first p place places zero ne = absurd (ne refl)
slice_get-set_first p place places (suc other) ne = refl

-- rows that these slots don't have may change
slice_get-set : (places : List Place) (slot other : ℕ) (place : Place) → other ≢ slot → slice_get (set places slot place) other ≡ slice_get places other
slice_get-set [] slot other place ne = refl
slice_get-set (p ∷ places) zero other place ne = slice_get-set_first p place places other ne
slice_get-set (p ∷ places) (suc slot) zero place ne = refl
slice_get-set (p ∷ places) (suc slot) (suc other) place ne = slice_get-set places slot other place (λ e. ne (ap suc e))

pub slice_get-set_same : (places : List Place) (slot : ℕ) (place : Place) → slot < length places → slice_get (set places slot place) slot ≡ Some place
slice_get-set_same places slot place within = grind (arith, common_steps, gets)

slice_get-append : (places more : List Place) (slot : ℕ) → slot < length places → slice_get (places ++ more) slot ≡ slice_get places slot
slice_get-append places more slot within = grind (arith, common_steps, gets)

pub row_nobodys : (places : List Place) (slot : ℕ) (d : Place) → slot < length places → leb (get_or places slot d).start (get_or places slot d).end ≡ false → with_place slot (slice_get places slot) ≡ None
row_nobodys places slot d within nobodys =
    ap (with_place slot) (slice_get-get_or places slot d within) ∙ ap (λ b. cond b (Some (slot, get_or places slot d)) None) nobodys

Lacks-rest : (x : ℕ) (xs : List ℕ) (slot : ℕ) → Lacks (x ∷ xs) slot → Lacks xs slot
Lacks-rest x xs slot lacks k within = lacks (suc k) (omega arith)

pub standing-set : (slots : List ℕ) (places : List Place) (slot : ℕ) (place : Place) → Lacks slots slot → standing (set places slot place) slots ≡ standing places slots
standing-set [] places slot place lacks = refl
standing-set (x ∷ xs) places slot place lacks =
    let ne : x ≢ slot = lacks 0 (omega arith) in
    rw (slice_get-set places slot x place ne, standing-set xs places slot place (Lacks-rest x xs slot lacks)) refl

pub standing-append_row : (slots : List ℕ) (places more : List Place) → AreBelow slots (length places) → standing (places ++ more) slots ≡ standing places slots
standing-append_row [] places more below = refl
standing-append_row (x ∷ xs) places more below =
    rw (slice_get-append places more x (below 0 (omega arith)), standing-append_row xs places more (λ k within. below (suc k) (omega arith))) refl

bytes_of-row : (bytes : List ℕ) (x slot : ℕ) (b : Bool) (place : Place) (stand : List (ℕ × Place)) → x ≢ slot → bytes_of (cut bytes (cons_option (cond b (Some (x, place)) None) stand)) slot ≡ bytes_of (cut bytes stand) slot
bytes_of-row bytes x slot true place stand ne = grind (arith, nat_tests)
bytes_of-row bytes x slot false place stand ne = refl

bytes_of-place : (bytes : List ℕ) (x slot : ℕ) (place : Option Place) (stand : List (ℕ × Place)) → x ≢ slot → bytes_of (cut bytes (cons_option (with_place x place) stand)) slot ≡ bytes_of (cut bytes stand) slot
bytes_of-place bytes x slot None stand ne = refl
bytes_of-place bytes x slot (Some place) stand ne = bytes_of-row bytes x slot (leb place.start place.end) place stand ne

-- a slot that is not there holds nothing
pub bytes_of-lacks : (slots : List ℕ) (bytes : List ℕ) (places : List Place) (slot : ℕ) → Lacks slots slot → bytes_of (cut bytes (standing places slots)) slot ≡ None
bytes_of-lacks [] bytes places slot lacks = refl
bytes_of-lacks (x ∷ xs) bytes places slot lacks =
    bytes_of-place bytes x slot (slice_get places x) (standing places xs) (lacks 0 (omega arith)) ∙ bytes_of-lacks xs bytes places slot (Lacks-rest x xs slot lacks)

-- what is at places below is the same where the bytes below are
slice_range-below : (bytes now : List ℕ) (n start end : ℕ) → take n now ≡ take n bytes → end ≤ n → slice_range now start end ≡ slice_range bytes start end
slice_range-below bytes now n start end same within =
    between_is now start end
    ∙ ap (drop start) (sym (take-take end n now within) ∙ ap (take end) same ∙ take-take end n bytes within)
    ∙ sym (between_is bytes start end)

slice_range-above : (bytes now : List ℕ) (n start end : ℕ) → drop n now ≡ drop n bytes → n ≤ start → slice_range now start end ≡ slice_range bytes start end
slice_range-above bytes now n start end same within =
    let e : n + (start - n) ≡ start = omega arith in
    let there : (list : List ℕ) → drop start list ≡ drop (start - n) (drop n list) = λ list. sym (drop-drop (start - n) n list ∙ ap (λ k. drop k list) e) in
    ap (take (end - start)) (there now ∙ ap (drop (start - n)) same ∙ sym (there bytes))

pub Ascends-weaken : (stand : List (ℕ × Place)) (from lower limit : ℕ) → lower ≤ from → Ascends from stand limit → Ascends lower stand limit
Ascends-weaken [] from lower limit le ascends = omega arith
Ascends-weaken (it ∷ stand) from lower limit le ascends = (omega (arith, ascends.0), ascends.1, ascends.2)

pub Ascends-le : (stand : List (ℕ × Place)) (from limit : ℕ) → Ascends from stand limit → from ≤ limit
Ascends-le [] from limit ascends = ascends
Ascends-le (it ∷ stand) from limit ascends = omega (arith, ascends.0, ascends.1, Ascends-le stand it.1.end limit ascends.2)

pub cut-below : (stand : List (ℕ × Place)) (bytes now : List ℕ) (from limit : ℕ) → Ascends from stand limit → take limit now ≡ take limit bytes → cut now stand ≡ cut bytes stand
cut-below [] bytes now from limit ascends same = refl
cut-below (it ∷ stand) bytes now from limit ascends same =
    rw (slice_range-below bytes now limit it.1.start it.1.end same (Ascends-le stand it.1.end limit ascends.2), cut-below stand bytes now it.1.end limit ascends.2 same) refl

pub cut-above : (stand : List (ℕ × Place)) (bytes now : List ℕ) (from limit n : ℕ) → n ≤ from → Ascends from stand limit → drop n now ≡ drop n bytes → cut now stand ≡ cut bytes stand
cut-above [] bytes now from limit n le ascends same = refl
cut-above (it ∷ stand) bytes now from limit n le ascends same =
    rw (slice_range-above bytes now n it.1.start it.1.end same (omega (arith, ascends.0)), cut-above stand bytes now it.1.end limit n (omega (arith, ascends.0, ascends.1)) ascends.2 same) refl

pub standing-append : (places : List Place) (xs ys : List ℕ) → standing places (xs ++ ys) ≡ standing places xs ++ standing places ys
standing-append places xs ys = filter_map-append (λ slot. with_place slot (slice_get places slot)) xs ys

pub cut-append : (bytes : List ℕ) (xs ys : List (ℕ × Place)) → cut bytes (xs ++ ys) ≡ cut bytes xs ++ cut bytes ys
cut-append bytes xs ys = map-append (λ (it : ℕ × Place). (it.0, slice_range bytes it.1.start it.1.end)) xs ys

pub Ascends-append : (xs ys : List (ℕ × Place)) (from mid limit : ℕ) → Ascends from xs mid → Ascends mid ys limit → Ascends from (xs ++ ys) limit
Ascends-append [] ys from mid limit front back = Ascends-weaken ys mid from limit front back
Ascends-append (it ∷ xs) ys from mid limit front back = (front.0, front.1, Ascends-append xs ys it.1.end mid limit front.2 back)

-- where a slot's bytes are found
pub record IsAt (bytes : List ℕ) (place : Option Place) (limit : ℕ) (span : List ℕ) : Type 0 where
  pub at : Place
  pub is : place ≡ Some at
  pub ordered : at.start ≤ at.end
  pub within : at.end ≤ limit
  pub span_is : span ≡ slice_range bytes at.start at.end

-- what is left where they are not those of the first
record IsLater (bytes : List ℕ) (stand : List (ℕ × Place)) (slot limit : ℕ) (span : List ℕ) : Type 0 where
  from : ℕ
  ascends : Ascends from stand limit
  held : bytes_of (cut bytes stand) slot ≡ Some span

found_here : (bytes : List ℕ) (x slot : ℕ) (b c : Bool) (place : Place) (stand : List (ℕ × Place)) (from limit : ℕ) (span : List ℕ) → leb place.start place.end ≡ b → eqb x slot ≡ c → Ascends from (cons_option (cond b (Some (x, place)) None) stand) limit → bytes_of (cut bytes (cons_option (cond b (Some (x, place)) None) stand)) slot ≡ Some span → ((x ≡ slot) × IsAt bytes (Some place) limit span) ⊎ IsLater bytes stand slot limit span
found_here bytes x slot false c place stand from limit span taken same ascends held = inr (record { from = from; ascends = ascends; held = held })
found_here bytes x slot true true place stand from limit span taken same ascends held = inl (eqb-true x slot same, record { at = place; is = refl; ordered = ascends.1; within = Ascends-le stand place.end limit ascends.2; span_is = let h : bytes_of (cut bytes ((x, place) ∷ stand)) slot ≡ Some span = held in grind (arith, nat_tests) })
found_here bytes x slot true false place stand from limit span taken same ascends held = inr (record { from = place.end; ascends = ascends.2; held = let h : bytes_of (cut bytes ((x, place) ∷ stand)) slot ≡ Some span = held in grind (arith, nat_tests) })

found_first : (bytes : List ℕ) (x slot : ℕ) (place : Option Place) (stand : List (ℕ × Place)) (from limit : ℕ) (span : List ℕ) → Ascends from (cons_option (with_place x place) stand) limit → bytes_of (cut bytes (cons_option (with_place x place) stand)) slot ≡ Some span → ((x ≡ slot) × IsAt bytes place limit span) ⊎ IsLater bytes stand slot limit span
found_first bytes x slot None stand from limit span ascends held = inr (record { from = from; ascends = ascends; held = held })
found_first bytes x slot (Some place) stand from limit span ascends held = found_here bytes x slot (leb place.start place.end) (eqb x slot) place stand from limit span refl refl ascends held

pub found : (slots : List ℕ) (bytes : List ℕ) (places : List Place) (slot from limit : ℕ) (span : List ℕ) → Ascends from (standing places slots) limit → bytes_of (cut bytes (standing places slots)) slot ≡ Some span → IsAt bytes (slice_get places slot) limit span
found [] bytes places slot from limit span ascends held = cc
found (x ∷ xs) bytes places slot from limit span ascends held =
    elim (found_first bytes x slot (slice_get places x) (standing places xs) from limit span ascends held) [
      | inl here ↦ subst (λ at. IsAt bytes (slice_get places at) limit span) here.0 here.1
      | inr later ↦ found xs bytes places slot later.from limit span later.ascends later.held
    ]

-- the first of some slots where another's place, or its own, becomes nobody's
nobodys_row : (places : List Place) (slot : ℕ) (nobodys : Place) → slot < length places → nobodys.end < nobodys.start → with_place slot (slice_get (set places slot nobodys) slot) ≡ None
nobodys_row places slot nobodys within empty =
    rw (slice_get-set_same places slot nobodys within, lt-leb nobodys.start nobodys.end empty) refl

without_row : (bytes : List ℕ) (slot : ℕ) (b : Bool) (place : Place) (stand : List (ℕ × Place)) → without (cut bytes (cons_option (cond b (Some (slot, place)) None) stand)) slot ≡ without (cut bytes stand) slot
without_row bytes slot true place stand = rw (eq-eqb slot slot refl) refl
without_row bytes slot false place stand = refl

without_same : (bytes : List ℕ) (slot : ℕ) (place : Option Place) (stand : List (ℕ × Place)) → without (cut bytes (cons_option (with_place slot place) stand)) slot ≡ without (cut bytes stand) slot
without_same bytes slot None stand = refl
without_same bytes slot (Some place) stand = without_row bytes slot (leb place.start place.end) place stand

without_other_row : (bytes : List ℕ) (x slot : ℕ) (b : Bool) (place : Place) (stand now : List (ℕ × Place)) → x ≢ slot → cut bytes now ≡ without (cut bytes stand) slot → cut bytes (cons_option (cond b (Some (x, place)) None) now) ≡ without (cut bytes (cons_option (cond b (Some (x, place)) None) stand)) slot
without_other_row bytes x slot true place stand now ne same = rw (ne_eqb x slot ne, same) refl
without_other_row bytes x slot false place stand now ne same = same

without_other : (bytes : List ℕ) (x slot : ℕ) (place : Option Place) (stand now : List (ℕ × Place)) → x ≢ slot → cut bytes now ≡ without (cut bytes stand) slot → cut bytes (cons_option (with_place x place) now) ≡ without (cut bytes (cons_option (with_place x place) stand)) slot
without_other bytes x slot None stand now ne same = same
without_other bytes x slot (Some place) stand now ne same = without_other_row bytes x slot (leb place.start place.end) place stand now ne same

-- what is left after a slot's place became nobody's
pub standing-nobodys : (slots : List ℕ) (bytes : List ℕ) (places : List Place) (slot : ℕ) (nobodys : Place) → slot < length places → nobodys.end < nobodys.start → cut bytes (standing (set places slot nobodys) slots) ≡ without (cut bytes (standing places slots)) slot
standing-nobodys [] bytes places slot nobodys within empty = refl
standing-nobodys (x ∷ xs) bytes places slot nobodys within empty =
    let rest = standing-nobodys xs bytes places slot nobodys within empty in
    elim (cases_eq x slot) [
      | inl same ↦ subst (λ at. cut bytes (standing (set places slot nobodys) (at ∷ xs)) ≡ without (cut bytes (standing places (at ∷ xs))) slot) (sym same)
          (ap (λ row. cut bytes (cons_option row (standing (set places slot nobodys) xs))) (nobodys_row places slot nobodys within empty)
          ∙ rest ∙ sym (without_same bytes slot (slice_get places slot) (standing places xs)))
      | inr ne ↦ ap (λ at. cut bytes (cons_option (with_place x at) (standing (set places slot nobodys) xs))) (slice_get-set places slot x nobodys ne)
          ∙ without_other bytes x slot (slice_get places x) (standing places xs) (standing (set places slot nobodys) xs) ne rest
    ]

Ascends_row : (x : ℕ) (b : Bool) (place : Place) (stand now : List (ℕ × Place)) (from limit : ℕ) → ((lower : ℕ) → Ascends lower stand limit → Ascends lower now limit) → Ascends from (cons_option (cond b (Some (x, place)) None) stand) limit → Ascends from (cons_option (cond b (Some (x, place)) None) now) limit
Ascends_row x true place stand now from limit rest ascends = (ascends.0, ascends.1, rest place.end ascends.2)
Ascends_row x false place stand now from limit rest ascends = rest from ascends

Ascends_other : (x : ℕ) (place : Option Place) (stand now : List (ℕ × Place)) (from limit : ℕ) → ((lower : ℕ) → Ascends lower stand limit → Ascends lower now limit) → Ascends from (cons_option (with_place x place) stand) limit → Ascends from (cons_option (with_place x place) now) limit
Ascends_other x None stand now from limit rest ascends = rest from ascends
Ascends_other x (Some place) stand now from limit rest ascends = Ascends_row x (leb place.start place.end) place stand now from limit rest ascends

Ascends_less_row : (x : ℕ) (b : Bool) (place : Place) (stand : List (ℕ × Place)) (from limit : ℕ) → Ascends from (cons_option (cond b (Some (x, place)) None) stand) limit → Ascends from stand limit
Ascends_less_row x true place stand from limit ascends = Ascends-weaken stand place.end from limit (omega (arith, ascends.0, ascends.1)) ascends.2
Ascends_less_row x false place stand from limit ascends = ascends

Ascends_less : (x : ℕ) (place : Option Place) (stand : List (ℕ × Place)) (from limit : ℕ) → Ascends from (cons_option (with_place x place) stand) limit → Ascends from stand limit
Ascends_less x None stand from limit ascends = ascends
Ascends_less x (Some place) stand from limit ascends = Ascends_less_row x (leb place.start place.end) place stand from limit ascends

pub Ascends-nobodys : (slots : List ℕ) (places : List Place) (slot : ℕ) (nobodys : Place) (from limit : ℕ) → slot < length places → nobodys.end < nobodys.start → Ascends from (standing places slots) limit → Ascends from (standing (set places slot nobodys) slots) limit
Ascends-nobodys [] places slot nobodys from limit within empty ascends = ascends
Ascends-nobodys (x ∷ xs) places slot nobodys from limit within empty ascends =
    elim (cases_eq x slot) [
      | inl same ↦ subst (λ at. Ascends from (standing (set places slot nobodys) (at ∷ xs)) limit) (sym same)
          (subst (λ row. Ascends from (cons_option row (standing (set places slot nobodys) xs)) limit) (sym (nobodys_row places slot nobodys within empty))
          (Ascends-nobodys xs places slot nobodys from limit within empty (Ascends_less x (slice_get places x) (standing places xs) from limit ascends)))
      | inr ne ↦ subst (λ at. Ascends from (cons_option (with_place x at) (standing (set places slot nobodys) xs)) limit) (sym (slice_get-set places slot x nobodys ne))
          (Ascends_other x (slice_get places x) (standing places xs) (standing (set places slot nobodys) xs) from limit (λ lower up. Ascends-nobodys xs places slot nobodys lower limit within empty up) ascends)
    ]
