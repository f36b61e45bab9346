-- What the test of a form finds, place by place.
use Rattle.std.proofs.Common.{◌≡◌, ◌≢◌, ℕ, suc, ◌+◌, ◌<◌, ◌≤◌, true, false, ◌&&◌, List, [], ◌∷◌, length, drop, get_or, drop-cons, add-one, arith, refl, ap, ◌∙◌}
use Rattle.std.proofs.lemmas.Bool.Decides.{nat_tests}
use Rattle.std.proofs.lemmas.List.{drop_all}
use Rattle.std.specs.Char.{is_ascii_digit}
use Rattle.service_day.specs.Digits.{is_at, has_form}

-- a text of another length than the form's hasn't the form
pub has_form-other_length : (form text : List ℕ) → length text ≢ length form → has_form form text ≡ false
unfolding has_form
has_form-other_length [] [] h = absurd (h refl)
has_form-other_length [] (c ∷ cs) h = refl
has_form-other_length (p ∷ ps) [] h = refl
has_form-other_length (p ∷ ps) (c ∷ cs) h =
    let rest = has_form-other_length ps cs (λ e. h (ap suc e)) in grind (arith, nat_tests)

-- a form from a place on is the place itself and what follows it
pub has_form-drop : (form text : List ℕ) (i : ℕ) → i < length form → i < length text → has_form (drop i form) (drop i text) ≡ (is_at (get_or form i 0) (get_or text i 0) && has_form (drop (i + 1) form) (drop (i + 1) text))
unfolding has_form
has_form-drop form text i h k = rw (add-one, drop-cons form i 0, drop-cons text i 0)

pub has_form-end : (form text : List ℕ) (i : ℕ) → length form ≤ i → length text ≤ i → has_form (drop i form) (drop i text) ≡ true
unfolding has_form
has_form-end form text i h k = rw (drop_all i form h, drop_all i text k) refl

-- a digit that is written may stand where a form has `0`
pub is_digit-written : (n : ℕ) → n < 10 → is_ascii_digit (48 + n) ≡ true
is_digit-written n h = grind (arith, nat_tests)

pub no_form : (form text : List ℕ) (i : ℕ) → i < length form → i < length text → has_form form text ≡ has_form (drop i form) (drop i text) → is_at (get_or form i 0) (get_or text i 0) ≡ false → has_form form text ≡ false
no_form form text i h k left bad = left ∙ has_form-drop form text i h k ∙ (rw bad refl)

pub next_form : (form text : List ℕ) (i : ℕ) → i < length form → i < length text → has_form form text ≡ has_form (drop i form) (drop i text) → is_at (get_or form i 0) (get_or text i 0) ≡ true → has_form form text ≡ has_form (drop (i + 1) form) (drop (i + 1) text)
next_form form text i h k left good = left ∙ has_form-drop form text i h k ∙ (rw good refl)
