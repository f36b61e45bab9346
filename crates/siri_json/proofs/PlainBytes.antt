-- A byte that stands in a string as it is.
use Rattle.std.proofs.Common.{◌≡◌, ℕ, ◌≤◌, nat_eq, nat_lt, Bool, IsTrue, true, false, [], ◌∷◌, refl, arith}
use Rattle.std.proofs.lemmas.Bool.Decides.{nat_tests}
use Rattle.json.specs.Print.{escape_byte}

-- a byte from 32 on is none below it
no_control : (x y : ℕ) → 32 ≤ x → nat_lt y 32 ≡ true → nat_eq x y ≡ false
no_control x y h small = grind (arith, nat_tests, h, small)

-- a byte that differs
differs : (x y : ℕ) → (x ≡ y → ⊥) → nat_eq x y ≡ false
differs x y h = grind (arith, nat_tests, h)

-- a byte that isn't the other, by the test
no_other : (x y : ℕ) → IsTrue (mathlib.Core.Bool.not (nat_eq x y)) → nat_eq x y ≡ false
no_other x y h = by (nat_eq x y) h
  where
    by : (b : Bool) → IsTrue (mathlib.Core.Bool.not b) → b ≡ false
    by true h = absurd (cc)
    by false h = refl

pub plain_byte : (x : ℕ) → 32 ≤ x → (x ≡ 34 → ⊥) → IsTrue (mathlib.Core.Bool.not (nat_eq x 92)) → escape_byte x ≡ x ∷ []
unfolding escape_byte
plain_byte x h quote slash =
    let low : nat_lt x 32 ≡ false = grind (arith, nat_tests, h) in
    rw (differs x 34 quote, no_other x 92 slash, no_control x 8 h refl, no_control x 12 h refl, no_control x 10 h refl, no_control x 13 h refl, no_control x 9 h refl, low) refl
