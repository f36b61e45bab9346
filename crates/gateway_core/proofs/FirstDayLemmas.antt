-- The numbers of days from which a window begins.
use Rattle.std.proofs.Common.{◌≡◌, ◌∙◌, ◌<◌, ◌≤◌, ℕ, ℤ, pos, ap, refl, subst, sym, arith, w32, to_z, of_z}
use Rattle.std.proofs.lemmas.Int.{clamps, ints, to_z-of_z, to_z_pos}
use Rattle.std.specs.Prelude.{◌+ℤ◌, ◌-ℤ◌, ◌≤ℤ◌, neg_ℤ}
use Rattle.std.specs.Int.{int_max, int_min}
use lib.IntN.{negsuc}
use lib.Signed.{mag}

-- a number that isn't too large is kept in 32 bits
held : (z : ℤ) → neg_ℤ (pos 8000000) ≤ℤ z → z ≤ℤ pos 8000000 → to_z w32 (of_z w32 z) ≡ z
held (pos n) low high = to_z-of_z w32 (pos n) (record { sfits = omega (arith, ints) })
held (negsuc n) low high = to_z-of_z w32 (negsuc n) (record { sfits = omega (arith, ints) })

-- so many days before a day, and no later than so many before the end
pub number_kept : (number local r : ℤ) (keep days : ℕ) → number ≡ local → (neg_ℤ (pos 719162) ≤ℤ number) × (number ≤ℤ pos 2932896) → keep < 256 → days < 256
    → r ≡ int_min (to_z w32 (of_z w32 (to_z w32 (of_z w32 number) -ℤ to_z w32 keep))) (to_z w32 (of_z w32 (pos 2932167 -ℤ to_z w32 days)))
    → to_z w32 (of_z w32 r) ≡ int_min (local -ℤ pos keep) (pos 2932167 -ℤ pos days)
number_kept number local r keep days same range few many is = back ∙ value
  where
    kept_is : to_z w32 (of_z w32 (to_z w32 (of_z w32 number) -ℤ to_z w32 keep)) ≡ number -ℤ pos keep
    kept_is =
        ap (λ (n : ℤ). to_z w32 (of_z w32 (n -ℤ to_z w32 keep))) (held number (omega (arith, ints)) (omega (arith, ints)))
        ∙ ap (λ (k : ℤ). to_z w32 (of_z w32 (number -ℤ k))) (to_z_pos w32 keep (omega arith))
        ∙ held (number -ℤ pos keep) (omega (arith, ints)) (omega (arith, ints))

    last_is : to_z w32 (of_z w32 (pos 2932167 -ℤ to_z w32 days)) ≡ pos 2932167 -ℤ pos days
    last_is =
        ap (λ (d : ℤ). to_z w32 (of_z w32 (pos 2932167 -ℤ d))) (to_z_pos w32 days (omega arith))
        ∙ held (pos 2932167 -ℤ pos days) (omega (arith, ints)) (omega (arith, ints))

    value : r ≡ int_min (local -ℤ pos keep) (pos 2932167 -ℤ pos days)
    value =
        is ∙ ap (λ (a : ℤ). int_min a (to_z w32 (of_z w32 (pos 2932167 -ℤ to_z w32 days)))) kept_is
        ∙ ap (λ (b : ℤ). int_min (number -ℤ pos keep) b) last_is
        ∙ ap (λ (n : ℤ). int_min (n -ℤ pos keep) (pos 2932167 -ℤ pos days)) same

    low : neg_ℤ (pos 8000000) ≤ℤ int_min (local -ℤ pos keep) (pos 2932167 -ℤ pos days)
    low = let range' : (neg_ℤ (pos 719162) ≤ℤ local) × (local ≤ℤ pos 2932896) = subst (λ (n : ℤ). (neg_ℤ (pos 719162) ≤ℤ n) × (n ≤ℤ pos 2932896)) same range in omega (arith, ints, clamps)

    high : int_min (local -ℤ pos keep) (pos 2932167 -ℤ pos days) ≤ℤ pos 8000000
    high = omega (arith, ints, clamps)

    back : to_z w32 (of_z w32 r) ≡ r
    back = held r (subst (λ (n : ℤ). neg_ℤ (pos 8000000) ≤ℤ n) (sym value) low) (subst (λ (n : ℤ). n ≤ℤ pos 8000000) (sym value) high)

-- and no later than that
pub kept_end : (local : ℤ) (days : ℕ) → (int_min local (pos 2932167 -ℤ pos days) +ℤ pos days) ≤ℤ pos 2932167
kept_end local days = omega (arith, ints, clamps)

-- the later of two days
pub record IsNext (first kept : ℤ) (days : ℕ) (next : ℤ) : Type 0 where
  pub is : next ≡ int_max first kept
  pub in_days : (neg_ℤ (pos 719162) ≤ℤ next) × (next ≤ℤ pos 2932896)
  pub first_in : (pos 365 ≤ℤ next) × (next ≤ℤ pos 2932166)
  pub last_in : (pos 365 ≤ℤ (next +ℤ pos days -ℤ pos 1)) × ((next +ℤ pos days -ℤ pos 1) ≤ℤ pos 2932166)

pub next_is : (first from to kept m : ℤ) (days : ℕ) → from ≡ first → to ≡ first → mag kept < 2147483648 → (kept +ℤ pos days) ≤ℤ pos 2932167
    → pos 365 ≤ℤ first → (first +ℤ pos days -ℤ pos 1) ≤ℤ pos 2932166 → 1 ≤ days → days ≤ 32
    → m ≡ int_max (to_z w32 (of_z w32 from)) (to_z w32 (of_z w32 kept))
    → IsNext first kept days (first +ℤ to_z w32 (of_z w32 (to_z w32 (of_z w32 m) -ℤ to_z w32 (of_z w32 to))))
next_is first from to kept m days from_is to_is fits early low high some few is =
    subst (IsNext first kept days) (sym moved)
    (record { is = refl; in_days = (omega (arith, ints, clamps), omega (arith, ints, clamps)); first_in = (omega (arith, ints, clamps), omega (arith, ints, clamps)); last_in = (omega (arith, ints, clamps), omega (arith, ints, clamps)) })
  where
    first_held : to_z w32 (of_z w32 first) ≡ first
    first_held = held first (omega (arith, ints)) (omega (arith, ints))

    m_is : m ≡ int_max first kept
    m_is =
        is ∙ ap (λ (a : ℤ). int_max (to_z w32 (of_z w32 a)) (to_z w32 (of_z w32 kept))) from_is
        ∙ ap (λ (a : ℤ). int_max a (to_z w32 (of_z w32 kept))) first_held
        ∙ ap (λ (b : ℤ). int_max first b) (to_z-of_z w32 kept (record { sfits = fits }))

    low_m : pos 365 ≤ℤ int_max first kept
    low_m = omega (arith, ints, clamps)

    high_m : int_max first kept ≤ℤ pos 2932166
    high_m = omega (arith, ints, clamps)

    sum_back : (a b : ℤ) → a +ℤ (b -ℤ a) ≡ b
    sum_back a b = omega (arith, ints)

    moved : first +ℤ to_z w32 (of_z w32 (to_z w32 (of_z w32 m) -ℤ to_z w32 (of_z w32 to))) ≡ int_max first kept
    moved =
        ap (λ (n : ℤ). first +ℤ to_z w32 (of_z w32 (to_z w32 (of_z w32 n) -ℤ to_z w32 (of_z w32 to)))) m_is
        ∙ ap (λ (n : ℤ). first +ℤ to_z w32 (of_z w32 (n -ℤ to_z w32 (of_z w32 to)))) (held (int_max first kept) (at (int_max first kept) low_m) (below (int_max first kept) high_m))
        ∙ ap (λ (n : ℤ). first +ℤ to_z w32 (of_z w32 (int_max first kept -ℤ to_z w32 (of_z w32 n)))) to_is
        ∙ ap (λ (n : ℤ). first +ℤ to_z w32 (of_z w32 (int_max first kept -ℤ n))) first_held
        ∙ ap (λ (n : ℤ). first +ℤ n) (held (int_max first kept -ℤ first) (apart (int_max first kept) low_m) (within (int_max first kept) high_m))
        ∙ sum_back first (int_max first kept)
      where
        at : (n : ℤ) → pos 365 ≤ℤ n → neg_ℤ (pos 8000000) ≤ℤ n
        at n h = omega (arith, ints)

        below : (n : ℤ) → n ≤ℤ pos 2932166 → n ≤ℤ pos 8000000
        below n h = omega (arith, ints)

        apart : (n : ℤ) → pos 365 ≤ℤ n → neg_ℤ (pos 8000000) ≤ℤ (n -ℤ first)
        apart n h = omega (arith, ints)

        within : (n : ℤ) → n ≤ℤ pos 2932166 → (n -ℤ first) ≤ℤ pos 8000000
        within n h = omega (arith, ints)
