-- What a call does to an object of the outside, as far as the object shows it.
use Rattle.std.specs.Prelude.{ℕ, Option}

-- what an object tells before the call and after it, where it tells, and its count of faults before and after
pub record Change (Told : Type 0) : Type 0 where
  pub before : Option Told
  pub now : Option Told
  pub faults_before : ℕ
  pub faults_now : ℕ

-- the change of an object, by what it tells and its count
abbrev pub change : {Object Told : Type 0} → (Object → Option Told) → (Object → ℕ) → Object → Object → Change Told
change told faults old new =
    record { before = told old; now = told new; faults_before = faults old; faults_now = faults new }
