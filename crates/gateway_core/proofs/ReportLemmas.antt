-- The items of a delivery that are taken and those that are set aside.
use Rattle.std.proofs.Common.{◌≡◌, ◌+◌, ℕ, List, [], ◌∷◌, length, Option, Some, None, cond, refl, arith}
use Rattle.std.proofs.lemmas.List.Sums.{sum_by-cons}
use Rattle.std.specs.Prelude.{is_none}
use Rattle.std.specs.List.{count_by}
use Rattle.journey_model.specs.declared.fault.Fault.{Fault}
use Rattle.journey_model.specs.Reports.{aside_from}

abbrev one_if_none : Option Fault → ℕ
one_if_none fault = cond (is_none fault) 1 0

-- each is one or the other
pub taken_or_aside : (faults : List (Option Fault)) (number : ℕ) → count_by is_none faults + length (aside_from number faults) ≡ length faults
taken_or_aside [] number = refl
taken_or_aside (None ∷ others) number =
    let rest = taken_or_aside others (number + 1) in
    let counted : count_by is_none (None ∷ others) ≡ 1 + count_by is_none others = sum_by-cons one_if_none None others in
    omega (arith, rest, counted)
taken_or_aside (Some fault ∷ others) number =
    let rest = taken_or_aside others (number + 1) in
    let counted : count_by is_none (Some fault ∷ others) ≡ 0 + count_by is_none others = sum_by-cons one_if_none (Some fault) others in
    omega (arith, rest, counted)
