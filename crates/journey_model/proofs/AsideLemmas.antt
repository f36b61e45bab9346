-- Items that are set aside, with one more.
use Rattle.std.proofs.Common.{◌≡◌, ◌∙◌, ◌+◌, ℕ, List, [], ◌∷◌, ◌++◌, length, map, Option, Some, None, Result, refl, ap, arith}
use Rattle.std.proofs.lemmas.List.{length-map, map-append}
use Rattle.journey_model.specs.FeedReadings.{aside_all, fault_said}
use Rattle.journey_model.specs.Reports.{aside_from, aside_at}
use Rattle.journey_model.specs.declared.fault.Fault.{Fault}

pub aside-more : (number : ℕ) (faults : List (Option Fault)) (last : Option Fault)
    → aside_from number (faults ++ last ∷ []) ≡ aside_from number faults ++ aside_at (number + length faults) last
aside-more number [] None = refl
aside-more number [] (Some fault) = ap (λ (n : ℕ). (n, fault) ∷ []) (omega arith)
aside-more number (None ∷ faults) last =
    aside-more (number + 1) faults last ∙ ap (λ (n : ℕ). aside_from (number + 1) faults ++ aside_at n last) (omega arith)
aside-more number (Some fault ∷ faults) last =
    ap (λ (rest : List (ℕ × Fault)). (number, fault) ∷ rest)
    (aside-more (number + 1) faults last
    ∙ ap (λ (n : ℕ). aside_from (number + 1) faults ++ aside_at n last) (omega arith))

-- an entity more that says something
pub aside-all-more : {A : Type 0} (said : List (Option (Result A Fault))) (last : Option (Result A Fault))
    → aside_all (said ++ last ∷ []) ≡ aside_all said ++ aside_at (length said) (fault_said last)
aside-all-more said last =
    ap (aside_from 0) (map-append fault_said said (last ∷ []))
    ∙ aside-more 0 (map fault_said said) (fault_said last)
    ∙ ap (λ (n : ℕ). aside_all said ++ aside_at n (fault_said last)) (omega (arith, length-map said fault_said))
