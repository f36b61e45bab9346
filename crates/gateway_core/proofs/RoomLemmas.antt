-- What has room, and what is admitted.
use Rattle.std.proofs.Common.{◌≡◌, ◌∙◌, ◌++◌, ◌∷◌, [], ℕ, Bool, true, false, cond, List, Result, Ok, Err, sym}
use Rattle.std.proofs.lemmas.List.{append-nil, append_assoc}
use Rattle.gateway_core.specs.Arrivals.{admit, has_room}
use Rattle.gateway_core.specs.Deliveries.{taken}
use Rattle.gateway_core.specs.Taking.{with_room}
use Rattle.journey_model.specs.declared.fault.Fault.{Fault}
use Rattle.journey_model.specs.declared.fault.Fault.TheVariants.{Full}

module _ {A : Type 0} (is_same : A → A → Bool) (counts : A → Bool) (limit : ℕ) where
  -- what is admitted is what was admitted before, followed by what of the verdicts has room
  pub admits : (before : List A) (verdicts : List (Result A Fault))
      → admit is_same counts limit before (taken verdicts) ≡ before ++ taken (with_room is_same counts limit before verdicts)
  admits before [] = sym (append-nil before)
  admits before (Err fault ∷ others) = admits before others
  admits before (Ok one ∷ others) = by (has_room is_same counts limit before one) (admits (before ++ one ∷ []) others) (admits before others)
    where
      by : (b : Bool)
          → admit is_same counts limit (before ++ one ∷ []) (taken others) ≡ (before ++ one ∷ []) ++ taken (with_room is_same counts limit (before ++ one ∷ []) others)
          → admit is_same counts limit before (taken others) ≡ before ++ taken (with_room is_same counts limit before others)
          → admit is_same counts limit (cond b (before ++ one ∷ []) before) (taken others)
          ≡ before ++ taken (cond b (Ok one ∷ with_room is_same counts limit (before ++ one ∷ []) others) (Err Full ∷ with_room is_same counts limit before others))
      by true e f = e ∙ append_assoc before (one ∷ []) (taken (with_room is_same counts limit (before ++ one ∷ []) others))
      by false e f = f
