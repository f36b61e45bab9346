-- Steps whose answers may be free errors.
use Rattle.std.proofs.Common.{Bool, Option, Some, None, Result, Err, IfSome, inl}
use Rattle.gw_base.specs.Answers.{UnlessFree}
use Rattle.gw_base.specs.Steps.{Then}
use Rattle.gw_base.proofs.AnswerLemmas.{unless_free}

-- the first of two steps ended the work
pub ended : {X A B E : Type 0} (told : Option X) (is_free : E → Bool) (First : X → Result A E → Type 0) (Next : X → A → Result B E → Type 0) (end : E)
    → IfSome told (λ x. UnlessFree is_free (Err end) (First x))
    → IfSome told (λ x. UnlessFree is_free (Err end) (Then (First x) (Next x)))
ended None is_free First Next end first = tt
ended (Some x) is_free First Next end first = unless_free is_free end (First x) (Then (First x) (Next x)) (λ h. inl h) first
