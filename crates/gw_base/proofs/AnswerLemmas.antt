-- Answers of which some errors are free, and steps with such answers.
use Rattle.std.proofs.Common.{Bool, true, false, Option, Some, None, Result, Ok, Err, IfSome, inr}
use Rattle.std.specs.Prelude.{⊤}
use Rattle.std.specs.Bool.{MatchBool}
use Rattle.gw_base.specs.Answers.{UnlessFree}
use Rattle.gw_base.specs.Steps.{Then}

-- an error says more, unless it is free
pub unless_free : {T U E : Type 0} (is_free : E → Bool) (fault : E) (P : Result T E → Type 0) (Q : Result U E → Type 0)
    → (P (Err fault) → Q (Err fault)) → UnlessFree is_free (Err fault) P → UnlessFree is_free (Err fault) Q
unless_free {T} {U} {E} is_free fault P Q more h = by (is_free fault) h
  where
    by : (free : Bool) → MatchBool free ⊤ (P (Err fault)) → MatchBool free ⊤ (Q (Err fault))
    by true h = tt
    by false h = more h

-- the first of two steps found something, and the second answered
pub went_on : {X A B E : Type 0} (told : Option X) (is_free : E → Bool) (First : X → Result A E → Type 0) (Next : X → A → Result B E → Type 0) (found : A) (answer : Result B E)
    → IfSome told (λ x. First x (Ok found))
    → IfSome told (λ x. UnlessFree is_free answer (Next x found))
    → IfSome told (λ x. UnlessFree is_free answer (Then (First x) (Next x)))
went_on None is_free First Next found answer first next = tt
went_on (Some x) is_free First Next found (Ok last) first next = (found, first, next)
went_on (Some x) is_free First Next found (Err end) first next = unless_free is_free end (Next x found) (Then (First x) (Next x)) (λ h. inr (found, first, h)) next
