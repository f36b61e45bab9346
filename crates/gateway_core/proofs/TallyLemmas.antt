-- What is counted of items.
use Rattle.std.proofs.Common.{◌≡◌, ◌∙◌, ◌+◌, ◌++◌, ◌∷◌, [], ℕ, List, map, length, Option, Some, None, Result, Ok, Err, ap, sym, subst, arith}
use Rattle.std.proofs.lemmas.List.{append-nil, map-append}
use Rattle.std.proofs.lemmas.List.Sums.{sum_by_push}
use Rattle.std.specs.Prelude.{OnOk, sum_by}
use Rattle.std.specs.Result.{result_err}
use Rattle.journey_model.proofs.AsideLemmas.{aside-more}
use Rattle.journey_model.specs.Reports.{aside_from}
use Rattle.journey_model.specs.declared.fault.Fault.{Fault}
use Rattle.siri_json.specs.Deliveries.{passed_in}
use Rattle.gateway_core.specs.Tallied.{Tallied}
use Rattle.gateway_core.specs.declared.items.tally.Tally.{Tally}

-- one item more was counted, with this fault, and so many parts passed over
abbrev pub CountsOne : Option Fault → ℕ → Tally → Tally → Type 0
CountsOne fault passed tally later =
    (before : List (Option Fault)) (sum : ℕ) → Tallied before sum tally → Tallied (before ++ fault ∷ []) (sum + passed) later

-- what follows where it was
pub on_counted : {A E : Type 0} (answer : Result A E) (fault : Option Fault) (passed : ℕ) (tally later : Tally) (P : Type 0)
    → ((before : List (Option Fault)) (sum : ℕ) → Tallied before sum tally → OnOk answer (Tallied (before ++ fault ∷ []) (sum + passed) later))
    → (CountsOne fault passed tally later → P) → OnOk answer P
on_counted (Ok value) fault passed tally later P counts follows = follows counts
on_counted (Err failed) fault passed tally later P counts follows = tt

-- those that have room, with one more
pub one_counted : {A B : Type 0} (roomy more : List (Result A Fault)) (last : Result A Fault) (all : List (Result (B × ℕ) Fault)) (one : Result (B × ℕ) Fault) (tally later : Tally)
    → more ≡ roomy ++ last ∷ [] → CountsOne (result_err last) (passed_in one) tally later
    → Tallied (map result_err roomy) (sum_by passed_in all) tally → Tallied (map result_err more) (sum_by passed_in (all ++ one ∷ [])) later
one_counted roomy more last all one tally later is counted h =
    subst (λ (faults : List (Option Fault)). Tallied faults (sum_by passed_in (all ++ one ∷ [])) later)
    (sym (ap (map result_err) is ∙ map-append result_err roomy (last ∷ [])))
    (subst (λ (sum : ℕ). Tallied (map result_err roomy ++ result_err last ∷ []) sum later) (sym (sum_by_push passed_in all one))
    (counted (map result_err roomy) (sum_by passed_in all) h))

-- those that are set aside, with one more
pub one_aside : (faults : List (Option Fault)) (fault : Fault) (number : ℕ) (aside later : List (ℕ × Fault)) → number ≡ length faults → aside ≡ aside_from 0 faults
    → later ≡ aside ++ (number, fault) ∷ [] → later ≡ aside_from 0 (faults ++ Some fault ∷ [])
one_aside faults fault number aside later is aside_are later_is =
    later_is
    ∙ ap (λ (front : List (ℕ × Fault)). front ++ (number, fault) ∷ []) aside_are
    ∙ ap (λ (n : ℕ). aside_from 0 faults ++ (n, fault) ∷ []) (omega (arith, is))
    ∙ sym (aside-more 0 faults (Some fault))

pub none_aside : (faults : List (Option Fault)) (aside : List (ℕ × Fault)) → aside ≡ aside_from 0 faults → aside ≡ aside_from 0 (faults ++ None ∷ [])
none_aside faults aside aside_are = aside_are ∙ sym (append-nil (aside_from 0 faults)) ∙ sym (aside-more 0 faults None)
