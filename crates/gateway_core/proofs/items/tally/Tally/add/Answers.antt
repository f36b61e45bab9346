-- One more is counted, and stands among those that are set aside if it is.
use Rattle.std.proofs.Common.{◌≡◌, ◌∙◌, ◌∷◌, ◌++◌, [], ap, arith, length-append, Option, subst, sym}
use Rattle.journey_model.specs.Reports.{aside_from}
use Rattle.journey_model.specs.declared.fault.Fault.{Fault}
use Rattle.gateway_core.specs.declared.items.tally.Tally.{Tally}
use Rattle.gateway_core.proofs.TallyLemmas.{none_aside, one_aside}
use Rattle.gateway_core.proofs.items.tally.Tally.add.Goals as goal
use Rattle.gateway_core.proofs.items.tally.Tally.add.Goals.{in-Some-fault+in_ok-push, in_default-fault}

pub returns : goal.returns
returns c = λ before sum h. record {
  items_are = omega (arith, c.in-Some.ensures, h.items_are, length-append before (c.args.fault ∷ []));
  passed_is = omega (arith, c.saturating_add-sum.ensures, h.passed_is);
  aside_are = elim c.match-fault.branch [
    | in-Some-fault+in_ok-push w ↦
        subst (λ (fault : Option Fault). c.match-fault.self.aside ≡ aside_from 0 (before ++ fault ∷ [])) (sym w.in-Some-fault.is)
        (one_aside before w.in-Some-fault.fault c.args.self.now.items c.args.self.now.aside c.match-fault.self.aside h.items_are h.aside_are
        (ap (λ (tally : Tally). tally.aside) w.self-is ∙ w.in_ok-push.ensures.added))
    | in_default-fault w ↦
        subst (λ (fault : Option Fault). c.match-fault.self.aside ≡ aside_from 0 (before ++ fault ∷ [])) (sym w.in_default-fault.is)
        (none_aside before c.match-fault.self.aside (ap (λ (tally : Tally). tally.aside) w.self-is ∙ h.aside_are))
  ];
}
