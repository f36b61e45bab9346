-- The first item, and each other after a comma.
use Rattle.std.proofs.Common.{◌≡◌, ◌∙◌, ◌++◌, ℕ, List, ap, sym, subst, map, OnOk}
use Rattle.std.proofs.lemmas.List.{append_assoc}
use Rattle.std.specs.Prelude.{codes}
use Rattle.std.specs.List.{flat_map}
use Rattle.journey_model.specs.declared.fault.Fault.{Fault}
use Rattle.gateway_core.specs.Taking as spec
use Rattle.gateway_core.proofs.JsonLemmas.{joined_first}
use Rattle.gateway_core.proofs.report_text.add_joined.Goals as goal

pub returns : goal.returns
returns c =
    let others : ℕ × Fault → List ℕ = λ one. codes "," ++ spec.aside_json one in
    let first = c.in-Some.first.now in
    let rest = c.in-Some.others.now in
    let text = c.args.text.now in
    let begun : c.add_aside.new.text ≡ text ++ spec.aside_json first = c.in_ok-add_aside.ensures in
    let whole : c.add_aside.new.text ++ flat_map others rest ≡ text ++ spec.joined (map spec.aside_json c.args.aside.now) =
    ap (λ (front : List ℕ). front ++ flat_map others rest) begun
    ∙ append_assoc text (spec.aside_json first) (flat_map others rest)
    ∙ ap (λ (back : List ℕ). text ++ back) (sym (joined_first spec.aside_json first rest))
    ∙ ap (λ (all : List (ℕ × Fault)). text ++ spec.joined (map spec.aside_json all)) (sym c.in-Some.ensures.cases.0) in
    subst (λ (back : List ℕ). OnOk c.add_others.result (c.add_others.new.text ≡ back)) whole c.add_others.ensures
