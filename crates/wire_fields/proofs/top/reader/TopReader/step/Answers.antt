use Rattle.std.proofs.Common.{◌≡◌, [], take, sym, ap, ◌∙◌, arith}
use Rattle.std.proofs.lemmas.Bool.{eqb-true}
use Rattle.std.proofs.lemmas.List.{length-take, nil_from_length}
use Rattle.wire_fields.specs.declared.top.part.Part.TheVariants as parts
use Rattle.wire_fields.specs.TopReading.{Top}
use Rattle.wire_fields.proofs.Tops.{part_says}
use Rattle.wire_fields.proofs.top.reader.TopReader.step.Goals as goal

pub returns-in-Payload-clause-says : goal.returns-in-Payload-clause-says
returns-in-Payload-clause-says c = λ bytes s.
    let old = c.args.self.now in
    let p = c.in-Payload in
    let used = c.pass_payload.result in
    let more = take used c.args.piece.now in
    let part_is : old.part ≡ parts.Payload p.number p.len p.left = ap (λ (top : Top). top.part) (sym c.self.view_is) ∙ p.is in
    let none : c.self.inside.groups ≡ [] = nil_from_length c.self.inside.groups (eqb-true _ _ (sym c.is_empty.ensures.value ∙ c.if-is_empty.true)) in
    let no_groups : old.groups ≡ [] = ap (λ (top : Top). top.groups) (sym c.self.view_is) ∙ none in
    rw c.pass_payload.ensures.is (part_says old p.number p.len p.left used bytes more no_groups part_is (omega (arith, length-take used c.args.piece.now, c.pass_payload.ensures.most)) c.pass_payload.ensures.within s)
