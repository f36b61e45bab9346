use Rattle.std.proofs.Common.{◌≡◌, ℕ, List, ◌++◌, ◌+◌, take, sym, ap, subst, ◌∙◌, arith}
use Rattle.std.proofs.lemmas.List.{length-take}
use Rattle.wire_fields.specs.declared.top.part.Part.TheVariants as parts
use Rattle.wire_fields.specs.TopReading.{Top, StandsFor}
use Rattle.wire_fields.specs.TopSteps.{Turned}
use Rattle.wire_fields.proofs.Tops.{inside_says, advanced, turned_taken}
use Rattle.wire_fields.proofs.top.reader.TopReader.go_on.Goals as goal

pub returns-in-Payload-clause-turned : goal.returns-in-Payload-clause-turned
returns-in-Payload-clause-turned c = λ bytes free s.
    let old = c.args.self.now in
    let p = c.in-Payload in
    let used = c.pass_payload.result in
    let more = take used c.args.piece.now in
    let part_is : old.part ≡ parts.Payload p.number p.len p.left = ap (λ (top : Top). top.part) (sym c.self.view_is) ∙ p.is in
    rw c.pass_payload.ensures.is (inside_says old p.number p.len p.left used bytes more part_is (omega (arith, length-take used c.args.piece.now, c.pass_payload.ensures.most)) c.pass_payload.ensures.within s free)

pub returns : goal.returns
returns c =
    let inside = c.self.inside in
    let seen : Top = record { taken = inside.taken; at = inside.at; groups = inside.groups; part = inside.part } in
    let used = c.advance-used.result.0 in
    let turn = c.advance-used.result.1 in
    let more = take used c.args.piece.now in
    let told : (bytes : List ℕ) → StandsFor seen bytes → Turned c.turn.result seen c.turn.new.self (bytes ++ more) = λ bytes s.
    rw (c.turn.ensures.event, c.turn.ensures.now) (advanced seen turn bytes more used (omega (arith, length-take used c.args.piece.now, c.advance-used.ensures.most)) s (λ read h. c.advance-used.ensures.turns read h)) in
    record {
      some = c.advance-used.ensures.some;
      most = c.advance-used.ensures.most;
      taken = ap (λ (top : Top). top.taken) c.turn.ensures.now ∙ turned_taken _ turn ∙ ap (λ (top : Top). top.taken + used) c.self.view_is;
      turned = λ bytes free s. subst (λ (old : Top). StandsFor old bytes → Turned c.turn.result old c.turn.new.self (bytes ++ more)) c.self.view_is (told bytes) s;
    }
