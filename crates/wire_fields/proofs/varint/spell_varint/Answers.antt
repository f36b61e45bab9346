use Rattle.std.proofs.Common.{◌<◌, ◌+◌, ◌-◌, ◌%◌, ◌++◌, length, take, refl, ap, sym, ◌∙◌, arith, append_assoc}
use Rattle.std.proofs.lemmas.List.{take_more_set, length-set}
use Rattle.wire_fields.specs.Spelling.{varint}
use Rattle.wire_fields.proofs.Varints.{one_more, no_more}
use Rattle.wire_fields.proofs.varint.spell_varint.Goals as goal

pub loop-rest-init : goal.loop-rest-init
unfolding varint
loop-rest-init c = record { room = refl; few = omega arith; small = omega arith; spelled = refl }

pub loop-rest-preserved : goal.loop-rest-preserved
loop-rest-preserved c =
    let i = c.loop-rest.invariant in
    let len = c.loop-rest.len in
    let next = one_more (10 - len) (10 - (len + 1)) c.loop-rest.rest (omega arith) (omega arith) i.small in
    let in_room : len < length c.loop-rest.bytes = omega arith in
    record {
      room = omega (arith, length-set c.loop-rest.bytes len (c.loop-rest.rest % 128 + 128));
      few = omega (arith, next.0);
      small = next.1;
      spelled = rw (take_more_set c.loop-rest.bytes len (c.loop-rest.rest % 128 + 128) in_room) (simp append_assoc (rw (← next.2) i.spelled));
    }

pub returns : goal.returns
returns c =
    let i = c.loop-rest.invariant in
    let len = c.loop-rest.len in
    let in_room : len < length c.loop-rest.bytes = omega arith in
    record { spelled = take_more_set c.loop-rest.bytes len c.loop-rest.rest in_room ∙ ap (λ last. take len c.loop-rest.bytes ++ last) (sym (no_more (10 - len) (10 - (len + 1)) c.loop-rest.rest (omega arith) (omega arith))) ∙ i.spelled }
