-- One byte more, and the last one.
use Rattle.std.proofs.Common.{ℕ, List, [], ◌∷◌, ◌++◌, ◌%◌, ◌/◌, ◌+◌, ◌-◌, length, refl, ap, sym, ◌∙◌, arith, append_assoc}
use Rattle.wire_fields.specs.Spelling.{varint, seven_bits_each}
use Rattle.wire_fields.proofs.Varints.{one_more, no_more}
use Rattle.wire_fields.proofs.writing.put_each.Goals as goal

pub loop-rest-init : goal.loop-rest-init
unfolding varint
loop-rest-init c = (10, omega arith, omega arith, refl, c.requires.room, refl)

pub put-requires : goal.put-requires
put-requires c =
    let i = c.loop-rest.invariant in
    let next = one_more i.0 (i.0 - 1) c.loop-rest.rest (omega (arith, i.2)) c.loop-rest-test.true i.1 in
    record { room = omega (arith, ap length next.2, i.4) }

pub loop-rest-preserved : goal.loop-rest-preserved
loop-rest-preserved c =
    let i = c.loop-rest.invariant in
    let byte = c.loop-rest.rest % 128 + 128 in
    let tail = seven_bits_each (i.0 - 1) (c.loop-rest.rest / 128) in
    let next = one_more i.0 (i.0 - 1) c.loop-rest.rest (omega (arith, i.2)) c.loop-rest-test.true i.1 in (
      i.0 - 1,
      next.1,
      next.0,
      ap (λ (l : List ℕ). l ++ tail) c.put.ensures.bytes ∙ append_assoc c.loop-rest.buf.bytes (byte ∷ []) tail ∙ ap (λ (l : List ℕ). c.loop-rest.buf.bytes ++ l) (sym next.2) ∙ i.3,
      omega (arith, ap length next.2, i.4, c.put.ensures.spare),
      omega (arith, ap length next.2, i.4, i.5, c.put.ensures.spare),
    )

pub put-requires-2 : goal.put-requires-2
put-requires-2 c =
    let i = c.loop-rest.invariant in
    let last = no_more i.0 (i.0 - 1) c.loop-rest.rest (omega (arith, i.2)) c.loop-rest-test.false in
    record { room = omega (arith, ap length last, i.4) }

pub returns-clause-bytes : goal.returns-clause-bytes
returns-clause-bytes c =
    let i = c.loop-rest.invariant in
    let last = no_more i.0 (i.0 - 1) c.loop-rest.rest (omega (arith, i.2)) c.loop-rest-test.false in
    c.put-2.ensures.bytes ∙ ap (λ (l : List ℕ). c.loop-rest.buf.bytes ++ l) (sym last) ∙ i.3

pub returns-clause-spare : goal.returns-clause-spare
returns-clause-spare c =
    let i = c.loop-rest.invariant in
    let last = no_more i.0 (i.0 - 1) c.loop-rest.rest (omega (arith, i.2)) c.loop-rest-test.false in
    omega (arith, ap length last, i.4, i.5, c.put-2.ensures.spare)
