-- The part of the field's number goes on by it, and the others stay.
use Rattle.std.proofs.Common.{arith}
use Rattle.wire_fields.specs.Seen.{field_of}
use Rattle.feed_reading.proofs.OneMore.{number_other}
use Rattle.feed_reading.proofs.quick.trips.EventPartsParts.take.Goals as goal

pub returns-then-field-eq1 : goal.returns-then-field-eq1
returns-then-field-eq1 c = λ fields known. record {
  delay = c.number_after-self.ensures fields known.delay;
  time = number_other 2 fields (field_of c.args.field.now) c.args.self.now.time
      (λ e. absurd (omega (arith, e, c.if-field-eq1.true))) known.time;
}

pub returns-then-field-eq2 : goal.returns-then-field-eq2
returns-then-field-eq2 c = λ fields known. record {
  delay = number_other 1 fields (field_of c.args.field.now) c.args.self.now.delay
      (λ e. absurd (omega (arith, e, c.if-field-eq2.true))) known.delay;
  time = c.number_after-self-then-field-eq2.ensures fields known.time;
}

pub returns : goal.returns
returns c = λ fields known. record {
  delay = number_other 1 fields (field_of c.args.field.now) c.args.self.now.delay c.if-field-eq1.false known.delay;
  time = number_other 2 fields (field_of c.args.field.now) c.args.self.now.time c.if-field-eq2.false known.time;
}
