-- The part of the field's number goes on by it, and the others stay.
use Rattle.std.proofs.Common.{arith}
use Rattle.wire_fields.specs.Seen.{field_of}
use Rattle.feed_reading.specs.Tables.{OfStopTimeUpdate}
use Rattle.feed_reading.proofs.OneMore.{number_other, found_other, messages_other}
use Rattle.feed_reading.proofs.quick.trips.UpdatePartsParts.take.Goals as goal

pub returns-then-field-eq1 : goal.returns-then-field-eq1
returns-then-field-eq1 c = λ fields known. record {
  trip = c.in_ok-add_body.ensures fields known.trip;
  updates = messages_other OfStopTimeUpdate 2 fields (field_of c.args.field.now) c.args.self.now.updates
      (λ e. absurd (omega (arith, e, c.if-field-eq1.true))) known.updates;
  timestamp = number_other 4 fields (field_of c.args.field.now) c.args.self.now.timestamp
      (λ e. absurd (omega (arith, e, c.if-field-eq1.true))) known.timestamp;
}

pub returns-then-field-eq2 : goal.returns-then-field-eq2
returns-then-field-eq2 c = λ fields known. record {
  trip = found_other 1 fields (field_of c.args.field.now) c.args.self.now.trip
      (λ e. absurd (omega (arith, e, c.if-field-eq2.true))) known.trip;
  updates = c.in_ok-add_message.ensures fields known.updates;
  timestamp = number_other 4 fields (field_of c.args.field.now) c.args.self.now.timestamp
      (λ e. absurd (omega (arith, e, c.if-field-eq2.true))) known.timestamp;
}

pub returns : goal.returns
returns c = λ fields known. record {
  trip = found_other 1 fields (field_of c.args.field.now) c.args.self.now.trip c.if-field-eq1.false known.trip;
  updates = messages_other OfStopTimeUpdate 2 fields (field_of c.args.field.now) c.args.self.now.updates
      c.if-field-eq2.false known.updates;
  timestamp = c.number_after-self.ensures fields known.timestamp;
}
