-- The part of the field's number goes on by it, and the others stay.
use Rattle.std.proofs.Common.{arith}
use Rattle.wire_fields.specs.Seen.{field_of}
use Rattle.feed_reading.specs.Partly.{seen}
use Rattle.feed_reading.proofs.OneMore.{number_other, text_other, found_other}
use Rattle.feed_reading.proofs.quick.trips.StopPartsParts.take.Goals as goal

pub returns-then-field-eq1 : goal.returns-then-field-eq1
returns-then-field-eq1 c = λ fields known. record {
  sequence = c.number_after-self.ensures fields known.sequence;
  arrival = found_other 2 fields (field_of c.args.field.now) c.args.self.now.arrival
      (λ e. absurd (omega (arith, e, c.if-field-eq1.true))) known.arrival;
  departure = found_other 3 fields (field_of c.args.field.now) c.args.self.now.departure
      (λ e. absurd (omega (arith, e, c.if-field-eq1.true))) known.departure;
  stop_id = text_other 4 fields (field_of c.args.field.now) (seen c.args.self.now.stop_id)
      (λ e. absurd (omega (arith, e, c.if-field-eq1.true))) known.stop_id;
  relation = number_other 5 fields (field_of c.args.field.now) c.args.self.now.relation
      (λ e. absurd (omega (arith, e, c.if-field-eq1.true))) known.relation;
  properties = found_other 6 fields (field_of c.args.field.now) c.args.self.now.properties
      (λ e. absurd (omega (arith, e, c.if-field-eq1.true))) known.properties;
}

pub returns-then-field-eq2 : goal.returns-then-field-eq2
returns-then-field-eq2 c = λ fields known. record {
  sequence = number_other 1 fields (field_of c.args.field.now) c.args.self.now.sequence
      (λ e. absurd (omega (arith, e, c.if-field-eq2.true))) known.sequence;
  arrival = c.in_ok-add_body.ensures fields known.arrival;
  departure = found_other 3 fields (field_of c.args.field.now) c.args.self.now.departure
      (λ e. absurd (omega (arith, e, c.if-field-eq2.true))) known.departure;
  stop_id = text_other 4 fields (field_of c.args.field.now) (seen c.args.self.now.stop_id)
      (λ e. absurd (omega (arith, e, c.if-field-eq2.true))) known.stop_id;
  relation = number_other 5 fields (field_of c.args.field.now) c.args.self.now.relation
      (λ e. absurd (omega (arith, e, c.if-field-eq2.true))) known.relation;
  properties = found_other 6 fields (field_of c.args.field.now) c.args.self.now.properties
      (λ e. absurd (omega (arith, e, c.if-field-eq2.true))) known.properties;
}

pub returns-then-field-eq3 : goal.returns-then-field-eq3
returns-then-field-eq3 c = λ fields known. record {
  sequence = number_other 1 fields (field_of c.args.field.now) c.args.self.now.sequence
      (λ e. absurd (omega (arith, e, c.if-field-eq3.true))) known.sequence;
  arrival = found_other 2 fields (field_of c.args.field.now) c.args.self.now.arrival
      (λ e. absurd (omega (arith, e, c.if-field-eq3.true))) known.arrival;
  departure = c.in_ok-add_body-2.ensures fields known.departure;
  stop_id = text_other 4 fields (field_of c.args.field.now) (seen c.args.self.now.stop_id)
      (λ e. absurd (omega (arith, e, c.if-field-eq3.true))) known.stop_id;
  relation = number_other 5 fields (field_of c.args.field.now) c.args.self.now.relation
      (λ e. absurd (omega (arith, e, c.if-field-eq3.true))) known.relation;
  properties = found_other 6 fields (field_of c.args.field.now) c.args.self.now.properties
      (λ e. absurd (omega (arith, e, c.if-field-eq3.true))) known.properties;
}

pub returns-then-field-eq6 : goal.returns-then-field-eq6
returns-then-field-eq6 c = λ fields known. record {
  sequence = number_other 1 fields (field_of c.args.field.now) c.args.self.now.sequence
      (λ e. absurd (omega (arith, e, c.if-field-eq6.true))) known.sequence;
  arrival = found_other 2 fields (field_of c.args.field.now) c.args.self.now.arrival
      (λ e. absurd (omega (arith, e, c.if-field-eq6.true))) known.arrival;
  departure = found_other 3 fields (field_of c.args.field.now) c.args.self.now.departure
      (λ e. absurd (omega (arith, e, c.if-field-eq6.true))) known.departure;
  stop_id = text_other 4 fields (field_of c.args.field.now) (seen c.args.self.now.stop_id)
      (λ e. absurd (omega (arith, e, c.if-field-eq6.true))) known.stop_id;
  relation = number_other 5 fields (field_of c.args.field.now) c.args.self.now.relation
      (λ e. absurd (omega (arith, e, c.if-field-eq6.true))) known.relation;
  properties = c.in_ok-add_body-3.ensures fields known.properties;
}

pub returns : goal.returns
returns c = λ fields known. record {
  sequence = number_other 1 fields (field_of c.args.field.now) c.args.self.now.sequence c.if-field-eq1.false
      known.sequence;
  arrival = found_other 2 fields (field_of c.args.field.now) c.args.self.now.arrival c.if-field-eq2.false known.arrival;
  departure = found_other 3 fields (field_of c.args.field.now) c.args.self.now.departure c.if-field-eq3.false
      known.departure;
  stop_id = c.in_ok-self.ensures fields known.stop_id;
  relation = c.number_after-self-2.ensures fields known.relation;
  properties = found_other 6 fields (field_of c.args.field.now) c.args.self.now.properties c.if-field-eq6.false
      known.properties;
}
