-- The part of the field's number goes on by it, and the others stay.
use Rattle.std.proofs.Common.{arith}
use Rattle.wire_fields.specs.Seen.{field_of}
use Rattle.feed_reading.specs.Partly.{seen}
use Rattle.feed_reading.proofs.OneMore.{number_other, text_other}
use Rattle.feed_reading.proofs.quick.trips.TripPartsParts.take.Goals as goal

pub returns-then-field-eq1 : goal.returns-then-field-eq1
returns-then-field-eq1 c = λ fields known. record {
  trip_id = c.in_ok-self.ensures fields known.trip_id;
  start_date = text_other 3 fields (field_of c.args.field.now) (seen c.args.self.now.start_date)
      (λ e. absurd (omega (arith, e, c.if-field-eq1.true))) known.start_date;
  relation = number_other 4 fields (field_of c.args.field.now) c.args.self.now.relation
      (λ e. absurd (omega (arith, e, c.if-field-eq1.true))) known.relation;
  route_id = text_other 5 fields (field_of c.args.field.now) (seen c.args.self.now.route_id)
      (λ e. absurd (omega (arith, e, c.if-field-eq1.true))) known.route_id;
}

pub returns-then-field-eq3 : goal.returns-then-field-eq3
returns-then-field-eq3 c = λ fields known. record {
  trip_id = text_other 1 fields (field_of c.args.field.now) (seen c.args.self.now.trip_id)
      (λ e. absurd (omega (arith, e, c.if-field-eq3.true))) known.trip_id;
  start_date = c.in_ok-self-2.ensures fields known.start_date;
  relation = number_other 4 fields (field_of c.args.field.now) c.args.self.now.relation
      (λ e. absurd (omega (arith, e, c.if-field-eq3.true))) known.relation;
  route_id = text_other 5 fields (field_of c.args.field.now) (seen c.args.self.now.route_id)
      (λ e. absurd (omega (arith, e, c.if-field-eq3.true))) known.route_id;
}

pub returns-then-field-eq4 : goal.returns-then-field-eq4
returns-then-field-eq4 c = λ fields known. record {
  trip_id = text_other 1 fields (field_of c.args.field.now) (seen c.args.self.now.trip_id)
      (λ e. absurd (omega (arith, e, c.if-field-eq4.true))) known.trip_id;
  start_date = text_other 3 fields (field_of c.args.field.now) (seen c.args.self.now.start_date)
      (λ e. absurd (omega (arith, e, c.if-field-eq4.true))) known.start_date;
  relation = c.number_after-self.ensures fields known.relation;
  route_id = text_other 5 fields (field_of c.args.field.now) (seen c.args.self.now.route_id)
      (λ e. absurd (omega (arith, e, c.if-field-eq4.true))) known.route_id;
}

pub returns : goal.returns
returns c = λ fields known. record {
  trip_id = text_other 1 fields (field_of c.args.field.now) (seen c.args.self.now.trip_id) c.if-field-eq1.false
      known.trip_id;
  start_date = text_other 3 fields (field_of c.args.field.now) (seen c.args.self.now.start_date) c.if-field-eq3.false
      known.start_date;
  relation = number_other 4 fields (field_of c.args.field.now) c.args.self.now.relation c.if-field-eq4.false
      known.relation;
  route_id = c.in_ok-self-3.ensures fields known.route_id;
}
