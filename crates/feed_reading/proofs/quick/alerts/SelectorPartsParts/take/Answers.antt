-- The part of the field's number goes on by it, and the others stay.
use Rattle.std.proofs.Common.{arith}
use Rattle.wire_fields.specs.Seen.{field_of}
use Rattle.feed_reading.specs.Partly.{seen}
use Rattle.feed_reading.proofs.OneMore.{text_other, found_other}
use Rattle.feed_reading.proofs.quick.alerts.SelectorPartsParts.take.Goals as goal

pub returns-then-field-eq4 : goal.returns-then-field-eq4
returns-then-field-eq4 c = λ fields known. record {
  agency_id = text_other 1 fields (field_of c.args.field.now) (seen c.args.self.now.agency_id)
      (λ e. absurd (omega (arith, e, c.if-field-eq4.true))) known.agency_id;
  route_id = text_other 2 fields (field_of c.args.field.now) (seen c.args.self.now.route_id)
      (λ e. absurd (omega (arith, e, c.if-field-eq4.true))) known.route_id;
  trip = c.in_ok-add_body.ensures fields known.trip;
  stop_id = text_other 5 fields (field_of c.args.field.now) (seen c.args.self.now.stop_id)
      (λ e. absurd (omega (arith, e, c.if-field-eq4.true))) known.stop_id;
}

pub returns-then-field-eq5 : goal.returns-then-field-eq5
returns-then-field-eq5 c = λ fields known. record {
  agency_id = text_other 1 fields (field_of c.args.field.now) (seen c.args.self.now.agency_id)
      (λ e. absurd (omega (arith, e, c.if-field-eq5.true))) known.agency_id;
  route_id = text_other 2 fields (field_of c.args.field.now) (seen c.args.self.now.route_id)
      (λ e. absurd (omega (arith, e, c.if-field-eq5.true))) known.route_id;
  trip = found_other 4 fields (field_of c.args.field.now) c.args.self.now.trip
      (λ e. absurd (omega (arith, e, c.if-field-eq5.true))) known.trip;
  stop_id = c.in_ok-self.ensures fields known.stop_id;
}

pub returns : goal.returns
returns c = λ fields known. record {
  agency_id = c.in_ok-self-2.ensures fields known.agency_id;
  route_id = c.in_ok-self-3.ensures fields known.route_id;
  trip = found_other 4 fields (field_of c.args.field.now) c.args.self.now.trip c.if-field-eq4.false known.trip;
  stop_id = text_other 5 fields (field_of c.args.field.now) (seen c.args.self.now.stop_id) c.if-field-eq5.false
      known.stop_id;
}
