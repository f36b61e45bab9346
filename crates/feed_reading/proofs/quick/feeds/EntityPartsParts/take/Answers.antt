-- The part of the field's number goes on by it, and the others stay.
use Rattle.std.proofs.Common.{arith}
use Rattle.wire_fields.specs.Seen.{field_of}
use Rattle.feed_reading.specs.Partly.{seen}
use Rattle.feed_reading.proofs.OneMore.{number_other, text_other, found_other}
use Rattle.feed_reading.proofs.quick.feeds.EntityPartsParts.take.Goals as goal

pub returns-then-field-eq1 : goal.returns-then-field-eq1
returns-then-field-eq1 c = λ fields known. record {
  id = c.in_ok-self.ensures fields known.id;
  deleted = number_other 2 fields (field_of c.args.field.now) c.args.self.now.deleted
      (λ e. absurd (omega (arith, e, c.if-field-eq1.true))) known.deleted;
  trip_update = found_other 3 fields (field_of c.args.field.now) c.args.self.now.trip_update
      (λ e. absurd (omega (arith, e, c.if-field-eq1.true))) known.trip_update;
  alert = found_other 5 fields (field_of c.args.field.now) c.args.self.now.alert
      (λ e. absurd (omega (arith, e, c.if-field-eq1.true))) known.alert;
}

pub returns-then-field-eq3 : goal.returns-then-field-eq3
returns-then-field-eq3 c = λ fields known. record {
  id = text_other 1 fields (field_of c.args.field.now) (seen c.args.self.now.id)
      (λ e. absurd (omega (arith, e, c.if-field-eq3.true))) known.id;
  deleted = number_other 2 fields (field_of c.args.field.now) c.args.self.now.deleted
      (λ e. absurd (omega (arith, e, c.if-field-eq3.true))) known.deleted;
  trip_update = c.in_ok-add_body.ensures fields known.trip_update;
  alert = found_other 5 fields (field_of c.args.field.now) c.args.self.now.alert
      (λ e. absurd (omega (arith, e, c.if-field-eq3.true))) known.alert;
}

pub returns-then-field-eq5 : goal.returns-then-field-eq5
returns-then-field-eq5 c = λ fields known. record {
  id = text_other 1 fields (field_of c.args.field.now) (seen c.args.self.now.id)
      (λ e. absurd (omega (arith, e, c.if-field-eq5.true))) known.id;
  deleted = number_other 2 fields (field_of c.args.field.now) c.args.self.now.deleted
      (λ e. absurd (omega (arith, e, c.if-field-eq5.true))) known.deleted;
  trip_update = found_other 3 fields (field_of c.args.field.now) c.args.self.now.trip_update
      (λ e. absurd (omega (arith, e, c.if-field-eq5.true))) known.trip_update;
  alert = c.in_ok-add_body-2.ensures fields known.alert;
}

pub returns : goal.returns
returns c = λ fields known. record {
  id = text_other 1 fields (field_of c.args.field.now) (seen c.args.self.now.id) c.if-field-eq1.false known.id;
  deleted = c.number_after-self.ensures fields known.deleted;
  trip_update = found_other 3 fields (field_of c.args.field.now) c.args.self.now.trip_update c.if-field-eq3.false
      known.trip_update;
  alert = found_other 5 fields (field_of c.args.field.now) c.args.self.now.alert c.if-field-eq5.false known.alert;
}
