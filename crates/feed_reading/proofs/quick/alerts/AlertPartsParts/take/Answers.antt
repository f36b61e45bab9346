-- The part of the field's number goes on by it, and the others stay.
use Rattle.std.proofs.Common.{arith}
use Rattle.wire_fields.specs.Seen.{field_of}
use Rattle.feed_reading.specs.Tables.{OfTimeRange, OfEntitySelector}
use Rattle.feed_reading.proofs.OneMore.{number_other, found_other, messages_other}
use Rattle.feed_reading.proofs.quick.alerts.AlertPartsParts.take.Goals as goal

pub returns-then-field-eq1 : goal.returns-then-field-eq1
returns-then-field-eq1 c = λ fields known. record {
  periods = c.in_ok-add_message.ensures fields known.periods;
  selectors = messages_other OfEntitySelector 5 fields (field_of c.args.field.now) c.args.self.now.selectors
      (λ e. absurd (omega (arith, e, c.if-field-eq1.true))) known.selectors;
  cause = number_other 6 fields (field_of c.args.field.now) c.args.self.now.cause
      (λ e. absurd (omega (arith, e, c.if-field-eq1.true))) known.cause;
  effect = number_other 7 fields (field_of c.args.field.now) c.args.self.now.effect
      (λ e. absurd (omega (arith, e, c.if-field-eq1.true))) known.effect;
  header = found_other 10 fields (field_of c.args.field.now) c.args.self.now.header
      (λ e. absurd (omega (arith, e, c.if-field-eq1.true))) known.header;
  description = found_other 11 fields (field_of c.args.field.now) c.args.self.now.description
      (λ e. absurd (omega (arith, e, c.if-field-eq1.true))) known.description;
}

pub returns-then-field-eq5 : goal.returns-then-field-eq5
returns-then-field-eq5 c = λ fields known. record {
  periods = messages_other OfTimeRange 1 fields (field_of c.args.field.now) c.args.self.now.periods
      (λ e. absurd (omega (arith, e, c.if-field-eq5.true))) known.periods;
  selectors = c.in_ok-add_message-2.ensures fields known.selectors;
  cause = number_other 6 fields (field_of c.args.field.now) c.args.self.now.cause
      (λ e. absurd (omega (arith, e, c.if-field-eq5.true))) known.cause;
  effect = number_other 7 fields (field_of c.args.field.now) c.args.self.now.effect
      (λ e. absurd (omega (arith, e, c.if-field-eq5.true))) known.effect;
  header = found_other 10 fields (field_of c.args.field.now) c.args.self.now.header
      (λ e. absurd (omega (arith, e, c.if-field-eq5.true))) known.header;
  description = found_other 11 fields (field_of c.args.field.now) c.args.self.now.description
      (λ e. absurd (omega (arith, e, c.if-field-eq5.true))) known.description;
}

pub returns-then-field-eq10 : goal.returns-then-field-eq10
returns-then-field-eq10 c = λ fields known. record {
  periods = messages_other OfTimeRange 1 fields (field_of c.args.field.now) c.args.self.now.periods
      (λ e. absurd (omega (arith, e, c.if-field-eq10.true))) known.periods;
  selectors = messages_other OfEntitySelector 5 fields (field_of c.args.field.now) c.args.self.now.selectors
      (λ e. absurd (omega (arith, e, c.if-field-eq10.true))) known.selectors;
  cause = number_other 6 fields (field_of c.args.field.now) c.args.self.now.cause
      (λ e. absurd (omega (arith, e, c.if-field-eq10.true))) known.cause;
  effect = number_other 7 fields (field_of c.args.field.now) c.args.self.now.effect
      (λ e. absurd (omega (arith, e, c.if-field-eq10.true))) known.effect;
  header = c.in_ok-add_body.ensures fields known.header;
  description = found_other 11 fields (field_of c.args.field.now) c.args.self.now.description
      (λ e. absurd (omega (arith, e, c.if-field-eq10.true))) known.description;
}

pub returns-then-field-eq11 : goal.returns-then-field-eq11
returns-then-field-eq11 c = λ fields known. record {
  periods = messages_other OfTimeRange 1 fields (field_of c.args.field.now) c.args.self.now.periods
      (λ e. absurd (omega (arith, e, c.if-field-eq11.true))) known.periods;
  selectors = messages_other OfEntitySelector 5 fields (field_of c.args.field.now) c.args.self.now.selectors
      (λ e. absurd (omega (arith, e, c.if-field-eq11.true))) known.selectors;
  cause = number_other 6 fields (field_of c.args.field.now) c.args.self.now.cause
      (λ e. absurd (omega (arith, e, c.if-field-eq11.true))) known.cause;
  effect = number_other 7 fields (field_of c.args.field.now) c.args.self.now.effect
      (λ e. absurd (omega (arith, e, c.if-field-eq11.true))) known.effect;
  header = found_other 10 fields (field_of c.args.field.now) c.args.self.now.header
      (λ e. absurd (omega (arith, e, c.if-field-eq11.true))) known.header;
  description = c.in_ok-add_body-2.ensures fields known.description;
}

pub returns : goal.returns
returns c = λ fields known. record {
  periods = messages_other OfTimeRange 1 fields (field_of c.args.field.now) c.args.self.now.periods
      c.if-field-eq1.false known.periods;
  selectors = messages_other OfEntitySelector 5 fields (field_of c.args.field.now) c.args.self.now.selectors
      c.if-field-eq5.false known.selectors;
  cause = c.number_after-self.ensures fields known.cause;
  effect = c.number_after-self-2.ensures fields known.effect;
  header = found_other 10 fields (field_of c.args.field.now) c.args.self.now.header c.if-field-eq10.false known.header;
  description = found_other 11 fields (field_of c.args.field.now) c.args.self.now.description c.if-field-eq11.false
      known.description;
}
