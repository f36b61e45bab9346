use Rattle.std.proofs.Common.{◌≡◌, length, take, map, Ok, ap, arith}
use Rattle.std.proofs.lemmas.List.{take_all}
use Rattle.wire_fields.specs.Grammar.{AreFields}
use Rattle.wire_fields.specs.Seen.{field_of}
use Rattle.wire_fields.proofs.Broken.{fields_once, fields_or_broken}
use Rattle.wire_fields.proofs.listing.list_fields.Goals as goal

pub returns-in_err-field-clause-reads : goal.returns-in_err-field-clause-reads
returns-in_err-field-clause-reads c = λ fields h. absurd (fields_or_broken c.args.bytes.now fields c.loop-fields.at c.in_err-field.field-0.0.kind h c.in_err-field.ensures.broken.1)

pub returns-clause-reads : goal.returns-clause-reads
returns-clause-reads c = λ fields h.
    let end : c.loop-fields.at ≡ length c.args.bytes.now = c.in_ok-field.ensures.end.0 (ap Ok c.in_default.is) in
    let whole : take c.loop-fields.at c.args.bytes.now ≡ c.args.bytes.now = take_all c.loop-fields.at c.args.bytes.now (omega arith) in
    let read : AreFields c.args.bytes.now (map field_of c.loop-fields.fields) = rw whole at c.loop-fields.invariant.read in
    fields_once c.args.bytes.now (map field_of c.loop-fields.fields) fields read h
