use Rattle.std.proofs.Common.{sym, ap, subst, ◌∙◌, Ok}
use Rattle.std.proofs.lemmas.Result.{err_from_is_err_and}
use Rattle.wire_fields.specs.declared.field.Value.{Value}
use Rattle.wire_fields.specs.declared.item.Item.{Item}
use Rattle.wire_fields.specs.Grammar.{BeginsField}
use Rattle.wire_fields.specs.Reading.{holding}
use Rattle.wire_fields.specs.Seen.{payload_of, item_of, field_of}
use Rattle.wire_fields.proofs.Fronts.{is_group, first_fault, first_end, first_whole, first_group, first_group_fault}
use Rattle.wire_fields.proofs.reading.first_field.Goals as goal

pub returns-in_err-item-clause-fault : goal.returns-in_err-item-clause-fault
returns-in_err-item-clause-fault c =
    let p = err_from_is_err_and c.from_residual.result c.from_residual.ensures.1 in
    rw (p.1, p.2) (first_fault c.args.bytes.now c.in_err-item.field-0.0 c.in_err-item.ensures)

pub returns-in_err-skip_group-in-Group-clause-fault :
    goal.returns-in_err-skip_group-in-Group-clause-fault
returns-in_err-skip_group-in-Group-clause-fault c =
    let p = err_from_is_err_and c.from_residual-in_err-skip_group-in-Group.result c.from_residual-in_err-skip_group-in-Group.ensures.1 in
    let number = c.in-Holds.field.number in
    let rest = c.in_ok-item.rest.now in
    let read = c.in_ok-item.ensures ∙ ap (λ (i : Item). Ok (item_of i, rest)) c.in-Holds.is ∙ ap (λ (v : Value). Ok (holding number (payload_of v), rest)) c.in-Group.is in
    rw (p.1, p.2) (first_group_fault c.args.bytes.now rest number c.in_err-skip_group-in-Group.field-0.0 read c.in_err-skip_group-in-Group.ensures.fault)

pub returns-in-Ends-clause-fault : goal.returns-in-Ends-clause-fault
returns-in-Ends-clause-fault c =
    let rest = c.in_ok-item.rest.now in
    let read = c.in_ok-item.ensures ∙ ap (λ (i : Item). Ok (item_of i, rest)) c.in-Ends.is in
    first_end c.args.bytes.now rest c.in-Ends.field-0 read

pub returns-in_ok-skip_group-in-Group-clause-found :
    goal.returns-in_ok-skip_group-in-Group-clause-found
returns-in_ok-skip_group-in-Group-clause-found c =
    let number = c.in-Holds.field.number in
    let rest = c.in_ok-item.rest.now in
    let after = c.in_ok-skip_group-in-Group.field-0.now in
    let read = c.in_ok-item.ensures ∙ ap (λ (i : Item). Ok (item_of i, rest)) c.in-Holds.is ∙ ap (λ (v : Value). Ok (holding number (payload_of v), rest)) c.in-Group.is in
    let found = first_group c.args.bytes.now rest after number read c.in_ok-skip_group-in-Group.ensures.found in
    subst (λ (v : Value). BeginsField c.args.bytes.now (record { number = number; payload = payload_of v }) after) (sym c.in-Group.is) found

pub returns-in_default : goal.returns-in_default
returns-in_default c =
    let rest = c.in_ok-item.rest.now in
    let read = c.in_ok-item.ensures ∙ ap (λ (i : Item). Ok (item_of i, rest)) c.in-Holds.is in
    record {
      found = first_whole c.args.bytes.now rest (field_of c.in-Holds.field) read (λ e. c.in_default.not-Group (is_group c.in-Holds.field.value e));
      fault = tt;
    }
