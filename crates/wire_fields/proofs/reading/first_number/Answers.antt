use Rattle.std.proofs.Common.{ap, sym, ◌∙◌}
use Rattle.wire_fields.specs.Reading.{varint_at}
use Rattle.wire_fields.proofs.Numbers.{varint_found, varint_again}
use Rattle.wire_fields.proofs.reading.first_number.Goals as goal

pub returns-in-Ok : goal.returns-in-Ok
returns-in-Ok c = record { found = varint_found c.args.bytes.now c.in-Ok.found.0 c.in-Ok.found.1.now c.in-Ok.ensures; none = tt }

pub returns-in-Err : goal.returns-in-Err
returns-in-Err c = record {
  found = tt;
  none = λ value rest h. let d = sym (ap varint_at h.1 ∙ varint_again h.0 rest value h.2) ∙ c.in-Err.ensures in absurd cc;
}
