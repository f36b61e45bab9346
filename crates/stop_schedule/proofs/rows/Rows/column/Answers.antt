use Rattle.std.proofs.Common.{◌≡◌, ◌<◌, length, true, ap, sym, arith}
use Rattle.std.specs.Str.{bytes_eq}
use Rattle.stop_schedule.specs.Fields.{field_of}
use Rattle.stop_schedule.specs.RowReader.{RowsLeft}
use Rattle.stop_schedule.proofs.FieldLemmas.{column-found, column-missing}
use Rattle.stop_schedule.proofs.rows.Rows.column.Goals as goal

pub returns-then-eq : goal.returns-then-eq
returns-then-eq c =
    let name = c.args.name.now in
    let row = c.args.self.now.row in
    let fields = ap (λ (r : RowsLeft). length r.row) c.self.view_is in
    let within : c.loop-place.place < length row = omega (arith, fields) in
    let here : bytes_eq (field_of c.loop-place.place row) name ≡ true =
    rw (← c.field.ensures.value, ← c.as_bytes.ensures.value) (sym c.if-eq.ensures) in
    record { place = sym (column-found name row c.loop-place.place within here c.loop-place.invariant) }

pub returns : goal.returns
returns c =
    let fields = ap (λ (r : RowsLeft). length r.row) c.self.view_is in
    record {
      place =
          sym (column-missing c.args.name.now c.args.self.now.row
          (λ k below. c.loop-place.invariant k (omega (arith, fields))));
    }
