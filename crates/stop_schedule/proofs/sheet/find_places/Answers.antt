use Rattle.std.proofs.Common.{◌<◌, ◌∙◌, length, sym, arith}
use Rattle.stop_schedule.specs.Layout.{columns}
use Rattle.stop_schedule.specs.Sheet.{places_of}
use Rattle.stop_schedule.specs.declared.column.Column.TheVariants.{AgencyTimezone}
use Rattle.stop_schedule.specs.declared.forms.Form.TheVariants.{Any}
use Rattle.stop_schedule.proofs.FaultLemmas.{step-past, step-place}
use Rattle.stop_schedule.proofs.sheet.find_places.Goals as goal

pub loop-column-preserved-in-Some : goal.loop-column-preserved-in-Some
loop-column-preserved-in-Some c =
    let file = c.args.file in
    let names = c.args.rows.now.row in
    let within : c.loop-column.column-index < length c.columns-column-items.result.now = omega arith in
    let at = rw c.name.ensures at (sym c.in-Some.ensures.place) in
    rw c.in_ok-push.ensures.items
    (step-place file names c.columns-column-items.result.now c.loop-column.column-index (AgencyTimezone, Any)
    c.loop-column.places.items c.in-Some.place
    (places_of file names (columns file)) within at c.loop-column.invariant)

pub loop-column-preserved : goal.loop-column-preserved
loop-column-preserved c =
    let file = c.args.file in
    let names = c.args.rows.now.row in
    let within : c.loop-column.column-index < length c.columns-column-items.result.now = omega arith in
    let at = rw c.name.ensures at (sym c.in_default.ensures.place) in
    let may = sym c.is_optional.ensures ∙ c.if-not-is_optional.false in
    step-past file names c.columns-column-items.result.now c.loop-column.column-index (AgencyTimezone, Any)
    c.loop-column.places.items (places_of file names (columns file)) within at may c.loop-column.invariant
