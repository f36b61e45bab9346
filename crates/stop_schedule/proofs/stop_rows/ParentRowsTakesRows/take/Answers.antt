-- The station of one more row.
use Rattle.std.proofs.Common.{ap, length}
use Rattle.stop_schedule.specs.Causes.{number_after}
use Rattle.stop_schedule.specs.Faults.{fault_if}
use Rattle.stop_schedule.specs.declared.column.Column.TheVariants as Column
use Rattle.stop_schedule.specs.declared.table_file.TableFile.TheVariants.{Stops}
use Rattle.stop_schedule.specs.declared.table_fault.TableFault.TheVariants.{Unknown}
use Rattle.stop_schedule.proofs.StationLemmas.{one-station}
use Rattle.stop_schedule.proofs.stop_rows.ParentRowsTakesRows.take.Goals as goal

pub returns-clause-takes : goal.returns-clause-takes
returns-clause-takes c = λ start before kept counted.
    let row = c.args.sheet.now.row in
    let stops = c.args.self.now.stops.now in
    let stations = c.args.self.now.stations.items in
    let known = c.in-Some.ensures.cases in (
      ap (λ b. fault_if b (Unknown Stops (number_after before) Column.ParentStation)) known.0,
      (
        kept.0,
        rw c.in_ok-push.ensures.items
            (one-station stops stations before row c.in-Some.station _ kept.1
            (ap length c.as_slice.ensures.value) known.1),
      ),
    )
