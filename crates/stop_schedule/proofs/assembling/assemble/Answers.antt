-- What was read of all files is the timetable.
use Rattle.std.proofs.Common.{◌∙◌, ap, sym}
use Rattle.std.specs.Prelude.{option_map}
use Rattle.stop_schedule.specs.declared.table_fault.TableFault.TheVariants.{UntimedEnd}
use Rattle.stop_schedule.proofs.FitLemmas.{in-range}
use Rattle.stop_schedule.proofs.FolderLemmas.{listed, shown_of, untimed_of}
use Rattle.stop_schedule.proofs.assembling.assemble.Goals as goal

pub returns-in-Some-clause-exact : goal.returns-in-Some-clause-exact
returns-in-Some-clause-exact c sheets held =
    let carries = rw (c.as_slice.ensures.value, c.as_slice-2.ensures.value) at c.in_ok-all.ensures in
    ap (option_map UntimedEnd) (sym (untimed_of sheets c.args.folder c.in_ok-all.all held.rest carries) ∙ c.in-Some.is)

pub returns-clause-exact : goal.returns-clause-exact
returns-clause-exact c sheets held =
    let carries = rw (c.as_slice.ensures.value, c.as_slice-2.ensures.value) at c.in_ok-all.ensures in (
      ap (option_map UntimedEnd)
          (sym (untimed_of sheets c.args.folder c.in_ok-all.all held.rest carries) ∙ c.in_default.is),
      c.new.ensures
          ∙ shown_of sheets c.args.folder c.in_ok-trips.trips c.in_ok-all.all c.args.stations.items held.rest
          held.stations_are (rw c.as_slice-3.ensures.value at c.in_ok-trips.ensures) carries,
    )

pub new-requires-clause-in_range : goal.new-requires-clause-in_range
new-requires-clause-in_range c =
    let carries = rw (c.as_slice.ensures.value, c.as_slice-2.ensures.value) at c.in_ok-all.ensures in
    in-range (listed c.args.folder) c.args.folder.routes c.args.folder.stops c.in_ok-trips.trips c.in_ok-all.all
    c.requires.loaded.trips c.requires.loaded.stops (rw c.as_slice-3.ensures.value at c.in_ok-trips.ensures) carries
