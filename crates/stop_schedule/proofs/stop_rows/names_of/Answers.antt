-- Both passes over the rows of stops.txt.
use Rattle.std.proofs.Common.{◌∙◌, sym}
use Rattle.stop_schedule.proofs.StationLemmas.{names-alone, names-found, names-refused, names-within}
use Rattle.stop_schedule.specs.Rows.{rows}
use Rattle.stop_schedule.specs.Sheet.{sheet_of}
use Rattle.stop_schedule.specs.declared.table_file.TableFile.TheVariants.{Stops}
use Rattle.stop_schedule.proofs.stop_rows.names_of.Goals as goal

pub returns-then-not-has_parents-clause-exact : goal.returns-then-not-has_parents-clause-exact
returns-then-not-has_parents-clause-exact c =
    let first = c.in-Ok.ensures.exact in
    names-alone _ (sheet_of Stops (rows c.args.bytes.now)) first.0 first.1.0 _
    (sym first.1.1 ∙ c.if-not-has_parents.true) c.new.ensures.items

pub returns-in-Ok-stations_of-clause-exact : goal.returns-in-Ok-stations_of-clause-exact
returns-in-Ok-stations_of-clause-exact c =
    let first = c.in-Ok.ensures.exact in
    let second = c.in-Ok-stations_of.ensures.exact in
    names-found _ (sheet_of Stops (rows c.args.bytes.now)) first.0 first.1.0 _ second.0 second.1

pub returns-in-Ok-stations_of-clause-known : goal.returns-in-Ok-stations_of-clause-known
returns-in-Ok-stations_of-clause-known c =
    let first = c.in-Ok.ensures.exact in
    let second = c.in-Ok-stations_of.ensures.exact in
    names-within _ (sheet_of Stops (rows c.args.bytes.now)) first.0 first.1.0 _ second.1

pub returns-in-Err-stations_of-clause-exact : goal.returns-in-Err-stations_of-clause-exact
returns-in-Err-stations_of-clause-exact c =
    let first = c.in-Ok.ensures.exact in
    names-refused _ (sheet_of Stops (rows c.args.bytes.now)) first.0 first.1.0 c.in-Err-stations_of.fault
    c.in-Err-stations_of.ensures.exact
