-- What the files answered is what the folder means.
use Rattle.std.proofs.lemmas.Option.{IfSome_then}
use Rattle.stop_schedule.specs.Timetable.{sheets_in}
use Rattle.stop_schedule.proofs.FolderLemmas.{reads_fault, reads_of}
use Rattle.stop_schedule.proofs.assembling.read_timetable.Goals as goal

pub returns-in-Ok-clause-exact : goal.returns-in-Ok-clause-exact
returns-in-Ok-clause-exact g c =
    IfSome_then (g.F.Files.told c.args.files.now) c.in-Ok.ensures.exact
    (λ told held. reads_of (sheets_in told c.args.dir.now) c.assemble.result held.0
    (c.assemble.ensures.exact (sheets_in told c.args.dir.now) held.1))

pub returns-in-Err-clause-exact : goal.returns-in-Err-clause-exact
returns-in-Err-clause-exact g c =
    IfSome_then (g.F.Files.told c.args.files.now) c.in-Err.ensures.exact
    (λ told said. reads_fault (sheets_in told c.args.dir.now) c.in-Err.fault said)
