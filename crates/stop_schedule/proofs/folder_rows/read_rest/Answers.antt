use Rattle.std.proofs.Common.{inr}
use Rattle.stop_schedule.proofs.FailureLemmas.{if_later}
use Rattle.stop_schedule.proofs.JoinLemmas.{if_both}
use Rattle.stop_schedule.proofs.folder_rows.read_rest.Goals as goal

pub returns-in-Err-read_stops-clause-exact : goal.returns-in-Err-read_stops-clause-exact
returns-in-Err-read_stops-clause-exact g c =
    let same = c.in-Ok.ensures.same in
    let stops = rw same at c.in-Err-read_stops.ensures.exact in
    if_both (g.F.Files.told c.args.files.now) c.in-Ok.ensures.exact stops
    (λ told ran of_stops.
    let none = ran.0 in
    let trips = ran.1.1.ids in
    rw none (rw trips at of_stops))

pub returns-in-Err-read_stops-clause-failed : goal.returns-in-Err-read_stops-clause-failed
returns-in-Err-read_stops-clause-failed g c =
    let same = c.in-Ok.ensures.same in
    let failed = rw same at c.in-Err-read_stops.ensures.failed in
    if_later c.in-Err-read_stops.fault (g.F.Files.told c.args.files.now) _ _ _ c.in-Ok.ensures.exact
    (λ told file ran of_stops. let trips = ran.1.1.ids in inr (ran.0, rw trips at of_stops)) failed
