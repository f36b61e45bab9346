use Rattle.std.proofs.Common.{inr}
use Rattle.stop_schedule.proofs.FailureLemmas.{if_later}
use Rattle.stop_schedule.proofs.JoinLemmas.{if_both}
use Rattle.stop_schedule.proofs.folder_rows.read_folder.Goals as goal

pub returns-in-Ok-read_rest-clause-exact : goal.returns-in-Ok-read_rest-clause-exact
returns-in-Ok-read_rest-clause-exact g c =
    let same = c.in-Ok.ensures.same in
    let rest = rw same at c.in-Ok-read_rest.ensures.exact in
    if_both (g.F.Files.told c.args.files.now) c.in-Ok.ensures.exact rest
    (λ told p q.
    let none = p.0 in
    let stops_are = p.1.0.ids in
    let routes_are = p.1.1 in
    let held = rw (stops_are, routes_are) at q in
    (rw none held.0, record { rest = held.1; stations_are = p.1.0.stations_are }))

pub returns-clause-exact : goal.returns-clause-exact
returns-clause-exact g c =
    let same = c.in-Ok.ensures.same in
    let rest = rw same at c.in-Err-read_rest.ensures.exact in
    if_both (g.F.Files.told c.args.files.now) c.in-Ok.ensures.exact rest
    (λ told p q.
    let none = p.0 in
    let stops_are = p.1.0.ids in
    let routes_are = p.1.1 in
    rw none (rw (stops_are, routes_are) at q))

pub returns-clause-failed : goal.returns-clause-failed
returns-clause-failed g c =
    let same = c.in-Ok.ensures.same in
    let failed = rw same at c.in-Err-read_rest.ensures.failed in
    if_later c.in-Err-read_rest.fault (g.F.Files.told c.args.files.now) _ _ _ c.in-Ok.ensures.exact
    (λ told file names of_rest. let routes = names.1.1 in inr (names.0, rw routes at of_rest)) failed
