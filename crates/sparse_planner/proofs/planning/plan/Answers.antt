use Rattle.std.proofs.Common.{◌≡◌, List, [], zip, IfOk, subst}
use Rattle.timetable.specs.Seen.{seen}
use Rattle.journey_model.specs.Dated.{run_of}
use Rattle.journey_model.specs.Runs.{Run}
use Rattle.journey_model.specs.declared.readings.StopReading.{StopReading}
use Rattle.sparse_planner.specs.Shortest.{shortest, updates_from}
use Rattle.sparse_planner.proofs.Laws.{answer-least, answer-says}
use Rattle.sparse_planner.proofs.planning.plan.Goals as goal
use Rattle.sparse_planner.proofs.planning.plan.Goals.{After-stop_updates}

is-shortest : (c : After-stop_updates) → IfOk c.stop_updates.result (λ updates. updates ≡ shortest (run_of (seen c.args.table.now) c.args.dated.now) c.args.reading.now)
is-shortest c =
    let run : Run = run_of (seen c.args.table.now) c.args.dated.now in
    rw c.in-Stops.is
    (subst (λ (readings : List StopReading). IfOk c.stop_updates.result (λ updates. updates ≡ updates_from run [] (zip run.stops readings))) c.as_slice.ensures.same c.stop_updates.ensures)

pub returns-in-Stops-clause-says : goal.returns-in-Stops-clause-says
returns-in-Stops-clause-says c =
    answer-says c.stop_updates.result (seen c.args.table.now) c.args.dated.now c.args.reading.now c.soundness_law.ensures c.requires (is-shortest c)

pub returns-in-Stops-clause-least : goal.returns-in-Stops-clause-least
returns-in-Stops-clause-least c =
    answer-least c.stop_updates.result (seen c.args.table.now) c.args.dated.now c.args.reading.now c.soundness_law.ensures c.requires (is-shortest c)
