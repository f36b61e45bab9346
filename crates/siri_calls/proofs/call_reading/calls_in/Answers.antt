use Rattle.std.proofs.Common.{map, ap}
use Rattle.json_tree.specs.Trees.{view}
use Rattle.siri_calls.specs.Seen.{calls_of}
use Rattle.siri_calls.proofs.CallLemmas.{both_found, first_refused, second_refused}
use Rattle.siri_calls.proofs.call_reading.calls_in.Goals as goal

pub returns-in-Err-clause-fault : goal.returns-in-Err-clause-fault
returns-in-Err-clause-fault c = first_refused c.args.zone.now (map view c.args.recorded.now) (map view c.args.estimated.now) c.in-Err.fault c.in-Err.ensures.fault

pub returns-in-Ok-clause-found : goal.returns-in-Ok-clause-found
returns-in-Ok-clause-found c =
    both_found c.args.zone.now (map view c.args.recorded.now) (map view c.args.estimated.now) (calls_of c.in_ok-found.found.items) _ _ (ap calls_of c.in_ok-found.ensures.items)
    c.in_default.ensures.found c.in-Ok.ensures.found

pub returns-clause-fault : goal.returns-clause-fault
returns-clause-fault c =
    second_refused c.args.zone.now (map view c.args.recorded.now) (map view c.args.estimated.now) (calls_of c.in_ok-found.found.items) _ c.in-Err-add_calls.fault
    (ap calls_of c.in_ok-found.ensures.items) c.in_default.ensures.found c.in-Err-add_calls.ensures.fault
