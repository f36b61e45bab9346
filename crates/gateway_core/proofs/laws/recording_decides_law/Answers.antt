use Rattle.gateway_core.proofs.OrderOfArrival.{feeds_alike, rebuilt_alike}
use Rattle.gateway_core.proofs.laws.recording_decides_law.Goals as goal

pub returns-clause-rebuilt : goal.returns-clause-rebuilt
returns-clause-rebuilt c = rebuilt_alike

pub returns-clause-equal : goal.returns-clause-equal
returns-clause-equal c = feeds_alike
