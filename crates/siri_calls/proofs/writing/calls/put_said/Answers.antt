-- The times of a reading.
use Rattle.siri_calls.proofs.writing.calls.put_said.Goals as goal

pub returns-in-Timed : goal.returns-in-Timed
returns-in-Timed c = rw c.in-Timed.is c.put_times.ensures
