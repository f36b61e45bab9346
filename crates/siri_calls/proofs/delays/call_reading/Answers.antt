-- The times of a call are moments.
use Rattle.journey_model.proofs.Delays.{moment_time}
use Rattle.siri_calls.proofs.delays.call_reading.Goals as goal

pub both_times-requires-clause-arrival : goal.both_times-requires-clause-arrival
both_times-requires-clause-arrival c = λ time is. moment_time time (c.args.one.now.call.now.arrival_in time is)

pub both_times-requires-clause-departure : goal.both_times-requires-clause-departure
both_times-requires-clause-departure c = λ time is. moment_time time (c.args.one.now.call.now.departure_in time is)
