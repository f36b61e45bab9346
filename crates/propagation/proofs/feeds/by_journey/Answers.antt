-- Each call of the closure gives the day and the trip.
use Rattle.std.proofs.lemmas.List.Sorted.{answers_always}
use Rattle.journey_model.specs.declared.readings.DatedReading.{DatedReading}
use Rattle.propagation.proofs.feeds.by_journey.Goals as goal

pub returns-clause-sorted : goal.returns-clause-sorted
returns-clause-sorted c =
    rw c.from_vec.ensures.same
    (c.in_ok-sort_by_key.ensures.sorted (λ (one : DatedReading). (one.day, one.trip))
    (answers_always _ _ _ (λ f a r f' called. called.met)))
