-- Each call of the closure gives what the visits are sorted by.
use Rattle.std.proofs.lemmas.List.Sorted.{answers_always}
use Rattle.stop_board.specs.declared.visits.Visit.{Visit}
use Rattle.stop_board.proofs.sorting.sorted_visits.Goals as goal

pub returns-clause-in_order : goal.returns-clause-in_order
returns-clause-in_order c =
    c.in_ok-sort_by_key.ensures.sorted (λ (v : Visit). (v.arrival, v.departure, v.day, v.trip, v.position))
    (answers_always _ _ _ (λ f a r f' called. called.met))

pub returns-clause-in_turn : goal.returns-clause-in_turn
returns-clause-in_turn c =
    rw (← c.in_ok-sorted.ensures.items)
    (c.in_ok-sort_by_key.ensures.stable (λ (v : Visit). (v.arrival, v.departure, v.day, v.trip, v.position))
    (answers_always _ _ _ (λ f a r f' called. called.met)))
