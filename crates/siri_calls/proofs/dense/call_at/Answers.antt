-- The next call is at a later position.
use Rattle.std.proofs.Common.{◌+◌, map, drop, sym}
use Rattle.std.proofs.lemmas.Bool.{ltb-true}
use Rattle.siri_calls.specs.MatchedCalls.{placed_call}
use Rattle.siri_calls.proofs.DenseLemmas.{elsewhere, none-here}
use Rattle.siri_calls.proofs.PlacedLemmas.{left_at}
use Rattle.siri_calls.proofs.dense.call_at.Goals as goal

pub returns-else-one-position-clause-none : goal.returns-else-one-position-clause-none
returns-else-one-position-clause-none c =
    let left = left_at c.args.placed.now c.args.next c.in_ok-one.one.now (ltb-true _ _ (sym c.in_ok-one.ensures.lookup.0)) c.in_ok-one.ensures.lookup.1 in
    let rising = rw left at c.requires in
    rw left (none-here c.args.position (placed_call c.in_ok-one.one.now) (map placed_call (drop (c.args.next + 1) c.args.placed.now)) rising (elsewhere _ _ c.if-one-position.false))
