-- A piece holds the field, or breaks, or all lack it.
use Rattle.feed_reading.proofs.MissingFields.{held_not_lacking, torn_not_lacking, all_lacking}
use Rattle.feed_reading.proofs.finder.pieces.all_lack.Goals as goal

pub returns-then-any_holds : goal.returns-then-any_holds
returns-then-any_holds c = held_not_lacking c.args.number c.args.pieces.now c.if-any_holds.ensures

pub returns-in-Some : goal.returns-in-Some
returns-in-Some c = torn_not_lacking c.args.number c.args.pieces.now c.in-Some._fault c.in-Some.ensures.0

pub returns-in-None : goal.returns-in-None
returns-in-None c = all_lacking c.args.number c.args.pieces.now c.if-any_holds.ensures c.in-None.ensures
