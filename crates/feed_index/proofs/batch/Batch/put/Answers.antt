-- What is dead after the item came, once its region was packed where that was too much.
use Rattle.feed_index.proofs.GatherLemmas.{dead_taken}
use Rattle.feed_index.proofs.batch.Batch.put.Goals as goal

pub returns-clause-dead : goal.returns-clause-dead
returns-clause-dead g c =
    rw (← c.self.view_is)
    (dead_taken g.met.K.Ord.total c.self.inside.rows.items c.reserve.new.self.items c.take_item-self-inside.new.rows.items c.self.inside.pool c.reserve-2.new.self c.take_item-self-inside.new.pool c.settle.new.pool c.self.inside.front c.take_item-self-inside.result
    (record { key = c.args.key; value = c.args.value; bytes = c.args.bytes.now }) c.self.invariant c.reserve-2.ensures.spans c.reserve-2.ensures.dead c.take_item-self-inside.ensures.takes c.settle.ensures.spans c.settle.ensures.dead c.settle.ensures.bounded).0

pub returns-clause-bounded : goal.returns-clause-bounded
returns-clause-bounded g c =
    (dead_taken g.met.K.Ord.total c.self.inside.rows.items c.reserve.new.self.items c.take_item-self-inside.new.rows.items c.self.inside.pool c.reserve-2.new.self c.take_item-self-inside.new.pool c.settle.new.pool c.self.inside.front c.take_item-self-inside.result
    (record { key = c.args.key; value = c.args.value; bytes = c.args.bytes.now }) c.self.invariant c.reserve-2.ensures.spans c.reserve-2.ensures.dead c.take_item-self-inside.ensures.takes c.settle.ensures.spans c.settle.ensures.dead c.settle.ensures.bounded).1
