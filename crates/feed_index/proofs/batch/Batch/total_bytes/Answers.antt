use Rattle.std.proofs.Common.{◌∙◌, sym}
use Rattle.feed_index.proofs.GatherLemmas.{total_gathered}
use Rattle.feed_index.proofs.batch.Batch.total_bytes.Goals as goal

pub returns : goal.returns
returns g c = record {
  value = rw (← c.self.view_is)
      (c.live.ensures.value ∙ c.self.invariant.held.total_is ∙ sym (total_gathered g.met.K.Ord.total c.self.inside.rows.items c.self.inside.pool c.self.inside.front c.self.invariant));
}
