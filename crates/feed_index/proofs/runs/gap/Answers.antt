use Rattle.feed_index.proofs.TakeLemmas.{never_new}
use Rattle.feed_index.proofs.runs.gap.Goals as goal

pub returns-in-Ok : goal.returns-in-Ok
returns-in-Ok g c = absurd (never_new g.met.K.Ord.total c.args.rows.now c.args.key.now c.in-Ok.at c.requires.new c.in-Ok.ensures.parts)
