use Rattle.feed_index.proofs.runs.gap_of_last.Goals as goal

pub gap-requires-clause-new : goal.gap-requires-clause-new
gap-requires-clause-new g c = c.requires.new c.index-rows-end.result
