use Rattle.std.proofs.Common.{arith}
use Rattle.std.proofs.lemmas.List.Sorted.{IsPermutation-refl, IsPermutation-trans}
use Rattle.feed_index.proofs.RunLemmas.{runs_begin}
use Rattle.feed_index.proofs.StepLemmas.{gap_within, runs_step}
use Rattle.feed_index.proofs.runs.merge_runs.Goals as goal

pub runs-init : goal.runs-init
runs-init g c = record {
  runs = runs_begin (λ row. row.key) g.met.K.Ord.total c.args.rows.now c.args.front c.requires.within c.requires.staged.front_rises c.requires.staged.back_rises c.requires.staged.apart;
  within = omega arith;
  moved = IsPermutation-refl c.args.rows.now;
}

pub turn-requires-clause-first : goal.turn-requires-clause-first
turn-requires-clause-first g c = gap_within g.met.K.Ord.total c.runs.rows c.runs.front c.runs.end c.gap_of_last-at.result c.runs-test.true c.runs.invariant.within c.gap_of_last-at.ensures.gap

pub overflow_sub-end : goal.overflow_sub-end
overflow_sub-end g c = gap_within g.met.K.Ord.total c.runs.rows c.runs.front c.runs.end c.gap_of_last-at.result c.runs-test.true c.runs.invariant.within c.gap_of_last-at.ensures.gap

pub runs-preserved : goal.runs-preserved
runs-preserved g c = record {
  runs = runs_step g.met.K.Ord.total c.runs.rows c.turn.new.rows _ _ c.runs.front c.runs.end c.gap_of_last-at.result c.runs.invariant.runs c.runs-test.true c.runs.invariant.within c.gap_of_last-at.ensures.gap c.turn.ensures.turned;
  within = omega arith;
  moved = IsPermutation-trans c.args.rows.now c.runs.rows c.turn.new.rows c.runs.invariant.moved c.turn.ensures.moved;
}
