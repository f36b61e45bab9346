use Rattle.std.proofs.Common.{◌-◌}
use Rattle.std.proofs.lemmas.List.Sorted.{IsPermutation-put_mid}
use Rattle.feed_index.proofs.TurnLemmas.{turned}
use Rattle.feed_index.proofs.runs.turn.Goals as goal

pub returns-clause-turned : goal.returns-clause-turned
returns-clause-turned g c = λ A B C D is a b e. turned A B C D c.args.rows.now c.rotate_left.new.self c.args.at c.args.front c.args.end is a b e c.rotate_left.ensures.after

pub returns-clause-moved : goal.returns-clause-moved
returns-clause-moved g c = IsPermutation-put_mid c.args.at (c.args.end - c.args.at) c.args.rows.now c.rotate_left.new.self c.rotate_left.ensures.permutation
