-- Fewer updates than bytes can be counted.
use Rattle.std.proofs.Common.{◌≡◌, arith, length, refl}
use Rattle.std.specs.Prelude.{sum_by}
use Rattle.sample_counts.specs.Counts.{updates_of}
use Rattle.sample_counts.proofs.TallyLemmas.{counts_are}
use Rattle.sample_counts.proofs.counting.count_feed.Goals as goal

pub returns : goal.returns
returns c =
    let few = c.requires.few in
    let counted = rw c.as_slice.ensures.same at c.updates_in.ensures in
    let updates : c.updates_in.result ≡ sum_by updates_of c.args.feed.now.entities = omega arith in
    counts_are c.args.context.now c.args.bytes.now c.args.feed.now c.in_ok-tally.tally c.updates_in.result (length c.args.bytes.now) c.in_ok-tally.ensures updates refl
