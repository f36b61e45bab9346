-- The verdict goes by what is found under the number, and by how many are kept.
use Rattle.std.specs.Cmp.Lexicographic.{slice_cmp}
use Rattle.std.specs.Ordering.{nat_cmp}
use Rattle.feed_index.specs.Drafts.{after}
use Rattle.gateway_core.proofs.SituationLemmas.{verdict_free, verdict_full, verdict_over}
use Rattle.gateway_core.proofs.items.situations.verdict.Goals as goal

pub returns-in-Some : goal.returns-in-Some
returns-in-Some c =
    verdict_over (after (slice_cmp nat_cmp) c.args.draft.now) c.args.situation.now c.in-Some.kept.now c.in-Some.ensures.value

pub returns-then-len-lt-MOST_SITUATIONS : goal.returns-then-len-lt-MOST_SITUATIONS
returns-then-len-lt-MOST_SITUATIONS c =
    verdict_free (after (slice_cmp nat_cmp) c.args.draft.now) c.args.situation.now c.len.result c.in-None.ensures.value c.len.ensures.value
    c.if-len-lt-MOST_SITUATIONS.true

pub returns-else-len-lt-MOST_SITUATIONS : goal.returns-else-len-lt-MOST_SITUATIONS
returns-else-len-lt-MOST_SITUATIONS c =
    verdict_full (after (slice_cmp nat_cmp) c.args.draft.now) c.args.situation.now c.len.result c.in-None.ensures.value c.len.ensures.value
    c.if-len-lt-MOST_SITUATIONS.false
