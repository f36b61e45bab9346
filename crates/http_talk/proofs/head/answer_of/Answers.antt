-- The lines are counted, and few enough, where the head is parsed.
use Rattle.std.proofs.Common.{◌≤◌, subst}
use Rattle.http_talk.proofs.head.answer_of.Goals as goal

pub returns : goal.returns
returns c = c.parsed.ensures (subst (λ n. n ≤ 66) c.line_count.ensures c.if-line_count-gt-MOST_LINES.false)
