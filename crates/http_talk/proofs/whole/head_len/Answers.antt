-- The first prefix that ends a head is the shortest.
use Rattle.std.proofs.Common.{◌≡◌, true, sym, ◌∙◌, subst, arith}
use Rattle.http_talk.specs.Ends.{ends_head}
use Rattle.http_talk.proofs.whole.head_len.Goals as goal

pub returns-then-ends_head : goal.returns-then-ends_head
returns-then-ends_head c = (
  record {
    within = omega arith;
    ends = subst (λ v. ends_head v ≡ true) c.split_at.ensures.front (sym c.ends_head.ensures ∙ c.if-ends_head.true);
    shortest = c.loop-count.invariant;
  },
  omega arith,
)
