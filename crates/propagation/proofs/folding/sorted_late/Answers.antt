use Rattle.std.proofs.Common.{ap, arith, length}
use Rattle.propagation.specs.Folding.{bare_feed}
use Rattle.propagation.proofs.FoldLemmas.{taken_rest}
use Rattle.propagation.proofs.folding.sorted_late.Goals as goal

pub overflow_sub-taken : goal.overflow_sub-taken
overflow_sub-taken c =
    omega (
      arith,
      c.args.said.ok.0,
      c.len-held.ensures,
      c.len.ensures.value,
      ap length c.in_ok-last.ensures.aside,
      taken_rest c.args.context.now (bare_feed c.args.timestamp) c.args.said.items,
    )

pub returns-clause-taken : goal.returns-clause-taken
returns-clause-taken c =
    omega (
      arith,
      c.args.said.ok.0,
      c.len-held.ensures,
      c.len.ensures.value,
      ap length c.in_ok-last.ensures.aside,
      taken_rest c.args.context.now (bare_feed c.args.timestamp) c.args.said.items,
    )
