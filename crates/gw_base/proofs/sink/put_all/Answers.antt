-- After each piece the sink holds a longer prefix of the bytes.
use Rattle.std.proofs.Common.{arith, ◌∙◌}
use Rattle.gw_base.proofs.ToldLemmas.{with_bytes-take}
use Rattle.gw_base.proofs.sink.put_all.Goals as goal

pub loop-done-preserved : goal.loop-done-preserved
loop-done-preserved g c =
    record {
      within = omega (arith, c.in_ok-done.ensures.some);
      told = rw (c.in_ok-done.ensures.appended, c.loop-done.invariant.told, c.split_at.ensures.back) (with_bytes-take _ _ _ _);
      never_falls = omega arith;
      others = c.write.ensures.others ∙ c.loop-done.invariant.others;
    }
