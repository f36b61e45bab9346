use Rattle.std.proofs.Common.{◌≡◌, length, min, take}
use Rattle.gw_base.specs.Count.{last_count}
use Rattle.feed_index.specs.Chosen.{chosen}
use Rattle.gateway_core.specs.declared.keys.Edition.{Edition}
use Rattle.gateway_core.proofs.serving.served_len.Given as goal

abbrev pub invariant-loop-i : goal.invariant-loop-i
invariant-loop-i l = l.len ≡ min (length (chosen (λ (value : Edition). value.served) (take l.i l.situations.entries))) last_count
