use Rattle.std.proofs.Common.{◌≡◌, min, take}
use Rattle.std.specs.Prelude.{sum_by}
use Rattle.gw_base.specs.Count.{last_count}
use Rattle.sample_counts.specs.Counts.{updates_of}
use Rattle.sample_counts.proofs.counting.updates_in.Given as goal

abbrev pub invariant-loop-entity : goal.invariant-loop-entity
invariant-loop-entity l = l.updates ≡ min (sum_by updates_of (take l.entity-index l.entities)) last_count
