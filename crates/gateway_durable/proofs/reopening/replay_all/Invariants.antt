-- The gateway stands for what the bodies before the gate give.
use Rattle.std.proofs.Common.{◌≡◌, ◌+◌, ◌-◌, ◌≤◌, List, Ok}
use Rattle.delivery_journal.specs.Disk.{ReadsOnly, WhereTold}
use Rattle.delivery_journal.specs.Kept.{KeptBody, kept}
use Rattle.delivery_journal.specs.Standing.{StandsOn}
use Rattle.gateway_core.specs.Arrivals.{Arrival}
use Rattle.gateway_core.specs.Standing.{Stands}
use Rattle.gateway_durable.specs.Again.{HasReplayed}
use Rattle.gateway_durable.proofs.reopening.replay_all.Given as goal

abbrev pub invariant-loop-at : goal.invariant-loop-at
invariant-loop-at g l = record {
  replays : WhereTold (g.K.Disk.told l.fn.disk) (λ file. (bodies : List KeptBody) → kept file ≡ Ok bodies → HasReplayed l.fn.gate.setting bodies l.at l.count l.gate);
  gate : (arrivals : List Arrival) × Stands l.gate arrivals;
  setting : l.gate.setting ≡ l.fn.gate.setting;
  stands : StandsOn g.K.Disk.told g.K.Disk.may_leave l.journal l.disk;
  reads : ReadsOnly g.K.Disk.told g.K.Disk.may_leave g.K.Disk.clock g.K.Disk.left_since l.fn.disk l.disk;
  faults : g.K.Disk.faults l.fn.disk ≤ g.K.Disk.faults l.disk;
  few : l.count ≤ l.at;
}

abbrev pub decreases-loop-at : goal.decreases-loop-at
decreases-loop-at g l = l.journal.end + 1 - l.at
