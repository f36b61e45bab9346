-- what arrived so far stands, and what the words left say after it is what all words say
use Rattle.std.proofs.Common.{◌≡◌, ◌≤◌, length, IfSome}
use Rattle.file_commands.specs.Served.{IsStanding}
use Rattle.file_commands.proofs.DeliveryLemmas.{HasArrived}
use Rattle.file_commands.proofs.deliveries.deliveries.Given as goal

abbrev pub invariant-loop-flag : goal.invariant-loop-flag
invariant-loop-flag g l = record {
  stands : IsStanding l.gate;
  arrived : IfSome (g.F.Files.told l.fn.files) (λ told. HasArrived l.fn.gate.setting l.at told l.words l.rest l.gate l.so_far);
  counts : g.F.Files.faults l.fn.files ≤ g.F.Files.faults l.files;
  same : g.F.Files.told l.files ≡ g.F.Files.told l.fn.files;
  setting : l.gate.setting ≡ l.fn.gate.setting;
}

abbrev pub decreases-loop-flag : goal.decreases-loop-flag
decreases-loop-flag g l = length l.rest
