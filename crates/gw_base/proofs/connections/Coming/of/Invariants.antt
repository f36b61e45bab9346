-- the connections so far have the inputs so far, and are as they were opened
use Rattle.std.proofs.Common.{◌≡◌, All, map}
use Rattle.gw_base.specs.DoorInMemory.{opened}
use Rattle.gw_base.proofs.connections.Coming.of.Given as goal

abbrev pub invariant-loop-input : goal.invariant-loop-input
invariant-loop-input l =
    record {
      inputs : map (λ held. held.input) l.connections.items ≡ l.yielded;
      fresh : All (λ held. held ≡ opened l.room held.input) l.connections.items;
    }
