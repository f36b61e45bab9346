-- A read takes a prefix of what is left of the present connection's input.
use Rattle.std.proofs.Common.{rules, min, length, take}
use Rattle.gw_base.specs.contracts.memory_door.MemoryDoor.{the_view}
use Rattle.gw_base.proofs.DoorLemmas.{takes-front}
use Rattle.gw_base.proofs.memory_door.MemoryDoorDoor.read.Goals as goal
use Rattle.gw_base.proofs.memory_door.MemoryDoorDoor.read.Goals.{in-Some, in-None}

pub returns-clause-taken : goal.returns-clause-taken
returns-clause-taken c = elim c.match-self.branch [
  | in-Some w ↦ rw w.result-is (takes-front c.args.self.now (the_view c.match-self.self-inside)
      (min c.self.inside.most (length c.args.buf.now)) w.read.result (take w.read.result c.match-self.buf)
      (search rules) (search rules) (search rules) (search rules) (search rules))
  | in-None w ↦ absurd (search rules)
]
