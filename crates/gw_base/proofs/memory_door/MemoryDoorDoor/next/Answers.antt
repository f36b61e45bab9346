-- The connection that came has its whole input unread.
use Rattle.std.proofs.Common.{rules, ◌≡◌, ap, refl}
use Rattle.gw_base.specs.DoorInMemory.{Open}
use Rattle.gw_base.proofs.memory_door.MemoryDoorDoor.next.Goals as goal

pub returns-in-Some-clause-came : goal.returns-in-Some-clause-came
returns-in-Some-clause-came c =
    let first = c.in-Some.connection in
    let unread : first.unread ≡ first.input = ap (λ (held : Open). held.unread) c.in-Some.ensures.fresh in
    λ _. (refl, (first.input, c.next.new.self.inputs, search rules, search rules))
