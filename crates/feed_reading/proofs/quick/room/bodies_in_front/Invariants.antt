use Rattle.std.proofs.Common.{◌≤◌}
use Rattle.feed_reading.proofs.quick.room.bodies_in_front.Given as goal

-- each step counts one body at most
abbrev pub invariant-loop : goal.invariant-loop
invariant-loop l = record {
  counted : l.count ≤ l.counter;
}
