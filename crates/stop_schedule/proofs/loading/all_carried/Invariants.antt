use Rattle.std.proofs.Common.{◌≡◌, replicate, true}
use Rattle.stop_schedule.proofs.loading.all_carried.Given as goal

abbrev pub invariant-loop : goal.invariant-loop
invariant-loop l = l.carried.items ≡ replicate l.counter true
