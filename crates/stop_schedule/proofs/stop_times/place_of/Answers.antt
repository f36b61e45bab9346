use Rattle.std.proofs.Common.{◌≡◌, ◌≤◌, ◌-◌, suc, length, length-append, None, arith}
use Rattle.stop_schedule.specs.declared.stop_times.LoadedStop.{LoadedStop}
use Rattle.stop_schedule.proofs.SequenceLemmas.{between, less-front}
use Rattle.stop_schedule.proofs.stop_times.place_of.Goals as goal

pub returns-then-last-sequence : goal.returns-then-last-sequence
returns-then-last-sequence c =
    let inv = c.loop-rest.invariant in
    let rest = c.loop-rest.rest.now in
    let all = inv.1.all in
    let none : LoadedStop = record { row = 0; sequence = 0; stop = record { 0 = 0 }; times = None } in
    let long : length rest ≡ suc (length rest - 1) = omega (arith, c.in-len1-up.len_at_least) in
    let within : length rest ≤ length c.args.stops.now = rw (all, length-append rest inv.0) (omega arith) in
    record {
      within = within;
      place = λ rising. between c.args.stops.now rest inv.0 c.args.sequence all
          (less-front rest inv.0 c.args.sequence (length rest - 1) none long (rw all at rising)
          c.if-last-sequence.true) inv.1.greater;
    }
