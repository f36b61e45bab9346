use Rattle.std.proofs.Common.{length, ◌-◌, ◌≡◌, ◌≤◌, take}
use Rattle.gw_base.specs.Told.{with_bytes}
use Rattle.gw_base.proofs.sink.put_all.Given as goal

abbrev pub invariant-loop-done : goal.invariant-loop-done
invariant-loop-done g l =
    record {
      within : l.done ≤ length l.bytes;
      told : g.S.Sink.told l.sink ≡ with_bytes (g.S.Sink.told l.fn.sink) (take l.done l.bytes);
      never_falls : g.S.Sink.faults l.fn.sink ≤ g.S.Sink.faults l.sink;
      others : g.S.Sink.beside l.sink ≡ g.S.Sink.beside l.fn.sink;
    }

abbrev pub decreases-loop-done : goal.decreases-loop-done
decreases-loop-done g l = length l.bytes - l.done
