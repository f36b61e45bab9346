use Rattle.std.proofs.Common.{◌≡◌, ℕ, ◌<◌, get_or, length, pos, ◌+ℤ◌}
use Rattle.service_day.specs.Starts.{IsDayStart, start}
use Rattle.service_day.proofs.windows.Window.make.Given as goal

abbrev pub invariant-loop-i : goal.invariant-loop-i
invariant-loop-i l = record {
  room : length l.starts ≡ 32;
  each : (k : ℕ) → k < l.i → get_or l.starts k (pos 0) ≡ start l.zone (l.first +ℤ pos k);
  in_range : (k : ℕ) → k < l.i → IsDayStart (get_or l.starts k (pos 0));
}
