use Rattle.std.proofs.Common.{◌≡◌, ◌≤◌, ◌+◌, ◌-◌, ◌++◌, List, ℕ, length, take}
use Rattle.gateway_core.specs.Arriving.{Reads}
use Rattle.gateway_core.proofs.arriving_feed.take_all.Given as goal

abbrev pub invariant-loop-done : goal.invariant-loop-done
invariant-loop-done l = record {
  within : l.done ≤ length l.piece;
  counted : l.reader.taken ≡ l.fn.reader.taken + l.done;
  takes : (bytes : List ℕ) → Reads l.context l.fn.reader l.fn.fold bytes
      → Reads l.context l.reader l.fold (bytes ++ take l.done l.piece);
}

abbrev pub decreases-loop-done : goal.decreases-loop-done
decreases-loop-done l = length l.piece - l.done
