-- the extra calls so far, and those of the others
use Rattle.std.proofs.Common.{◌≡◌, ◌+◌, ◌≤◌, drop}
use Rattle.siri_calls.specs.Judged as spec
use Rattle.siri_calls.specs.Seen.{calls_of}
use Rattle.siri_calls.proofs.judging.extras.Given as goal

abbrev pub invariant-loop-call : goal.invariant-loop-call
invariant-loop-call l = record {
  all : l.extras + spec.extras (calls_of (drop l.call-index l.calls)) ≡ spec.extras (calls_of l.calls);
  few : l.extras ≤ l.call-index;
}
