use Rattle.std.proofs.Common.{◌≡◌, ◌++◌, drop}
use Rattle.siri_situations.specs.Affected.{known}
use Rattle.siri_situations.proofs.affected.known.Given as goal

abbrev pub invariant-loop-one : goal.invariant-loop-one
invariant-loop-one l = l.refs ++ known (drop l.one-index l.references) ≡ known l.references
