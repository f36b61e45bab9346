use Rattle.std.proofs.Common.{map, take}
use Rattle.feed_reading.specs.Meaning.{AreBodies}
use Rattle.feed_reading.proofs.plain.nested.each_listed.Given as goal

-- each body so far is a list of fields
abbrev pub invariant-loop-body : goal.invariant-loop-body
invariant-loop-body l = AreBodies (map (λ body. body.now) (take l.body-index l.bodies))
