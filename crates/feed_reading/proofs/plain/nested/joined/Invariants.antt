use Rattle.std.proofs.Common.{◌≡◌, ◌++◌, map, drop}
use Rattle.std.specs.List.{concat}
use Rattle.feed_reading.proofs.plain.nested.joined.Given as goal

-- the bytes so far, and those of the bodies that follow, are all
abbrev pub invariant-loop-body : goal.invariant-loop-body
invariant-loop-body l = l.bytes ++ concat (map (λ body. body.now) (drop l.body-index l.bodies))
    ≡ concat (map (λ body. body.now) l.bodies)
