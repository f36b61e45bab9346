use Rattle.std.proofs.Common.{map, take}
use Rattle.std.specs.List.{AllZip}
use Rattle.feed_reading.specs.Meaning.{Means}
use Rattle.feed_reading.proofs.plain.nested.repeated.Given as goal

-- the messages so far are what the bodies so far mean
abbrev pub invariant-loop-body : goal.invariant-loop-body
invariant-loop-body g l =
    AllZip (Means g.M.Message.table) (map (λ body. body.now) (take l.body-index l.body-items)) l.messages
