-- No shorter prefix ends a head.
use Rattle.std.proofs.Common.{◌≡◌, ℕ, ◌<◌, false, take}
use Rattle.http_talk.specs.Ends.{ends_head}
use Rattle.http_talk.proofs.whole.head_len.Given as goal

abbrev pub invariant-loop-count : goal.invariant-loop-count
invariant-loop-count l = (fewer : ℕ) → fewer < l.count → ends_head (take fewer l.input) ≡ false
