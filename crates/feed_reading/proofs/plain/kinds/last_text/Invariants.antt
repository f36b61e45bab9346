use Rattle.std.proofs.Common.{◌≡◌, None, map, take, drop, option_map, IsUtf8}
use Rattle.std.specs.List.{last_or, AllByRecursion}
use Rattle.feed_reading.proofs.plain.kinds.last_text.Given as goal

-- the bodies so far are texts, and the last of them, where none follows, is the last of all
abbrev pub invariant-loop-body : goal.invariant-loop-body
invariant-loop-body l = record {
  texts : AllByRecursion IsUtf8 (map (λ body. body.now) (take l.body-index l.bodies));
  last : last_or (option_map (λ text. text.now) l.last) (map (λ body. body.now) (drop l.body-index l.bodies))
      ≡ last_or None (map (λ body. body.now) l.bodies);
}
