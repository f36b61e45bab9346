-- The limit of an entity that is read: it is written once, here. What cites it names it.
use Rattle.std.specs.Prelude.{ℕ}

-- the bytes that the body of an entity has at most
abbrev pub entity_limit : ℕ
entity_limit = 1048576
