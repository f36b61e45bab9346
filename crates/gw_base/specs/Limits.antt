-- Limits that several crates hold to. Each is written once, here; what cites it names it.
use Rattle.std.specs.Prelude.{ℕ}

-- the bytes that a delivery or a feed has at most: 16 MiB
abbrev pub body_limit : ℕ
body_limit = 16777216

-- the last moment, in seconds since 1970-01-01T00:00:00Z: 9998-12-31T23:59:59Z
abbrev pub last_moment : ℕ
last_moment = 253370764799
