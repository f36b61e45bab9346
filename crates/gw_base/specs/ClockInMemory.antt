-- A clock in memory.
use Rattle.std.specs.Prelude.{◌&&◌, ℤ, Bool, true, false, not, List, [], ◌∷◌}
use Rattle.gw_base.specs.Memory.{Uses, fails_next, after_fault}

-- a clock in memory: the moments to come, in seconds since 1970, and the uses
pub record ClockInMemory : Type 0 where
  pub moments : List ℤ
  pub uses : Uses

-- whether there is a moment to come
abbrev pub has_more : List ℤ → Bool
has_more [] = false
has_more (moment ∷ later) = true

-- whether the next call goes well: it is not to fail, and there is a moment to come
abbrev pub gives_next : ClockInMemory → Bool
gives_next clock = not (fails_next clock.uses) && has_more clock.moments

-- the clock after a call that met a fault
abbrev pub after_failed : ClockInMemory → ClockInMemory
after_failed clock = record clock { uses = after_fault clock.uses }
