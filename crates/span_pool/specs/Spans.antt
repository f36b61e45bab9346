-- What a clause sees of a pool: its live spans by slot, and the numbers beside them.
use Rattle.std.specs.Prelude.{◌≡◌, ◌==◌, ◌∷◌, [], ℕ, not, List, Option, None, Some, filter, sum_by, length, if◌then◌else◌}

-- the live spans in the order in which they stand, each with its slot; how many bytes are dead; and how many more bytes
-- and how many more spans can be put without memory
pub record Spans : Type 0 where
  pub spans : List (ℕ × List ℕ)
  pub dead : ℕ
  pub spare_bytes : ℕ
  pub spare_spans : ℕ

-- the bytes of all live spans together
abbrev pub live_bytes : List (ℕ × List ℕ) → ℕ
live_bytes spans = sum_by (λ span. length span.1) spans

-- the bytes of the live span of a slot, if it has one
abbrev pub bytes_of : List (ℕ × List ℕ) → ℕ → Option (List ℕ)
bytes_of [] slot = None
bytes_of (span ∷ spans) slot = if span.0 == slot then Some span.1 else bytes_of spans slot

-- the slot has a live span, with these bytes
abbrev pub Holds : List (ℕ × List ℕ) → ℕ → List ℕ → Type 0
Holds spans slot bytes = bytes_of spans slot ≡ Some bytes

-- the spans without that of a slot
abbrev pub without : List (ℕ × List ℕ) → ℕ → List (ℕ × List ℕ)
without spans slot = filter (λ span. not (span.0 == slot)) spans

-- no two spans have one slot: none has a slot that a later one has
abbrev pub AreApart : List (ℕ × List ℕ) → Type 0
AreApart [] = Unit {0}
AreApart (span ∷ spans) = (bytes_of spans span.0 ≡ None) × AreApart spans
