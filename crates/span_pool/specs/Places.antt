-- How a pool keeps its spans: a table of places by slot, and the slots in the order in which their spans stand.
use Rattle.std.specs.Prelude.{◌≡◌, ◌≢◌, ◌≤◌, ◌<◌, ◌∷◌, [], ℕ, nat_le, List, Option, None, Some, map, length, slice_get, slice_range, slice_index, if◌then◌else◌, take, drop, ◌+◌, ◌-◌}
use Rattle.std.specs.List.{filter_map}
use Rattle.span_pool.specs.Spans.{live_bytes, AreApart}
use Rattle.span_pool.specs.declared.place.Place.{Place}

-- a slot with its place, where that is a live span's: a place that ends before it starts is nobody's
abbrev pub with_place : ℕ → Option Place → Option (ℕ × Place)
with_place slot None = None
with_place slot (Some place) = if nat_le place.start place.end then Some (slot, place) else None

-- of these slots those of live spans with their places, in the same order
abbrev pub standing : List Place → List ℕ → List (ℕ × Place)
standing places slots = filter_map (λ slot. with_place slot (slice_get places slot)) slots

-- each slot with the bytes at its place
abbrev pub cut : List ℕ → List (ℕ × Place) → List (ℕ × List ℕ)
cut bytes stand = map (λ it. (it.0, slice_range bytes it.1.start it.1.end)) stand

-- the places follow one another from here up to the limit, without overlap
abbrev pub Ascends : ℕ → List (ℕ × Place) → ℕ → Type 0
Ascends from [] limit = from ≤ limit
Ascends from (it ∷ stand) limit = (from ≤ it.1.start) × (it.1.start ≤ it.1.end) × Ascends it.1.end stand limit

-- the slot is not among these
abbrev pub Lacks : List ℕ → ℕ → Type 0
Lacks slots slot = (k : ℕ) → k < length slots → slice_index slots k ≢ slot

-- no slot is there twice
abbrev pub AreDistinct : List ℕ → Type 0
AreDistinct slots =
    (i j : ℕ) → i < length slots → j < length slots → slice_index slots i ≡ slice_index slots j → i ≡ j

-- each slot is one of the first so many numbers
abbrev pub AreBelow : List ℕ → ℕ → Type 0
AreBelow slots count = (k : ℕ) → k < length slots → slice_index slots k < count

-- the order has each of so many slots once, and its first `used` are in use
pub record IsOrder (rows : ℕ) (order : List ℕ) (used : ℕ) : Type 0 where
  pub in_order : used ≤ length order
  pub as_long : length order ≡ rows
  pub distinct : AreDistinct order
  pub below : AreBelow order rows

-- the live spans follow one another in the region, no two have one slot, and they have so many bytes together
pub record IsRegion (bytes : List ℕ) (stand : List (ℕ × Place)) (total : ℕ) : Type 0 where
  pub ascend : Ascends 0 stand (length bytes)
  pub apart : AreApart (cut bytes stand)
  pub total_is : total ≡ live_bytes (cut bytes stand)

-- what a move of one span down leaves of the bytes
pub record IsMoved (bytes now : List ℕ) (place : Place) (to : ℕ) : Type 0 where
  pub below : take to now ≡ take to bytes
  pub moved : slice_range now to (to + (place.end - place.start)) ≡ slice_range bytes place.start place.end
  pub above : drop place.end now ≡ drop place.end bytes
  pub as_long : length now ≡ length bytes
