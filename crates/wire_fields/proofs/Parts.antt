-- Reading on in an item over any cuts.
use Rattle.std.proofs.Common.{◌≡◌, ℕ, ◌+◌, ◌*◌, ◌/◌, ◌%◌, ◌^◌, ◌<◌, ◌≤◌, List, [], ◌++◌, length, Err, refl, sym, ap, ◌∙◌, arith, inl, inr, append_assoc}
use Rattle.std.specs.Prelude.{◌⊎◌}
use Rattle.std.specs.Int.{w32, w64, from_le_bytes}
use Rattle.std.proofs.lemmas.List.{length-append, append-nil}
use Rattle.gw_base.specs.declared.wire_kind.WireKind.TheVariants.{LongVarint, BadTag}
use Rattle.wire_fields.specs.Grammar.{Varint, Fixed64, Fixed32, IsVarint, IsSoundTag}
use Rattle.wire_fields.specs.Breaks.{BeginsLong}
use Rattle.wire_fields.specs.Reading.{item_at}
use Rattle.wire_fields.specs.TopReading.{IsBegun, IsTag, IsTagged, LacksSome}
use Rattle.wire_fields.specs.TopSteps.{IsPlain}
use Rattle.wire_fields.proofs.Items.{item_long, item_unsound}

-- what stands after a tag goes on
pub tagged_on : (number type : ℕ) (P Q : List ℕ → Type 0) (read more : List ℕ) → IsTagged number type P read → ((rest : List ℕ) → P rest → Q (rest ++ more)) → IsTagged number type Q (read ++ more)
tagged_on number type P Q read more h on =
    (h.0, h.1 ++ more, ap (λ (l : List ℕ). l ++ more) h.2 ∙ append_assoc h.0 h.1 more, h.3, on h.1 h.4)

-- ---- tags

pub tag_unsound : (bytes : List ℕ) (tag : ℕ) → IsVarint bytes tag → (IsSoundTag tag → ⊥) → item_at bytes ≡ Err BadTag
tag_unsound bytes tag v bad = item_unsound bytes (bytes, [], tag, sym (append-nil bytes), v, bad)

-- a tag of a type that is there
pub is_tag : (bytes : List ℕ) (tag type : ℕ) → IsVarint bytes tag → tag < 2 ^ 32 → 8 ≤ tag → tag % 8 ≡ type → type ≤ 5 → IsTag (tag / 8) type bytes
is_tag bytes tag type v lt le type_is few =
    let same : tag / 8 * 8 + type ≡ tag = omega (arith, type_is) in
    rw same (v, record { bits = lt; number = omega arith; type = omega (arith, type_is) })

-- and nothing after it
pub tagged_nothing : (bytes : List ℕ) (tag type : ℕ) (P : List ℕ → Type 0) → IsVarint bytes tag → tag < 2 ^ 32 → 8 ≤ tag → tag % 8 ≡ type → type ≤ 5 → P [] → IsTagged (tag / 8) type P bytes
tagged_nothing bytes tag type P v lt le type_is few p = (bytes, [], sym (append-nil bytes), is_tag bytes tag type v lt le type_is few, p)

pub nothing_begun : IsBegun (record { count = 0; value = 0 }) []
nothing_begun = record { counted = refl; few = omega arith; high = tt; value_is = refl }

-- ---- numbers

pub long_tag : (bytes : List ℕ) → BeginsLong bytes → item_at bytes ≡ Err LongVarint
long_tag bytes h = item_long bytes (inl h)

pub long_after : (number type : ℕ) (bytes : List ℕ) → (type ≡ 0) ⊎ (type ≡ 2) → IsTagged number type BeginsLong bytes → item_at bytes ≡ Err LongVarint
long_after number type bytes (inl zero_is) h =
    item_long bytes (inr (h.0, h.1, number * 8 + type, h.2, h.3.0, h.3.1, inl (omega (arith, zero_is)), h.4))
long_after number type bytes (inr two_is) h =
    item_long bytes (inr (h.0, h.1, number * 8 + type, h.2, h.3.0, h.3.1, inr (omega (arith, two_is)), h.4))

pub value_plain : (number value : ℕ) (bytes : List ℕ) → IsTagged number 0 (λ rest. IsVarint rest value) bytes → IsPlain bytes
value_plain number value bytes h = (
  number,
  Varint value,
  record { tag = h.0; payload = h.1; joined = h.2; tagged = h.3.0; sound = h.3.1; paid = h.4 },
  λ e. absurd cc,
  λ body e. absurd cc,
)

-- ---- eight bytes and four

pub lacks_less : (len left less : ℕ) (rest more : List ℕ) → LacksSome len left rest → length more + less ≡ left → 0 < less → LacksSome len less (rest ++ more)
lacks_less len left less rest more h sum some = (omega (arith, h.0, length-append rest more), some)

pub lacks_nothing : (len left : ℕ) (rest more : List ℕ) → LacksSome len left rest → length more ≡ left → length (rest ++ more) ≡ len
lacks_nothing len left rest more h sum = omega (arith, h.0, length-append rest more)

pub eight_plain : (number left : ℕ) (read more : List ℕ) → IsTagged number 1 (LacksSome 8 left) read → length more ≡ left → IsPlain (read ++ more)
eight_plain number left read more h sum =
    let whole = tagged_on number 1 (LacksSome 8 left) (λ rest. length rest ≡ 8) read more h (λ rest k. lacks_nothing 8 left rest more k sum) in (
      number,
      Fixed64 (from_le_bytes w64 whole.1),
      record { tag = whole.0; payload = whole.1; joined = whole.2; tagged = whole.3.0; sound = whole.3.1; paid = (whole.4, refl) },
      λ e. absurd cc,
      λ body e. absurd cc,
    )

pub four_plain : (number left : ℕ) (read more : List ℕ) → IsTagged number 5 (LacksSome 4 left) read → length more ≡ left → IsPlain (read ++ more)
four_plain number left read more h sum =
    let whole = tagged_on number 5 (LacksSome 4 left) (λ rest. length rest ≡ 4) read more h (λ rest k. lacks_nothing 4 left rest more k sum) in (
      number,
      Fixed32 (from_le_bytes w32 whole.1),
      record { tag = whole.0; payload = whole.1; joined = whole.2; tagged = whole.3.0; sound = whole.3.1; paid = (whole.4, refl) },
      λ e. absurd cc,
      λ body e. absurd cc,
    )
