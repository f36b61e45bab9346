-- The first fault where no field begins.
use Rattle.std.proofs.Common.{◌≡◌, ◌≢◌, ℕ, ◌+◌, ◌*◌, ◌≤◌, List, [], ◌++◌, append_assoc, Result, Ok, Err, refl, sym, ap, subst, ◌∙◌, inl, inr, arith}
use Rattle.std.proofs.lemmas.List.{nil_from_length}
use Rattle.std.specs.Prelude.{Some}
use Rattle.gw_base.specs.declared.wire_kind.WireKind.{WireKind}
use Rattle.gw_base.specs.declared.wire_kind.WireKind.TheVariants.{Truncated}
use Rattle.wire_fields.specs.Grammar.{Group, WireField, Item, Holds, Ends, IsSoundTag, BeginsNumber, tag_of, type_of}
use Rattle.wire_fields.specs.Breaks.{BeginsNone, BeginsLong, IsBroken}
use Rattle.wire_fields.specs.Reading.{varint_at, item_at}
use Rattle.wire_fields.proofs.Broken.{broken_once}
use Rattle.wire_fields.proofs.Fronts.{first_fault, first_whole}
use Rattle.wire_fields.proofs.Items.{FailsAtItem, item_found, item_fault}
use Rattle.wire_fields.proofs.Numbers.{varint_again, varint_long}
use Rattle.wire_fields.proofs.Stays.{long_stays}
use Rattle.feed_reading.specs.declared.fault.FeedFault.{FeedFault}
use Rattle.feed_reading.specs.declared.fault.FeedFault.TheVariants.{EntityTooLong, Wire}
use Rattle.feed_reading.specs.Faults.{IsTorn, IsLeast, order}
use Rattle.feed_reading.specs.Found.{IsLongHere}
use Rattle.feed_reading.proofs.LongEntities.{number_once, tag_of_long}
use Rattle.feed_reading.proofs.PieceWalks.{torn_there}
use Rattle.feed_reading.proofs.Walking.{from, broken_here, stands_nowhere, long_here, long_only_here}
use Rattle.feed_reading.proofs.FieldFaultsOwn.{Own, too_long, torn, torn_header, header_text, in_entity, own_from}

-- ---- an entity that is too long

pub least_long : (far : ℕ) (rest : List ℕ) → IsLongHere rest → IsLeast (Own far rest) (Some (EntityTooLong far))
least_long far rest h =
    let place : far ≡ far + 0 = omega arith in (
      too_long 0 (long_here rest h) (ap EntityTooLong place),
      λ other own. own_from far rest other own,
    )

-- ---- bytes that break

-- bytes that break at once begin with no field
pub breaks_at_once : (rest : List ℕ) (kind : WireKind) → IsBroken rest 0 kind → BeginsNone rest × (rest ≢ [])
breaks_at_once rest kind b =
    let none : b.front ≡ [] = nil_from_length b.front b.place in
    let same : b.rest ≡ rest = sym (b.joined ∙ ap (λ (l : List ℕ). l ++ b.rest) none) in (
      subst (λ (l : List ℕ). BeginsNone l) same b.breaks.none,
      λ e. b.some (same ∙ e),
    )

pub least_break : (far : ℕ) (rest : List ℕ) (kind : WireKind) → IsBroken rest 0 kind → ¬ IsLongHere rest
    → IsLeast (Own far rest) (Some (Wire (record { at = far; kind = kind })))
least_break far rest kind b short =
    let place : far ≡ far + 0 = omega arith in
    let here = torn_there (from 0 far rest) 0 kind b in (
      torn (0, b, place),
      by_own far rest kind short (breaks_at_once rest kind b).0
          (λ other x. omega (arith, here.1 other x)),
    ) where
      by_own : (far : ℕ) (rest : List ℕ) (kind : WireKind) → ¬ IsLongHere rest → BeginsNone rest
          → ((other : FeedFault) → IsTorn (from 0 far rest) other → far * 4 + 1 ≤ order other)
          → (other : FeedFault) → Own far rest other → far * 4 + 1 ≤ order other
      by_own far rest kind short none here other (too_long at long e) = absurd (short (long_only_here rest at none long))
      by_own far rest kind short none here other (torn x) = here other x
      by_own far rest kind short none here other (torn_header q st x) =
          absurd (stands_nowhere (from 0 far rest) 1 q none st)
      by_own far rest kind short none here other (header_text q p st inner x) =
          absurd (stands_nowhere (from 0 far rest) 1 q none st)
      by_own far rest kind short none here other (in_entity q st x) =
          absurd (stands_nowhere (from 0 far rest) 2 q none st)

-- ---- more bytes after a break make no entity that is too long

begins_more : (bytes rest more : List ℕ) (value : ℕ) → BeginsNumber bytes value rest
    → BeginsNumber (bytes ++ more) value (rest ++ more)
begins_more bytes rest more value h =
    (h.0, ap (λ (l : List ℕ). l ++ more) h.1 ∙ append_assoc h.0 rest more, h.2)

long_or_number : (bytes rest : List ℕ) (value : ℕ) → BeginsLong bytes → BeginsNumber bytes value rest → ⊥
long_or_number bytes rest value long h =
    let d = sym (varint_long bytes long) ∙ ap varint_at h.1 ∙ varint_again h.0 rest value h.2 in absurd cc

-- an entity that is too long in more bytes has the tag that stands there, and after it its length
long_tag : (rest more later : List ℕ) (value : ℕ) → BeginsNumber rest value later → (h : IsLongHere (rest ++ more))
    → (value ≡ 18) × BeginsNumber (later ++ more) h.len h.rest
long_tag rest more later value b h =
    let same = number_once (rest ++ more) value 18 (later ++ more) (h.size ++ h.rest)
    (begins_more rest later more value b) (tag_of_long (rest ++ more) h) in
    (same.0, (h.size, same.1, h.sized))

sound_tag : IsSoundTag 18
sound_tag = record { bits = omega arith; number = omega arith; type = omega arith }

by_fault : (rest more : List ℕ) (kind : WireKind) → kind ≢ Truncated → FailsAtItem rest kind → IsLongHere (rest ++ more)
    → ⊥
by_fault rest more kind ne (inl (is, inl long)) h =
    long_or_number (rest ++ more) (h.size ++ h.rest) 18 (long_stays rest more long) (tag_of_long (rest ++ more) h)
by_fault rest more kind ne (inl (is, inr x)) h =
    let later = long_tag rest more x.1 x.2 (x.0, x.3, x.4) h in
    long_or_number (x.1 ++ more) h.rest h.len (long_stays x.1 more x.7) later.1
by_fault rest more kind ne (inr (inl (is, x))) h =
    let later = long_tag rest more x.1 x.2 (x.0, x.3, x.4) h in
    x.5 (subst (λ (n : ℕ). IsSoundTag n) (sym later.0) sound_tag)
by_fault rest more kind ne (inr (inr is)) h = ne is

no_group : (field : WireField) → field.number * 8 + type_of field.payload ≡ 18 → field.payload ≢ Group
no_group field tag e =
    let type : type_of field.payload ≡ 3 = ap type_of e in absurd (omega arith)

by_item : (rest more after : List ℕ) (item : Item) → BeginsNone rest → item_at rest ≡ Ok (item, after)
    → tag_of item ≡ 18 → ⊥
by_item rest more after (Holds field) none e tag =
    let b = first_whole rest after field e (no_group field tag) in none field b.0 after b.1 b.2
by_item rest more after (Ends number) none e tag = absurd (omega arith)

by_read : (rest more : List ℕ) (kind : WireKind) → IsBroken rest 0 kind → kind ≢ Truncated → IsLongHere (rest ++ more)
    → (read : Result (Item × List ℕ) WireKind) → item_at rest ≡ read → ⊥
by_read rest more kind b ne h (Ok found) e =
    let f = item_found rest found.0 found.1 e in
    let tagged : BeginsNumber rest (tag_of found.0) (f.2.payload ++ found.1) = (
      f.2.tag,
      f.1 ∙ ap (λ (l : List ℕ). l ++ found.1) f.2.joined ∙ append_assoc f.2.tag f.2.payload found.1,
      f.2.tagged,
    ) in
    by_item rest more found.1 found.0 (breaks_at_once rest kind b).0 e
    (long_tag rest more (f.2.payload ++ found.1) (tag_of found.0) tagged h).0
by_read rest more kind b ne h (Err other) e =
    let again : IsBroken rest 0 other = broken_here rest other (breaks_at_once rest kind b).1 (first_fault rest other e) in
    let same : kind ≡ other = (broken_once rest 0 0 kind other b again).1 in
    by_fault rest more other (λ cut. ne (same ∙ cut)) (item_fault rest other e) h

pub no_long_later : (rest more : List ℕ) (kind : WireKind) → IsBroken rest 0 kind → kind ≢ Truncated
    → ¬ IsLongHere (rest ++ more)
no_long_later rest more kind b ne h = by_read rest more kind b ne h (item_at rest) refl
