-- The first field of bytes, and the next one after a list of fields.
use Rattle.std.proofs.Common.{◌≡◌, ◌≢◌, ℕ, ◌-◌, ◌≤◌, eqb, false, List, [], ◌∷◌, ◌++◌, length, take, drop, Ok, Err, refl, sym, ap, ◌∙◌, arith, append_assoc}
use Rattle.std.proofs.lemmas.List.{length-append, length-take, length-drop, take-append-drop, take_at, drop_at}
use Rattle.gw_base.specs.declared.wire_kind.WireKind.{WireKind}
use Rattle.gw_base.specs.declared.wire_kind.WireKind.TheVariants.{BadGroup}
use Rattle.wire_fields.specs.declared.field.Value.{Value}
use Rattle.wire_fields.specs.declared.field.Value.TheVariants as values
use Rattle.wire_fields.specs.Grammar.{Group, WireField, Holds, Ends, IsSpelling, AreFields, BeginsField, IsNext, Continues}
use Rattle.wire_fields.specs.Breaks.{IsBreak, IsBroken}
use Rattle.wire_fields.specs.Reading.{holding, item_at, EndsGroup, BreaksInGroup}
use Rattle.wire_fields.specs.Seen.{payload_of}
use Rattle.wire_fields.proofs.Items.{item_found}
use Rattle.wire_fields.proofs.Lists.{Concatenates-push}
use Rattle.wire_fields.proofs.Spellings.{fields_apart, field_from_item}
use Rattle.wire_fields.proofs.Broken.{nothing_walked, stop_at_item, stop_at_block, break_after}
use Rattle.wire_fields.proofs.Skips.{positive}

-- a value that is seen as a group is one
pub is_group : (value : Value) → payload_of value ≡ Group → value ≡ values.Group
is_group (values.Varint n) e = absurd cc
is_group (values.Fixed64 n) e = absurd cc
is_group (values.Bytes body) e = absurd cc
is_group values.Group e = refl
is_group (values.Fixed32 n) e = absurd cc

pub not_nil : (groups : List ℕ) → eqb (length groups) 0 ≡ false → groups ≢ []
not_nil [] e = absurd cc
not_nil (number ∷ groups) e = λ d. absurd cc

-- ---- the first field

pub first_fault : (bytes : List ℕ) (kind : WireKind) → item_at bytes ≡ Err kind → IsBreak bytes kind
first_fault bytes kind e = break_after [] [] bytes kind nothing_walked (stop_at_item [] bytes kind e)

pub first_end : (bytes rest : List ℕ) (number : ℕ) → item_at bytes ≡ Ok (Ends number, rest) → IsBreak bytes BadGroup
first_end bytes rest number e = break_after [] [] bytes BadGroup nothing_walked (stop_at_block [] bytes rest (Ends number) (omega arith) e refl)

pub first_whole : (bytes rest : List ℕ) (field : WireField) → item_at bytes ≡ Ok (Holds field, rest) → field.payload ≢ Group → BeginsField bytes field rest
first_whole bytes rest field e ne =
    let f = item_found bytes (Holds field) rest e in
    (f.0, f.1, field_from_item 64 field.number field.payload f.0 ne f.2)

pub first_group : (bytes rest after : List ℕ) (number : ℕ) → item_at bytes ≡ Ok (holding number Group, rest)
    → EndsGroup number rest after
    → BeginsField bytes (record { number = number; payload = Group }) after
first_group bytes rest after number e s =
    let f = item_found bytes (holding number Group) rest e in
    (f.0 ++ s.0, f.1 ∙ ap (λ (l : List ℕ). f.0 ++ l) s.1 ∙ sym (append_assoc f.0 s.0 after), s.2 f.0 f.2)

pub first_group_fault : (bytes rest : List ℕ) (number : ℕ) (kind : WireKind) → item_at bytes ≡ Ok (holding number Group, rest)
    → BreaksInGroup number rest kind → IsBreak bytes kind
first_group_fault bytes rest number kind e s =
    let f = item_found bytes (holding number Group) rest e in
    rw f.1 (s f.0 f.2)

-- ---- the next field

-- the bytes up to there
next_front : (bytes rest : List ℕ) (at : ℕ) (field : WireField) → at ≤ length bytes → (h : BeginsField (drop at bytes) field rest) → take (length bytes - length rest) bytes ≡ take at bytes ++ h.0
next_front bytes rest at field le h =
    let whole : bytes ≡ (take at bytes ++ h.0) ++ rest = sym (take-append-drop at bytes) ∙ ap (λ (l : List ℕ). take at bytes ++ l) h.1 ∙ sym (append_assoc (take at bytes) h.0 rest) in
    let len : length (take at bytes ++ h.0) ≡ length bytes - length rest = omega (arith, ap length whole, length-append (take at bytes ++ h.0) rest) in
    ap (λ (l : List ℕ). take (length bytes - length rest) l) whole ∙ take_at (take at bytes ++ h.0) rest (length bytes - length rest) len

-- it stands from the place to there
pub next_is : (bytes rest : List ℕ) (at : ℕ) (field : WireField) → at ≤ length bytes → BeginsField (drop at bytes) field rest → IsNext bytes at (length bytes - length rest) field
next_is bytes rest at field le h =
    let some = positive h.0 ((fields_apart 64).some field h.0 h.2) in
    let len : length h.0 ≡ length bytes - length rest - at = omega (arith, ap length h.1, length-drop at bytes, length-append h.0 rest) in
    record {
      spelled = rw (h.1, take_at h.0 rest (length bytes - length rest - at) len) h.2;
      further = omega (arith, ap length h.1, length-drop at bytes, length-append h.0 rest);
      within = omega arith;
    }

-- and the bytes up to there are the fields so far and this one
pub next_continues : (bytes rest : List ℕ) (at : ℕ) (field : WireField) → at ≤ length bytes → BeginsField (drop at bytes) field rest → Continues bytes at (length bytes - length rest) field
next_continues bytes rest at field le h fields k =
    rw (next_front bytes rest at field le h) (Concatenates-push (IsSpelling 64) fields field (take at bytes) h.0 k h.2)

pub next_broken : (bytes : List ℕ) (at : ℕ) (kind : WireKind) (fields : List WireField) → at ≤ length bytes → (at ≡ length bytes → ⊥) → AreFields (take at bytes) fields → IsBreak (drop at bytes) kind → IsBroken bytes at kind
next_broken bytes at kind fields le ne h k = record {
  front = take at bytes;
  rest = drop at bytes;
  joined = sym (take-append-drop at bytes);
  place = omega (arith, length-take at bytes);
  fields = fields;
  read = h;
  some = λ e. ne (omega (arith, ap length e, length-drop at bytes));
  breaks = k;
}

-- where a field begins, the bytes don't break
pub next_not_broken : (bytes rest : List ℕ) (at : ℕ) (field : WireField) (kind : WireKind) → BeginsField (drop at bytes) field rest → IsBroken bytes at kind → ⊥
next_not_broken bytes rest at field kind h b =
    let later : drop at bytes ≡ b.rest = ap (λ (l : List ℕ). drop at l) b.joined ∙ drop_at b.front b.rest at b.place in
    b.breaks.none field h.0 rest (sym later ∙ h.1) h.2
