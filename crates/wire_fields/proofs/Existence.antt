-- Bytes are a list of fields, or they break.
use Rattle.std.proofs.Common.{◌≡◌, ◌≢◌, ℕ, zero, suc, ◌<◌, List, [], ◌∷◌, ◌++◌, length, Option, Some, None, Result, Ok, Err, refl, sym, ap, ◌∙◌, arith, inl, inr, append_assoc}
use Rattle.std.specs.Prelude.{◌⊎◌}
use Rattle.std.proofs.lemmas.List.{length-append, append-nil}
use Rattle.gw_base.specs.declared.wire_kind.WireKind.{WireKind}
use Rattle.gw_base.specs.declared.wire_kind.WireKind.TheVariants.{BadGroup}
use Rattle.wire_fields.specs.Grammar.{Payload, Varint, Fixed64, Bytes, Group, Fixed32, WireField, Item, Holds, Ends, IsSpelling, AreFields, BeginsField}
use Rattle.wire_fields.specs.Breaks.{open_after_item, IsBreak, IsBroken}
use Rattle.wire_fields.specs.Reading.{holding, item_at, kind_of_block, BreaksInGroup}
use Rattle.wire_fields.proofs.Lists.{Concatenates-push}
use Rattle.wire_fields.proofs.Spellings.{fields_apart}
use Rattle.wire_fields.proofs.Broken.{stop_at_item}
use Rattle.wire_fields.proofs.Skips.{IsSkip, skip_none, skip_more, skip_stops, skip_blocked, item_shorter, positive}
use Rattle.wire_fields.proofs.Fronts.{first_fault, first_end, first_whole, first_group, first_group_fault}

-- ---- a group ends, or the bytes break

abbrev Leads : ℕ → List ℕ → Type 0
Leads number bytes =
    ((after : List ℕ) × IsSkip number bytes [] after) ⊎ ((kind : WireKind) × BreaksInGroup number bytes kind)

-- where each shorter rest leads to an end
abbrev Shorter : ℕ → ℕ → List ℕ → Type 0
Shorter fuel number bytes = (groups rest : List ℕ) → length rest < fuel → IsSkip number bytes groups rest → Leads number bytes

after_step : (fuel number : ℕ) (bytes groups rest after : List ℕ) (item : Item) (o : Option (List ℕ)) → Shorter fuel number bytes → length rest < suc fuel → IsSkip number bytes groups rest → groups ≢ []
    → item_at rest ≡ Ok (item, after) → open_after_item groups item ≡ o → Leads number bytes
after_step fuel number bytes groups rest after item None shorter lt s some e step =
    inr (kind_of_block item, skip_blocked number bytes groups rest after item s some e step)
after_step fuel number bytes groups rest after item (Some now) shorter lt s some e step =
    shorter now after (omega (arith, item_shorter rest after item e)) (skip_more number bytes groups rest now after item s some e step)

after_item : (fuel number : ℕ) (bytes groups rest : List ℕ) (read : Result (Item × List ℕ) WireKind) → Shorter fuel number bytes → length rest < suc fuel → IsSkip number bytes groups rest → groups ≢ []
    → item_at rest ≡ read → Leads number bytes
after_item fuel number bytes groups rest (Err kind) shorter lt s some e =
    inr (kind, skip_stops number bytes groups rest kind s some (stop_at_item groups rest kind e))
after_item fuel number bytes groups rest (Ok found) shorter lt s some e =
    after_step fuel number bytes groups rest found.1 found.0 (open_after_item groups found.0) shorter lt s some e refl

skip_ends : (fuel number : ℕ) (bytes : List ℕ) → Shorter fuel number bytes
skip_ends zero number bytes groups rest lt s = absurd (omega arith)
skip_ends (suc fuel) number bytes [] rest lt s = inl (rest, s)
skip_ends (suc fuel) number bytes (innermost ∷ groups) rest lt s =
    after_item fuel number bytes (innermost ∷ groups) rest (item_at rest) (skip_ends fuel number bytes) lt s (λ d. absurd cc) refl

-- ---- bytes begin with a field, or break

abbrev Begins : List ℕ → Type 0
Begins bytes = ((field : WireField) × (rest : List ℕ) × BeginsField bytes field rest) ⊎ ((kind : WireKind) × IsBreak bytes kind)

whole : (bytes rest : List ℕ) (number : ℕ) (payload : Payload) → payload ≢ Group → item_at bytes ≡ Ok (holding number payload, rest) → Begins bytes
whole bytes rest number payload ne e = inl (record { number = number; payload = payload }, rest, first_whole bytes rest (record { number = number; payload = payload }) e ne)

by_payload : (bytes rest : List ℕ) (number : ℕ) (payload : Payload) → item_at bytes ≡ Ok (holding number payload, rest) → Begins bytes
by_payload bytes rest number Group e =
    elim (skip_ends (suc (length rest)) number rest (number ∷ []) rest (omega arith) (skip_none number rest)) [
      | inl done ↦ inl (record { number = number; payload = Group }, done.0, first_group bytes rest done.0 number e (done.1.inside, done.1.joined, done.1.walked))
      | inr broken ↦ inr (broken.0, first_group_fault bytes rest number broken.0 e broken.1)
    ]
by_payload bytes rest number (Varint value) e = whole bytes rest number (Varint value) (λ d. absurd cc) e
by_payload bytes rest number (Fixed64 value) e = whole bytes rest number (Fixed64 value) (λ d. absurd cc) e
by_payload bytes rest number (Bytes body) e = whole bytes rest number (Bytes body) (λ d. absurd cc) e
by_payload bytes rest number (Fixed32 value) e = whole bytes rest number (Fixed32 value) (λ d. absurd cc) e

by_found : (bytes rest : List ℕ) (item : Item) → item_at bytes ≡ Ok (item, rest) → Begins bytes
by_found bytes rest (Holds field) e = by_payload bytes rest field.number field.payload e
by_found bytes rest (Ends number) e = inr (BadGroup, first_end bytes rest number e)

by_item : (bytes : List ℕ) (read : Result (Item × List ℕ) WireKind) → item_at bytes ≡ read → Begins bytes
by_item bytes (Err kind) e = inr (kind, first_fault bytes kind e)
by_item bytes (Ok found) e = by_found bytes found.1 found.0 e

begins : (bytes : List ℕ) → Begins bytes
begins bytes = by_item bytes (item_at bytes) refl

-- ---- bytes are a list of fields, or break

abbrev Decided : List ℕ → Type 0
Decided bytes = ((fields : List WireField) × AreFields bytes fields) ⊎ ((at : ℕ) × (kind : WireKind) × IsBroken bytes at kind)

decided_from : (fuel : ℕ) (bytes front rest : List ℕ) (fields : List WireField) → length rest < fuel → bytes ≡ front ++ rest → AreFields front fields → Decided bytes
decided_from zero bytes front rest fields lt e h = absurd (omega arith)
decided_from (suc fuel) bytes front [] fields lt e h = inl (fields, rw (e, append-nil) h)
decided_from (suc fuel) bytes front (byte ∷ rest) fields lt e h =
    elim (begins (byte ∷ rest)) [
      | inl found ↦
          let b = found.2 in
          let some = positive b.0 ((fields_apart 64).some found.0 b.0 b.2) in
          let parts : bytes ≡ (front ++ b.0) ++ found.1 = e ∙ ap (λ (l : List ℕ). front ++ l) b.1 ∙ sym (append_assoc front b.0 found.1) in
          decided_from fuel bytes (front ++ b.0) found.1 (fields ++ found.0 ∷ []) (omega (arith, ap length b.1, length-append b.0 found.1)) parts (Concatenates-push (IsSpelling 64) fields found.0 front b.0 h b.2)
      | inr broken ↦ inr (
        length front,
        broken.0,
        record {
          front = front;
          rest = byte ∷ rest;
          joined = e;
          place = refl;
          fields = fields;
          read = h;
          some = λ d. absurd cc;
          breaks = broken.1;
        },
      )
    ]

pub decided : (bytes : List ℕ) → Decided bytes
decided bytes = decided_from (suc (length bytes)) bytes [] bytes [] (omega arith) refl refl
