-- What stands in bytes, breaks in them or is too long in them, where a list of fields comes first: it is in these fields or
-- in what follows them.
use Rattle.std.proofs.Common.{◌≡◌, ℕ, ◌+◌, ◌*◌, ◌<◌, ◌≤◌, List, [], ◌∷◌, ◌++◌, length, length-append, append_assoc, refl, sym, ap, subst, ◌∙◌, inl, inr, arith}
use Rattle.std.specs.Prelude.{◌⊎◌}
use Rattle.gw_base.specs.declared.wire_kind.WireKind.{WireKind}
use Rattle.wire_fields.specs.Grammar.{Payload, Varint, Fixed64, Bytes, Group, Fixed32, WireField, IsPayload, IsVarint, IsSpelling, AreFields, BeginsNumber, type_of}
use Rattle.wire_fields.specs.Breaks.{IsBroken}
use Rattle.wire_fields.proofs.Lists.{Concatenates-append}
use Rattle.wire_fields.proofs.Spellings.{fields_apart, field_begins}
use Rattle.feed_reading.specs.Limits.{entity_limit}
use Rattle.feed_reading.specs.Faults.{Piece, Stands, IsLongAt}
use Rattle.feed_reading.specs.Found.{IsLongHere}
use Rattle.feed_reading.proofs.LongEntities.{number_once}
use Rattle.feed_reading.proofs.Walking.{from, stands_on, stands_later, stands_here, broken_on, long_here, long_later}

-- the first field of a list, and what follows it
first_apart : (first others front rest : List ℕ) → front ≡ first ++ others
    → front ++ rest ≡ first ++ (others ++ rest)
first_apart first others front rest e = ap (λ (l : List ℕ). l ++ rest) e ∙ append_assoc first others rest

-- ---- pieces

pub stands_split : (tag start : ℕ) (fields : List WireField) (front rest : List ℕ) (number : ℕ) (inner : Piece)
    → AreFields front fields → Stands (from tag start (front ++ rest)) number inner
    → Stands (from tag start front) number inner ⊎ Stands (from tag (start + length front) rest) number inner
stands_split tag start [] front rest number inner read h =
    let none : length front ≡ 0 = ap length read in
    let here : start ≡ start + length front = omega arith in
    inr (subst (λ (n : ℕ). Stands (from tag n rest) number inner) here
    (subst (λ (b : List ℕ). Stands (from tag start (b ++ rest)) number inner) read h))
stands_split tag start (field ∷ fields) front rest number inner read h =
    let moved = subst (λ (b : List ℕ). Stands (from tag start b) number inner)
    (first_apart read.0 read.1 front rest read.2) h in
    elim (stands_on tag start read.0 (read.1 ++ rest) field number inner read.3 moved) [
      | inl here ↦ inl (subst (λ (b : List ℕ). Stands (from tag start b) number inner) (sym read.2)
          (stands_here tag start read.0 read.1 field number inner read.3 here))
      | inr later ↦ elim (stands_split tag (start + length read.0) fields read.1 rest number inner read.4 later) [
        | inl there ↦ inl (subst (λ (b : List ℕ). Stands (from tag start b) number inner) (sym read.2)
            (stands_later tag start read.0 read.1 field number inner read.3 there))
        | inr after ↦
            let place : start + length read.0 + length read.1 ≡ start + length front =
            omega (arith, ap length read.2, length-append read.0 read.1) in
            inr (subst (λ (n : ℕ). Stands (from tag n rest) number inner) place after)
      ]
    ]

pub stands_within : (tag start : ℕ) (front rest : List ℕ) (number : ℕ) (inner : Piece)
    → Stands (from tag start front) number inner → Stands (from tag start (front ++ rest)) number inner
stands_within tag start front rest number inner h = record {
  front = h.front;
  spelling = h.spelling;
  rest = h.rest ++ rest;
  joined =
      ap (λ (l : List ℕ). l ++ rest) h.joined ∙ append_assoc h.front (h.spelling ++ h.rest) rest
      ∙ ap (λ (l : List ℕ). h.front ++ l) (append_assoc h.spelling h.rest rest);
  fields = h.fields;
  read = h.read;
  spelled = h.spelled;
  tag = h.tag;
  start = h.start;
}

pub stands_after : (tag start : ℕ) (fields : List WireField) (front rest : List ℕ) (number : ℕ) (inner : Piece)
    → AreFields front fields → Stands (from tag (start + length front) rest) number inner
    → Stands (from tag start (front ++ rest)) number inner
stands_after tag start fields front rest number inner read h = record {
  front = front ++ h.front;
  spelling = h.spelling;
  rest = h.rest;
  joined = ap (λ (l : List ℕ). front ++ l) h.joined ∙ sym (append_assoc front h.front (h.spelling ++ h.rest));
  fields = fields ++ h.fields;
  read = Concatenates-append (IsSpelling 64) fields h.fields front h.front read h.read;
  spelled = h.spelled;
  tag = omega (arith, h.tag, length-append front h.front);
  start = h.start;
}

-- ---- where bytes break

pub broken_split : (fields : List WireField) (front rest : List ℕ) (at : ℕ) (kind : WireKind) → AreFields front fields
    → IsBroken (front ++ rest) at kind → (further : ℕ) × (at ≡ length front + further) × IsBroken rest further kind
broken_split [] front rest at kind read h =
    let none : length front ≡ 0 = ap length read in
    (at, omega arith, subst (λ (b : List ℕ). IsBroken (b ++ rest) at kind) read h)
broken_split (field ∷ fields) front rest at kind read h =
    let moved = subst (λ (b : List ℕ). IsBroken b at kind) (first_apart read.0 read.1 front rest read.2) h in
    let first = broken_on read.0 (read.1 ++ rest) field at kind read.3 moved in
    let others = broken_split fields read.1 rest first.0 kind read.4 first.2 in
    (others.0, omega (arith, first.1, others.1, ap length read.2, length-append read.0 read.1), others.2)

pub broken_after : (fields : List WireField) (front rest : List ℕ) (at : ℕ) (kind : WireKind) → AreFields front fields
    → IsBroken rest at kind → IsBroken (front ++ rest) (length front + at) kind
broken_after fields front rest at kind read h = record {
  front = front ++ h.front;
  rest = h.rest;
  joined = ap (λ (l : List ℕ). front ++ l) h.joined ∙ sym (append_assoc front h.front h.rest);
  place = omega (arith, h.place, length-append front h.front);
  fields = fields ++ h.fields;
  read = Concatenates-append (IsSpelling 64) fields h.fields front h.front read h.read;
  some = h.some;
  breaks = h.breaks;
}

-- ---- entities that are too long

-- a field of a number
abbrev pub holding : ℕ → Payload → WireField
holding number payload = record { number = number; payload = payload }

-- the field that the bytes begin with is an entity, and too long
pub record IsLongField (field : WireField) : Type 0 where
  pub body : List ℕ
  pub is : field ≡ holding 2 (Bytes body)
  pub long : entity_limit < length body

record IsLongPayload (number : ℕ) (payload : Payload) (paid : List ℕ) : Type 0 where
  body : List ℕ
  is : holding number payload ≡ holding 2 (Bytes body)
  long : entity_limit < length body
  size : List ℕ
  sized : IsVarint size (length body)
  parts : paid ≡ size ++ body

by_payload : (number : ℕ) (payload : Payload) (paid after size rest : List ℕ) (len : ℕ)
    → number * 8 + type_of payload ≡ 18 → IsPayload payload paid → paid ++ after ≡ size ++ rest → IsVarint size len
    → entity_limit < len → IsLongPayload number payload paid
by_payload number (Varint value) paid after size rest len tag h e sized long = absurd (omega arith)
by_payload number (Fixed64 value) paid after size rest len tag h e sized long = absurd (omega arith)
by_payload number (Bytes body) paid after size rest len tag h e sized long =
    let first : BeginsNumber (size ++ rest) (length body) (body ++ after) =
    (h.0, sym e ∙ ap (λ (l : List ℕ). l ++ after) h.2 ∙ append_assoc h.0 body after, h.1) in
    let second : BeginsNumber (size ++ rest) len rest = (size, refl, sized) in
    let same = (number_once (size ++ rest) (length body) len (body ++ after) rest first second).0 in
    let two : number ≡ 2 = omega arith in
    record {
      body = body;
      is = λ i. holding (two i) (Bytes body);
      long = omega arith;
      size = h.0;
      sized = h.1;
      parts = h.2;
    }
by_payload number Group paid after size rest len tag h e sized long = absurd (omega arith)
by_payload number (Fixed32 value) paid after size rest len tag h e sized long = absurd (omega arith)

paid_apart : (bytes tag paid others size body : List ℕ) → bytes ≡ tag ++ (paid ++ others) → paid ≡ size ++ body
    → bytes ≡ tag ++ (size ++ (body ++ others))
paid_apart bytes tag paid others size body own parts =
    own ∙ ap (λ (l : List ℕ). tag ++ (l ++ others)) parts
    ∙ ap (λ (l : List ℕ). tag ++ l) (append_assoc size body others)

pub long_in_field : (a b : List ℕ) (field : WireField) → IsSpelling 64 field a → IsLongHere (a ++ b)
    → IsLongField field × IsLongHere a
long_in_field a b field spelled h =
    let p = field_begins 64 field a spelled in
    let item = p.3 in
    let own : a ≡ item.tag ++ (item.payload ++ p.1) =
    p.2 ∙ ap (λ (l : List ℕ). l ++ p.1) item.joined ∙ append_assoc item.tag item.payload p.1 in
    let parts : a ++ b ≡ item.tag ++ ((item.payload ++ p.1) ++ b) =
    ap (λ (l : List ℕ). l ++ b) own ∙ append_assoc item.tag (item.payload ++ p.1) b in
    let first : BeginsNumber (a ++ b) (field.number * 8 + type_of field.payload) ((item.payload ++ p.1) ++ b) =
    (item.tag, parts, item.tagged) in
    let second : BeginsNumber (a ++ b) 18 (h.size ++ h.rest) = (h.tag, h.joined, h.tagged) in
    let same = number_once (a ++ b) (field.number * 8 + type_of field.payload) 18 ((item.payload ++ p.1) ++ b)
    (h.size ++ h.rest) first second in
    let long = by_payload field.number field.payload item.payload (p.1 ++ b) h.size h.rest h.len same.0 item.paid
    (sym (append_assoc item.payload p.1 b) ∙ same.1) h.sized h.long in (
      record { body = long.body; is = long.is; long = long.long },
      record {
        tag = item.tag;
        size = long.size;
        rest = long.body ++ p.1;
        joined = paid_apart a item.tag item.payload p.1 long.size long.body own long.parts;
        tagged = subst (λ (n : ℕ). IsVarint item.tag n) same.0 item.tagged;
        len = length long.body;
        sized = long.sized;
        long = long.long;
      },
    )

-- the first field is the one that is too long, or one of the others is
pub long_first : (a b : List ℕ) (x : WireField) (at : ℕ) (fields : List WireField) → IsSpelling 64 x a
    → (h : IsLongAt (a ++ b) at) → AreFields h.front fields
    → ((at ≡ 0) × IsLongHere (a ++ b)) ⊎ ((further : ℕ) × (at ≡ length a + further) × IsLongAt b further)
long_first a b x at [] spelled h read =
    inl (
      (let none : length h.front ≡ 0 = ap length read in omega (arith, h.place)),
      record {
        tag = h.tag;
        size = h.size;
        rest = h.rest;
        joined = h.joined ∙ ap (λ (l : List ℕ). l ++ (h.tag ++ (h.size ++ h.rest))) read;
        tagged = h.tagged;
        len = h.len;
        sized = h.sized;
        long = h.long;
      },
    )
long_first a b x at (field ∷ fields) spelled h read =
    let tail : List ℕ = h.tag ++ (h.size ++ h.rest) in
    let e : a ++ b ≡ read.0 ++ (read.1 ++ tail) = h.joined ∙ first_apart read.0 read.1 h.front tail read.2 in
    let same : b ≡ read.1 ++ tail = ((fields_apart 64).same x field a read.0 b (read.1 ++ tail) spelled read.3 e).1 in
    inr (
      length read.1,
      omega (
        arith,
        h.place,
        ap length read.2,
        length-append read.0 read.1,
        ap length e,
        ap length same,
        length-append a b,
        length-append read.0 (read.1 ++ tail),
      ),
      record {
        front = read.1;
        tag = h.tag;
        size = h.size;
        rest = h.rest;
        joined = same;
        fields = fields;
        read = read.4;
        tagged = h.tagged;
        len = h.len;
        sized = h.sized;
        long = h.long;
        place = refl;
      },
    )

pub long_here_within : (front rest : List ℕ) → IsLongHere front → IsLongHere (front ++ rest)
long_here_within front rest h = record {
  tag = h.tag;
  size = h.size;
  rest = h.rest ++ rest;
  joined =
      ap (λ (l : List ℕ). l ++ rest) h.joined ∙ append_assoc h.tag (h.size ++ h.rest) rest
      ∙ ap (λ (l : List ℕ). h.tag ++ l) (append_assoc h.size h.rest rest);
  tagged = h.tagged;
  len = h.len;
  sized = h.sized;
  long = h.long;
}

pub long_within : (front rest : List ℕ) (at : ℕ) → IsLongAt front at → IsLongAt (front ++ rest) at
long_within front rest at h = record {
  front = h.front;
  tag = h.tag;
  size = h.size;
  rest = h.rest ++ rest;
  joined =
      ap (λ (l : List ℕ). l ++ rest) h.joined ∙ append_assoc h.front (h.tag ++ (h.size ++ h.rest)) rest
      ∙ ap (λ (l : List ℕ). h.front ++ l) (append_assoc h.tag (h.size ++ h.rest) rest)
      ∙ ap (λ (l : List ℕ). h.front ++ (h.tag ++ l)) (append_assoc h.size h.rest rest);
  fields = h.fields;
  read = h.read;
  tagged = h.tagged;
  len = h.len;
  sized = h.sized;
  long = h.long;
  place = h.place;
}

pub long_after : (fields : List WireField) (front rest : List ℕ) (at : ℕ) → AreFields front fields
    → IsLongAt rest at → IsLongAt (front ++ rest) (length front + at)
long_after fields front rest at read h = record {
  front = front ++ h.front;
  tag = h.tag;
  size = h.size;
  rest = h.rest;
  joined = ap (λ (l : List ℕ). front ++ l) h.joined ∙ sym (append_assoc front h.front (h.tag ++ (h.size ++ h.rest)));
  fields = fields ++ h.fields;
  read = Concatenates-append (IsSpelling 64) fields h.fields front h.front read h.read;
  tagged = h.tagged;
  len = h.len;
  sized = h.sized;
  long = h.long;
  place = omega (arith, h.place, length-append front h.front);
}

pub long_split : (fields : List WireField) (front rest : List ℕ) (at : ℕ) → AreFields front fields
    → IsLongAt (front ++ rest) at
    → IsLongAt front at ⊎ ((further : ℕ) × (at ≡ length front + further) × IsLongAt rest further)
long_split [] front rest at read h =
    let none : length front ≡ 0 = ap length read in
    inr (at, omega arith, subst (λ (b : List ℕ). IsLongAt (b ++ rest) at) read h)
long_split (field ∷ fields) front rest at read h =
    let moved = subst (λ (b : List ℕ). IsLongAt b at) (first_apart read.0 read.1 front rest read.2) h in
    elim (long_first read.0 (read.1 ++ rest) field at moved.fields read.3 moved moved.read) [
      | inl here ↦
          let own : IsLongAt (read.0 ++ read.1) 0 = long_here (read.0 ++ read.1)
          (long_here_within read.0 read.1 (long_in_field read.0 (read.1 ++ rest) field read.3 here.1).1) in
          inl (subst (λ (n : ℕ). IsLongAt front n) (sym here.0)
          (subst (λ (b : List ℕ). IsLongAt b 0) (sym read.2) own))
      | inr later ↦ elim (long_split fields read.1 rest later.0 read.4 later.2) [
        | inl there ↦ inl (subst (λ (n : ℕ). IsLongAt front n) (sym later.1)
            (subst (λ (b : List ℕ). IsLongAt b (length read.0 + later.0)) (sym read.2)
            (long_later read.0 read.1 field later.0 read.3 there)))
        | inr after ↦ inr (
          after.0,
          omega (arith, later.1, after.1, ap length read.2, length-append read.0 read.1),
          after.2,
        )
      ]
    ]

-- ---- lists of fields with which the same bytes begin

same_lengths : (a b rest after : List ℕ) → a ++ rest ≡ b ++ after → rest ≡ after → length a ≡ length b
same_lengths a b rest after e same =
    omega (arith, ap length e, ap length same, length-append a rest, length-append b after)

-- a list that ends before the end of the field that follows another list, ends no later than that list
pub fields_before : (fields others : List WireField) (front other spelling more after : List ℕ) (field : WireField)
    → AreFields front fields → AreFields other others → IsSpelling 64 field spelling
    → front ++ (spelling ++ more) ≡ other ++ after → length other < length front + length spelling
    → length other ≤ length front
fields_before fields [] front other spelling more after field read k spelled e lt =
    let none : length other ≡ 0 = ap length k in omega arith
fields_before [] (y ∷ others) front other spelling more after field read k spelled e lt =
    let none : length front ≡ 0 = ap length read in
    let parts : spelling ++ more ≡ k.0 ++ (k.1 ++ after) =
    sym (ap (λ (l : List ℕ). l ++ (spelling ++ more)) read) ∙ e ∙ first_apart k.0 k.1 other after k.2 in
    let same : more ≡ k.1 ++ after =
    ((fields_apart 64).same field y spelling k.0 more (k.1 ++ after) spelled k.3 parts).1 in
    absurd (omega (
      arith,
      same_lengths spelling k.0 more (k.1 ++ after) parts same,
      ap length k.2,
      length-append k.0 k.1,
    ))
fields_before (x ∷ fields) (y ∷ others) front other spelling more after field read k spelled e lt =
    let parts : read.0 ++ (read.1 ++ (spelling ++ more)) ≡ k.0 ++ (k.1 ++ after) =
    sym (first_apart read.0 read.1 front (spelling ++ more) read.2) ∙ e ∙ first_apart k.0 k.1 other after k.2 in
    let same : read.1 ++ (spelling ++ more) ≡ k.1 ++ after =
    ((fields_apart 64).same x y read.0 k.0 (read.1 ++ (spelling ++ more)) (k.1 ++ after) read.3 k.3 parts).1 in
    let lengths = same_lengths read.0 k.0 (read.1 ++ (spelling ++ more)) (k.1 ++ after) parts same in
    let own = ap length read.2 ∙ length-append read.0 read.1 in
    let its = ap length k.2 ∙ length-append k.0 k.1 in
    let shorter : length k.1 < length read.1 + length spelling = omega arith in
    let le = fields_before fields others read.1 k.1 spelling more after field read.4 k.4 spelled same shorter in
    omega arith
