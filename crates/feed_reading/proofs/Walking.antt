-- What stands in a piece, and where it breaks, one field after the other.
use Rattle.std.proofs.Common.{◌≡◌, ◌≢◌, ℕ, ◌+◌, List, [], ◌∷◌, ◌++◌, length, length-append, append_assoc, refl, sym, ap, subst, ◌∙◌, inl, inr, arith}
use Rattle.std.specs.Prelude.{◌⊎◌}
use Rattle.gw_base.specs.declared.wire_kind.WireKind.{WireKind}
use Rattle.wire_fields.specs.Grammar.{Bytes, WireField, IsSpelling, AreFields}
use Rattle.wire_fields.specs.Breaks.{BeginsNone, IsBreak, IsBroken}
use Rattle.wire_fields.proofs.Lists.{stops_at_end}
use Rattle.wire_fields.proofs.Spellings.{fields_apart}
use Rattle.feed_reading.specs.Faults.{Piece, Stands, IsLongAt}
use Rattle.feed_reading.specs.Found.{IsLongHere}
use Rattle.feed_reading.specs.Pieces.{IsHere}

-- a piece whose bytes begin here
abbrev pub from : ℕ → ℕ → List ℕ → Piece
from tag start bytes = record { tag = tag; start = start; bytes = bytes }

after_first : (first others rest a b : List ℕ) (x y : WireField) → IsSpelling 64 x first → IsSpelling 64 y a
    → a ++ b ≡ (first ++ others) ++ rest → (b ≡ others ++ rest) × (length first ≡ length a)
after_first first others rest a b x y h k e =
    let s = (fields_apart 64).same y x a first b (others ++ rest) k h (e ∙ append_assoc first others rest) in (
      s.1,
      omega (
        arith,
        ap length e,
        ap length s.1,
        length-append a b,
        length-append (first ++ others) rest,
        length-append first others,
        length-append others rest,
      ),
    )

-- what stands in a piece is its first field, or stands after it
stands_by : (tag start : ℕ) (a b : List ℕ) (field : WireField) (number : ℕ) (inner : Piece) (fields : List WireField)
    → IsSpelling 64 field a → (h : Stands (from tag start (a ++ b)) number inner) → AreFields h.front fields
    → IsHere field start (start + length a) number inner ⊎ Stands (from tag (start + length a) b) number inner
stands_by tag start a b field number inner [] spelled h read =
    let e : a ++ b ≡ h.spelling ++ h.rest = h.joined ∙ ap (λ (l : List ℕ). l ++ (h.spelling ++ h.rest)) read in
    let s : (record { number = number; payload = Bytes inner.bytes } ≡ field) × (h.rest ≡ b) =
    (fields_apart 64).same _ field h.spelling a h.rest b h.spelled spelled (sym e) in
    let len : length h.spelling ≡ length a =
    omega (arith, ap length e, ap length s.1, length-append a b, length-append h.spelling h.rest) in
    let none : length h.front ≡ 0 = ap length read in
    inl (record { is = s.0; tag = omega (arith, h.tag); start_is = omega (arith, h.start, h.tag) })
stands_by tag start a b field number inner (x ∷ fields) spelled h read =
    let e : a ++ b ≡ (read.0 ++ read.1) ++ (h.spelling ++ h.rest) =
    h.joined ∙ ap (λ (l : List ℕ). l ++ (h.spelling ++ h.rest)) read.2 in
    let after = after_first read.0 read.1 (h.spelling ++ h.rest) a b x field read.3 spelled e in
    inr (record {
      front = read.1;
      spelling = h.spelling;
      rest = h.rest;
      joined = after.0;
      fields = fields;
      read = read.4;
      spelled = h.spelled;
      tag = omega (arith, h.tag, after.1, ap length read.2, length-append read.0 read.1);
      start = h.start;
    })

pub stands_on : (tag start : ℕ) (a b : List ℕ) (field : WireField) (number : ℕ) (inner : Piece)
    → IsSpelling 64 field a → Stands (from tag start (a ++ b)) number inner
    → IsHere field start (start + length a) number inner ⊎ Stands (from tag (start + length a) b) number inner
stands_on tag start a b field number inner spelled h =
    stands_by tag start a b field number inner h.fields spelled h h.read

pub stands_later : (tag start : ℕ) (a b : List ℕ) (field : WireField) (number : ℕ) (inner : Piece)
    → IsSpelling 64 field a → Stands (from tag (start + length a) b) number inner
    → Stands (from tag start (a ++ b)) number inner
stands_later tag start a b field number inner spelled h = record {
  front = a ++ h.front;
  spelling = h.spelling;
  rest = h.rest;
  joined = ap (λ (l : List ℕ). a ++ l) h.joined ∙ sym (append_assoc a h.front (h.spelling ++ h.rest));
  fields = field ∷ h.fields;
  read = (a, h.front, refl, spelled, h.read);
  spelled = h.spelled;
  tag = omega (arith, h.tag, length-append a h.front);
  start = h.start;
}

pub stands_here : (tag start : ℕ) (a b : List ℕ) (field : WireField) (number : ℕ) (inner : Piece)
    → IsSpelling 64 field a → IsHere field start (start + length a) number inner
    → Stands (from tag start (a ++ b)) number inner
stands_here tag start a b field number inner spelled h = record {
  front = [];
  spelling = a;
  rest = b;
  joined = refl;
  fields = [];
  read = refl;
  spelled = subst (λ (f : WireField). IsSpelling 64 f a) (sym h.is) spelled;
  tag = omega (arith, h.tag);
  start = omega (arith, h.tag, h.start_is);
}

-- nothing stands where no field begins
stands_not : (piece : Piece) (number : ℕ) (inner : Piece) (fields : List WireField) → BeginsNone piece.bytes
    → (h : Stands piece number inner) → AreFields h.front fields → ⊥
stands_not piece number inner [] none h read =
    none (record { number = number; payload = Bytes inner.bytes }) h.spelling h.rest
    (h.joined ∙ ap (λ (l : List ℕ). l ++ (h.spelling ++ h.rest)) read) h.spelled
stands_not piece number inner (x ∷ fields) none h read =
    none x read.0 (read.1 ++ (h.spelling ++ h.rest))
    (h.joined ∙ ap (λ (l : List ℕ). l ++ (h.spelling ++ h.rest)) read.2
    ∙ append_assoc read.0 read.1 (h.spelling ++ h.rest)) read.3

pub stands_nowhere : (piece : Piece) (number : ℕ) (inner : Piece) → BeginsNone piece.bytes → Stands piece number inner
    → ⊥
stands_nowhere piece number inner none h = stands_not piece number inner h.fields none h h.read

pub none_at_end : BeginsNone []
none_at_end = stops_at_end (IsSpelling 64) (fields_apart 64)

-- ---- where a piece breaks

broken_by : (a b : List ℕ) (field : WireField) (at : ℕ) (kind : WireKind) (fields : List WireField)
    → IsSpelling 64 field a → (h : IsBroken (a ++ b) at kind) → AreFields h.front fields
    → (further : ℕ) × (at ≡ length a + further) × IsBroken b further kind
broken_by a b field at kind [] spelled h read =
    absurd (h.breaks.none field a b (sym (h.joined ∙ ap (λ (l : List ℕ). l ++ h.rest) read)) spelled)
broken_by a b field at kind (x ∷ fields) spelled h read =
    let e : a ++ b ≡ (read.0 ++ read.1) ++ h.rest = h.joined ∙ ap (λ (l : List ℕ). l ++ h.rest) read.2 in
    let after = after_first read.0 read.1 h.rest a b x field read.3 spelled e in (
      length read.1,
      omega (arith, h.place, after.1, ap length read.2, length-append read.0 read.1),
      record {
        front = read.1;
        rest = h.rest;
        joined = after.0;
        place = refl;
        fields = fields;
        read = read.4;
        some = h.some;
        breaks = h.breaks;
      },
    )

pub broken_on : (a b : List ℕ) (field : WireField) (at : ℕ) (kind : WireKind) → IsSpelling 64 field a
    → IsBroken (a ++ b) at kind → (further : ℕ) × (at ≡ length a + further) × IsBroken b further kind
broken_on a b field at kind spelled h = broken_by a b field at kind h.fields spelled h h.read

pub broken_here : (bytes : List ℕ) (kind : WireKind) → bytes ≢ [] → IsBreak bytes kind → IsBroken bytes 0 kind
broken_here bytes kind some h = record {
  front = [];
  rest = bytes;
  joined = refl;
  place = refl;
  fields = [];
  read = refl;
  some = some;
  breaks = h;
}

-- ---- where an entity is too long

pub long_here : (bytes : List ℕ) → IsLongHere bytes → IsLongAt bytes 0
long_here bytes h = record {
  front = [];
  tag = h.tag;
  size = h.size;
  rest = h.rest;
  joined = h.joined;
  fields = [];
  read = refl;
  tagged = h.tagged;
  len = h.len;
  sized = h.sized;
  long = h.long;
  place = refl;
}

pub long_later : (a b : List ℕ) (field : WireField) (at : ℕ) → IsSpelling 64 field a → IsLongAt b at
    → IsLongAt (a ++ b) (length a + at)
long_later a b field at spelled h = record {
  front = a ++ h.front;
  tag = h.tag;
  size = h.size;
  rest = h.rest;
  joined = ap (λ (l : List ℕ). a ++ l) h.joined ∙ sym (append_assoc a h.front (h.tag ++ (h.size ++ h.rest)));
  fields = field ∷ h.fields;
  read = (a, h.front, refl, spelled, h.read);
  tagged = h.tagged;
  len = h.len;
  sized = h.sized;
  long = h.long;
  place = omega (arith, h.place, length-append a h.front);
}

here_from : (bytes : List ℕ) (at : ℕ) → (h : IsLongAt bytes at) → h.front ≡ [] → IsLongHere bytes
here_from bytes at h read = record {
  tag = h.tag;
  size = h.size;
  rest = h.rest;
  joined = h.joined ∙ ap (λ (l : List ℕ). l ++ (h.tag ++ (h.size ++ h.rest))) read;
  tagged = h.tagged;
  len = h.len;
  sized = h.sized;
  long = h.long;
}

long_by : (a b : List ℕ) (field : WireField) (at : ℕ) (fields : List WireField) → IsSpelling 64 field a
    → (h : IsLongAt (a ++ b) at) → AreFields h.front fields
    → IsLongHere (a ++ b) ⊎ ((further : ℕ) × (at ≡ length a + further) × IsLongAt b further)
long_by a b field at [] spelled h read = inl (here_from (a ++ b) at h read)
long_by a b field at (x ∷ fields) spelled h read =
    let e : a ++ b ≡ (read.0 ++ read.1) ++ (h.tag ++ (h.size ++ h.rest)) =
    h.joined ∙ ap (λ (l : List ℕ). l ++ (h.tag ++ (h.size ++ h.rest))) read.2 in
    let after = after_first read.0 read.1 (h.tag ++ (h.size ++ h.rest)) a b x field read.3 spelled e in
    inr (
      length read.1,
      omega (arith, h.place, after.1, ap length read.2, length-append read.0 read.1),
      record {
        front = read.1;
        tag = h.tag;
        size = h.size;
        rest = h.rest;
        joined = after.0;
        fields = fields;
        read = read.4;
        tagged = h.tagged;
        len = h.len;
        sized = h.sized;
        long = h.long;
        place = refl;
      },
    )

pub long_on : (a b : List ℕ) (field : WireField) (at : ℕ) → IsSpelling 64 field a → IsLongAt (a ++ b) at
    → IsLongHere (a ++ b) ⊎ ((further : ℕ) × (at ≡ length a + further) × IsLongAt b further)
long_on a b field at spelled h = long_by a b field at h.fields spelled h h.read

long_not : (bytes : List ℕ) (at : ℕ) (fields : List WireField) → BeginsNone bytes → (h : IsLongAt bytes at)
    → AreFields h.front fields → IsLongHere bytes
long_not bytes at [] none h read = here_from bytes at h read
long_not bytes at (x ∷ fields) none h read =
    absurd (none x read.0 (read.1 ++ (h.tag ++ (h.size ++ h.rest)))
    (h.joined ∙ ap (λ (l : List ℕ). l ++ (h.tag ++ (h.size ++ h.rest))) read.2
    ∙ append_assoc read.0 read.1 (h.tag ++ (h.size ++ h.rest))) read.3)

pub long_only_here : (bytes : List ℕ) (at : ℕ) → BeginsNone bytes → IsLongAt bytes at → IsLongHere bytes
long_only_here bytes at none h = long_not bytes at h.fields none h h.read
