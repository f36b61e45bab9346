-- Pieces that are lists of fields: what stands in them are the bodies of their fields.
use Rattle.std.proofs.Common.{◌≡◌, ◌==◌, ℕ, ◌+◌, ◌-◌, ◌≤◌, Bool, true, false, List, [], ◌∷◌, ◌++◌, length, map, refl, sym, ap, subst, ◌∙◌, inl, inr, arith, eqb-true, eq-eqb}
use Rattle.std.specs.Prelude.{Option, Some, None, if◌then◌else◌}
use Rattle.std.specs.List.{cons_option}
use Rattle.wire_fields.specs.Grammar.{Payload, Varint, Fixed64, Bytes, Group, Fixed32, WireField, IsSpelling, AreFields}
use Rattle.feed_reading.specs.Meaning.{body_in, bodies}
use Rattle.feed_reading.specs.Faults.{Piece, Stands, Lacks}
use Rattle.feed_reading.specs.Found.{Among, SameSet}
use Rattle.feed_reading.specs.Pieces.{IsHere}
use Rattle.feed_reading.proofs.ShortBodies.{short_body}
use Rattle.feed_reading.proofs.Walking.{from, stands_on, stands_later, stands_here, stands_nowhere, none_at_end}

abbrev pub bytes_of : List Piece → List (List ℕ)
bytes_of pieces = map (λ p. p.bytes) pieces

-- the pieces of a number in a message, with these bytes
pub record IsList (Set : Piece → Type 0) (bytes : List (List ℕ)) : Type 0 where
  pub inner : List Piece
  pub same_bytes : bytes_of inner ≡ bytes
  pub set : SameSet Set (Among inner)

-- a field of a number
abbrev holding : ℕ → Payload → WireField
holding number payload = record { number = number; payload = payload }

-- the body that a field is, if it has the number
abbrev pub body_of : ℕ → WireField → Option (List ℕ)
body_of number field = if field.number == number then body_in field.payload else None

own_body : (number : ℕ) (body : List ℕ) → body_of number (record { number = number; payload = Bytes body }) ≡ Some body
own_body number body = ap (λ (b : Bool). if b then Some body else None) (eq-eqb number number refl)

field_by : (number m : ℕ) (payload : Payload) (body : List ℕ) (b : Bool) → (m == number) ≡ b
    → (if b then body_in payload else None) ≡ Some body → holding number (Bytes body) ≡ holding m payload
field_by number m payload body false e h = absurd cc
field_by number m (Varint value) body true e h = absurd cc
field_by number m (Fixed64 value) body true e h = absurd cc
field_by number m (Bytes held) body true e h =
    let numbers : m ≡ number = eqb-true m number e in
    let bytes : held ≡ body = cc in
    λ i. record { number = sym numbers i; payload = Bytes (sym bytes i) }
field_by number m Group body true e h = absurd cc
field_by number m (Fixed32 value) body true e h = absurd cc

field_is : (number : ℕ) (field : WireField) (body : List ℕ) → body_of number field ≡ Some body
    → holding number (Bytes body) ≡ field
field_is number field body h = field_by number field.number field.payload body (field.number == number) refl h

same_bytes : (a b : List ℕ) → Bytes a ≡ Bytes b → a ≡ b
same_bytes a b e = cc

-- a field is one piece
pub same_here : (number start end : ℕ) (field : WireField) (q p : Piece) → IsHere field start end number q
    → IsHere field start end number p → q ≡ p
same_here number start end field q p h k =
    let fields = h.is ∙ sym k.is in
    let bytes : q.bytes ≡ p.bytes = same_bytes q.bytes p.bytes (ap (λ (f : WireField). f.payload) fields) in
    let tags : q.tag ≡ p.tag = h.tag ∙ sym k.tag in
    let starts : q.start ≡ p.start = omega (arith, h.start_is, k.start_is, ap length bytes) in
    λ i. record { tag = tags i; start = starts i; bytes = bytes i }

-- one field more at the front of a piece
pub list_more : (number tag start : ℕ) (first rest : List ℕ) (field : WireField) (bodies : List (List ℕ))
    (o : Option (List ℕ)) → IsSpelling 64 field first → body_of number field ≡ o
    → IsList (Stands (from tag (start + length first) rest) number) bodies
    → IsList (Stands (from tag start (first ++ rest)) number) (cons_option o bodies)
list_more number tag start first rest field bodies None spelled e l = record {
  inner = l.inner;
  same_bytes = l.same_bytes;
  set = record {
    to = λ q st. elim (stands_on tag start first rest field number q spelled st) [
      | inl here ↦ (let d : Some q.bytes ≡ None = sym (own_body number q.bytes) ∙ ap (body_of number) here.is ∙ e in
          absurd cc)
      | inr later ↦ l.set.to q later
    ];
    back = λ q a. stands_later tag start first rest field number q spelled (l.set.back q a);
  };
}
list_more number tag start first rest field bodies (Some body) spelled e l =
    let is = field_is number field body e in
    let fits : length body ≤ length first =
    short_body (length first) number (Bytes body) first
    (subst (λ (f : WireField). IsSpelling 64 f first) (sym is) spelled) (omega arith) in
    let here : Piece = record { tag = start; start = start + length first - length body; bytes = body } in
    let is_here : IsHere field start (start + length first) number here =
    record { is = is; tag = refl; start_is = omega arith } in
    record {
      inner = here ∷ l.inner;
      same_bytes = ap (λ (ls : List (List ℕ)). body ∷ ls) l.same_bytes;
      set = record {
        to = λ q st. elim (stands_on tag start first rest field number q spelled st) [
          | inl other ↦ inl (same_here number start (start + length first) field q here other is_here)
          | inr later ↦ inr (l.set.to q later)
        ];
        back = λ q a. elim a [
          | inl same ↦ stands_here tag start first rest field number q spelled
              (subst (λ (p : Piece). IsHere field start (start + length first) number p) (sym same) is_here)
          | inr others ↦ stands_later tag start first rest field number q spelled (l.set.back q others)
        ];
      };
    }

pub list_piece : (number tag start : ℕ) (fields : List WireField) (bytes : List ℕ) → AreFields bytes fields
    → IsList (Stands (from tag start bytes) number) (bodies number fields)
list_piece number tag start [] bytes h =
    record {
      inner = [];
      same_bytes = refl;
      set = record {
        to = λ q st. stands_nowhere (from tag start []) number q none_at_end
            (subst (λ (b : List ℕ). Stands (from tag start b) number q) h st);
        back = λ q a. absurd a;
      };
    }
list_piece number tag start (field ∷ fields) bytes h =
    let more = list_more number tag start h.0 h.1 field (bodies number fields) (body_of number field) h.3 refl
    (list_piece number tag (start + length h.0) fields h.1 h.4) in
    subst (λ (b : List ℕ). IsList (Stands (from tag start b) number)
    (cons_option (body_of number field) (bodies number fields))) (sym h.2) more

-- ---- a piece without the field

nothing_listed : (inner : List Piece) → bytes_of inner ≡ [] → inner ≡ []
nothing_listed [] e = refl
nothing_listed (p ∷ inner) e = absurd cc

pub stands_lacks : (outer q : Piece) (number : ℕ) → Lacks number outer → Stands outer number q → ⊥
stands_lacks outer q number h st =
    let l = list_piece number outer.tag outer.start h.0 outer.bytes h.1 in
    let none : l.inner ≡ [] = nothing_listed l.inner (l.same_bytes ∙ h.2) in
    subst (λ (ps : List Piece). Among ps q) none (l.set.to q st)

bodies_none : (inner : List Piece) (bodies : List (List ℕ)) → bytes_of inner ≡ bodies
    → ((q : Piece) → ¬ Among inner q) → bodies ≡ []
bodies_none [] bodies e none = sym e
bodies_none (p ∷ inner) bodies e none = absurd (none p (inl refl))

pub lacks_from : (outer : Piece) (number : ℕ) (fields : List WireField) → AreFields outer.bytes fields
    → ((q : Piece) → ¬ Stands outer number q) → Lacks number outer
lacks_from outer number fields h none =
    let l = list_piece number outer.tag outer.start fields outer.bytes h in
    (fields, h, bodies_none l.inner (bodies number fields) l.same_bytes (λ q a. none q (l.set.back q a)))
