-- Steps of the walks over pieces.
use Rattle.std.proofs.Common.{◌≡◌, ℕ, ◌+◌, ◌*◌, ◌<◌, ◌≤◌, List, [], ◌∷◌, ◌++◌, length, length-append, map, min, take, get_or, refl, sym, ap, subst, ◌∙◌, inl, inr, arith, zero, suc}
use Rattle.std.proofs.lemmas.List.{map-append, take_more, take_all}
use Rattle.std.proofs.lemmas.Bool.{cases_lt}
use Rattle.std.specs.Prelude.{◌⊎◌, Option, Some, None, IsUtf8}
use Rattle.std.specs.List.{AllByRecursion}
use Rattle.wire_fields.specs.Grammar.{WireField, AreFields}
use Rattle.wire_fields.specs.Breaks.{BeginsNone, IsBroken}
use Rattle.wire_fields.proofs.Broken.{fields_or_broken, broken_once}
use Rattle.wire_fields.proofs.Spellings.{fields_apart}
use Rattle.wire_fields.proofs.Skips.{positive}
use Rattle.gw_base.specs.declared.wire_kind.WireKind.{WireKind}
use Rattle.feed_reading.specs.declared.fault.FeedFault.{FeedFault}
use Rattle.feed_reading.specs.declared.fault.FeedFault.TheVariants.{EntityTooLong, Wire, NotText, MissingField, Memory}
use Rattle.feed_reading.specs.declared.finder.piece.Piece.{Piece}
use Rattle.feed_reading.specs.Faults as faults
use Rattle.feed_reading.specs.Faults.{Stands, Inside, InSome, IsTorn, IsNotText, order, IsLeast}
use Rattle.feed_reading.specs.Found.{Among, SameSet, earlier_of}
use Rattle.feed_reading.specs.Pieces.{piece_of, IsFollowed, IsHere, IsPieceAt, Listed, GoesOn, Gains, SomeStands, NoneStands, SomeInside, IsFirstTag}
use Rattle.feed_reading.proofs.FaultOrder.{among_append, among_front, among_back, least_more}
use Rattle.feed_reading.proofs.Walking.{from, stands_on, stands_later, stands_here, stands_nowhere, none_at_end}

-- ---- breaks

whole_not_torn : (piece : faults.Piece) (fields : List WireField) → AreFields piece.bytes fields → (f : FeedFault)
    → IsTorn piece f → ⊥
whole_not_torn piece fields read (Wire fault) h = fields_or_broken piece.bytes fields h.0 fault.kind read h.1
whole_not_torn piece fields read (EntityTooLong at) h = h
whole_not_torn piece fields read (NotText at) h = h
whole_not_torn piece fields read (MissingField at name) h = h
whole_not_torn piece fields read Memory h = h

pub not_torn : (piece : faults.Piece) (fields : List WireField) → AreFields piece.bytes fields
    → IsLeast (IsTorn piece) None
not_torn piece fields read = whole_not_torn piece fields read

torn_order : (piece : faults.Piece) (at : ℕ) (kind : WireKind) → IsBroken piece.bytes at kind → (f : FeedFault)
    → IsTorn piece f → (piece.start + at) * 4 + 1 ≤ order f
torn_order piece at kind b (Wire fault) h = omega (arith, h.2, (broken_once piece.bytes at h.0 kind fault.kind b h.1).0)
torn_order piece at kind b (EntityTooLong place) h = absurd h
torn_order piece at kind b (NotText place) h = absurd h
torn_order piece at kind b (MissingField place name) h = absurd h
torn_order piece at kind b Memory h = absurd h

pub torn_there : (piece : faults.Piece) (at : ℕ) (kind : WireKind) → IsBroken piece.bytes at kind
    → IsLeast (IsTorn piece) (Some (Wire (record { at = piece.start + at; kind = kind })))
torn_there piece at kind b = ((at, b, refl), torn_order piece at kind b)

pub break_within : (bytes : List ℕ) (at : ℕ) (kind : WireKind) → IsBroken bytes at kind → at ≤ length bytes
break_within bytes at kind b = omega (arith, b.place, ap length b.joined, length-append b.front b.rest)

-- ---- what stands in a piece

stands_first : (rest after : Piece) (field : WireField) (number : ℕ) (q : faults.Piece) → IsFollowed rest field after
    → Stands (piece_of rest) number q → IsHere field rest.start after.start number q ⊎ Stands (piece_of after) number q
stands_first rest after field number q s h =
    let split = stands_on rest.tag rest.start s.spelling after.bytes.now field number q s.spelled
    (subst (λ (b : List ℕ). Stands (from rest.tag rest.start b) number q) s.joined h) in
    elim split [
      | inl here ↦ inl (subst (λ (n : ℕ). IsHere field rest.start n number q) (sym s.start) here)
      | inr later ↦ inr (record {
        front = later.front;
        spelling = later.spelling;
        rest = later.rest;
        joined = later.joined;
        fields = later.fields;
        read = later.read;
        spelled = later.spelled;
        tag = omega (arith, later.tag, s.start);
        start = later.start;
      })
    ]

stands_after : (rest after : Piece) (field : WireField) (number : ℕ) (q : faults.Piece) → IsFollowed rest field after
    → Stands (piece_of after) number q → Stands (piece_of rest) number q
stands_after rest after field number q s h =
    subst (λ (b : List ℕ). Stands (from rest.tag rest.start b) number q) (sym s.joined)
    (stands_later rest.tag rest.start s.spelling after.bytes.now field number q s.spelled (record {
      front = h.front;
      spelling = h.spelling;
      rest = h.rest;
      joined = h.joined;
      fields = h.fields;
      read = h.read;
      spelled = h.spelled;
      tag = omega (arith, h.tag, s.start);
      start = h.start;
    }))

stands_front : (rest after : Piece) (field : WireField) (number : ℕ) (q : faults.Piece) → IsFollowed rest field after
    → IsHere field rest.start after.start number q → Stands (piece_of rest) number q
stands_front rest after field number q s h =
    subst (λ (b : List ℕ). Stands (from rest.tag rest.start b) number q) (sym s.joined)
    (stands_here rest.tag rest.start s.spelling after.bytes.now field number q s.spelled
    (subst (λ (n : ℕ). IsHere field rest.start n number q) s.start h))

-- one field further, which isn't a piece, or is this one
pub goes_on_none : (number : ℕ) (list : List Piece) (rest after : Piece) (field : WireField)
    → IsFollowed rest field after → IsPieceAt field rest.start after.start number None
    → GoesOn number list rest list after
goes_on_none number list rest after field s none = record {
  to = λ q h. elim h [
    | inl l ↦ inl l
    | inr st ↦ elim (stands_first rest after field number q s st)
        [ inl here ↦ absurd (none q here) | inr later ↦ inr later ]
  ];
  back = λ q h. elim h [ inl l ↦ inl l | inr st ↦ inr (stands_after rest after field number q s st) ];
}

listed_more : (list : List Piece) (inner : Piece) (q : faults.Piece) → Listed (list ++ inner ∷ []) q
    → Listed list q ⊎ (q ≡ piece_of inner)
listed_more list inner q h =
    elim (among_append (map piece_of list) (piece_of inner ∷ []) q
    (subst (λ (l : List faults.Piece). Among l q) (map-append piece_of list (inner ∷ [])) h)) [
      | inl l ↦ inl l
      | inr x ↦ elim x [ inl e ↦ inr e | inr none ↦ absurd none ]
    ]

listed_front : (list : List Piece) (inner : Piece) (q : faults.Piece) → Listed list q → Listed (list ++ inner ∷ []) q
listed_front list inner q h =
    subst (λ (l : List faults.Piece). Among l q) (sym (map-append piece_of list (inner ∷ [])))
    (among_front (map piece_of list) (piece_of inner ∷ []) q h)

listed_last : (list : List Piece) (inner : Piece) (q : faults.Piece) → q ≡ piece_of inner
    → Listed (list ++ inner ∷ []) q
listed_last list inner q e =
    subst (λ (l : List faults.Piece). Among l q) (sym (map-append piece_of list (inner ∷ [])))
    (among_back (map piece_of list) (piece_of inner ∷ []) q (inl e))

pub goes_on_some : (number : ℕ) (list : List Piece) (rest after inner : Piece) (field : WireField)
    → IsFollowed rest field after → IsPieceAt field rest.start after.start number (Some inner)
    → GoesOn number list rest (list ++ inner ∷ []) after
goes_on_some number list rest after inner field s here = record {
  to = λ q h. elim h [
    | inl l ↦ inl (listed_front list inner q l)
    | inr st ↦ elim (stands_first rest after field number q s st)
        [ inl first ↦ inl (listed_last list inner q (here.1 q first)) | inr later ↦ inr later ]
  ];
  back = λ q h. elim h [
    | inl l ↦ elim (listed_more list inner q l) [
      | inl before ↦ inl before
      | inr e ↦ inr (stands_front rest after field number q s
          (subst (λ (p : faults.Piece). IsHere field rest.start after.start number p) (sym e) here.0))
    ]
    | inr st ↦ inr (stands_after rest after field number q s st)
  ];
}

pub goes_on_both : (number : ℕ) (list longer longest : List Piece) (piece rest after : Piece)
    → GoesOn number list piece longer rest → GoesOn number longer rest longest after
    → GoesOn number list piece longest after
goes_on_both number list longer longest piece rest after h k =
    record { to = λ q x. k.to q (h.to q x); back = λ q x. h.back q (k.back q x) }

-- no field begins here
pub empty_begins_none : (rest : Piece) → rest.bytes.now ≡ [] → BeginsNone rest.bytes.now
empty_begins_none rest e = subst (λ (b : List ℕ). BeginsNone b) (sym e) none_at_end

pub gains_all : (number : ℕ) (list longer : List Piece) (piece rest : Piece) → GoesOn number list piece longer rest
    → BeginsNone rest.bytes.now → Gains list longer (Stands (piece_of piece) number)
gains_all number list longer piece rest h none = record {
  to = λ q x. elim (h.to q x) [ inl l ↦ l | inr st ↦ absurd (stands_nowhere (piece_of rest) number q none st) ];
  back = λ q l. h.back q (inl l);
}

-- ---- what stands in a message

inside_more : (number : ℕ) (before list longer : List Piece) (piece : Piece)
    → SameSet (Inside number (Listed before)) (Listed list) → Gains list longer (Stands (piece_of piece) number)
    → SameSet (Inside number (Listed (before ++ piece ∷ []))) (Listed longer)
inside_more number before list longer piece h g = record {
  to = λ q x. elim (listed_more before piece x.0 x.1) [
    | inl old ↦ g.to q (inl (h.to q (x.0, old, x.2)))
    | inr e ↦ g.to q (inr (subst (λ (p : faults.Piece). Stands p number q) e x.2))
  ];
  back = λ q l. elim (g.back q l) [
    | inl old ↦ (let x = h.back q old in (x.0, listed_front before piece x.0 x.1, x.2))
    | inr st ↦ (piece_of piece, listed_last before piece (piece_of piece) refl, st)
  ];
}

pub inside_step : (number : ℕ) (pieces list longer : List Piece) (i : ℕ) (piece : Piece) → i < length pieces
    → piece ≡ get_or pieces i piece → SameSet (Inside number (Listed (take i pieces))) (Listed list)
    → Gains list longer (Stands (piece_of piece) number)
    → SameSet (Inside number (Listed (take (i + 1) pieces))) (Listed longer)
inside_step number pieces list longer i piece within is h g =
    let front : take (i + 1) pieces ≡ take i pieces ++ piece ∷ [] =
    take_more pieces i piece within ∙ ap (λ (p : Piece). take i pieces ++ p ∷ []) (sym is) in
    subst (λ (l : List Piece). SameSet (Inside number (Listed l)) (Listed longer)) (sym front)
    (inside_more number (take i pieces) list longer piece h g)

-- ---- the least fault of one more piece

pub least_step : (Has : faults.Piece → FeedFault → Type 0) (pieces : List Piece) (i : ℕ) (piece : Piece)
    (a b : Option FeedFault) → i < length pieces → piece ≡ get_or pieces i piece
    → IsLeast (InSome (Listed (take i pieces)) Has) a → IsLeast (Has (piece_of piece)) b
    → IsLeast (InSome (Listed (take (i + 1) pieces)) Has) (earlier_of a b)
least_step Has pieces i piece a b within is h k =
    let front : take (i + 1) pieces ≡ take i pieces ++ piece ∷ [] =
    take_more pieces i piece within ∙ ap (λ (p : Piece). take i pieces ++ p ∷ []) (sym is) in
    let all : map piece_of (take (i + 1) pieces) ≡ map piece_of (take i pieces) ++ piece_of piece ∷ [] =
    ap (map piece_of) front ∙ map-append piece_of (take i pieces) (piece ∷ []) in
    subst (λ (l : List faults.Piece). IsLeast (InSome (Among l) Has) (earlier_of a b)) (sym all)
    (least_more Has (map piece_of (take i pieces)) (piece_of piece) a b h k)

pub least_of_none : (Has : faults.Piece → FeedFault → Type 0) → IsLeast (InSome (Listed []) Has) None
least_of_none Has = λ other x. x.1

-- ---- what is left gets less

pub shorter : (rest after : Piece) (field : WireField) → IsFollowed rest field after
    → length after.bytes.now < length rest.bytes.now
shorter rest after field s =
    let some : 0 < length s.spelling = positive s.spelling ((fields_apart 64).some field s.spelling s.spelled) in
    omega (arith, ap length s.joined, length-append s.spelling after.bytes.now)

-- ---- whether something stands

pub stands_some : (number : ℕ) (piece rest after inner : Piece) (field : WireField) → GoesOn number [] piece [] rest
    → IsFollowed rest field after → IsPieceAt field rest.start after.start number (Some inner) → SomeStands number piece
stands_some number piece rest after inner field h s here =
    elim (h.back (piece_of inner) (inr (stands_front rest after field number (piece_of inner) s here.0)))
    [ inl none ↦ absurd none | inr st ↦ (piece_of inner, st) ]

pub stands_none : (number : ℕ) (piece rest : Piece) → GoesOn number [] piece [] rest → BeginsNone rest.bytes.now
    → NoneStands number piece
stands_none number piece rest h none =
    λ q st. elim (h.to q (inr st)) [ inl l ↦ l | inr there ↦ stands_nowhere (piece_of rest) number q none there ]

listed_at : (pieces : List Piece) (i : ℕ) (d : Piece) → i < length pieces → Listed pieces (piece_of (get_or pieces i d))
listed_at [] i d within = absurd (omega arith)
listed_at (p ∷ pieces) zero d within = inl refl
listed_at (p ∷ pieces) (suc i) d within = inr (listed_at pieces i d (omega arith))

pub listed_item : (pieces : List Piece) (i : ℕ) (piece : Piece) → i < length pieces → piece ≡ get_or pieces i piece
    → Listed pieces (piece_of piece)
listed_item pieces i piece within is =
    subst (λ (p : Piece). Listed pieces (piece_of p)) (sym is) (listed_at pieces i piece within)

pub some_inside : (number : ℕ) (pieces : List Piece) (i : ℕ) (piece : Piece) → i < length pieces
    → piece ≡ get_or pieces i piece → SomeStands number piece → SomeInside number pieces
some_inside number pieces i piece within is h = (h.0, (piece_of piece, listed_item pieces i piece within is, h.1))

pub none_inside : (number : ℕ) (pieces : List Piece) → AllByRecursion (NoneStands number) pieces
    → (q p : faults.Piece) → Listed pieces p → ¬ Stands p number q
none_inside number [] h q p l st = l
none_inside number (first ∷ pieces) h q p (inl e) st = h.0 q (subst (λ (p : faults.Piece). Stands p number q) e st)
none_inside number (first ∷ pieces) h q p (inr l) st = none_inside number pieces h.1 q p l st

-- ---- texts

no_text_order : (piece : faults.Piece) (f : FeedFault) → IsNotText piece f → piece.tag * 4 + 2 ≤ order f
no_text_order piece (NotText at) h = omega (arith, h.0)
no_text_order piece (EntityTooLong at) h = absurd h
no_text_order piece (Wire fault) h = absurd h
no_text_order piece (MissingField at name) h = absurd h
no_text_order piece Memory h = absurd h

pub no_text_here : (piece : faults.Piece) → ¬ IsUtf8 piece.bytes → IsLeast (IsNotText piece) (Some (NotText piece.tag))
no_text_here piece refused = ((refl, refused), no_text_order piece)

text_has_none : (piece : faults.Piece) → IsUtf8 piece.bytes → (f : FeedFault) → IsNotText piece f → ⊥
text_has_none piece text (NotText at) h = h.1 text
text_has_none piece text (EntityTooLong at) h = h
text_has_none piece text (Wire fault) h = h
text_has_none piece text (MissingField at name) h = h
text_has_none piece text Memory h = h

pub text_here : (piece : faults.Piece) → IsUtf8 piece.bytes → IsLeast (IsNotText piece) None
text_here piece text = text_has_none piece text

-- ---- the least tag

abbrev pub HasTag : List Piece → ℕ → Type 0
HasTag pieces first = (p : faults.Piece) × Listed pieces p × (first ≡ p.tag)

pub first_tag_here : (pieces : List Piece) (i : ℕ) (piece : Piece) (first next : ℕ) → i < length pieces
    → piece ≡ get_or pieces i piece → next ≡ min first piece.tag → HasTag pieces first → HasTag pieces next
first_tag_here pieces i piece first next within is e h =
    elim (cases_lt first piece.tag) [
      | inl lt ↦ (h.0, h.1, (let same = h.2 in omega arith))
      | inr le ↦ (piece_of piece, listed_item pieces i piece within is, omega arith)
    ]

pub first_tag_least : (pieces : List Piece) (i : ℕ) (piece : Piece) (first next : ℕ) → i < length pieces
    → piece ≡ get_or pieces i piece → next ≡ min first piece.tag
    → ((p : faults.Piece) → Listed (take i pieces) p → first ≤ p.tag) → (p : faults.Piece)
    → Listed (take (i + 1) pieces) p → next ≤ p.tag
first_tag_least pieces i piece first next within is e least p l =
    let front : take (i + 1) pieces ≡ take i pieces ++ piece ∷ [] =
    take_more pieces i piece within ∙ ap (λ (p : Piece). take i pieces ++ p ∷ []) (sym is) in
    elim (listed_more (take i pieces) piece p (subst (λ (l : List Piece). Listed l p) front l)) [
      | inl before ↦ (let le = least p before in omega arith)
      | inr here ↦ (let tag : p.tag ≡ piece.tag = ap (λ (q : faults.Piece). q.tag) here in omega arith)
    ]

pub first_tag_all : (pieces : List Piece) (i first : ℕ) → length pieces ≤ i → HasTag pieces first
    → ((p : faults.Piece) → Listed (take i pieces) p → first ≤ p.tag) → IsFirstTag pieces first
first_tag_all pieces i first le h least =
    record {
      piece = h.0;
      among = h.1;
      here = h.2;
      least =
          λ p l. least p (subst (λ (ps : List Piece). Listed ps p) (sym (take_all i pieces le)) l);
    }
