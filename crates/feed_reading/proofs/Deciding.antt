-- Bytes have a first fault, or none: found from their parts.
use Rattle.std.proofs.Common.{◌≡◌, ◌==◌, ℕ, ◌+◌, ◌*◌, ◌≤◌, Bool, true, false, List, [], ◌∷◌, ◌++◌, length, Ok, Err, Result, refl, sym, ap, subst, ◌∙◌, inl, inr, arith, append_assoc, eqb-true, eq-eqb}
use Rattle.std.proofs.lemmas.Bool.{cases_lt}
use Rattle.std.proofs.lemmas.List.{append-nil}
use Rattle.std.specs.Prelude.{◌⊎◌, Option, Some, None}
use Rattle.gw_base.specs.declared.required.Required.{Required}
use Rattle.gw_base.specs.declared.wire_kind.WireKind.{WireKind}
use Rattle.wire_fields.specs.Grammar.{WireField, IsSpelling, AreFields, BeginsNumber}
use Rattle.wire_fields.specs.Breaks.{BeginsNone}
use Rattle.wire_fields.specs.Reading.{varint_at}
use Rattle.wire_fields.proofs.Numbers.{varint_found, varint_again}
use Rattle.wire_fields.proofs.Existence.{decided}
use Rattle.feed_reading.specs.Limits.{entity_limit}
use Rattle.feed_reading.specs.declared.fault.FeedFault.{FeedFault}
use Rattle.feed_reading.specs.declared.fault.FeedFault.TheVariants.{EntityTooLong, Wire, NotText, MissingField, Memory}
use Rattle.feed_reading.specs.Meaning.{bodies}
use Rattle.feed_reading.specs.Known.{Known, Nothing, WithText, WithMessage, WithMessages, feed_known}
use Rattle.feed_reading.specs.Faults.{Piece, whole, Stands, Inside, Only, InSome, IsTorn, IsNotText, Lacks, IsLacking, missing_place, IsMissing, HasFaultIn, IsLongAt, IsTooLong, HasFault, IsFeedFault, order, IsLeast}
use Rattle.feed_reading.specs.Found.{earlier_of, Among, SameSet, IsLongHere}
use Rattle.feed_reading.specs.Pieces.{InMessage, InEach}
use Rattle.feed_reading.proofs.FaultOrder.{least_either, least_same, among_append, among_front, among_back}
use Rattle.feed_reading.proofs.PieceSets.{same_turned, one_listed, in_same, faults_same}
use Rattle.feed_reading.proofs.PieceWalks.{not_torn, torn_there, no_text_here, text_here}
use Rattle.feed_reading.proofs.Walking.{from, stands_nowhere, none_at_end, long_here, long_later, long_on, long_only_here}
use Rattle.feed_reading.proofs.WholePieces.{IsList, list_more, stands_lacks, lacks_from}
use Rattle.feed_reading.proofs.WholeMessages.{first_tag, is_text_or, fields_not_torn}
use Rattle.feed_reading.proofs.LongEntities.{other_tag, no_tag, no_size, short_size, long_size, long_order}
use Rattle.feed_reading.proofs.FaultLaw.{meant_without_fault, not_long}
use Rattle.feed_reading.specs.Tables.{MeansFeed}
use Rattle.gw_base.specs.declared.messages.Feed.{Feed}

-- the first of these faults, or that there is none
abbrev pub Decided : (FeedFault → Type 0) → Type 0
Decided Has = (found : Option FeedFault) × IsLeast Has found

no_faults : Decided (λ f. ⊥)
no_faults = (None, λ f x. x)

either : (P Q : FeedFault → Type 0) → Decided P → Decided Q → Decided (λ f. P f ⊎ Q f)
either P Q a b = (earlier_of a.0 b.0, least_either P Q a.0 b.0 a.1 b.1)

otherwise_said : (P Q : FeedFault → Type 0) → ((f : FeedFault) → P f → Q f) → ((f : FeedFault) → Q f → P f)
    → Decided P → Decided Q
otherwise_said P Q to back a = (a.0, least_same P Q to back a.0 a.1)

-- ---- of one piece, and of some

torn_decided : (piece : Piece) → Decided (IsTorn piece)
torn_decided piece =
    elim (decided piece.bytes) [
      | inl read ↦ (None, not_torn piece read.0 read.1)
      | inr broken ↦ (
        Some (Wire (record { at = piece.start + broken.0; kind = broken.1 })),
        torn_there piece broken.0 broken.1 broken.2,
      )
    ]

text_decided : (piece : Piece) → Decided (IsNotText piece)
text_decided piece =
    elim (is_text_or piece) [
      | inl text ↦ (None, text_here piece text)
      | inr refused ↦ (Some (NotText piece.tag), no_text_here piece refused)
    ]

some_decided : (Has : Piece → FeedFault → Type 0) → ((piece : Piece) → Decided (Has piece)) → (pieces : List Piece)
    → Decided (InSome (Among pieces) Has)
some_decided Has each [] = (None, λ f x. x.1)
some_decided Has each (piece ∷ pieces) =
    otherwise_said (λ f. Has piece f ⊎ InSome (Among pieces) Has f) (InSome (Among (piece ∷ pieces)) Has)
    (λ f x. elim x [ inl here ↦ (piece, inl refl, here) | inr there ↦ (there.0, inr there.1, there.2) ])
    (λ f x. elim x.1 [ inl e ↦ inl (subst (λ (p : Piece). Has p f) e x.2) | inr a ↦ inr (x.0, a, x.2) ])
    (either (Has piece) (InSome (Among pieces) Has) (each piece) (some_decided Has each pieces))

-- ---- what stands in pieces

list_front : (number tag start : ℕ) (fields : List WireField) (front rest : List ℕ) → AreFields front fields
    → BeginsNone rest → IsList (Stands (from tag start (front ++ rest)) number) (bodies number fields)
list_front number tag start [] front rest h none =
    record {
      inner = [];
      same_bytes = refl;
      set = record {
        to = λ q st. stands_nowhere (from tag start rest) number q none
            (subst (λ (b : List ℕ). Stands (from tag start (b ++ rest)) number q) h st);
        back = λ q a. absurd a;
      };
    }
list_front number tag start (field ∷ fields) front rest h none =
    let more = list_more number tag start h.0 (h.1 ++ rest) field (bodies number fields) _ h.3 refl
    (list_front number tag (start + length h.0) fields h.1 rest h.4 none) in
    let parts : h.0 ++ (h.1 ++ rest) ≡ front ++ rest = sym (append_assoc h.0 h.1 rest)
    ∙ ap (λ (l : List ℕ). l ++ rest) (sym h.2) in
    subst (λ (b : List ℕ). IsList (Stands (from tag start b) number) (bodies number (field ∷ fields))) parts more

-- the pieces of a list that stand for a set
abbrev Inner : (Piece → Type 0) → Type 0
Inner Set = (inner : List Piece) × SameSet Set (Among inner)

piece_inner : (number : ℕ) (piece : Piece) → Inner (Stands piece number)
piece_inner number piece =
    elim (decided piece.bytes) [
      | inl read ↦
          let l = list_front number piece.tag piece.start read.0 piece.bytes [] read.1 none_at_end in (
            l.inner,
            subst (λ (b : List ℕ). SameSet (Stands (from piece.tag piece.start b) number) (Among l.inner))
                (append-nil piece.bytes) l.set,
          )
      | inr broken ↦
          let b = broken.2 in
          let l = list_front number piece.tag piece.start b.fields b.front b.rest b.read b.breaks.none in (
            l.inner,
            subst (λ (b : List ℕ). SameSet (Stands (from piece.tag piece.start b) number) (Among l.inner))
                (sym b.joined) l.set,
          )
    ]

all_inner : (number : ℕ) (pieces : List Piece) → Inner (Inside number (Among pieces))
all_inner number [] = ([], record { to = λ q x. x.1; back = λ q a. absurd a })
all_inner number (piece ∷ pieces) =
    let l = piece_inner number piece in
    let k = all_inner number pieces in (
      l.0 ++ k.0,
      record {
        to = λ q x. elim x.1 [
          | inl e ↦ among_front l.0 k.0 q (l.1.to q (subst (λ (p : Piece). Stands p number q) e x.2))
          | inr a ↦ among_back l.0 k.0 q (k.1.to q (x.0, a, x.2))
        ];
        back = λ q a. elim (among_append l.0 k.0 q a) [
          | inl b ↦ (piece, inl refl, l.1.back q b)
          | inr b ↦ (let x = k.1.back q b in (x.0, inr x.1, x.2))
        ];
      },
    )

-- ---- a missing field

torn_lacks : (number : ℕ) (piece : Piece) (f : FeedFault) → IsTorn piece f → Lacks number piece → ⊥
torn_lacks number piece f t l = fields_not_torn piece l.0 l.1 f t

not_lacking : (number end : ℕ) (name : Required) (M : Piece → Type 0) → (((p : Piece) → M p → Lacks number p) → ⊥)
    → (f : FeedFault) → IsMissing number (Some name) M end f → ⊥
not_lacking number end name M held (MissingField at missed) h = held h.1.lacks
not_lacking number end name M held (EntityTooLong at) h = h
not_lacking number end name M held (Wire fault) h = h
not_lacking number end name M held (NotText at) h = h
not_lacking number end name M held Memory h = h

missing_order : (number end first : ℕ) (name : Required) (M : Piece → Type 0) → IsLacking number M first
    → (f : FeedFault) → IsMissing number (Some name) M end f → missing_place name first end * 4 + 3 ≤ order f
missing_order number end first name M l (MissingField at missed) h =
    let least : first ≤ h.0 = omega (arith, l.least h.1.piece h.1.among, h.1.here) in
    let greatest : h.0 ≤ first = omega (arith, h.1.least l.piece l.among, l.here) in
    let same : first ≡ h.0 = omega arith in
    omega (arith, h.3, ap (λ (n : ℕ). missing_place name n end) same)
missing_order number end first name M l (EntityTooLong at) h = absurd h
missing_order number end first name M l (Wire fault) h = absurd h
missing_order number end first name M l (NotText at) h = absurd h
missing_order number end first name M l Memory h = absurd h

lacks_or : (number : ℕ) (piece : Piece) → ((q : Piece) → ¬ Stands piece number q)
    → ((f : FeedFault) → ¬ IsTorn piece f) → Lacks number piece
lacks_or number piece none unbroken =
    elim (decided piece.bytes) [
      | inl read ↦ lacks_from piece number read.0 read.1 none
      | inr broken ↦ absurd
          (unbroken (Wire (record { at = piece.start + broken.0; kind = broken.1 })) (broken.0, broken.2, refl))
    ]

missing_by : (number end : ℕ) (name : Required) (piece : Piece) (pieces inner : List Piece)
    → SameSet (Inside number (Among (piece ∷ pieces))) (Among inner) → (found : Option FeedFault)
    → IsLeast (InSome (Among (piece ∷ pieces)) IsTorn) found
    → Decided (IsMissing number (Some name) (Among (piece ∷ pieces)) end)
missing_by number end name piece pieces (q ∷ inner) set found torn =
    let x = set.back q (inl refl) in
    (None, not_lacking number end name (Among (piece ∷ pieces)) (λ all. stands_lacks x.0 q number (all x.0 x.1) x.2))
missing_by number end name piece pieces [] set (Some fault) torn = (
  None,
  not_lacking number end name (Among (piece ∷ pieces))
      (λ all. torn_lacks number torn.0.0 fault torn.0.2 (all torn.0.0 torn.0.1)),
)
missing_by number end name piece pieces [] set None torn =
    let t = first_tag piece pieces in
    let lacking : IsLacking number (Among (piece ∷ pieces)) t.0.tag = record {
      piece = t.0;
      among = t.1;
      here = refl;
      least = t.2;
      lacks = λ p a. lacks_or number p (λ q st. set.to q (p, a, st)) (λ f x. torn f (p, a, x));
    } in (
      Some (MissingField (missing_place name t.0.tag end) name),
      ((t.0.tag, lacking, refl, refl), missing_order number end t.0.tag name (Among (piece ∷ pieces)) lacking),
    )

no_piece_missing : (number end : ℕ) (name : Required) (f : FeedFault) → IsMissing number (Some name) (Among []) end f
    → ⊥
no_piece_missing number end name (MissingField at missed) h = h.1.among
no_piece_missing number end name (EntityTooLong at) h = h
no_piece_missing number end name (Wire fault) h = h
no_piece_missing number end name (NotText at) h = h
no_piece_missing number end name Memory h = h

missing_decided : (number end : ℕ) (name : Option Required) (pieces : List Piece)
    → Decided (IsMissing number name (Among pieces) end)
missing_decided number end None pieces = (None, λ f x. x)
missing_decided number end (Some name) [] = (None, no_piece_missing number end name)
missing_decided number end (Some name) (piece ∷ pieces) =
    let inner = all_inner number (piece ∷ pieces) in
    let torn = some_decided IsTorn torn_decided (piece ∷ pieces) in
    missing_by number end name piece pieces inner.0 inner.1 torn.0 torn.1

-- ---- the known fields of a message

pub in_decided : (known : Known) (end : ℕ) (pieces : List Piece) → Decided (HasFaultIn known (Among pieces) end)
in_decided Nothing end pieces = no_faults
in_decided (WithText number name others) end pieces =
    let inner = all_inner number pieces in
    let texts =
    otherwise_said (InSome (Among inner.0) IsNotText) (InSome (Inside number (Among pieces)) IsNotText)
    (in_same IsNotText (same_turned inner.1)) (in_same IsNotText inner.1)
    (some_decided IsNotText text_decided inner.0) in
    either (λ f. InSome (Inside number (Among pieces)) IsNotText f ⊎ IsMissing number name (Among pieces) end f)
    (HasFaultIn others (Among pieces) end)
    (either (InSome (Inside number (Among pieces)) IsNotText) (IsMissing number name (Among pieces) end) texts
    (missing_decided number end name pieces)) (in_decided others end pieces)
in_decided (WithMessage number name known others) end pieces =
    let inner = all_inner number pieces in
    let torn =
    otherwise_said (InSome (Among inner.0) IsTorn) (InSome (Inside number (Among pieces)) IsTorn)
    (in_same IsTorn (same_turned inner.1)) (in_same IsTorn inner.1) (some_decided IsTorn torn_decided inner.0) in
    let inside =
    otherwise_said (HasFaultIn known (Among inner.0) end) (HasFaultIn known (Inside number (Among pieces)) end)
    (faults_same known end (same_turned inner.1)) (faults_same known end inner.1)
    (in_decided known end inner.0) in
    either (λ f. InMessage known (Inside number (Among pieces)) end f ⊎ IsMissing number name (Among pieces) end f)
    (HasFaultIn others (Among pieces) end)
    (either (InMessage known (Inside number (Among pieces)) end) (IsMissing number name (Among pieces) end)
    (either (InSome (Inside number (Among pieces)) IsTorn) (HasFaultIn known (Inside number (Among pieces)) end) torn
    inside) (missing_decided number end name pieces)) (in_decided others end pieces)
in_decided (WithMessages number known others) end pieces =
    let inner = all_inner number pieces in
    let each = λ (piece : Piece).
    either (IsTorn piece) (HasFaultIn known (Only piece) end) (torn_decided piece)
    (otherwise_said (HasFaultIn known (Among (piece ∷ [])) end) (HasFaultIn known (Only piece) end)
    (faults_same known end (same_turned (one_listed piece))) (faults_same known end (one_listed piece))
    (in_decided known end (piece ∷ []))) in
    let found =
    otherwise_said (InSome (Among inner.0) (InEach known end))
    (InSome (Inside number (Among pieces)) (InEach known end)) (in_same (InEach known end) (same_turned inner.1))
    (in_same (InEach known end) inner.1)
    (some_decided (InEach known end) each inner.0) in
    either (InSome (Inside number (Among pieces)) (InEach known end)) (HasFaultIn others (Among pieces) end) found
    (in_decided others end pieces)

-- ---- an entity that is too long

number_by : (bytes : List ℕ) (read : Result (ℕ × List ℕ) WireKind) → varint_at bytes ≡ read
    → ((value : ℕ) × (rest : List ℕ) × BeginsNumber bytes value rest)
    ⊎ ((value : ℕ) (rest : List ℕ) → ¬ BeginsNumber bytes value rest)
number_by bytes (Ok found) e = inl (found.0, found.1, varint_found bytes found.0 found.1 e)
number_by bytes (Err kind) e =
    inr (λ value rest b. let d = sym (ap varint_at b.1 ∙ varint_again b.0 rest value b.2) ∙ e in absurd cc)

number_or : (bytes : List ℕ) → ((value : ℕ) × (rest : List ℕ) × BeginsNumber bytes value rest)
    ⊎ ((value : ℕ) (rest : List ℕ) → ¬ BeginsNumber bytes value rest)
number_or bytes = number_by bytes (varint_at bytes) refl

by_tag : (bytes : List ℕ) (tag : ℕ) (rest : List ℕ) → BeginsNumber bytes tag rest → (t : Bool) → (tag == 18) ≡ t
    → IsLongHere bytes ⊎ (¬ IsLongHere bytes)
by_tag bytes tag rest b true e =
    elim (number_or rest) [
      | inr none ↦ inr (no_size bytes rest tag b none)
      | inl m ↦ elim (cases_lt entity_limit m.0) [
        | inl lt ↦ inl (long_size bytes rest m.1 tag m.0 b m.2 (eqb-true tag 18 e) lt)
        | inr le ↦ inr (short_size bytes rest m.1 tag m.0 b m.2 le)
      ]
    ]
by_tag bytes tag rest b false e =
    inr (other_tag bytes rest tag b (λ same. let d = sym (eq-eqb tag 18 same) ∙ e in absurd cc))

long_here_or : (bytes : List ℕ) → IsLongHere bytes ⊎ (¬ IsLongHere bytes)
long_here_or bytes =
    elim (number_or bytes) [
      | inr none ↦ inr (no_tag bytes none)
      | inl n ↦ by_tag bytes n.0 n.1 n.2 (n.0 == 18) refl
    ]

-- the first one, or that there is none
abbrev LongOf : List ℕ → Type 0
LongOf bytes = ((at : ℕ) × IsLongAt bytes at × ((other : ℕ) → IsLongAt bytes other → at ≤ other))
    ⊎ ((at : ℕ) → ¬ IsLongAt bytes at)

long_front : (rest : List ℕ) → BeginsNone rest → LongOf rest
long_front rest none =
    elim (long_here_or rest) [
      | inl here ↦ inl (0, long_here rest here, λ other l. omega arith)
      | inr nowhere ↦ inr (λ at l. nowhere (long_only_here rest at none l))
    ]

long_further : (a b : List ℕ) (field : WireField) → IsSpelling 64 field a → LongOf b → LongOf (a ++ b)
long_further a b field spelled later =
    elim (long_here_or (a ++ b)) [
      | inl here ↦ inl (0, long_here (a ++ b) here, λ other l. omega arith)
      | inr nowhere ↦ elim later [
        | inl l ↦ inl (
          length a + l.0,
          long_later a b field l.0 spelled l.1,
          λ other m. elim (long_on a b field other spelled m) [
            | inl here ↦ absurd (nowhere here)
            | inr after ↦ omega (arith, after.1, l.2 after.0 after.2)
          ],
        )
        | inr none ↦ inr
            (λ at m. elim (long_on a b field at spelled m)
            [ inl here ↦ nowhere here | inr after ↦ none after.0 after.2 ])
      ]
    ]

long_of : (fields : List WireField) (front rest : List ℕ) → AreFields front fields → BeginsNone rest
    → LongOf (front ++ rest)
long_of [] front rest h none = subst (λ (b : List ℕ). LongOf (b ++ rest)) (sym h) (long_front rest none)
long_of (field ∷ fields) front rest h none =
    let parts : h.0 ++ (h.1 ++ rest) ≡ front ++ rest = sym (append_assoc h.0 h.1 rest)
    ∙ ap (λ (l : List ℕ). l ++ rest) (sym h.2) in
    subst (λ (b : List ℕ). LongOf b) parts (long_further h.0 (h.1 ++ rest) field h.3 (long_of fields h.1 rest h.4 none))

long_decided : (bytes : List ℕ) → LongOf bytes
long_decided bytes =
    elim (decided bytes) [
      | inl read ↦ subst (λ (b : List ℕ). LongOf b) (append-nil bytes) (long_of read.0 bytes [] read.1 none_at_end)
      | inr broken ↦ (let b = broken.2 in
          subst (λ (l : List ℕ). LongOf l) (sym b.joined) (long_of b.fields b.front b.rest b.read b.breaks.none))
    ]

too_long_decided : (bytes : List ℕ) → Decided (IsTooLong bytes)
too_long_decided bytes =
    elim (long_decided bytes) [
      | inl l ↦ (Some (EntityTooLong l.0), (l.1, long_order bytes l.0 l.2))
      | inr none ↦ (None, not_long bytes none)
    ]

-- ---- the feed

fault_decided : (bytes : List ℕ) → Decided (HasFault bytes)
fault_decided bytes =
    let inside =
    otherwise_said (HasFaultIn feed_known (Among (whole bytes ∷ [])) (length bytes))
    (HasFaultIn feed_known (Only (whole bytes)) (length bytes))
    (faults_same feed_known (length bytes) (same_turned (one_listed (whole bytes))))
    (faults_same feed_known (length bytes) (one_listed (whole bytes)))
    (in_decided feed_known (length bytes) (whole bytes ∷ [])) in
    either (IsTooLong bytes) (InEach feed_known (length bytes) (whole bytes)) (too_long_decided bytes)
    (either (IsTorn (whole bytes)) (HasFaultIn feed_known (Only (whole bytes)) (length bytes))
    (torn_decided (whole bytes)) inside)

abbrev pub OneOrOther : List ℕ → Type 0
OneOrOther bytes = ((fault : FeedFault) × IsFeedFault bytes fault)
    ⊎ (((feed : Feed) × MeansFeed bytes feed) × ((at : ℕ) → ¬ IsLongAt bytes at))

by_found : (bytes : List ℕ) (found : Option FeedFault) → IsLeast (HasFault bytes) found → OneOrOther bytes
by_found bytes None least = inr (meant_without_fault bytes least)
by_found bytes (Some fault) least = inl (fault, least)

pub fault_or_feed : (bytes : List ℕ) → OneOrOther bytes
fault_or_feed bytes = let found = fault_decided bytes in by_found bytes found.0 found.1
