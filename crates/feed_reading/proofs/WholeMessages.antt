-- Messages of which all pieces are lists of fields: what stands in them, and where nothing is wrong with it.
use Rattle.std.proofs.Common.{◌≡◌, ◌≢◌, ℕ, ◌+◌, ◌≤◌, Bool, true, false, List, [], ◌∷◌, ◌++◌, refl, sym, ap, subst, ◌∙◌, inl, inr, arith}
use Rattle.std.proofs.lemmas.List.{append-nil, map-append}
use Rattle.std.proofs.lemmas.Bool.{cases_lt}
use Rattle.std.proofs.lemmas.Str.{IsUtf8-from_is_utf8, is_utf8-from_IsUtf8}
use Rattle.std.specs.Prelude.{◌⊎◌, Option, Some, None, IsUtf8}
use Rattle.std.specs.Str.{is_utf8}
use Rattle.std.specs.List.{AllByRecursion, AllZip, concat, last_or}
use Rattle.wire_fields.specs.Grammar.{WireField, IsSpelling, AreFields}
use Rattle.wire_fields.proofs.Lists.{Concatenates-append}
use Rattle.wire_fields.proofs.Broken.{fields_once, fields_or_broken}
use Rattle.wire_fields.proofs.Existence.{decided}
use Rattle.gw_base.specs.declared.required.Required.{Required}
use Rattle.feed_reading.specs.declared.fault.FeedFault.{FeedFault}
use Rattle.feed_reading.specs.declared.fault.FeedFault.TheVariants.{EntityTooLong, Wire, NotText, MissingField, Memory}
use Rattle.feed_reading.specs.Meaning.{bodies, Means, IsJoined, AreBodies, IsMessage, AreMessages}
use Rattle.feed_reading.specs.Known.{Known}
use Rattle.feed_reading.specs.Faults.{Piece, Stands, Inside, Only, InSome, IsTorn, IsNotText, Lacks, IsLacking, missing_place, IsMissing, HasFaultIn}
use Rattle.feed_reading.specs.Found.{Among, SameSet}
use Rattle.feed_reading.specs.Pieces.{InMessage, InEach}
use Rattle.feed_reading.proofs.FaultOrder.{among_append, among_front, among_back}
use Rattle.feed_reading.proofs.PieceSets.{same_turned, one_listed, in_same, faults_same, faults_some}
use Rattle.feed_reading.proofs.WholePieces.{bytes_of, IsList, list_piece}
use Rattle.feed_reading.proofs.Building.{bodies-more}

-- each piece is a list of fields, and together they are these
abbrev pub AreWhole : List Piece → List WireField → Type 0
AreWhole [] fields = fields ≡ []
AreWhole (piece ∷ pieces) fields =
    (first : List WireField) × (others : List WireField) × AreFields piece.bytes first × AreWhole pieces others
    × (fields ≡ first ++ others)

pub one_whole : (piece : Piece) (fields : List WireField) → AreFields piece.bytes fields → AreWhole (piece ∷ []) fields
one_whole piece fields read = (fields, [], read, refl, sym (append-nil fields))

pub inside_whole : (number : ℕ) (pieces : List Piece) (fields : List WireField) → AreWhole pieces fields
    → IsList (Inside number (Among pieces)) (bodies number fields)
inside_whole number [] fields w = record {
  inner = [];
  same_bytes = ap (bodies number) (sym w);
  set = record { to = λ q x. x.1; back = λ q a. absurd a };
}
inside_whole number (piece ∷ pieces) fields w =
    let l = list_piece number piece.tag piece.start w.0 piece.bytes w.2 in
    let k = inside_whole number pieces w.1 w.3 in
    record {
      inner = l.inner ++ k.inner;
      same_bytes =
          map-append (λ (p : Piece). p.bytes) l.inner k.inner
          ∙ ap (λ (bs : List (List ℕ)). bs ++ bytes_of k.inner) l.same_bytes
          ∙ ap (λ (bs : List (List ℕ)). bodies number w.0 ++ bs) k.same_bytes
          ∙ sym (bodies-more number w.0 w.1) ∙ ap (bodies number) (sym w.4);
      set = record {
        to = λ q x. elim x.1 [
          | inl e ↦ among_front l.inner k.inner q (l.set.to q (subst (λ (p : Piece). Stands p number q) e x.2))
          | inr a ↦ among_back l.inner k.inner q (k.set.to q (x.0, a, x.2))
        ];
        back = λ q a. elim (among_append l.inner k.inner q a) [
          | inl b ↦ (piece, inl refl, l.set.back q b)
          | inr b ↦ (let x = k.set.back q b in (x.0, inr x.1, x.2))
        ];
      };
    }

pub whole_joined : (pieces : List Piece) (fields : List WireField) → AreWhole pieces fields
    → AreFields (concat (bytes_of pieces)) fields
whole_joined [] fields w = subst (λ (fs : List WireField). AreFields [] fs) (sym w) refl
whole_joined (piece ∷ pieces) fields w =
    subst (λ (fs : List WireField). AreFields (piece.bytes ++ concat (bytes_of pieces)) fs) (sym w.4)
    (Concatenates-append (IsSpelling 64) w.0 w.1 piece.bytes (concat (bytes_of pieces)) w.2
    (whole_joined pieces w.1 w.3))

pub whole_bodies : (pieces : List Piece) (fields : List WireField) → AreWhole pieces fields
    → AreBodies (bytes_of pieces)
whole_bodies [] fields w = tt
whole_bodies (piece ∷ pieces) fields w = ((w.0, w.2), whole_bodies pieces w.1 w.3)

pub whole_from : (pieces : List Piece) → AreBodies (bytes_of pieces)
    → (fields : List WireField) × AreWhole pieces fields
whole_from [] h = ([], refl)
whole_from (piece ∷ pieces) h = let rest = whole_from pieces h.1 in
    (h.0.0 ++ rest.0, (h.0.0, rest.0, h.0.1, rest.1, refl))

pub unbroken : (piece : Piece) → ((f : FeedFault) → ¬ IsTorn piece f)
    → (fields : List WireField) × AreFields piece.bytes fields
unbroken piece none =
    elim (decided piece.bytes) [
      | inl read ↦ read
      | inr broken ↦ absurd
          (none (Wire (record { at = piece.start + broken.0; kind = broken.1 })) (broken.0, broken.2, refl))
    ]

pub whole_unbroken : (pieces : List Piece) → ((f : FeedFault) → ¬ InSome (Among pieces) IsTorn f)
    → (fields : List WireField) × AreWhole pieces fields
whole_unbroken [] none = ([], refl)
whole_unbroken (piece ∷ pieces) none =
    let first = unbroken piece (λ f t. none f (piece, inl refl, t)) in
    let rest = whole_unbroken pieces (λ f x. none f (x.0, inr x.1, x.2)) in
    (first.0 ++ rest.0, (first.0, rest.0, first.1, rest.1, refl))

pub fields_not_torn : (piece : Piece) (fields : List WireField) → AreFields piece.bytes fields → (f : FeedFault)
    → IsTorn piece f → ⊥
fields_not_torn piece fields read (Wire fault) h = fields_or_broken piece.bytes fields h.0 fault.kind read h.1
fields_not_torn piece fields read (EntityTooLong at) h = h
fields_not_torn piece fields read (NotText at) h = h
fields_not_torn piece fields read (MissingField at name) h = h
fields_not_torn piece fields read Memory h = h

pub whole_not_torn : (pieces : List Piece) (fields : List WireField) → AreWhole pieces fields
    → (f : FeedFault) (p : Piece) → Among pieces p → IsTorn p f → ⊥
whole_not_torn [] fields w f p a t = a
whole_not_torn (piece ∷ pieces) fields w f p (inl e) t =
    fields_not_torn piece w.0 w.2 f (subst (λ (q : Piece). IsTorn q f) e t)
whole_not_torn (piece ∷ pieces) fields w f p (inr a) t = whole_not_torn pieces w.1 w.3 f p a t

-- ---- which pieces lack a field

pub nil_parts : {X : Type 0} (xs ys : List X) → xs ++ ys ≡ [] → (xs ≡ []) × (ys ≡ [])
nil_parts [] ys e = (refl, e)
nil_parts (x ∷ xs) ys e = absurd cc

pub all_lack : (number : ℕ) (pieces : List Piece) (fields : List WireField) → AreWhole pieces fields
    → bodies number fields ≡ [] → (p : Piece) → Among pieces p → Lacks number p
all_lack number [] fields w none p a = absurd a
all_lack number (piece ∷ pieces) fields w none p a =
    let parts = nil_parts (bodies number w.0) (bodies number w.1)
    (sym (bodies-more number w.0 w.1) ∙ ap (bodies number) (sym w.4) ∙ none) in
    elim a [
      | inl e ↦ subst (λ (q : Piece). Lacks number q) (sym e) (w.0, w.2, parts.0)
      | inr b ↦ all_lack number pieces w.1 w.3 parts.1 p b
    ]

pub lack_bodies : (number : ℕ) (pieces : List Piece) (fields : List WireField) → AreWhole pieces fields
    → ((p : Piece) → Among pieces p → Lacks number p) → bodies number fields ≡ []
lack_bodies number [] fields w lack = ap (bodies number) w
lack_bodies number (piece ∷ pieces) fields w lack =
    let here = lack piece (inl refl) in
    let first : bodies number w.0 ≡ [] = ap (bodies number) (fields_once piece.bytes w.0 here.0 w.2 here.1) ∙ here.2 in
    let rest : bodies number w.1 ≡ [] = lack_bodies number pieces w.1 w.3 (λ p a. lack p (inr a)) in
    ap (bodies number) w.4 ∙ bodies-more number w.0 w.1 ∙ ap (λ (bs : List (List ℕ)). bs ++ bodies number w.1) first
    ∙ rest

-- the first tag of a message
pub first_tag : (piece : Piece) (pieces : List Piece) → (p : Piece) × Among (piece ∷ pieces) p
    × ((other : Piece) → Among (piece ∷ pieces) other → p.tag ≤ other.tag)
first_tag piece [] = (
  piece,
  inl refl,
  λ other a. elim a [ inl e ↦ (let tag = ap (λ (q : Piece). q.tag) e in omega arith) | inr none ↦ absurd none ],
)
first_tag piece (next ∷ pieces) =
    let rest = first_tag next pieces in
    elim (cases_lt piece.tag rest.0.tag) [
      | inl lt ↦ (
        piece,
        inl refl,
        λ other a. elim a [
          | inl e ↦ (let tag = ap (λ (q : Piece). q.tag) e in omega arith)
          | inr b ↦ (let le = rest.2 other b in omega arith)
        ],
      )
      | inr le ↦ (
        rest.0,
        inr rest.1,
        λ other a. elim a [
          | inl e ↦ (let tag = ap (λ (q : Piece). q.tag) e in omega arith)
          | inr b ↦ rest.2 other b
        ],
      )
    ]

-- a field that isn't missing has a body
pub not_missing : (number end : ℕ) (name : Required) (piece : Piece) (pieces : List Piece) (fields : List WireField)
    → AreWhole (piece ∷ pieces) fields
    → ((f : FeedFault) → ¬ IsMissing number (Some name) (Among (piece ∷ pieces)) end f) → bodies number fields ≢ []
not_missing number end name piece pieces fields w none e =
    let t = first_tag piece pieces in
    let lacking : IsLacking number (Among (piece ∷ pieces)) t.0.tag =
    record { piece = t.0; among = t.1; here = refl; least = t.2; lacks = all_lack number (piece ∷ pieces) fields w e }
    in
    none (MissingField (missing_place name t.0.tag end) name) (t.0.tag, lacking, refl, refl)

-- and one that has a body isn't missing
pub held_not_missing : (number end : ℕ) (name : Option Required) (pieces : List Piece) (fields : List WireField)
    → AreWhole pieces fields → bodies number fields ≢ []
    → (f : FeedFault) → IsMissing number name (Among pieces) end f → ⊥
held_not_missing number end None pieces fields w some f h = h
held_not_missing number end (Some name) pieces fields w some (MissingField at missed) h =
    some (lack_bodies number pieces fields w h.1.lacks)
held_not_missing number end (Some name) pieces fields w some (EntityTooLong at) h = h
held_not_missing number end (Some name) pieces fields w some (Wire fault) h = h
held_not_missing number end (Some name) pieces fields w some (NotText at) h = h
held_not_missing number end (Some name) pieces fields w some Memory h = h

-- ---- texts

pub is_text_or : (piece : Piece) → (IsUtf8 piece.bytes) ⊎ (¬ IsUtf8 piece.bytes)
is_text_or piece = by_test piece (is_utf8 piece.bytes) refl where
  by_test : (piece : Piece) (t : Bool) → is_utf8 piece.bytes ≡ t → (IsUtf8 piece.bytes) ⊎ (¬ IsUtf8 piece.bytes)
  by_test piece true e = inl (IsUtf8-from_is_utf8 piece.bytes e)
  by_test piece false e = inr (λ text. let d = sym (is_utf8-from_IsUtf8 piece.bytes text) ∙ e in absurd cc)

all_texts : (inner : List Piece) → ((f : FeedFault) → ¬ InSome (Among inner) IsNotText f)
    → AllByRecursion IsUtf8 (bytes_of inner)
all_texts [] none = tt
all_texts (piece ∷ inner) none = (
  elim (is_text_or piece) [
    | inl text ↦ text
    | inr refused ↦ absurd (none (NotText piece.tag) (piece, inl refl, (refl, refused)))
  ],
  all_texts inner (λ f x. none f (x.0, inr x.1, x.2)),
)

pub texts_read : (number : ℕ) (pieces : List Piece) (fields : List WireField) → AreWhole pieces fields
    → ((f : FeedFault) → ¬ InSome (Inside number (Among pieces)) IsNotText f)
    → AllByRecursion IsUtf8 (bodies number fields)
texts_read number pieces fields w none =
    let l = inside_whole number pieces fields w in
    subst (λ (bs : List (List ℕ)). AllByRecursion IsUtf8 bs) l.same_bytes
    (all_texts l.inner (λ f x. none f (in_same IsNotText (same_turned l.set) f x)))

text_is_none : (piece : Piece) → IsUtf8 piece.bytes → (f : FeedFault) → IsNotText piece f → ⊥
text_is_none piece text (NotText at) h = h.1 text
text_is_none piece text (EntityTooLong at) h = h
text_is_none piece text (Wire fault) h = h
text_is_none piece text (MissingField at name) h = h
text_is_none piece text Memory h = h

text_among : (inner : List Piece) → AllByRecursion IsUtf8 (bytes_of inner) → (p : Piece) → Among inner p
    → IsUtf8 p.bytes
text_among [] h p a = absurd a
text_among (piece ∷ inner) h p (inl e) = subst (λ (q : Piece). IsUtf8 q.bytes) (sym e) h.0
text_among (piece ∷ inner) h p (inr a) = text_among inner h.1 p a

pub texts_clean : (number : ℕ) (pieces : List Piece) (fields : List WireField) → AreWhole pieces fields
    → AllByRecursion IsUtf8 (bodies number fields) → (f : FeedFault)
    → InSome (Inside number (Among pieces)) IsNotText f → ⊥
texts_clean number pieces fields w texts f x =
    let l = inside_whole number pieces fields w in
    text_is_none x.0
    (text_among l.inner (subst (λ (bs : List (List ℕ)). AllByRecursion IsUtf8 bs) (sym l.same_bytes) texts) x.0
    (l.set.to x.0 x.1)) f x.2

last_some : (body : List ℕ) (bodies : List (List ℕ)) → (text : List ℕ) × (Some text ≡ last_or (Some body) bodies)
last_some body [] = (body, refl)
last_some body (next ∷ bodies) = last_some next bodies

pub last_there : (bodies : List (List ℕ)) → bodies ≢ [] → (text : List ℕ) × (Some text ≡ last_or None bodies)
last_there [] some = absurd (some refl)
last_there (body ∷ bodies) some = last_some body bodies

pub text_there : (bodies : List (List ℕ)) (text : List ℕ) → Some text ≡ last_or None bodies → bodies ≢ []
text_there [] text e none = absurd cc
text_there (body ∷ bodies) text e none = absurd cc

-- ---- messages in messages

-- where a message has no fault, its fields mean one; and where they mean one, it has none
abbrev pub Reads : {M : Type 0} → Known → (List WireField → M → Type 0) → Type 0
Reads {M} known Table =
    (end : ℕ) (piece : Piece) (pieces : List Piece) (fields : List WireField) → AreWhole (piece ∷ pieces) fields
    → ((f : FeedFault) → ¬ HasFaultIn known (Among (piece ∷ pieces)) end f) → (m : M) × Table fields m

abbrev pub Clean : {M : Type 0} → Known → (List WireField → M → Type 0) → Type 0
Clean {M} known Table =
    (end : ℕ) (pieces : List Piece) (fields : List WireField) (m : M) → AreWhole pieces fields → Table fields m
    → (f : FeedFault) → HasFaultIn known (Among pieces) end f → ⊥

abbrev IsRead : {M : Type 0} → (List WireField → M → Type 0) → List (List ℕ) → Option M → Type 0
IsRead Table bodies message = AreBodies bodies × IsJoined Table bodies message

read_pieces : {M : Type 0} (known : Known) (Table : List WireField → M → Type 0) → Reads known Table
    → (end : ℕ) (inner : List Piece) → ((f : FeedFault) → ¬ InMessage known (Among inner) end f)
    → (message : Option M) × IsRead Table (bytes_of inner) message × (inner ≢ [] → message ≢ None)
read_pieces known Table reads end [] none = (None, (tt, tt), λ some e. some refl)
read_pieces known Table reads end (piece ∷ inner) none =
    let w = whole_unbroken (piece ∷ inner) (λ f x. none f (inl x)) in
    let m = reads end piece inner w.0 w.1 (λ f x. none f (inr x)) in (
      Some m.0,
      (
        whole_bodies (piece ∷ inner) w.0 w.1,
        record { fields = w.0; read = whole_joined (piece ∷ inner) w.0 w.1; table = m.1 },
      ),
      λ some e. absurd cc,
    )

in_message_same : (known : Known) (end : ℕ) {M N : Piece → Type 0} → SameSet M N → (f : FeedFault)
    → InMessage known M end f → InMessage known N end f
in_message_same known end h f (inl x) = inl (in_same IsTorn h f x)
in_message_same known end h f (inr x) = inr (faults_same known end h f x)

no_bytes : (inner : List Piece) → bytes_of inner ≢ [] → inner ≢ []
no_bytes inner some e = some (ap bytes_of e)

pub message_read : {M : Type 0} (known : Known) (Table : List WireField → M → Type 0) → Reads known Table
    → (end number : ℕ) (pieces : List Piece) (fields : List WireField) → AreWhole pieces fields
    → ((f : FeedFault) → ¬ InMessage known (Inside number (Among pieces)) end f)
    → (message : Option M) × IsMessage Table number fields message × (bodies number fields ≢ [] → message ≢ None)
message_read known Table reads end number pieces fields w none =
    let l = inside_whole number pieces fields w in
    let read = read_pieces known Table reads end l.inner
    (λ f x. none f (in_message_same known end (same_turned l.set) f x)) in (
      read.0,
      subst (λ (bs : List (List ℕ)). IsRead Table bs read.0) l.same_bytes read.1,
      λ some. read.2 (no_bytes l.inner (λ e. some (sym l.same_bytes ∙ e))),
    )

some_of : {M : Type 0} (message : Option M) → message ≢ None → (m : M) × (message ≡ Some m)
some_of None some = absurd (some refl)
some_of (Some m) some = (m, refl)

pub required_read : {M : Type 0} (known : Known) (Table : List WireField → M → Type 0) → Reads known Table
    → (end number : ℕ) (name : Required) (piece : Piece) (pieces : List Piece) (fields : List WireField)
    → AreWhole (piece ∷ pieces) fields
    → ((f : FeedFault) → ¬ InMessage known (Inside number (Among (piece ∷ pieces))) end f)
    → ((f : FeedFault) → ¬ IsMissing number (Some name) (Among (piece ∷ pieces)) end f)
    → (m : M) × IsMessage Table number fields (Some m)
required_read {M} known Table reads end number name piece pieces fields w none there =
    let read = message_read known Table reads end number (piece ∷ pieces) fields w none in
    let m = some_of read.0 (read.2 (not_missing number end name piece pieces fields w there)) in
    (m.0, subst (λ (o : Option M). IsMessage Table number fields o) m.1 read.1)

read_each : {M : Type 0} (known : Known) (Table : List WireField → M → Type 0) → Reads known Table
    → (end : ℕ) (inner : List Piece) → ((f : FeedFault) → ¬ InSome (Among inner) (InEach known end) f)
    → (messages : List M) × AllZip (Means Table) (bytes_of inner) messages
read_each known Table reads end [] none = ([], tt)
read_each known Table reads end (piece ∷ inner) none =
    let read = unbroken piece (λ f t. none f (piece, inl refl, inl t)) in
    let m = reads end piece [] read.0 (one_whole piece read.0 read.1)
    (λ f x. none f (piece, inl refl, inr (faults_same known end (same_turned (one_listed piece)) f x))) in
    let rest = read_each known Table reads end inner (λ f x. none f (x.0, inr x.1, x.2)) in
    (m.0 ∷ rest.0, (record { fields = read.0; read = read.1; table = m.1 }, rest.1))

pub messages_read : {M : Type 0} (known : Known) (Table : List WireField → M → Type 0) → Reads known Table
    → (end number : ℕ) (pieces : List Piece) (fields : List WireField) → AreWhole pieces fields
    → ((f : FeedFault) → ¬ InSome (Inside number (Among pieces)) (InEach known end) f)
    → (messages : List M) × AreMessages Table number fields messages
messages_read known Table reads end number pieces fields w none =
    let l = inside_whole number pieces fields w in
    let read = read_each known Table reads end l.inner
    (λ f x. none f (in_same (InEach known end) (same_turned l.set) f x)) in
    (read.0, subst (λ (bs : List (List ℕ)). AllZip (Means Table) bs read.0) l.same_bytes read.1)

-- ---- and the other way

clean_pieces : {M : Type 0} (known : Known) (Table : List WireField → M → Type 0) → Clean known Table
    → (end : ℕ) (inner : List Piece) (message : Option M) → IsRead Table (bytes_of inner) message → (f : FeedFault)
    → InMessage known (Among inner) end f → ⊥
clean_pieces known Table clean end [] message h f (inl x) = x.1
clean_pieces known Table clean end [] message h f (inr x) = (faults_some known end (Among []) f x).1
clean_pieces known Table clean end (piece ∷ inner) None h f x = absurd h.1
clean_pieces known Table clean end (piece ∷ inner) (Some m) h f (inl x) = let w =
    whole_from (piece ∷ inner) h.0 in whole_not_torn (piece ∷ inner) w.0 w.1 f x.0 x.1 x.2
clean_pieces {M} known Table clean end (piece ∷ inner) (Some m) h f (inr x) =
    let w = whole_from (piece ∷ inner) h.0 in
    let same : h.1.fields ≡ w.0 =
    fields_once (concat (bytes_of (piece ∷ inner))) h.1.fields w.0 h.1.read
    (whole_joined (piece ∷ inner) w.0 w.1) in
    clean end (piece ∷ inner) w.0 m w.1 (subst (λ (fs : List WireField). Table fs m) same h.1.table) f x

pub message_clean : {M : Type 0} (known : Known) (Table : List WireField → M → Type 0) → Clean known Table
    → (end number : ℕ) (pieces : List Piece) (fields : List WireField) (message : Option M) → AreWhole pieces fields
    → IsMessage Table number fields message
    → (f : FeedFault) → InMessage known (Inside number (Among pieces)) end f → ⊥
message_clean known Table clean end number pieces fields message w h f x =
    let l = inside_whole number pieces fields w in
    clean_pieces known Table clean end l.inner message
    (subst (λ (bs : List (List ℕ)). IsRead Table bs message) (sym l.same_bytes) h) f
    (in_message_same known end l.set f x)

message_bodies : {M : Type 0} (Table : List WireField → M → Type 0) (bodies : List (List ℕ)) (m : M)
    → IsJoined Table bodies (Some m) → bodies ≢ []
message_bodies Table [] m h e = h
message_bodies Table (body ∷ bodies) m h e = absurd cc

pub message_not_missing : {M : Type 0} (Table : List WireField → M → Type 0) (end number : ℕ) (name : Option Required)
    (pieces : List Piece) (fields : List WireField) (m : M) → AreWhole pieces fields
    → IsMessage Table number fields (Some m)
    → (f : FeedFault) → IsMissing number name (Among pieces) end f → ⊥
message_not_missing Table end number name pieces fields m w h f x =
    held_not_missing number end name pieces fields w (message_bodies Table (bodies number fields) m h.1) f x

clean_each : {M : Type 0} (known : Known) (Table : List WireField → M → Type 0) → Clean known Table
    → (end : ℕ) (inner : List Piece) (messages : List M) → AllZip (Means Table) (bytes_of inner) messages
    → (f : FeedFault) (p : Piece) → Among inner p → InEach known end p f → ⊥
clean_each known Table clean end [] messages h f p a x = a
clean_each known Table clean end (piece ∷ inner) [] h f p a x = h
clean_each known Table clean end (piece ∷ inner) (m ∷ messages) h f p (inr a) x =
    clean_each known Table clean end inner messages h.1 f p a x
clean_each known Table clean end (piece ∷ inner) (m ∷ messages) h f p (inl e) (inl t) =
    fields_not_torn piece h.0.fields h.0.read f (subst (λ (q : Piece). IsTorn q f) e t)
clean_each known Table clean end (piece ∷ inner) (m ∷ messages) h f p (inl e) (inr x) =
    clean end (piece ∷ []) h.0.fields m (one_whole piece h.0.fields h.0.read) h.0.table f
    (faults_same known end (one_listed piece) f (subst (λ (q : Piece). HasFaultIn known (Only q) end f) e x))

pub messages_clean : {M : Type 0} (known : Known) (Table : List WireField → M → Type 0) → Clean known Table
    → (end number : ℕ) (pieces : List Piece) (fields : List WireField) (messages : List M) → AreWhole pieces fields
    → AreMessages Table number fields messages
    → (f : FeedFault) → InSome (Inside number (Among pieces)) (InEach known end) f → ⊥
messages_clean known Table clean end number pieces fields messages w h f x =
    let l = inside_whole number pieces fields w in
    clean_each known Table clean end l.inner messages
    (subst (λ (bs : List (List ℕ)). AllZip (Means Table) bs messages) (sym l.same_bytes) h) f x.0
    (l.set.to x.0 x.1) x.2
