-- Where an entity is too long.
use Rattle.std.proofs.Common.{◌≡◌, ℕ, ◌+◌, ◌*◌, ◌<◌, ◌≤◌, Bool, true, false, List, ◌++◌, length, refl, sym, ap, subst, ◌∙◌, inl, inr, arith}
use Rattle.std.specs.Prelude.{Some, None, nat_lt, MatchBool}
use Rattle.wire_fields.specs.Grammar.{WireField, IsVarint, BeginsNumber}
use Rattle.wire_fields.specs.Breaks.{BeginsNone}
use Rattle.std.proofs.lemmas.Bool.{ltb-true, ltb-false}
use Rattle.wire_fields.specs.Reading.{varint_at}
use Rattle.wire_fields.proofs.Numbers.{ok_is, varint_again}
use Rattle.feed_reading.specs.Limits.{entity_limit}
use Rattle.feed_reading.specs.declared.fault.FeedFault.{FeedFault}
use Rattle.feed_reading.specs.declared.fault.FeedFault.TheVariants.{EntityTooLong, Wire, NotText, MissingField, Memory}
use Rattle.feed_reading.specs.declared.finder.piece.Piece.{Piece}
use Rattle.feed_reading.specs.Faults.{IsLongAt, IsTooLong, order, IsLeast}
use Rattle.feed_reading.specs.Found.{IsLongHere}
use Rattle.feed_reading.specs.Pieces.{IsFollowed}
use Rattle.feed_reading.proofs.Walking.{long_here, long_later, long_on, long_only_here}

-- bytes begin with one number at most
pub number_once : (bytes : List ℕ) (value other : ℕ) (rest left : List ℕ) → BeginsNumber bytes value rest
    → BeginsNumber bytes other left → (value ≡ other) × (rest ≡ left)
number_once bytes value other rest left h k =
    let first = ap varint_at h.1 ∙ varint_again h.0 rest value h.2 in
    let second = ap varint_at k.1 ∙ varint_again k.0 left other k.2 in
    let pair = ok_is (value, rest) (other, left) (sym first ∙ second) in
    (ap (λ (p : ℕ × List ℕ). p.0) pair, ap (λ (p : ℕ × List ℕ). p.1) pair)

pub tag_of_long : (bytes : List ℕ) → (h : IsLongHere bytes) → BeginsNumber bytes 18 (h.size ++ h.rest)
tag_of_long bytes h = (h.tag, h.joined, h.tagged)

pub other_tag : (bytes rest : List ℕ) (tag : ℕ) → BeginsNumber bytes tag rest → (tag ≡ 18 → ⊥) → ¬ IsLongHere bytes
other_tag bytes rest tag b ne h = ne (number_once bytes tag 18 rest (h.size ++ h.rest) b (tag_of_long bytes h)).0

pub no_tag : (bytes : List ℕ) → ((value : ℕ) (rest : List ℕ) → ¬ BeginsNumber bytes value rest) → ¬ IsLongHere bytes
no_tag bytes none h = none 18 (h.size ++ h.rest) (tag_of_long bytes h)

-- after the tag stands the length
size_of : (bytes rest : List ℕ) (tag : ℕ) → BeginsNumber bytes tag rest → (h : IsLongHere bytes)
    → BeginsNumber rest h.len h.rest
size_of bytes rest tag b h = (h.size, (number_once bytes tag 18 rest (h.size ++ h.rest) b (tag_of_long bytes h)).1, h.sized)

pub no_size : (bytes rest : List ℕ) (tag : ℕ) → BeginsNumber bytes tag rest
    → ((value : ℕ) (left : List ℕ) → ¬ BeginsNumber rest value left) → ¬ IsLongHere bytes
no_size bytes rest tag b none h = none h.len h.rest (size_of bytes rest tag b h)

pub short_size : (bytes rest left : List ℕ) (tag len : ℕ) → BeginsNumber bytes tag rest
    → BeginsNumber rest len left → len ≤ entity_limit → ¬ IsLongHere bytes
short_size bytes rest left tag len b k le h = let same =
    (number_once rest len h.len left h.rest k (size_of bytes rest tag b h)).0 in let long = h.long in omega arith

pub long_size : (bytes rest left : List ℕ) (tag len : ℕ) → BeginsNumber bytes tag rest
    → BeginsNumber rest len left → tag ≡ 18 → entity_limit < len → IsLongHere bytes
long_size bytes rest left tag len b k is long = record {
  tag = b.0;
  size = k.0;
  rest = left;
  joined = b.1 ∙ ap (λ (l : List ℕ). b.0 ++ l) k.1;
  tagged = subst (λ (n : ℕ). IsVarint b.0 n) is b.2;
  len = len;
  sized = k.2;
  long = long;
}

-- ---- the walk

-- too long entities of the bytes are those of the rest, which begins with none
pub record LongIn (bytes : List ℕ) (rest : Piece) : Type 0 where
  pub to : (at : ℕ) → IsLongAt bytes at → (q : ℕ) × (at ≡ rest.start + q) × IsLongAt rest.bytes.now q
  pub back : (q : ℕ) → IsLongAt rest.bytes.now q → IsLongAt bytes (rest.start + q)
  pub here : ¬ IsLongHere rest.bytes.now

pub long_in_all : (bytes : List ℕ) (rest : Piece) → rest.start ≡ 0 → rest.bytes.now ≡ bytes
    → ¬ IsLongHere rest.bytes.now → LongIn bytes rest
long_in_all bytes rest zero same none = record {
  to = λ at h. (at, omega arith, subst (λ (b : List ℕ). IsLongAt b at) (sym same) h);
  back = λ q h. subst (λ (n : ℕ). IsLongAt bytes n) (let e : q ≡ rest.start + q = omega arith in e)
      (subst (λ (b : List ℕ). IsLongAt b q) same h);
  here = none;
}

pub long_after : (bytes : List ℕ) (rest after : Piece) (field : WireField) → LongIn bytes rest
    → IsFollowed rest field after
    → (at : ℕ) → IsLongAt bytes at → (q : ℕ) × (at ≡ after.start + q) × IsLongAt after.bytes.now q
long_after bytes rest after field h s at l =
    let split = h.to at l in
    elim (long_on s.spelling after.bytes.now field split.0 s.spelled
    (subst (λ (b : List ℕ). IsLongAt b split.0) s.joined split.2)) [
      | inl here ↦ absurd (h.here (subst (λ (b : List ℕ). IsLongHere b) (sym s.joined) here))
      | inr later ↦ (later.0, omega (arith, split.1, later.1, s.start), later.2)
    ]

pub long_back : (bytes : List ℕ) (rest after : Piece) (field : WireField) → LongIn bytes rest
    → IsFollowed rest field after → (q : ℕ) → IsLongAt after.bytes.now q → IsLongAt bytes (after.start + q)
long_back bytes rest after field h s q l =
    let later = subst (λ (b : List ℕ). IsLongAt b (length s.spelling + q)) (sym s.joined)
    (long_later s.spelling after.bytes.now field q s.spelled l) in
    let place : rest.start + (length s.spelling + q) ≡ after.start + q = omega (arith, s.start) in
    subst (λ (n : ℕ). IsLongAt bytes n) place (h.back (length s.spelling + q) later)

pub long_in_more : (bytes : List ℕ) (rest after : Piece) (field : WireField) → LongIn bytes rest
    → IsFollowed rest field after → ¬ IsLongHere after.bytes.now → LongIn bytes after
long_in_more bytes rest after field h s none =
    record { to = long_after bytes rest after field h s; back = long_back bytes rest after field h s; here = none }

pub long_order : (bytes : List ℕ) (least : ℕ) → ((at : ℕ) → IsLongAt bytes at → least ≤ at) → (f : FeedFault)
    → IsTooLong bytes f → least * 4 ≤ order f
long_order bytes least h (EntityTooLong at) l = omega (arith, h at l)
long_order bytes least h (Wire fault) l = absurd l
long_order bytes least h (NotText at) l = absurd l
long_order bytes least h (MissingField at name) l = absurd l
long_order bytes least h Memory l = absurd l

pub long_first : (bytes : List ℕ) → IsLongHere bytes → IsLeast (IsTooLong bytes) (Some (EntityTooLong 0))
long_first bytes h = (long_here bytes h, long_order bytes 0 (λ at l. omega arith))

pub long_found : (bytes : List ℕ) (rest after : Piece) (field : WireField) → LongIn bytes rest
    → IsFollowed rest field after → IsLongHere after.bytes.now
    → IsLeast (IsTooLong bytes) (Some (EntityTooLong after.start))
long_found bytes rest after field h s here =
    let there = long_back bytes rest after field h s 0 (long_here after.bytes.now here) in
    let place : after.start + 0 ≡ after.start = omega arith in (
      subst (λ (n : ℕ). IsLongAt bytes n) place there,
      long_order bytes after.start
          (λ at l. let split = long_after bytes rest after field h s at l in omega (arith, split.1)),
    )

none_long : (bytes : List ℕ) (rest : Piece) → LongIn bytes rest → BeginsNone rest.bytes.now → (f : FeedFault)
    → IsTooLong bytes f → ⊥
none_long bytes rest h none (EntityTooLong at) l = let split =
    h.to at l in h.here (long_only_here rest.bytes.now split.0 none split.2)
none_long bytes rest h none (Wire fault) l = l
none_long bytes rest h none (NotText at) l = l
none_long bytes rest h none (MissingField at name) l = l
none_long bytes rest h none Memory l = l

pub long_nowhere : (bytes : List ℕ) (rest : Piece) → LongIn bytes rest → BeginsNone rest.bytes.now
    → IsLeast (IsTooLong bytes) None
long_nowhere bytes rest h none = none_long bytes rest h none

-- a test of an order, with what each answer says
match_by : (a b : ℕ) (P Q : Type 0) (t : Bool) → nat_lt a b ≡ t → (a < b → P) → (b ≤ a → Q) → MatchBool t P Q
match_by a b P Q true e less more = less (ltb-true a b e)
match_by a b P Q false e less more = more (ltb-false a b e)

pub match_lt : (a b : ℕ) (P Q : Type 0) → (a < b → P) → (b ≤ a → Q) → MatchBool (nat_lt a b) P Q
match_lt a b P Q less more = match_by a b P Q (nat_lt a b) refl less more
