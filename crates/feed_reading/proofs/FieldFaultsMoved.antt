-- The faults of the same bytes further on in a feed are the same faults, so much further.
use Rattle.std.proofs.Common.{◌≡◌, ℕ, ◌+◌, ◌-◌, ◌≤◌, List, length, refl, sym, ap, subst, ◌∙◌, inl, inr, arith}
use Rattle.std.specs.Prelude.{Option, Some, None}
use Rattle.gw_base.specs.declared.required.Required.{Required}
use Rattle.wire_fields.specs.Grammar.{Bytes}
use Rattle.feed_reading.specs.declared.fault.FeedFault.{FeedFault}
use Rattle.feed_reading.specs.declared.fault.FeedFault.TheVariants.{EntityTooLong, Wire, NotText, MissingField, Memory}
use Rattle.feed_reading.specs.Known.{Known, Nothing, WithText, WithMessage, WithMessages, entity_known}
use Rattle.feed_reading.specs.Faults.{Piece, Stands, Inside, Only, IsTorn, IsNotText, Lacks, IsLacking, IsMissing, HasFaultIn}
use Rattle.feed_reading.specs.FieldFaults.{moved}
use Rattle.feed_reading.specs.Pieces.{InEach}
use Rattle.feed_reading.proofs.ShortBodies.{short_body}
use Rattle.feed_reading.proofs.Walking.{from}
use Rattle.feed_reading.proofs.FieldFaultsKnown.{SteadyName, Steady, steady_entity, steady_place}
use Rattle.feed_reading.proofs.FieldFaultsOwn.{Own, too_long, torn, torn_header, header_text, in_entity}

abbrev pub moved_piece : ℕ → Piece → Piece
moved_piece far piece = record { tag = far + piece.tag; start = far + piece.start; bytes = piece.bytes }

-- ---- pieces

stands_moved : (far tag start other there : ℕ) (bytes : List ℕ) (number : ℕ) (p : Piece) → there ≡ far + start
    → Stands (from tag start bytes) number p → Stands (from other there bytes) number (moved_piece far p)
stands_moved far tag start other there bytes number p e st = record {
  front = st.front;
  spelling = st.spelling;
  rest = st.rest;
  joined = st.joined;
  fields = st.fields;
  read = st.read;
  spelled = st.spelled;
  tag = omega (arith, st.tag, e);
  start = omega (arith, st.start);
}

-- a piece further on is a piece, so much further
abbrev IsMoved : ℕ → (Piece → Type 0) → Piece → Type 0
IsMoved far M q = (p : Piece) × M p × (q ≡ moved_piece far p)

stands_back : (far tag start other there : ℕ) (bytes : List ℕ) (number : ℕ) (q : Piece) → there ≡ far + start
    → Stands (from other there bytes) number q → IsMoved far (Stands (from tag start bytes) number) q
stands_back far tag start other there bytes number q e st =
    let fits : length q.bytes ≤ length st.spelling =
    short_body (length st.spelling) number (Bytes q.bytes) st.spelling st.spelled (omega arith) in
    let tags : q.tag ≡ far + (q.tag - far) = omega (arith, st.tag, e) in
    let starts : q.start ≡ far + (q.start - far) = omega (arith, st.tag, st.start, e) in (
      record { tag = q.tag - far; start = q.start - far; bytes = q.bytes },
      record {
        front = st.front;
        spelling = st.spelling;
        rest = st.rest;
        joined = st.joined;
        fields = st.fields;
        read = st.read;
        spelled = st.spelled;
        tag = omega (arith, st.tag, e);
        start = omega (arith, st.start, tags, starts);
      },
      λ i. record { tag = tags i; start = starts i; bytes = q.bytes },
    )

-- one message has the pieces of another, so much further
record Shifts (far : ℕ) (M N : Piece → Type 0) : Type 0 where
  to : (p : Piece) → M p → N (moved_piece far p)
  back : (q : Piece) → N q → IsMoved far M q

shifts_inside : (far number : ℕ) (M N : Piece → Type 0) → Shifts far M N → Shifts far (Inside number M) (Inside number N)
shifts_inside far number M N h = record {
  to = λ p x. (
    moved_piece far x.0,
    h.to x.0 x.1,
    stands_moved far x.0.tag x.0.start (far + x.0.tag) (far + x.0.start) x.0.bytes number p refl x.2,
  );
  back = λ q x.
      let outer = h.back x.0 x.1 in
      let st = stands_back far outer.0.tag outer.0.start (far + outer.0.tag) (far + outer.0.start) outer.0.bytes number q
      refl (subst (λ (o : Piece). Stands o number q) outer.2 x.2) in
      (st.0, (outer.0, outer.1, st.1), st.2);
}

shifts_only : (far : ℕ) (p : Piece) → Shifts far (Only p) (Only (moved_piece far p))
shifts_only far p = record { to = λ r e. ap (moved_piece far) e; back = λ q e. (p, refl, e) }

-- ---- faults of pieces

-- a fault further on is a fault, so much further
abbrev pub IsFurther : ℕ → (FeedFault → Type 0) → FeedFault → Type 0
IsFurther far Has f = (g : FeedFault) × Has g × (f ≡ moved far g)

torn_moved : (far tag start other there : ℕ) (bytes : List ℕ) (f : FeedFault) → there ≡ far + start
    → IsTorn (from tag start bytes) f → IsTorn (from other there bytes) (moved far f)
torn_moved far tag start other there bytes (Wire fault) e h = (h.0, h.1, omega (arith, h.2, e))
torn_moved far tag start other there bytes (EntityTooLong at) e h = h
torn_moved far tag start other there bytes (NotText at) e h = h
torn_moved far tag start other there bytes (MissingField at name) e h = h
torn_moved far tag start other there bytes Memory e h = h

torn_back : (far tag start other there : ℕ) (bytes : List ℕ) (f : FeedFault) → there ≡ far + start
    → IsTorn (from other there bytes) f → IsFurther far (IsTorn (from tag start bytes)) f
torn_back far tag start other there bytes (Wire fault) e h =
    let place : fault.at ≡ far + (start + h.0) = omega (arith, h.2, e) in (
      Wire (record { at = start + h.0; kind = fault.kind }),
      (h.0, h.1, refl),
      λ i. Wire (record { at = place i; kind = fault.kind }),
    )
torn_back far tag start other there bytes (EntityTooLong at) e h = absurd h
torn_back far tag start other there bytes (NotText at) e h = absurd h
torn_back far tag start other there bytes (MissingField at name) e h = absurd h
torn_back far tag start other there bytes Memory e h = absurd h

torn_piece : (far : ℕ) (p : Piece) (f : FeedFault) → IsTorn p f → IsTorn (moved_piece far p) (moved far f)
torn_piece far p f h = torn_moved far p.tag p.start (far + p.tag) (far + p.start) p.bytes f refl h

piece_torn : (far : ℕ) (p : Piece) (f : FeedFault) → IsTorn (moved_piece far p) f → IsFurther far (IsTorn p) f
piece_torn far p f h = torn_back far p.tag p.start (far + p.tag) (far + p.start) p.bytes f refl h

text_piece : (far : ℕ) (p : Piece) (f : FeedFault) → IsNotText p f → IsNotText (moved_piece far p) (moved far f)
text_piece far p (NotText at) h = (omega (arith, h.0), h.1)
text_piece far p (EntityTooLong at) h = h
text_piece far p (Wire fault) h = h
text_piece far p (MissingField at name) h = h
text_piece far p Memory h = h

piece_text : (far : ℕ) (p : Piece) (f : FeedFault) → IsNotText (moved_piece far p) f → IsFurther far (IsNotText p) f
piece_text far p (NotText at) h =
    let place : at ≡ far + p.tag = h.0 in (NotText p.tag, (refl, h.1), ap NotText place)
piece_text far p (EntityTooLong at) h = absurd h
piece_text far p (Wire fault) h = absurd h
piece_text far p (MissingField at name) h = absurd h
piece_text far p Memory h = absurd h

-- ---- missing fields

lacking_moved : (far number first : ℕ) (M N : Piece → Type 0) → Shifts far M N → IsLacking number M first
    → IsLacking number N (far + first)
lacking_moved far number first M N h l = record {
  piece = moved_piece far l.piece;
  among = h.to l.piece l.among;
  here = omega (arith, l.here);
  least = λ other n.
      let b = h.back other n in
      let tag : other.tag ≡ far + b.0.tag = ap (λ (q : Piece). q.tag) b.2 in
      omega (arith, l.least b.0 b.1, tag);
  lacks = λ other n. let b = h.back other n in subst (λ (q : Piece). Lacks number q) (sym b.2) (l.lacks b.0 b.1);
}

lacking_back : (far number first : ℕ) (M N : Piece → Type 0) → Shifts far M N → IsLacking number N first
    → (near : ℕ) × IsLacking number M near × (first ≡ far + near)
lacking_back far number first M N h l =
    let b = h.back l.piece l.among in
    let tag : first ≡ far + b.0.tag = l.here ∙ ap (λ (q : Piece). q.tag) b.2 in (
      b.0.tag,
      record {
        piece = b.0;
        among = b.1;
        here = refl;
        least = λ other m. omega (arith, l.least (moved_piece far other) (h.to other m), tag);
        lacks = λ other m. l.lacks (moved_piece far other) (h.to other m);
      },
      tag,
    )

missing_moved : (far number end other : ℕ) (name : Option Required) (M N : Piece → Type 0) → SteadyName name
    → Shifts far M N → (f : FeedFault) → IsMissing number name M end f → IsMissing number name N other (moved far f)
missing_moved far number end other None M N steady h f x = absurd x
missing_moved far number end other (Some name) M N steady h (MissingField at missed) x = (
  far + x.0,
  lacking_moved far number x.0 M N h x.1,
  x.2,
  (let place : at ≡ x.0 = x.3 ∙ steady_place name x.0 end steady in
      ap (λ (n : ℕ). far + n) place ∙ sym (steady_place name (far + x.0) other steady)),
)
missing_moved far number end other (Some name) M N steady h (EntityTooLong at) x = absurd x
missing_moved far number end other (Some name) M N steady h (Wire fault) x = absurd x
missing_moved far number end other (Some name) M N steady h (NotText at) x = absurd x
missing_moved far number end other (Some name) M N steady h Memory x = absurd x

missing_back : (far number end other : ℕ) (name : Option Required) (M N : Piece → Type 0) → SteadyName name
    → Shifts far M N → (f : FeedFault) → IsMissing number name N end f
    → IsFurther far (IsMissing number name M other) f
missing_back far number end other None M N steady h f x = absurd x
missing_back far number end other (Some name) M N steady h (MissingField at missed) x =
    let l = lacking_back far number x.0 M N h x.1 in
    let place : at ≡ far + l.0 = x.3 ∙ steady_place name x.0 end steady ∙ l.2 in (
      MissingField l.0 missed,
      (l.0, l.1, x.2, sym (steady_place name l.0 other steady)),
      ap (λ (n : ℕ). MissingField n missed) place,
    )
missing_back far number end other (Some name) M N steady h (EntityTooLong at) x = absurd x
missing_back far number end other (Some name) M N steady h (Wire fault) x = absurd x
missing_back far number end other (Some name) M N steady h (NotText at) x = absurd x
missing_back far number end other (Some name) M N steady h Memory x = absurd x

-- ---- messages

faults_moved : (known : Known) → Steady known → (far end : ℕ) (M N : Piece → Type 0) → Shifts far M N
    → (f : FeedFault) → HasFaultIn known M end f → HasFaultIn known N end (moved far f)
faults_moved Nothing steady far end M N h f x = absurd x
faults_moved (WithText number name others) steady far end M N h f (inl (inl x)) =
    inl (inl (moved_piece far x.0, (shifts_inside far number M N h).to x.0 x.1, text_piece far x.0 f x.2))
faults_moved (WithText number name others) steady far end M N h f (inl (inr x)) =
    inl (inr (missing_moved far number end end name M N steady.0 h f x))
faults_moved (WithText number name others) steady far end M N h f (inr x) =
    inr (faults_moved others steady.1 far end M N h f x)
faults_moved (WithMessage number name inner others) steady far end M N h f (inl (inl (inl x))) =
    inl (inl (inl (moved_piece far x.0, (shifts_inside far number M N h).to x.0 x.1, torn_piece far x.0 f x.2)))
faults_moved (WithMessage number name inner others) steady far end M N h f (inl (inl (inr x))) =
    inl (inl (inr (faults_moved inner steady.1 far end (Inside number M) (Inside number N)
    (shifts_inside far number M N h) f x)))
faults_moved (WithMessage number name inner others) steady far end M N h f (inl (inr x)) =
    inl (inr (missing_moved far number end end name M N steady.0 h f x))
faults_moved (WithMessage number name inner others) steady far end M N h f (inr x) =
    inr (faults_moved others steady.2 far end M N h f x)
faults_moved (WithMessages number inner others) steady far end M N h f (inl (p, among, inl x)) =
    inl (moved_piece far p, (shifts_inside far number M N h).to p among, inl (torn_piece far p f x))
faults_moved (WithMessages number inner others) steady far end M N h f (inl (p, among, inr x)) =
    inl (
      moved_piece far p,
      (shifts_inside far number M N h).to p among,
      inr (faults_moved inner steady.0 far end (Only p) (Only (moved_piece far p)) (shifts_only far p) f x),
    )
faults_moved (WithMessages number inner others) steady far end M N h f (inr x) =
    inr (faults_moved others steady.1 far end M N h f x)

-- what holds further on of a fault, holds of it as one of others
further : (far : ℕ) (Has Others : FeedFault → Type 0) → ((g : FeedFault) → Has g → Others g) → (f : FeedFault)
    → IsFurther far Has f → IsFurther far Others f
further far Has Others along f x = (x.0, along x.0 x.1, x.2)

each_back_by : (known : Known) (far end : ℕ) (p : Piece) (f : FeedFault)
    → ((g : FeedFault) → HasFaultIn known (Only (moved_piece far p)) end g
    → IsFurther far (HasFaultIn known (Only p) end) g)
    → InEach known end (moved_piece far p) f → IsFurther far (InEach known end p) f
each_back_by known far end p f back (inl x) =
    further far (IsTorn p) (InEach known end p) (λ g y. inl y) f (piece_torn far p f x)
each_back_by known far end p f back (inr x) =
    further far (HasFaultIn known (Only p) end) (InEach known end p) (λ g y. inr y) f (back f x)

faults_back : (known : Known) → Steady known → (far end : ℕ) (M N : Piece → Type 0) → Shifts far M N
    → (f : FeedFault) → HasFaultIn known N end f → IsFurther far (HasFaultIn known M end) f
faults_back Nothing steady far end M N h f x = absurd x
faults_back (WithText number name others) steady far end M N h f (inl (inl x)) =
    let b = (shifts_inside far number M N h).back x.0 x.1 in
    let y = piece_text far b.0 f (subst (λ (q : Piece). IsNotText q f) b.2 x.2) in
    (y.0, inl (inl (b.0, b.1, y.1)), y.2)
faults_back (WithText number name others) steady far end M N h f (inl (inr x)) =
    let y = missing_back far number end end name M N steady.0 h f x in (y.0, inl (inr y.1), y.2)
faults_back (WithText number name others) steady far end M N h f (inr x) =
    let y = faults_back others steady.1 far end M N h f x in (y.0, inr y.1, y.2)
faults_back (WithMessage number name inner others) steady far end M N h f (inl (inl (inl x))) =
    let b = (shifts_inside far number M N h).back x.0 x.1 in
    let y = piece_torn far b.0 f (subst (λ (q : Piece). IsTorn q f) b.2 x.2) in
    (y.0, inl (inl (inl (b.0, b.1, y.1))), y.2)
faults_back (WithMessage number name inner others) steady far end M N h f (inl (inl (inr x))) =
    let y = faults_back inner steady.1 far end (Inside number M) (Inside number N) (shifts_inside far number M N h) f x
    in (y.0, inl (inl (inr y.1)), y.2)
faults_back (WithMessage number name inner others) steady far end M N h f (inl (inr x)) =
    let y = missing_back far number end end name M N steady.0 h f x in (y.0, inl (inr y.1), y.2)
faults_back (WithMessage number name inner others) steady far end M N h f (inr x) =
    let y = faults_back others steady.2 far end M N h f x in (y.0, inr y.1, y.2)
faults_back (WithMessages number inner others) steady far end M N h f (inl x) =
    let b = (shifts_inside far number M N h).back x.0 x.1 in
    let y = each_back_by inner far end b.0 f
    (faults_back inner steady.0 far end (Only b.0) (Only (moved_piece far b.0)) (shifts_only far b.0))
    (subst (λ (q : Piece). InEach inner end q f) b.2 x.2) in
    (y.0, inl (b.0, b.1, y.1), y.2)
faults_back (WithMessages number inner others) steady far end M N h f (inr x) =
    let y = faults_back others steady.1 far end M N h f x in (y.0, inr y.1, y.2)

each_moved : (far end : ℕ) (p : Piece) (f : FeedFault) → InEach entity_known end p f
    → InEach entity_known end (moved_piece far p) (moved far f)
each_moved far end p f (inl x) = inl (torn_piece far p f x)
each_moved far end p f (inr x) =
    inr (faults_moved entity_known steady_entity far end (Only p) (Only (moved_piece far p)) (shifts_only far p) f x)

each_back : (far end : ℕ) (p : Piece) (f : FeedFault) → InEach entity_known end (moved_piece far p) f
    → IsFurther far (InEach entity_known end p) f
each_back far end p f x =
    each_back_by entity_known far end p f
    (faults_back entity_known steady_entity far end (Only p) (Only (moved_piece far p)) (shifts_only far p)) x

-- ---- the bytes' own faults

pub own_moved : (far : ℕ) (bytes : List ℕ) (g : FeedFault) → Own 0 bytes g → Own far bytes (moved far g)
own_moved far bytes g (too_long at long e) =
    let place : far + (0 + at) ≡ far + at = omega arith in
    too_long at long (ap (moved far) e ∙ ap EntityTooLong place)
own_moved far bytes g (torn x) = torn (torn_moved far 0 0 0 far bytes g (omega arith) x)
own_moved far bytes g (torn_header q st x) =
    torn_header (moved_piece far q) (stands_moved far 0 0 0 far bytes 1 q (omega arith) st) (torn_piece far q g x)
own_moved far bytes g (header_text q p st inner x) =
    header_text (moved_piece far q) (moved_piece far p) (stands_moved far 0 0 0 far bytes 1 q (omega arith) st)
    (stands_moved far q.tag q.start (far + q.tag) (far + q.start) q.bytes 1 p refl inner) (text_piece far p g x)
own_moved far bytes g (in_entity q st x) =
    in_entity (moved_piece far q) (stands_moved far 0 0 0 far bytes 2 q (omega arith) st) (each_moved far 0 q g x)

pub own_back : (far : ℕ) (bytes : List ℕ) (f : FeedFault) → Own far bytes f → IsFurther far (Own 0 bytes) f
own_back far bytes f (too_long at long e) =
    let place : far + at ≡ far + (0 + at) = omega arith in
    (EntityTooLong (0 + at), too_long at long refl, e ∙ ap EntityTooLong place)
own_back far bytes f (torn x) =
    let y = torn_back far 0 0 0 far bytes f (omega arith) x in (y.0, torn y.1, y.2)
own_back far bytes f (torn_header q st x) =
    let b = stands_back far 0 0 0 far bytes 1 q (omega arith) st in
    let y = piece_torn far b.0 f (subst (λ (q : Piece). IsTorn q f) b.2 x) in
    (y.0, torn_header b.0 b.1 y.1, y.2)
own_back far bytes f (header_text q p st inner x) =
    let b = stands_back far 0 0 0 far bytes 1 q (omega arith) st in
    let c = stands_back far b.0.tag b.0.start (far + b.0.tag) (far + b.0.start) b.0.bytes 1 p refl
    (subst (λ (q : Piece). Stands q 1 p) b.2 inner) in
    let y = piece_text far c.0 f (subst (λ (q : Piece). IsNotText q f) c.2 x) in
    (y.0, header_text {f = y.0} b.0 c.0 b.1 c.1 y.1, y.2)
own_back far bytes f (in_entity q st x) =
    let b = stands_back far 0 0 0 far bytes 2 q (omega arith) st in
    let y = each_back far 0 b.0 f (subst (λ (q : Piece). InEach entity_known 0 q f) b.2 x) in
    (y.0, in_entity b.0 b.1 y.1, y.2)
