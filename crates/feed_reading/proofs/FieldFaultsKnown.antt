-- The faults of a message without a header: where they are told, and that they don't rest on the feed's length.
use Rattle.std.proofs.Common.{◌≡◌, ℕ, ◌+◌, ◌*◌, ◌<◌, ◌≤◌, length, length-append, ◌++◌, refl, sym, ap, subst, ◌∙◌, inl, inr, arith}
use Rattle.std.specs.Prelude.{Option, Some, None}
use Rattle.gw_base.specs.declared.required.Required.{Required}
use Rattle.gw_base.specs.declared.required.Required.TheVariants.{Header, GtfsRealtimeVersion, Id, Trip, Text}
use Rattle.wire_fields.specs.Grammar.{Bytes}
use Rattle.wire_fields.proofs.Skips.{positive}
use Rattle.wire_fields.proofs.Spellings.{fields_apart}
use Rattle.feed_reading.specs.declared.fault.FeedFault.{FeedFault}
use Rattle.feed_reading.specs.declared.fault.FeedFault.TheVariants.{EntityTooLong, Wire, NotText, MissingField, Memory}
use Rattle.feed_reading.specs.Known.{Known, Nothing, WithText, WithMessage, WithMessages, trip_known, stop_known, update_known, selector_known, translation_known, string_known, alert_known, entity_known}
use Rattle.feed_reading.specs.Faults.{Piece, Stands, Inside, Only, IsTorn, IsNotText, missing_place, IsMissing, HasFaultIn, order}
use Rattle.feed_reading.specs.FieldFaults.{AtEnd, IsOfHeader, place_of}
use Rattle.feed_reading.specs.Pieces.{InEach}
use Rattle.feed_reading.proofs.ShortBodies.{short_body}

-- ---- messages of which no field is told at the end of the feed

abbrev pub SteadyName : Option Required → Type 0
SteadyName None = Unit {0}
SteadyName (Some name) = ¬ AtEnd name

abbrev pub Steady : Known → Type 0
Steady Nothing = Unit {0}
Steady (WithText number name others) = SteadyName name × Steady others
Steady (WithMessage number name inner others) = SteadyName name × Steady inner × Steady others
Steady (WithMessages number inner others) = Steady inner × Steady others

steady_trip : Steady trip_known
steady_trip = (tt, (tt, (tt, tt)))

steady_stop : Steady stop_known
steady_stop = (tt, tt, (tt, tt, (tt, (tt, (tt, tt), tt))))

steady_update : Steady update_known
steady_update = (λ x. x, steady_trip, (steady_stop, tt))

steady_selector : Steady selector_known
steady_selector = (tt, (tt, (tt, steady_trip, (tt, tt))))

steady_translation : Steady translation_known
steady_translation = (λ x. x, (tt, tt))

steady_string : Steady string_known
steady_string = (steady_translation, tt)

steady_alert : Steady alert_known
steady_alert = (tt, (steady_selector, (tt, steady_string, (tt, steady_string, tt))))

pub steady_entity : Steady entity_known
steady_entity = (λ x. x, (tt, steady_update, (tt, steady_alert, tt)))

pub steady_place : (name : Required) (first end : ℕ) → ¬ AtEnd name → missing_place name first end ≡ first
steady_place Header first end h = absurd (h tt)
steady_place GtfsRealtimeVersion first end h = absurd (h tt)
steady_place Id first end h = refl
steady_place Trip first end h = refl
steady_place Text first end h = refl

-- ---- the feed's length doesn't matter

missing_any : (number : ℕ) (name : Option Required) (M : Piece → Type 0) (end other : ℕ) → SteadyName name
    → (f : FeedFault) → IsMissing number name M end f → IsMissing number name M other f
missing_any number None M end other steady f x = absurd x
missing_any number (Some name) M end other steady (MissingField at missed) x =
    (x.0, x.1, x.2, x.3 ∙ steady_place name x.0 end steady ∙ sym (steady_place name x.0 other steady))
missing_any number (Some name) M end other steady (EntityTooLong at) x = absurd x
missing_any number (Some name) M end other steady (Wire fault) x = absurd x
missing_any number (Some name) M end other steady (NotText at) x = absurd x
missing_any number (Some name) M end other steady Memory x = absurd x

pub faults_any : (known : Known) → Steady known → (M : Piece → Type 0) (end other : ℕ) (f : FeedFault)
    → HasFaultIn known M end f → HasFaultIn known M other f
faults_any Nothing steady M end other f x = absurd x
faults_any (WithText number name others) steady M end other f (inl (inl x)) = inl (inl x)
faults_any (WithText number name others) steady M end other f (inl (inr x)) =
    inl (inr (missing_any number name M end other steady.0 f x))
faults_any (WithText number name others) steady M end other f (inr x) =
    inr (faults_any others steady.1 M end other f x)
faults_any (WithMessage number name inner others) steady M end other f (inl (inl (inl x))) = inl (inl (inl x))
faults_any (WithMessage number name inner others) steady M end other f (inl (inl (inr x))) =
    inl (inl (inr (faults_any inner steady.1 (Inside number M) end other f x)))
faults_any (WithMessage number name inner others) steady M end other f (inl (inr x)) =
    inl (inr (missing_any number name M end other steady.0 f x))
faults_any (WithMessage number name inner others) steady M end other f (inr x) =
    inr (faults_any others steady.2 M end other f x)
faults_any (WithMessages number inner others) steady M end other f (inl (p, among, inl x)) = inl (p, among, inl x)
faults_any (WithMessages number inner others) steady M end other f (inl (p, among, inr x)) =
    inl (p, among, inr (faults_any inner steady.0 (Only p) end other f x))
faults_any (WithMessages number inner others) steady M end other f (inr x) =
    inr (faults_any others steady.1 M end other f x)

pub each_any : (end other : ℕ) (piece : Piece) (f : FeedFault) → InEach entity_known end piece f
    → InEach entity_known other piece f
each_any end other piece f (inl x) = inl x
each_any end other piece f (inr x) = inr (faults_any entity_known steady_entity (Only piece) end other f x)

-- ---- where the faults of pieces are told

-- all faults but want of memory have a place
abbrev pub IsPlaced : FeedFault → Type 0
IsPlaced (EntityTooLong at) = Unit {0}
IsPlaced (Wire fault) = Unit {0}
IsPlaced (NotText at) = Unit {0}
IsPlaced (MissingField at name) = Unit {0}
IsPlaced Memory = ⊥

-- a fault is told from one place on and before another, and is none of the header
pub record IsWithin (low high : ℕ) (f : FeedFault) : Type 0 where
  pub from_low : low ≤ place_of f
  pub below : place_of f < high
  pub not_header : ¬ IsOfHeader f
  pub placed : IsPlaced f

-- a piece lies from one place to another
pub record Lies (low high : ℕ) (piece : Piece) : Type 0 where
  pub tag : low ≤ piece.tag
  pub start : low ≤ piece.start
  pub tag_below : piece.tag < high
  pub end : piece.start + length piece.bytes ≤ high

pub lies_inside : (low high number : ℕ) (outer inner : Piece) → low ≤ outer.start
    → outer.start + length outer.bytes ≤ high → Stands outer number inner → Lies low high inner
lies_inside low high number outer inner from to st =
    let some : 0 < length st.spelling = positive st.spelling
    ((fields_apart 64).some (record { number = number; payload = Bytes inner.bytes }) st.spelling st.spelled) in
    let fits : length inner.bytes ≤ length st.spelling =
    short_body (length st.spelling) number (Bytes inner.bytes) st.spelling st.spelled (omega arith) in
    let all : length outer.bytes ≡ length st.front + (length st.spelling + length st.rest) =
    ap length st.joined ∙ length-append st.front (st.spelling ++ st.rest)
    ∙ ap (λ (n : ℕ). length st.front + n) (length-append st.spelling st.rest) in
    record {
      tag = omega (arith, st.tag);
      start = omega (arith, st.tag, st.start);
      tag_below = omega (arith, st.tag, all);
      end = omega (arith, st.tag, st.start, all);
    }

pub torn_within : (low high : ℕ) (piece : Piece) (f : FeedFault) → low ≤ piece.start
    → piece.start + length piece.bytes ≤ high → IsTorn piece f → IsWithin low high f
torn_within low high piece (Wire fault) from to h =
    let some : 0 < length h.1.rest = positive h.1.rest h.1.some in
    let all : length piece.bytes ≡ length h.1.front + length h.1.rest =
    ap length h.1.joined ∙ length-append h.1.front h.1.rest in
    record {
      from_low = omega (arith, h.2);
      below = omega (arith, h.2, h.1.place, all);
      not_header = λ x. x;
      placed = tt;
    }
torn_within low high piece (EntityTooLong at) from to h = absurd h
torn_within low high piece (NotText at) from to h = absurd h
torn_within low high piece (MissingField at name) from to h = absurd h
torn_within low high piece Memory from to h = absurd h

pub text_within : (low high : ℕ) (piece : Piece) (f : FeedFault) → low ≤ piece.tag → piece.tag < high
    → IsNotText piece f → IsWithin low high f
text_within low high piece (NotText at) from to h =
    record { from_low = omega (arith, h.0); below = omega (arith, h.0); not_header = λ x. x; placed = tt }
text_within low high piece (EntityTooLong at) from to h = absurd h
text_within low high piece (Wire fault) from to h = absurd h
text_within low high piece (MissingField at name) from to h = absurd h
text_within low high piece Memory from to h = absurd h

-- all pieces of a message lie there
abbrev pub AllLie : ℕ → ℕ → (Piece → Type 0) → Type 0
AllLie low high M = (p : Piece) → M p → Lies low high p

all_inside : (low high number : ℕ) (M : Piece → Type 0) → AllLie low high M → AllLie low high (Inside number M)
all_inside low high number M lie p x =
    let outer = lie x.0 x.1 in lies_inside low high number x.0 p outer.start outer.end x.2

missing_within : (number : ℕ) (name : Option Required) (M : Piece → Type 0) (low high end : ℕ) → SteadyName name
    → AllLie low high M → (f : FeedFault) → IsMissing number name M end f → IsWithin low high f
missing_within number None M low high end steady lie f x = absurd x
missing_within number (Some name) M low high end steady lie (MissingField at missed) x =
    let p = lie x.1.piece x.1.among in
    let place : at ≡ x.0 = x.3 ∙ steady_place name x.0 end steady in
    record {
      from_low = omega (arith, p.tag, x.1.here, place);
      below = omega (arith, p.tag_below, x.1.here, place);
      not_header = λ h. steady (subst (λ (n : Required). AtEnd n) x.2 h);
      placed = tt;
    }
missing_within number (Some name) M low high end steady lie (EntityTooLong at) x = absurd x
missing_within number (Some name) M low high end steady lie (Wire fault) x = absurd x
missing_within number (Some name) M low high end steady lie (NotText at) x = absurd x
missing_within number (Some name) M low high end steady lie Memory x = absurd x

only_lies : (low high : ℕ) (piece : Piece) → Lies low high piece → AllLie low high (Only piece)
only_lies low high piece lie p e = subst (λ (q : Piece). Lies low high q) (sym e) lie

pub faults_within : (known : Known) → Steady known → (M : Piece → Type 0) (low high end : ℕ) → AllLie low high M
    → (f : FeedFault) → HasFaultIn known M end f → IsWithin low high f
faults_within Nothing steady M low high end lie f x = absurd x
faults_within (WithText number name others) steady M low high end lie f (inl (inl x)) =
    let p = all_inside low high number M lie x.0 x.1 in text_within low high x.0 f p.tag p.tag_below x.2
faults_within (WithText number name others) steady M low high end lie f (inl (inr x)) =
    missing_within number name M low high end steady.0 lie f x
faults_within (WithText number name others) steady M low high end lie f (inr x) =
    faults_within others steady.1 M low high end lie f x
faults_within (WithMessage number name inner others) steady M low high end lie f (inl (inl (inl x))) =
    let p = all_inside low high number M lie x.0 x.1 in torn_within low high x.0 f p.start p.end x.2
faults_within (WithMessage number name inner others) steady M low high end lie f (inl (inl (inr x))) =
    faults_within inner steady.1 (Inside number M) low high end (all_inside low high number M lie) f x
faults_within (WithMessage number name inner others) steady M low high end lie f (inl (inr x)) =
    missing_within number name M low high end steady.0 lie f x
faults_within (WithMessage number name inner others) steady M low high end lie f (inr x) =
    faults_within others steady.2 M low high end lie f x
faults_within (WithMessages number inner others) steady M low high end lie f (inl (p, among, inl x)) =
    let q = all_inside low high number M lie p among in torn_within low high p f q.start q.end x
faults_within (WithMessages number inner others) steady M low high end lie f (inl (p, among, inr x)) =
    faults_within inner steady.0 (Only p) low high end
    (only_lies low high p (all_inside low high number M lie p among)) f x
faults_within (WithMessages number inner others) steady M low high end lie f (inr x) =
    faults_within others steady.1 M low high end lie f x

pub each_within : (low high end : ℕ) (piece : Piece) → Lies low high piece → (f : FeedFault)
    → InEach entity_known end piece f → IsWithin low high f
each_within low high end piece lie f (inl x) = torn_within low high piece f lie.start lie.end x
each_within low high end piece lie f (inr x) =
    faults_within entity_known steady_entity (Only piece) low high end (only_lies low high piece lie) f x

-- ---- orders and places

pub order_from : (f : FeedFault) → place_of f * 4 ≤ order f
order_from (EntityTooLong at) = omega arith
order_from (Wire fault) = omega arith
order_from (NotText at) = omega arith
order_from (MissingField at name) = omega arith
order_from Memory = omega arith

pub order_below : (f : FeedFault) → order f < place_of f * 4 + 4
order_below (EntityTooLong at) = omega arith
order_below (Wire fault) = omega arith
order_below (NotText at) = omega arith
order_below (MissingField at name) = omega arith
order_below Memory = omega arith
