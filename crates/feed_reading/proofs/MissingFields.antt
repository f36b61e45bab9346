-- A message that has no field which has to be there.
use Rattle.std.proofs.Common.{◌≡◌, ℕ, ◌+◌, ◌*◌, ◌≤◌, List, [], ◌∷◌, length, refl, ap, inl, inr, arith}
use Rattle.std.specs.Prelude.{Some, None}
use Rattle.std.specs.List.{AllByRecursion}
use Rattle.wire_fields.proofs.Broken.{fields_or_broken}
use Rattle.wire_fields.proofs.Existence.{decided}
use Rattle.gw_base.specs.declared.required.Required.{Required}
use Rattle.feed_reading.specs.declared.fault.FeedFault.{FeedFault}
use Rattle.feed_reading.specs.declared.fault.FeedFault.TheVariants.{EntityTooLong, Wire, NotText, MissingField, Memory}
use Rattle.feed_reading.specs.declared.finder.piece.Piece.{Piece}
use Rattle.feed_reading.specs.Faults as faults
use Rattle.feed_reading.specs.Faults.{InSome, IsTorn, Lacks, IsLacking, missing_place, IsMissing, order, IsLeast}
use Rattle.feed_reading.specs.Pieces.{Listed, NoneStands, SomeInside, IsFirstTag, AllLack}
use Rattle.feed_reading.proofs.PieceWalks.{none_inside}
use Rattle.feed_reading.proofs.WholePieces.{stands_lacks, lacks_from}

-- a piece in which the field stands doesn't lack it, and one that breaks lacks none
pub held_not_lacking : (number : ℕ) (pieces : List Piece) → SomeInside number pieces → ¬ AllLack number pieces
held_not_lacking number pieces h all = stands_lacks h.1.0 h.0 number (all h.1.0 h.1.1) h.1.2

torn_lacks : (number : ℕ) (piece : faults.Piece) (f : FeedFault) → IsTorn piece f → Lacks number piece → ⊥
torn_lacks number piece (Wire fault) h l = fields_or_broken piece.bytes l.0 h.0 fault.kind l.1 h.1
torn_lacks number piece (EntityTooLong at) h l = h
torn_lacks number piece (NotText at) h l = h
torn_lacks number piece (MissingField at name) h l = h
torn_lacks number piece Memory h l = h

pub torn_not_lacking : (number : ℕ) (pieces : List Piece) (f : FeedFault) → InSome (Listed pieces) IsTorn f
    → ¬ AllLack number pieces
torn_not_lacking number pieces f h all = torn_lacks number h.0 f h.2 (all h.0 h.1)

-- where none breaks and the field stands in none, all lack it
lacks_or : (number : ℕ) (piece : faults.Piece) → ((q : faults.Piece) → ¬ faults.Stands piece number q)
    → ((f : FeedFault) → ¬ IsTorn piece f) → Lacks number piece
lacks_or number piece none whole =
    elim (decided piece.bytes) [
      | inl read ↦ lacks_from piece number read.0 read.1 none
      | inr broken ↦ absurd
          (whole (Wire (record { at = piece.start + broken.0; kind = broken.1 })) (broken.0, broken.2, refl))
    ]

pub all_lacking : (number : ℕ) (pieces : List Piece) → AllByRecursion (NoneStands number) pieces
    → IsLeast (InSome (Listed pieces) IsTorn) None → AllLack number pieces
all_lacking number pieces none whole p l =
    lacks_or number p (λ q. none_inside number pieces none q p l) (λ f t. whole f (p, l, t))

-- ---- the fault

pub not_missing_in : (number end : ℕ) (name : Required) (pieces : List Piece) → ¬ AllLack number pieces
    → IsLeast (IsMissing number (Some name) (Listed pieces) end) None
not_missing_in number end name pieces held (MissingField at missed) h = held h.1.lacks
not_missing_in number end name pieces held (EntityTooLong at) h = h
not_missing_in number end name pieces held (Wire fault) h = h
not_missing_in number end name pieces held (NotText at) h = h
not_missing_in number end name pieces held Memory h = h

pub not_missing_empty : (number end : ℕ) (name : Required) (pieces : List Piece) → length pieces ≡ 0
    → IsLeast (IsMissing number (Some name) (Listed pieces) end) None
not_missing_empty number end name [] e (MissingField at missed) h = h.1.among
not_missing_empty number end name (p ∷ pieces) e (MissingField at missed) h = absurd (omega arith)
not_missing_empty number end name pieces e (EntityTooLong at) h = h
not_missing_empty number end name pieces e (Wire fault) h = h
not_missing_empty number end name pieces e (NotText at) h = h
not_missing_empty number end name pieces e Memory h = h

missing_order : (number end first : ℕ) (name : Required) (pieces : List Piece) → IsFirstTag pieces first
    → (f : FeedFault) → IsMissing number (Some name) (Listed pieces) end f
    → missing_place name first end * 4 + 3 ≤ order f
missing_order number end first name pieces t (MissingField at missed) h =
    let least : first ≤ h.0 = omega (arith, t.least h.1.piece h.1.among, h.1.here) in
    let greatest : h.0 ≤ first = omega (arith, h.1.least t.piece t.among, t.here) in
    let same : first ≡ h.0 = omega arith in
    omega (arith, h.3, ap (λ (n : ℕ). missing_place name n end) same)
missing_order number end first name pieces t (EntityTooLong at) h = absurd h
missing_order number end first name pieces t (Wire fault) h = absurd h
missing_order number end first name pieces t (NotText at) h = absurd h
missing_order number end first name pieces t Memory h = absurd h

pub missing_here : (number end first place : ℕ) (name : Required) (pieces : List Piece) → AllLack number pieces
    → IsFirstTag pieces first → place ≡ missing_place name first end
    → IsLeast (IsMissing number (Some name) (Listed pieces) end) (Some (MissingField place name))
missing_here number end first place name pieces lack t e =
    let lacking : IsLacking number (Listed pieces) first =
    record { piece = t.piece; among = t.among; here = t.here; least = t.least; lacks = lack } in
    ((first, lacking, refl, e), λ other h. omega (arith, missing_order number end first name pieces t other h, e))
