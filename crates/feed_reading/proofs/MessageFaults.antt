-- The faults of a message by its pieces.
use Rattle.std.proofs.Common.{◌≡◌, ℕ, List, [], ◌∷◌, length, inl, inr, refl, subst, arith}
use Rattle.std.specs.Prelude.{Option, None}
use Rattle.feed_reading.specs.declared.fault.FeedFault.{FeedFault}
use Rattle.feed_reading.specs.declared.finder.piece.Piece.{Piece}
use Rattle.feed_reading.specs.Known.{Known}
use Rattle.feed_reading.specs.Faults as faults
use Rattle.feed_reading.specs.Faults.{IsTorn, IsLeast}
use Rattle.feed_reading.specs.Found.{Among, SameSet}
use Rattle.feed_reading.specs.Pieces.{piece_of, Listed, InMessage, InEach}
use Rattle.feed_reading.proofs.FaultOrder.{least_same}
use Rattle.feed_reading.proofs.PieceSets.{same_turned, one_listed, in_same, faults_same, faults_some}

pub message_same : (known : Known) (end : ℕ) {M N : faults.Piece → Type 0} → SameSet M N → (f : FeedFault)
    → InMessage known M end f → InMessage known N end f
message_same known end h f (inl x) = inl (in_same IsTorn h f x)
message_same known end h f (inr x) = inr (faults_same known end h f x)

no_piece : (pieces : List Piece) → length pieces ≡ 0 → (p : faults.Piece) → Listed pieces p → ⊥
no_piece [] e p l = l
no_piece (first ∷ pieces) e p l = absurd (omega arith)

pub no_pieces : (known : Known) (end : ℕ) (pieces : List Piece) → length pieces ≡ 0
    → IsLeast (InMessage known (Listed pieces) end) None
no_pieces known end pieces e f (inl x) = no_piece pieces e x.0 x.1
no_pieces known end pieces e f (inr x) = let some = faults_some known end (Listed pieces) f x in
    no_piece pieces e some.0 some.1

-- a message of one piece
one_to : (known : Known) (end : ℕ) (piece : faults.Piece) (f : FeedFault) → InMessage known (Among (piece ∷ [])) end f
    → InEach known end piece f
one_to known end piece f (inl x) =
    elim x.1 [ inl e ↦ inl (subst (λ (p : faults.Piece). IsTorn p f) e x.2) | inr none ↦ absurd none ]
one_to known end piece f (inr x) = inr (faults_same known end (same_turned (one_listed piece)) f x)

one_back : (known : Known) (end : ℕ) (piece : faults.Piece) (f : FeedFault) → InEach known end piece f
    → InMessage known (Among (piece ∷ [])) end f
one_back known end piece f (inl x) = inl (piece, inl refl, x)
one_back known end piece f (inr x) = inr (faults_same known end (one_listed piece) f x)

pub one_message : (known : Known) (end : ℕ) (piece : Piece) (found : Option FeedFault)
    → IsLeast (InMessage known (Listed (piece ∷ [])) end) found → IsLeast (InEach known end (piece_of piece)) found
one_message known end piece found h =
    least_same (InMessage known (Listed (piece ∷ [])) end) (InEach known end (piece_of piece))
    (one_to known end (piece_of piece)) (one_back known end (piece_of piece)) found h
