-- One body without a fault is read.
use Rattle.std.proofs.Common.{ℕ, List, [], ◌∷◌, refl, inl, inr}
use Rattle.std.specs.Prelude.{Option, None}
use Rattle.std.specs.List.{last_or}
use Rattle.gw_base.specs.declared.messages.Entity.{Entity}
use Rattle.feed_reading.specs.declared.fault.FeedFault.{FeedFault}
use Rattle.feed_reading.specs.declared.feed_reader.state.HeadSoFar.{HeadSoFar}
use Rattle.feed_reading.specs.Known.{entity_known}
use Rattle.feed_reading.specs.Meaning.{numbers, bodies, Means}
use Rattle.feed_reading.specs.Tables.{OfFeedEntity}
use Rattle.feed_reading.specs.Faults.{Piece, Inside, Only, InSome, IsTorn, IsNotText, IsLeast}
use Rattle.feed_reading.specs.FeedPieces.{OfHeadSoFar}
use Rattle.feed_reading.specs.FeedSteps.{InHeaderBody}
use Rattle.feed_reading.specs.Found.{earlier_of, Among, SameSet}
use Rattle.feed_reading.specs.Pieces.{InEach}
use Rattle.feed_reading.proofs.FaultLaw.{read_entity}
use Rattle.feed_reading.proofs.FaultOrder.{least_either, least_same}
use Rattle.feed_reading.proofs.PieceSets.{same_turned, same_joined, same_inside, one_listed, in_same, faults_same}
use Rattle.feed_reading.proofs.WholeMessages.{one_whole, texts_read, unbroken}

pub entity_meant : (end : ℕ) (piece : Piece) → ((f : FeedFault) → ¬ InEach entity_known end piece f)
    → (entity : Entity) × Means OfFeedEntity piece.bytes entity
entity_meant end piece none =
    let read = unbroken piece (λ f x. none f (inl x)) in
    let found = read_entity end piece [] read.0 (one_whole piece read.0 read.1)
    (λ f x. none f (inr (faults_same entity_known end (same_turned (one_listed piece)) f x))) in
    (found.0, record { fields = read.0; read = read.1; table = found.1 })

pub head_meant : (piece : Piece) → ((f : FeedFault) → ¬ InHeaderBody piece f)
    → (head : HeadSoFar) × Means OfHeadSoFar piece.bytes head
head_meant piece none =
    let read = unbroken piece (λ f x. none f (inl x)) in
    let texts = texts_read 1 (piece ∷ []) read.0 (one_whole piece read.0 read.1)
    (λ f x. none f (inr (in_same IsNotText (same_inside 1 (same_turned (one_listed piece))) f x))) in (
      record {
        version = last_or None (bodies 1 read.0);
        incrementality = last_or None (numbers 2 read.0);
        timestamp = last_or None (numbers 3 read.0);
      },
      record {
        fields = read.0;
        read = read.1;
        table = record { gtfs_realtime_version = (texts, refl); incrementality = refl; timestamp = refl };
      },
    )

-- the first fault of a header's body
pub header_least : (piece : Piece) (versions : List Piece) (torn text : Option FeedFault)
    → SameSet (Inside 1 (Among (piece ∷ []))) (Among versions) → IsLeast (IsTorn piece) torn
    → IsLeast (InSome (Among versions) IsNotText) text → IsLeast (InHeaderBody piece) (earlier_of torn text)
header_least piece versions torn text set first second =
    let same : SameSet (Among versions) (Inside 1 (Only piece)) =
    same_joined (same_turned set) (same_inside 1 (same_turned (one_listed piece))) in
    least_either (IsTorn piece) (InSome (Inside 1 (Only piece)) IsNotText) torn text first
    (least_same (InSome (Among versions) IsNotText) (InSome (Inside 1 (Only piece)) IsNotText) (in_same IsNotText same)
    (in_same IsNotText (same_turned same)) text second)
