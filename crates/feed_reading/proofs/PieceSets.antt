-- The faults of a message depend only on which pieces it has.
use Rattle.std.proofs.Common.{ℕ, [], ◌∷◌, inl, inr}
use Rattle.std.specs.Prelude.{Option, Some, None}
use Rattle.gw_base.specs.declared.required.Required.{Required}
use Rattle.feed_reading.specs.declared.fault.FeedFault.{FeedFault}
use Rattle.feed_reading.specs.declared.fault.FeedFault.TheVariants.{EntityTooLong, Wire, NotText, MissingField, Memory}
use Rattle.feed_reading.specs.Known.{Known, Nothing, WithText, WithMessage, WithMessages}
use Rattle.feed_reading.specs.Faults.{Piece, Inside, Only, InSome, IsLacking, IsMissing, HasFaultIn}
use Rattle.feed_reading.specs.Found.{Among, SameSet}

pub same_turned : {M N : Piece → Type 0} → SameSet M N → SameSet N M
same_turned h = record { to = h.back; back = h.to }

pub same_joined : {M N O : Piece → Type 0} → SameSet M N → SameSet N O → SameSet M O
same_joined h k = record { to = λ p m. k.to p (h.to p m); back = λ p o. h.back p (k.back p o) }

pub same_inside : {M N : Piece → Type 0} (number : ℕ) → SameSet M N → SameSet (Inside number M) (Inside number N)
same_inside number h = record { to = λ p x. (x.0, h.to x.0 x.1, x.2); back = λ p x. (x.0, h.back x.0 x.1, x.2) }

-- a piece alone is the one of its list
pub one_listed : (piece : Piece) → SameSet (Only piece) (Among (piece ∷ []))
one_listed piece = record { to = λ p e. inl e; back = λ p x. elim x [ inl e ↦ e | inr none ↦ absurd none ] }

pub in_same : {M N : Piece → Type 0} (Has : Piece → FeedFault → Type 0) → SameSet M N → (f : FeedFault)
    → InSome M Has f → InSome N Has f
in_same Has h f x = (x.0, h.to x.0 x.1, x.2)

lacking_same : {M N : Piece → Type 0} (number first : ℕ) → SameSet M N → IsLacking number M first
    → IsLacking number N first
lacking_same number first h l = record {
  piece = l.piece;
  among = h.to l.piece l.among;
  here = l.here;
  least = λ other n. l.least other (h.back other n);
  lacks = λ other n. l.lacks other (h.back other n);
}

pub missing_same : {M N : Piece → Type 0} (number : ℕ) (name : Option Required) (end : ℕ) → SameSet M N
    → (f : FeedFault) → IsMissing number name M end f → IsMissing number name N end f
missing_same number None end h f x = absurd x
missing_same number (Some name) end h (MissingField at missed) x = (x.0, lacking_same number x.0 h x.1, x.2, x.3)
missing_same number (Some name) end h (EntityTooLong at) x = absurd x
missing_same number (Some name) end h (Wire fault) x = absurd x
missing_same number (Some name) end h (NotText at) x = absurd x
missing_same number (Some name) end h Memory x = absurd x

pub faults_same : (known : Known) (end : ℕ) {M N : Piece → Type 0} → SameSet M N → (f : FeedFault)
    → HasFaultIn known M end f → HasFaultIn known N end f
faults_same Nothing end h f x = absurd x
faults_same (WithText number name others) end h f (inl (inl x)) =
    inl (inl (x.0, (same_inside number h).to x.0 x.1, x.2))
faults_same (WithText number name others) end h f (inl (inr x)) = inl (inr (missing_same number name end h f x))
faults_same (WithText number name others) end h f (inr x) = inr (faults_same others end h f x)
faults_same (WithMessage number name inner others) end h f (inl (inl (inl x))) =
    inl (inl (inl (x.0, (same_inside number h).to x.0 x.1, x.2)))
faults_same (WithMessage number name inner others) end h f (inl (inl (inr x))) =
    inl (inl (inr (faults_same inner end (same_inside number h) f x)))
faults_same (WithMessage number name inner others) end h f (inl (inr x)) =
    inl (inr (missing_same number name end h f x))
faults_same (WithMessage number name inner others) end h f (inr x) = inr (faults_same others end h f x)
faults_same (WithMessages number inner others) end h f (inl x) = inl (x.0, (same_inside number h).to x.0 x.1, x.2)
faults_same (WithMessages number inner others) end h f (inr x) = inr (faults_same others end h f x)

-- a fault of a message that has a fault is one of some piece
missing_some : (number : ℕ) (name : Option Required) (end : ℕ) (M : Piece → Type 0) (f : FeedFault)
    → IsMissing number name M end f → (p : Piece) × M p
missing_some number None end M f x = absurd x
missing_some number (Some name) end M (MissingField at missed) x = (x.1.piece, x.1.among)
missing_some number (Some name) end M (EntityTooLong at) x = absurd x
missing_some number (Some name) end M (Wire fault) x = absurd x
missing_some number (Some name) end M (NotText at) x = absurd x
missing_some number (Some name) end M Memory x = absurd x

pub faults_some : (known : Known) (end : ℕ) (M : Piece → Type 0) (f : FeedFault) → HasFaultIn known M end f
    → (p : Piece) × M p
faults_some Nothing end M f x = absurd x
faults_some (WithText number name others) end M f (inl (inl x)) = (x.1.0, x.1.1)
faults_some (WithText number name others) end M f (inl (inr x)) = missing_some number name end M f x
faults_some (WithText number name others) end M f (inr x) = faults_some others end M f x
faults_some (WithMessage number name inner others) end M f (inl (inl (inl x))) = (x.1.0, x.1.1)
faults_some (WithMessage number name inner others) end M f (inl (inl (inr x))) = let q =
    faults_some inner end (Inside number M) f x in (q.1.0, q.1.1)
faults_some (WithMessage number name inner others) end M f (inl (inr x)) = missing_some number name end M f x
faults_some (WithMessage number name inner others) end M f (inr x) = faults_some others end M f x
faults_some (WithMessages number inner others) end M f (inl x) = (x.1.0, x.1.1)
faults_some (WithMessages number inner others) end M f (inr x) = faults_some others end M f x
