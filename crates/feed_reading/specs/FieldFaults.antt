-- The faults of a feed field by field, from the front: what is told of the fields that came first stays, whatever
-- follows them, but that the header or its version is missing.
use Rattle.std.specs.Prelude.{◌≡◌, ℕ, ◌+◌, List, Some}
use Rattle.gw_base.specs.declared.required.Required.{Required}
use Rattle.gw_base.specs.declared.required.Required.TheVariants.{Header, GtfsRealtimeVersion, Id, Trip, Text}
use Rattle.feed_reading.specs.declared.fault.FeedFault.{FeedFault}
use Rattle.feed_reading.specs.declared.fault.FeedFault.TheVariants as faults
use Rattle.feed_reading.specs.Faults.{HasFault, IsLeast}

-- the fields that are told to be missing at the end of the feed, and so rest on all its bytes
abbrev pub AtEnd : Required → Type 0
AtEnd Header = Unit {0}
AtEnd GtfsRealtimeVersion = Unit {0}
AtEnd Id = ⊥
AtEnd Trip = ⊥
AtEnd Text = ⊥

-- the header or its version is missing
abbrev pub IsOfHeader : FeedFault → Type 0
IsOfHeader (faults.MissingField at name) = AtEnd name
IsOfHeader (faults.EntityTooLong at) = ⊥
IsOfHeader (faults.Wire fault) = ⊥
IsOfHeader (faults.NotText at) = ⊥
IsOfHeader faults.Memory = ⊥

-- the place of a fault; want of memory has none
abbrev pub place_of : FeedFault → ℕ
place_of (faults.EntityTooLong at) = at
place_of (faults.Wire fault) = fault.at
place_of (faults.NotText at) = at
place_of (faults.MissingField at name) = at
place_of faults.Memory = 0

-- the same fault so many bytes further
abbrev pub moved : ℕ → FeedFault → FeedFault
moved far (faults.EntityTooLong at) = faults.EntityTooLong (far + at)
moved far (faults.Wire fault) = faults.Wire (record { at = far + fault.at; kind = fault.kind })
moved far (faults.NotText at) = faults.NotText (far + at)
moved far (faults.MissingField at name) = faults.MissingField (far + at) name
moved far faults.Memory = faults.Memory

-- the faults of bytes, but that the header or its version is missing; those of a list of fields stay, whatever follows
abbrev pub HasFieldFault : List ℕ → FeedFault → Type 0
HasFieldFault bytes fault = HasFault bytes fault × ¬ IsOfHeader fault

-- bytes have no fault, but that the header or its version may be missing
abbrev pub Faultless : List ℕ → Type 0
Faultless bytes = (fault : FeedFault) → HasFault bytes fault → IsOfHeader fault

-- the first fault of bytes, but that the header or its version is missing
abbrev pub IsFirst : List ℕ → FeedFault → Type 0
IsFirst bytes fault = IsLeast (HasFieldFault bytes) (Some fault)

-- the faults of bytes that follow so many others
abbrev pub HasFaultAfter : ℕ → List ℕ → FeedFault → Type 0
HasFaultAfter far bytes fault = (other : FeedFault) × HasFieldFault bytes other × (fault ≡ moved far other)
