-- The fault is what a reader tells.
use Rattle.feed_reading.specs.declared.fault.FeedFault.{FeedFault}
use Rattle.feed_reading.specs.declared.fault.FeedFault.TheVariants.{EntityTooLong, Wire, NotText, MissingField, Memory}
use Rattle.std.proofs.Common.{ℕ, List}
use Rattle.feed_reading.specs.Faults.{IsFeedFault, IsTold}

pub told : (bytes : List ℕ) (fault : FeedFault) → IsFeedFault bytes fault → IsTold bytes fault
told bytes (EntityTooLong at) h = h
told bytes (Wire fault) h = h
told bytes (NotText at) h = h
told bytes (MissingField at name) h = h
told bytes Memory h = tt
