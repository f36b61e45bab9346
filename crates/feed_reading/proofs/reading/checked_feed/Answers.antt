-- Where there is no fault, a feed is meant.
use Rattle.std.proofs.Common.{ap, Err}
use Rattle.feed_reading.proofs.Told.{told}
use Rattle.feed_reading.proofs.FaultLaw.{meant_without_fault}
use Rattle.feed_reading.proofs.reading.checked_feed.Goals as goal

pub returns-in-Ok-Some : goal.returns-in-Ok-Some
returns-in-Ok-Some c =
    record {
      means = tt;
      no_fault = tt;
      fault = told c.args.bytes.now c.in-Ok-Some.fault (rw c.in-Ok-Some.field-0-is at c.in-Ok-Some.ensures);
    }

pub returns-in-Ok : goal.returns-in-Ok
returns-in-Ok c =
    record { means = c.in-Ok.ensures.means; no_fault = rw c.in-Ok-None.field-0-is at c.in-Ok-None.ensures; fault = tt }

pub unreachable-requires : goal.unreachable-requires
unreachable-requires c =
    let meant = meant_without_fault c.args.bytes.now (rw c.in-Ok-None.field-0-is at c.in-Ok-None.ensures) in
    c.in-Err-Meaningless.ensures.none (ap Err c.in-Err-Meaningless.field-0-is) meant.0.0 meant.0.1
