-- The texts' fault, or that the field is missing.
use Rattle.feed_reading.specs.Faults.{Inside, InSome, IsNotText, IsMissing}
use Rattle.feed_reading.specs.Pieces.{Listed}
use Rattle.feed_reading.proofs.FaultOrder.{least_either, least_same}
use Rattle.feed_reading.proofs.PieceSets.{in_same, same_turned}
use Rattle.feed_reading.proofs.finder.messages.text_faults.Goals as goal

pub returns : goal.returns
returns c =
    let set = c.in_ok-texts.ensures in
    let texts =
    least_same (InSome (Listed c.as_slice.result.now) IsNotText)
    (InSome (Inside c.args.number (Listed c.args.pieces.now)) IsNotText)
    (rw c.as_slice.ensures.same (in_same IsNotText (same_turned set)))
    (rw c.as_slice.ensures.same (in_same IsNotText set)) c.first_no_text-text.result c.first_no_text-text.ensures in
    rw c.earlier.ensures
    (least_either (InSome (Inside c.args.number (Listed c.args.pieces.now)) IsNotText)
    (IsMissing c.args.number c.args.name (Listed c.args.pieces.now) c.args.end) c.first_no_text-text.result
    c.missing.result texts c.missing.ensures)
