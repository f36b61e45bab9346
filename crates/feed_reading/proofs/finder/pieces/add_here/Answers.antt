-- The field is this piece, or no piece.
use Rattle.std.proofs.lemmas.Result.{on_ok_weaker}
use Rattle.wire_fields.specs.Seen.{field_of}
use Rattle.feed_reading.proofs.PieceWalks.{goes_on_none, goes_on_some}
use Rattle.feed_reading.proofs.finder.pieces.add_here.Goals as goal

pub returns-in-Some : goal.returns-in-Some
returns-in-Some c =
    on_ok_weaker c.push.result
    (λ added. rw added
    (goes_on_some c.args.number c.args.list.now c.args.rest.now c.args.after.now c.in-Some.inner
    (field_of c.args.field.now) c.requires c.in-Some.ensures))
    c.push.ensures.added

pub returns-in-None : goal.returns-in-None
returns-in-None c =
    goes_on_none c.args.number c.args.list.now c.args.rest.now c.args.after.now (field_of c.args.field.now) c.requires
    c.in-None.ensures
