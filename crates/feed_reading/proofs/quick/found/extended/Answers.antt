-- A body after those that are put together.
use Rattle.feed_reading.proofs.OneMore.{found_more}
use Rattle.feed_reading.proofs.quick.found.extended.Goals as goal

pub returns : goal.returns
returns c = λ bodies known.
    let read = c.in_ok-check_fields.ensures.whole in
    found_more bodies c.args.body.now c.args.bytes c.extend.new.self read.0 read.1 c.in_ok-extend.ensures.added known
