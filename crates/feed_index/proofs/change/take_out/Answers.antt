use Rattle.std.proofs.Common.{◌<◌, length, arith}
use Rattle.feed_index.proofs.ChangeLemmas.{taken, value_is}
use Rattle.feed_index.proofs.change.take_out.Goals as goal

pub returns-clause-held : goal.returns-clause-held
returns-clause-held g c =
    let within : c.args.at < length c.args.rows.now.items = omega arith in
    let one = taken c.args.rows.now.items c.args.pool.now.spans c.give_back.new.self.spans c.args.at c.remove-value.result within c.remove-value.ensures.value
    c.requires.held c.give_back.ensures.spans c.give_back.ensures.live in
    rw c.remove-value.ensures.items one.held

pub returns-clause-entries : goal.returns-clause-entries
returns-clause-entries g c =
    let within : c.args.at < length c.args.rows.now.items = omega arith in
    let one = taken c.args.rows.now.items c.args.pool.now.spans c.give_back.new.self.spans c.args.at c.remove-value.result within c.remove-value.ensures.value
    c.requires.held c.give_back.ensures.spans c.give_back.ensures.live in
    rw c.remove-value.ensures.items one.entries_are

pub returns-clause-old : goal.returns-clause-old
returns-clause-old g c =
    let within : c.args.at < length c.args.rows.now.items = omega arith in
    value_is c.args.rows.now.items c.args.at c.remove-value.result within c.remove-value.ensures.value
