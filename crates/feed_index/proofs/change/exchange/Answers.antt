use Rattle.std.proofs.Common.{◌≡◌, ◌<◌, length, get_or, rules, arith}
use Rattle.feed_index.proofs.ChangeLemmas.{exchanged, joined, is_live_then, value_is}
use Rattle.feed_index.proofs.change.exchange.Goals as goal

pub returns-clause-entries : goal.returns-clause-entries
returns-clause-entries g c =
    let within : c.args.at < length c.args.rows.now.items = omega arith in
    let old = c.replace-old.result in
    let is_old : old ≡ get_or c.args.rows.now.items c.args.at old = search rules in
    let two = joined c.args.rows.now.items c.args.pool.now.spans c.put-slot.new.self.spans c.args.at old (record { key = c.args.key; value = c.args.value; slot = c.put-slot.result }) c.args.bytes.now
    within is_old c.requires.held c.put-slot.ensures.apart c.put-slot.ensures.added c.put-slot.ensures.live in
    let one = exchanged _ _ _ c.give_back.new.self.spans _ _ _ _ within two c.give_back.ensures.spans c.give_back.ensures.live in
    rw c.replace-old.ensures.after one.entries_are

pub give_back-requires : goal.give_back-requires
give_back-requires g c =
    let within : c.args.at < length c.args.rows.now.items = omega arith in
    let old = c.replace-old.result in
    let is_old : old ≡ get_or c.args.rows.now.items c.args.at old = search rules in
    record {
      held = is_live_then _ _ _ _ _ _ _ (joined c.args.rows.now.items c.args.pool.now.spans c.put-slot.new.self.spans c.args.at old (record { key = c.args.key; value = c.args.value; slot = c.put-slot.result }) c.args.bytes.now
          within is_old c.requires.held c.put-slot.ensures.apart c.put-slot.ensures.added c.put-slot.ensures.live);
    }

pub returns-clause-held : goal.returns-clause-held
returns-clause-held g c =
    let within : c.args.at < length c.args.rows.now.items = omega arith in
    let old = c.replace-old.result in
    let is_old : old ≡ get_or c.args.rows.now.items c.args.at old = search rules in
    let two = joined c.args.rows.now.items c.args.pool.now.spans c.put-slot.new.self.spans c.args.at old (record { key = c.args.key; value = c.args.value; slot = c.put-slot.result }) c.args.bytes.now
    within is_old c.requires.held c.put-slot.ensures.apart c.put-slot.ensures.added c.put-slot.ensures.live in
    let one = exchanged _ _ _ c.give_back.new.self.spans _ _ _ _ within two c.give_back.ensures.spans c.give_back.ensures.live in
    rw c.replace-old.ensures.after one.held

pub returns-clause-old : goal.returns-clause-old
returns-clause-old g c =
    let within : c.args.at < length c.args.rows.now.items = omega arith in
    let old = c.replace-old.result in
    let is_old : old ≡ get_or c.args.rows.now.items c.args.at old = search rules in
    value_is c.args.rows.now.items c.args.at old within is_old
