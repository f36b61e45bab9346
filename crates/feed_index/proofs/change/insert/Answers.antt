use Rattle.std.proofs.Common.{◌≡◌, true}
use Rattle.std.specs.Prelude.{is_ok}
use Rattle.feed_index.proofs.ChangeLemmas.{inserted}
use Rattle.feed_index.proofs.change.insert.Goals as goal

pub returns-clause-held : goal.returns-clause-held
returns-clause-held g c =
    let one = inserted c.args.rows.now.items c.args.pool.now.spans c.put-slot.new.self.spans c.args.at (record { key = c.args.key; value = c.args.value; slot = c.put-slot.result }) c.args.bytes.now
    c.requires.held c.put-slot.ensures.apart c.put-slot.ensures.added c.put-slot.ensures.live in
    let ok : is_ok c.insert.result ≡ true = c.insert.ensures.succeeds c.requires.rows_room in
    rw (c.insert.ensures.items, ok) one.held

pub returns-clause-entries : goal.returns-clause-entries
returns-clause-entries g c =
    let one = inserted c.args.rows.now.items c.args.pool.now.spans c.put-slot.new.self.spans c.args.at (record { key = c.args.key; value = c.args.value; slot = c.put-slot.result }) c.args.bytes.now
    c.requires.held c.put-slot.ensures.apart c.put-slot.ensures.added c.put-slot.ensures.live in
    let ok : is_ok c.insert.result ≡ true = c.insert.ensures.succeeds c.requires.rows_room in
    rw (c.insert.ensures.items, ok) one.entries_are
