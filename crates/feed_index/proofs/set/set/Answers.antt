use Rattle.std.proofs.Common.{◌∙◌, sym}
use Rattle.feed_index.specs.Rows.{IsGapAt, StandsAt}
use Rattle.feed_index.proofs.SetLemmas.{put_found, put_gap, sorted_put, value_found, value_gap}
use Rattle.feed_index.proofs.set.set.Goals as goal

pub returns-in-Ok-clause-entries : goal.returns-in-Ok-clause-entries
returns-in-Ok-clause-entries g c =
    let stands : StandsAt g.K.Ord.cmp c.args.rows.now.items c.args.key c.in-Ok.at = rw c.deref.ensures.value at c.in-Ok.ensures.parts in
    c.exchange.ensures.entries ∙ put_found g.met.K.Ord.total c.args.pool.now.spans c.args.rows.now.items (record { key = c.args.key; value = c.args.value; bytes = c.args.bytes.now }) c.in-Ok.at stands

pub returns-in-Ok-clause-sorted : goal.returns-in-Ok-clause-sorted
returns-in-Ok-clause-sorted g c =
    let stands : StandsAt g.K.Ord.cmp c.args.rows.now.items c.args.key c.in-Ok.at = rw c.deref.ensures.value at c.in-Ok.ensures.parts in
    sorted_put g.met.K.Ord.total c.args.pool.now.spans c.exchange.new.pool.spans c.args.rows.now.items c.exchange.new.rows.items (record { key = c.args.key; value = c.args.value; bytes = c.args.bytes.now }) c.requires.sorted
    (c.exchange.ensures.entries ∙ put_found g.met.K.Ord.total c.args.pool.now.spans c.args.rows.now.items (record { key = c.args.key; value = c.args.value; bytes = c.args.bytes.now }) c.in-Ok.at stands)

pub returns-in-Ok-clause-old : goal.returns-in-Ok-clause-old
returns-in-Ok-clause-old g c =
    let stands : StandsAt g.K.Ord.cmp c.args.rows.now.items c.args.key c.in-Ok.at = rw c.deref.ensures.value at c.in-Ok.ensures.parts in
    value_found g.met.K.Ord.total c.args.pool.now.spans c.args.rows.now.items c.args.key c.in-Ok.at c.exchange.result c.requires.sorted stands c.exchange.ensures.old

pub returns-in-Err-clause-entries : goal.returns-in-Err-clause-entries
returns-in-Err-clause-entries g c =
    let gap : IsGapAt g.K.Ord.cmp c.args.rows.now.items c.args.key c.in-Err.at = rw c.deref.ensures.value at c.in-Err.ensures.parts in
    c.insert.ensures.entries ∙ put_gap g.met.K.Ord.total c.args.pool.now.spans c.args.rows.now.items (record { key = c.args.key; value = c.args.value; bytes = c.args.bytes.now }) c.in-Err.at gap

pub returns-in-Err-clause-sorted : goal.returns-in-Err-clause-sorted
returns-in-Err-clause-sorted g c =
    let gap : IsGapAt g.K.Ord.cmp c.args.rows.now.items c.args.key c.in-Err.at = rw c.deref.ensures.value at c.in-Err.ensures.parts in
    sorted_put g.met.K.Ord.total c.args.pool.now.spans c.insert.new.pool.spans c.args.rows.now.items c.insert.new.rows.items (record { key = c.args.key; value = c.args.value; bytes = c.args.bytes.now }) c.requires.sorted
    (c.insert.ensures.entries ∙ put_gap g.met.K.Ord.total c.args.pool.now.spans c.args.rows.now.items (record { key = c.args.key; value = c.args.value; bytes = c.args.bytes.now }) c.in-Err.at gap)

pub returns-in-Err-clause-old : goal.returns-in-Err-clause-old
returns-in-Err-clause-old g c =
    let gap : IsGapAt g.K.Ord.cmp c.args.rows.now.items c.args.key c.in-Err.at = rw c.deref.ensures.value at c.in-Err.ensures.parts in
    sym (value_gap g.met.K.Ord.total c.args.pool.now.spans c.args.rows.now.items c.args.key c.in-Err.at gap)
