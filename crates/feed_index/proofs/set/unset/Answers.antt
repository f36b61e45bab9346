use Rattle.std.proofs.Common.{◌∙◌, sym}
use Rattle.feed_index.specs.Rows.{IsGapAt, StandsAt}
use Rattle.feed_index.proofs.SetLemmas.{removed_found, removed_gap, sorted_removed, value_found, value_gap}
use Rattle.feed_index.proofs.set.unset.Goals as goal

pub returns-in-Ok-clause-entries : goal.returns-in-Ok-clause-entries
returns-in-Ok-clause-entries g c =
    let stands : StandsAt g.K.Ord.cmp c.args.rows.now.items c.args.key.now c.in-Ok.at = rw c.deref.ensures.value at c.in-Ok.ensures.parts in
    c.take_out.ensures.entries ∙ removed_found g.met.K.Ord.total c.args.pool.now.spans c.args.rows.now.items c.args.key.now c.in-Ok.at stands

pub returns-in-Ok-clause-sorted : goal.returns-in-Ok-clause-sorted
returns-in-Ok-clause-sorted g c =
    let stands : StandsAt g.K.Ord.cmp c.args.rows.now.items c.args.key.now c.in-Ok.at = rw c.deref.ensures.value at c.in-Ok.ensures.parts in
    sorted_removed g.met.K.Ord.total c.args.pool.now.spans c.take_out.new.pool.spans c.args.rows.now.items c.take_out.new.rows.items c.args.key.now c.requires.sorted
    (c.take_out.ensures.entries ∙ removed_found g.met.K.Ord.total c.args.pool.now.spans c.args.rows.now.items c.args.key.now c.in-Ok.at stands)

pub returns-in-Ok-clause-old : goal.returns-in-Ok-clause-old
returns-in-Ok-clause-old g c =
    let stands : StandsAt g.K.Ord.cmp c.args.rows.now.items c.args.key.now c.in-Ok.at = rw c.deref.ensures.value at c.in-Ok.ensures.parts in
    value_found g.met.K.Ord.total c.args.pool.now.spans c.args.rows.now.items c.args.key.now c.in-Ok.at c.take_out.result c.requires.sorted stands c.take_out.ensures.old

pub returns-in-Err-clause-entries : goal.returns-in-Err-clause-entries
returns-in-Err-clause-entries g c =
    let gap : IsGapAt g.K.Ord.cmp c.args.rows.now.items c.args.key.now c.in-Err.field-0 = rw c.deref.ensures.value at c.in-Err.ensures.parts in
    removed_gap g.met.K.Ord.total c.args.pool.now.spans c.args.rows.now.items c.args.key.now c.in-Err.field-0 gap

pub returns-in-Err-clause-old : goal.returns-in-Err-clause-old
returns-in-Err-clause-old g c =
    let gap : IsGapAt g.K.Ord.cmp c.args.rows.now.items c.args.key.now c.in-Err.field-0 = rw c.deref.ensures.value at c.in-Err.ensures.parts in
    sym (value_gap g.met.K.Ord.total c.args.pool.now.spans c.args.rows.now.items c.args.key.now c.in-Err.field-0 gap)
