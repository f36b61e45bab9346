use Rattle.std.proofs.Common.{◌≡◌, sym, get_or, rules}
use Rattle.feed_index.specs.Rows.{IsGapAt, StandsAt}
use Rattle.feed_index.proofs.ChangeLemmas.{value_is}
use Rattle.feed_index.proofs.SetLemmas.{bytes_found, bytes_gap, value_found, value_gap}
use Rattle.feed_index.proofs.index.FeedIndex.find.Goals as goal

pub returns-in-Ok-clause-value : goal.returns-in-Ok-clause-value
returns-in-Ok-clause-value g c =
    let rows = c.self.inside.rows.items in
    let stands : StandsAt g.K.Ord.cmp rows c.args.key.now c.in-Ok.at = rw c.deref.ensures.value at c.in-Ok.ensures.parts in
    let row = c.index-row.result.now in
    let is_row : row ≡ get_or rows c.in-Ok.at row = search rules in
    rw (← c.self.view_is) (value_found g.met.K.Ord.total c.self.inside.pool.spans rows c.args.key.now c.in-Ok.at row.value c.self.invariant.sorted stands (value_is rows c.in-Ok.at row stands.within is_row))

pub returns-in-Ok-clause-bytes : goal.returns-in-Ok-clause-bytes
returns-in-Ok-clause-bytes g c =
    let rows = c.self.inside.rows.items in
    let stands : StandsAt g.K.Ord.cmp rows c.args.key.now c.in-Ok.at = rw c.deref.ensures.value at c.in-Ok.ensures.parts in
    let row = c.index-row.result.now in
    let is_row : row ≡ get_or rows c.in-Ok.at row = search rules in
    rw (← c.self.view_is) (bytes_found g.met.K.Ord.total c.self.inside.pool.spans rows c.args.key.now c.in-Ok.at row c.span.result.now c.self.invariant.sorted stands is_row c.span.ensures.bytes)

pub returns-in-Err-clause-value : goal.returns-in-Err-clause-value
returns-in-Err-clause-value g c =
    let rows = c.self.inside.rows.items in
    let gap : IsGapAt g.K.Ord.cmp rows c.args.key.now c.in-Err.field-0 = rw c.deref.ensures.value at c.in-Err.ensures.parts in
    rw (← c.self.view_is) (sym (value_gap g.met.K.Ord.total c.self.inside.pool.spans rows c.args.key.now c.in-Err.field-0 gap))

pub returns-in-Err-clause-bytes : goal.returns-in-Err-clause-bytes
returns-in-Err-clause-bytes g c =
    let rows = c.self.inside.rows.items in
    let gap : IsGapAt g.K.Ord.cmp rows c.args.key.now c.in-Err.field-0 = rw c.deref.ensures.value at c.in-Err.ensures.parts in
    rw (← c.self.view_is) (sym (bytes_gap g.met.K.Ord.total c.self.inside.pool.spans rows c.args.key.now c.in-Err.field-0 gap))
