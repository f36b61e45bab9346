use Rattle.std.proofs.Common.{◌≡◌, ◌∙◌, Some, get_or, ap, sym, rules}
use Rattle.feed_index.specs.declared.row.Row.{Row}
use Rattle.feed_index.proofs.ChangeLemmas.{value_is}
use Rattle.feed_index.proofs.SetLemmas.{value_found, value_gap}
use Rattle.feed_index.proofs.place.value_in.Goals as goal

pub returns-in-Ok : goal.returns-in-Ok
returns-in-Ok g c =
    let rows = c.args.rows.now in
    let row = c.index-rows-at.result in
    let is_row : row ≡ get_or rows c.in-Ok.at row = search rules in
    record { value = λ spans. ap (λ (each : Row _ _). Some each.value) (sym is_row) ∙ value_found g.met.K.Ord.total spans rows c.args.key.now c.in-Ok.at row.value c.requires.sorted c.in-Ok.ensures.parts (value_is rows c.in-Ok.at row c.in-Ok.ensures.parts.within is_row) }

pub returns-in-Err : goal.returns-in-Err
returns-in-Err g c = record { value = λ spans. sym (value_gap g.met.K.Ord.total spans c.args.rows.now c.args.key.now c.in-Err.field-0 c.in-Err.ensures.parts) }
