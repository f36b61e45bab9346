-- The field is missing where all pieces lack it.
use Rattle.std.proofs.Common.{sym, eqb-true, subst}
use Rattle.std.specs.Prelude.{Option, Some, None}
use Rattle.gw_base.specs.declared.required.Required.{Required}
use Rattle.feed_reading.specs.declared.fault.FeedFault.TheVariants.{MissingField}
use Rattle.feed_reading.specs.Faults.{IsMissing, IsLeast}
use Rattle.feed_reading.specs.Pieces.{Listed}
use Rattle.feed_reading.proofs.MissingFields.{not_missing_in, not_missing_empty, missing_here}
use Rattle.feed_reading.proofs.finder.pieces.missing.Goals as goal

pub returns-then-is_empty : goal.returns-then-is_empty
returns-then-is_empty c =
    let P : Option Required → Type 0 =
    λ name. IsLeast (IsMissing c.args.number name (Listed c.args.pieces.now) c.args.end) None in
    subst P (sym c.in-Some.is)
    (not_missing_empty c.args.number c.args.end c.in-Some.name c.args.pieces.now
    (eqb-true _ _ (sym c.if-is_empty.ensures)))

pub returns-then-all_lack : goal.returns-then-all_lack
returns-then-all_lack c =
    let P : Option Required → Type 0 =
    λ name. IsLeast (IsMissing c.args.number name (Listed c.args.pieces.now) c.args.end)
    (Some (MissingField c.place_of-place.result c.in-Some.name)) in
    subst P (sym c.in-Some.is)
    (missing_here c.args.number c.args.end c.first_tag.result c.place_of-place.result c.in-Some.name c.args.pieces.now
    c.if-all_lack.ensures c.first_tag.ensures c.place_of-place.ensures)

pub returns-else-all_lack : goal.returns-else-all_lack
returns-else-all_lack c =
    let P : Option Required → Type 0 =
    λ name. IsLeast (IsMissing c.args.number name (Listed c.args.pieces.now) c.args.end) None in
    subst P (sym c.in-Some.is)
    (not_missing_in c.args.number c.args.end c.in-Some.name c.args.pieces.now c.if-all_lack.ensures)
