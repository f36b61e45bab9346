-- So many days before the local one, or the last day with which a window may begin.
use Rattle.std.proofs.Common.{FitsSigned, w64, ◌≡◌, ◌∙◌, ◌-ℤ◌, pos, rules, to_z, of_z, ℤ, ap, sym, subst}
use Rattle.std.proofs.lemmas.Int.{to_z-of_z}
use Rattle.std.specs.Prelude.{◌+ℤ◌, ◌≤ℤ◌}
use Rattle.service_day.specs.Starts.{local_day}
use Rattle.gateway_core.proofs.FirstDayLemmas.{kept_end, number_kept}
use Rattle.gateway_core.proofs.rolling.kept_from.Goals as goal

pub returns : goal.returns
returns c =
    let fits : FitsSigned w64 c.secs.result = search rules in
    let day : c.in-Ok.day ≡ local_day c.args.zone.now (to_z w64 (of_z w64 c.secs.result)) = cc (c.in-Ok.ensures) in
    let local = local_day c.args.zone.now c.args.moment in
    let same : c.number-local.result ≡ local_day c.args.zone.now c.args.moment =
    c.number-local.ensures.value ∙ day ∙ ap (λ (secs : ℤ). local_day c.args.zone.now secs) (to_z-of_z w64 c.secs.result fits ∙ c.secs.ensures.value) in
    let value = number_kept c.number-local.result (local_day c.args.zone.now c.args.moment) c.min.result c.args.keep c.args.days same c.number-local.ensures.range c.ranges.keep.fits c.ranges.days.fits c.min.ensures.value in
    record {
      value = value;
      end = subst (λ (z : ℤ). (z +ℤ pos c.args.days) ≤ℤ pos 2932167) (sym value) (kept_end (local_day c.args.zone.now c.args.moment -ℤ pos c.args.keep) c.args.days);
    }
