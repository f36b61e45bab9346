use Rattle.std.proofs.Common.{◌≡◌, ◌≢◌, ◌<◌, length, ap, ◌∙◌, arith, rules, below_more, length-set, get_or-set_other, get_or-set_same, FitsSigned, w64, to_z-of_z, ◌+ℤ◌, pos}
use Rattle.service_day.specs.Starts.{start}
use Rattle.service_day.proofs.WindowLemmas.{window_is}
use Rattle.service_day.proofs.windows.Window.make.Goals as goal

pub loop-i-preserved : goal.loop-i-preserved
loop-i-preserved c =
    let fits : FitsSigned w64 c.start_of_day.result = search rules in
    let room : length c.loop-i.starts ≡ 32 = c.loop-i.invariant.room in
    let here : c.start_of_day.result ≡ start c.args.zone.now (c.args.first +ℤ pos c.loop-i.i) = c.start_of_day.ensures.value ∙ ap (start c.args.zone.now) c.later.ensures in
    record {
      room = rw length-set room;
      each = simp to_z-of_z
          (below_more _ _
          (λ k h. let ne : k ≢ c.loop-i.i = omega arith in rw get_or-set_other (c.loop-i.invariant.each k h))
          (let lt : c.loop-i.i < length c.loop-i.starts = omega arith in rw get_or-set_same here));
      in_range = simp to_z-of_z
          (below_more _ _
          (λ k h. let ne : k ≢ c.loop-i.i = omega arith in rw get_or-set_other (c.loop-i.invariant.in_range k h))
          (let lt : c.loop-i.i < length c.loop-i.starts = omega arith in rw get_or-set_same c.start_of_day.ensures.range));
    }

pub returns-clause-value : goal.returns-clause-value
returns-clause-value c =
    window_is c.args.zone.now c.args.first c.args.days c.loop-i.starts (omega (arith, c.loop-i.invariant.room)) (λ k h. c.loop-i.invariant.each k (omega arith))

pub invariant_of-result : goal.invariant_of-result
invariant_of-result c = (c.requires.few_days, c.loop-i.invariant.room, λ k h. c.loop-i.invariant.in_range k (omega arith), c.requires.some_days, c.requires.first_in, c.requires.last_in)
