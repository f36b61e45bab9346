-- All deliveries, and then the counts of what was taken.
use Rattle.std.proofs.Common.{◌∙◌, [], Err, List, subst}
use Rattle.gw_base.specs.Answers.{UnlessFree}
use Rattle.gateway_core.specs.Arrivals.{Arrival}
use Rattle.gateway_core.specs.declared.setting.Setting.{Setting}
use Rattle.sample_maker.specs.Deliveries.{deliveries}
use Rattle.file_commands.specs.Exits.{is_free}
use Rattle.file_commands.specs.Samples.{ArrivesOf, IsCounted}
use Rattle.file_commands.proofs.SampleLemmas.{all_counted, then_ended}
use Rattle.file_commands.proofs.samples.deliveries_counted.Goals as goal

pub returns-in-Ok-clause-told : goal.returns-in-Ok-clause-told
returns-in-Ok-clause-told c =
    let maker = c.args.maker.now in
    let took = c.in-Ok.ensures.told in
    all_counted c.args.setting c.in_ok-gate.gate.setting c.take_all.new.gate.setting (deliveries maker.seed maker.trips maker.stops) c.counted.result
    c.in_ok-gate.ensures.setting (c.take_all.ensures.setting ∙ c.in_ok-gate.ensures.setting) took.0 took.1 (c.counted.ensures.told took.0 took.2)

pub returns-clause-told : goal.returns-clause-told
returns-clause-told c =
    let maker = c.args.maker.now in
    let texts = deliveries maker.seed maker.trips maker.stops in
    then_ended (ArrivesOf c.args.setting (deliveries maker.seed maker.trips maker.stops) []) (IsCounted c.args.setting) c.in-Err.end
    (subst (λ (s : Setting). UnlessFree {T = List Arrival} is_free (Err c.in-Err.end) (ArrivesOf s (deliveries maker.seed maker.trips maker.stops) []))
    c.in_ok-gate.ensures.setting c.in-Err.ensures.told)
