-- What the sample is worked over, and then its deliveries.
use Rattle.file_commands.specs.Samples.{IsCountOfDeliveries, IsMadeSetting}
use Rattle.file_commands.proofs.SampleLemmas.{then_ended, then_found}
use Rattle.file_commands.proofs.samples.run_sample.Goals as goal

pub returns-in-Ok-clause-sample : goal.returns-in-Ok-clause-sample
returns-in-Ok-clause-sample c =
    let first = rw c.make-maker.ensures at c.in-Ok.ensures.told in
    let second = rw c.make-maker.ensures at c.deliveries_counted.ensures.told in
    then_found (IsMadeSetting c.args.trips c.args.stops) (IsCountOfDeliveries c.args.seed c.args.trips c.args.stops) c.in-Ok.setting c.deliveries_counted.result first second

pub returns-in-Err-clause-sample : goal.returns-in-Err-clause-sample
returns-in-Err-clause-sample c =
    let first = rw c.make-maker.ensures at c.in-Err.ensures.told in
    then_ended (IsMadeSetting c.args.trips c.args.stops) (IsCountOfDeliveries c.args.seed c.args.trips c.args.stops) c.in-Err.end first
