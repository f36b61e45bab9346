-- The entity of the record stands at its journey.
use Rattle.std.proofs.Common.{◌∙◌, ap}
use Rattle.journey_model.specs.declared.readings.JourneyRecord.{JourneyRecord}
use Rattle.gateway_core.specs.JourneySteps.{journey_of}
use Rattle.gateway_core.proofs.JourneyLemmas.{put_seen}
use Rattle.gateway_core.proofs.items.journeys.put_record.Goals as goal

pub returns-clause-entries : goal.returns-clause-entries
returns-clause-entries c =
    put_seen c.args.context.now c.args.draft.now c.put.new.self c.args.rec c.key_of-key.result c.in_ok-made.made.rec.at c.in_ok-made.made.entity c.in_ok-put.ensures.put
    (c.key_of-key.ensures ∙ ap journey_of c.in_ok-made.ensures.rec) (ap (λ (r : JourneyRecord). r.at) c.in_ok-made.ensures.rec) c.in_ok-made.ensures.bytes
