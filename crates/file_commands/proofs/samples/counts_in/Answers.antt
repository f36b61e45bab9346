-- The counts of the feed that was read, over what the deliveries were read over.
use Rattle.std.proofs.Common.{ap, subst, sym}
use Rattle.journey_model.specs.Schedules.{Schedule}
use Rattle.service_day.specs.Windows.{DayStarts}
use Rattle.gateway_core.specs.Arrivals.{moments_of}
use Rattle.sample_counts.specs.Counts.{HasOneDay}
use Rattle.file_commands.specs.Made.{made}
use Rattle.file_commands.specs.Samples.{IsCountsOf}
use Rattle.file_commands.proofs.ArrivalLemmas.{one_day}
use Rattle.file_commands.proofs.SampleLemmas.{counts_found, few_updates, no_end}
use Rattle.file_commands.proofs.samples.counts_in.Goals as goal

pub count_feed-requires-clause-day : goal.count_feed-requires-clause-day
count_feed-requires-clause-day c =
    let shows = c.context.ensures.shows c.requires.stands.0 c.requires.stands.1 in
    subst (λ (window : DayStarts). HasOneDay window) (sym (ap (λ (s : Schedule). s.window) shows))
    (one_day c.args.gate.now.setting (moments_of c.requires.stands.0) c.requires.day)

pub count_feed-requires-clause-few : goal.count_feed-requires-clause-few
count_feed-requires-clause-few c =
    few_updates c.args.bytes.now c.in-Ok.feed c.requires.feed.0 c.requires.feed.1 (c.in-Ok.ensures.only _ c.requires.feed.1.means)

pub returns-clause-told : goal.returns-clause-told
returns-clause-told c = λ arrivals stands.
    counts_found c.args.gate.now.setting arrivals c.context.result c.args.bytes.now c.in-Ok.feed c.in_ok-count_feed.field-0
    c.in-Ok.ensures.told (c.context.ensures.shows arrivals stands) c.in_ok-count_feed.ensures

pub returns-in-Err-clause-told : goal.returns-in-Err-clause-told
returns-in-Err-clause-told c = λ arrivals stands.
    no_end (IsCountsOf c.args.gate.now.setting arrivals c.args.bytes.now) made c.args.bytes.now c.in-Err.end c.requires.faultless c.in-Err.ensures.told
