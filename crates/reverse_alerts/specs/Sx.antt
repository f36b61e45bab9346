-- The SIRI delivery of situations that says what a feed's alerts say (SIRI 2.0, SituationExchangeDelivery; GTFS
-- Realtime reference, Alert).
use Rattle.std.specs.Prelude.{◌≡◌, ℕ, ℤ, List, map, MatchBool, Result, Ok, Err}
use Rattle.gw_base.specs.declared.messages.Feed.{Feed}
use Rattle.journey_model.specs.FeedReadings.{is_differential}
use Rattle.journey_model.specs.Schedules.{Schedule}
use Rattle.journey_model.specs.declared.report.Report.{Report}
use Rattle.journey_model.specs.declared.situation.Situation.{Situation}
use Rattle.timetable.specs.Table.{Table}
use Rattle.alert_map.specs.Alerts.{alert}
use Rattle.reverse_alerts.specs.Again.{SaysAgain}
use Rattle.reverse_alerts.specs.Senses.{Sense, sense}
use Rattle.reverse_alerts.specs.SituationTree.{delivery_text}
use Rattle.reverse_alerts.specs.Taken.{alerts, report_on, situations}
use Rattle.reverse_alerts.specs.declared.sx_fault.SxFault.{SxFault}
use Rattle.reverse_alerts.specs.declared.sx_fault.SxFault.TheVariants.{Differential, Memory}

-- what the alert of a situation says
abbrev pub alert_sense : Table → Situation → Sense
alert_sense table one = sense table (alert table one)

-- the text says the situations of a feed's alerts that are taken, in order, and says them when it is read again: each
-- is served, and its alert has the sense of the one that it came from. The report is that on the feed's entities
pub record IsSx (schedule : Schedule) (feed : Feed) (moment : ℤ) (text : List ℕ) (report : Report) : Type 0 where
  pub reports : report ≡ report_on schedule.table feed.entities
  pub is_text : text ≡ delivery_text schedule.table moment (situations schedule.table feed.entities)
  pub again : SaysAgain schedule (situations schedule.table feed.entities) text
  pub senses : map (alert_sense schedule.table) (situations schedule.table feed.entities)
      ≡ map (sense schedule.table) (alerts schedule.table feed.entities)

-- what a feed that isn't differential is answered: want of memory is free
abbrev pub IsFullAnswer : Schedule → Feed → ℤ → Result (List ℕ × Report) SxFault → Type 0
IsFullAnswer schedule feed moment (Ok both) = IsSx schedule feed moment both.0 both.1
IsFullAnswer schedule feed moment (Err Differential) = ⊥
IsFullAnswer schedule feed moment (Err Memory) = Unit {0}

-- what a feed is answered: a differential one just that it is one
abbrev pub IsAnswer : Schedule → Feed → ℤ → Result (List ℕ × Report) SxFault → Type 0
IsAnswer schedule feed moment answer =
    MatchBool (is_differential feed) (answer ≡ Err Differential) (IsFullAnswer schedule feed moment answer)
