-- Steps over a feed.
use Rattle.std.proofs.Common.{◌≡◌, ℕ, ℤ, Bool, true, false, List, Option, Some, None, Result, Err, IfSome}
use Rattle.std.specs.Bool.{MatchBool}
use Rattle.std.proofs.lemmas.Bool.{true≢false}
use Rattle.gw_base.specs.declared.messages.Feed.{Feed}
use Rattle.journey_model.specs.FeedReadings.{is_differential}
use Rattle.journey_model.specs.Schedules.{Schedule}
use Rattle.journey_model.specs.declared.report.Report.{Report}
use Rattle.reverse_alerts.specs.Sx as alerts
use Rattle.reverse_alerts.specs.declared.sx_fault.SxFault.{SxFault}
use Rattle.reverse_alerts.specs.declared.sx_fault.SxFault.TheVariants as sx_fault

-- what stands whatever files are told stands of those that are
pub whatever : {X : Type 0} (told : Option X) (P : Type 0) → P → IfSome told (λ x. P)
whatever None P holds = tt
whatever (Some x) P holds = holds

-- the answer of alerts for a full dataset
pub full_sx_answer : (schedule : Schedule) (feed : Feed) (moment : ℤ) (answer : Result (List ℕ × Report) SxFault) → is_differential feed ≡ false
    → alerts.IsAnswer schedule feed moment answer → alerts.IsFullAnswer schedule feed moment answer
full_sx_answer schedule feed moment answer full is = by (is_differential feed) full is
  where
    by : (b : Bool) → b ≡ false → MatchBool b (answer ≡ Err sx_fault.Differential) (alerts.IsFullAnswer schedule feed moment answer)
        → alerts.IsFullAnswer schedule feed moment answer
    by true e h = absurd (true≢false e)
    by false e h = h
