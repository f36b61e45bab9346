-- What the readings of a feed keep, for the delivery that says them.
use Rattle.std.proofs.Common.{◌≡◌, ℕ, List, All, Result, Ok, Err, IfOk, sym, subst, ℤ}
use Rattle.gw_base.specs.Moments.{IsMoment}
use Rattle.timetable.specs.Sound.{IsSound}
use Rattle.journey_model.specs.Schedules.{Schedule}
use Rattle.journey_model.specs.declared.readings.DatedReading.{DatedReading}
use Rattle.siri_calls.specs.Written.DeliveryTree.{delivery_text}
use Rattle.siri_calls.specs.Written.SaidAgain.{SaysAgain}
use Rattle.siri_calls.specs.Written.Sayable.{IsSayable}
use Rattle.siri_calls.proofs.Written.SaidAgain.{says_again}

-- a text that says them says them again
pub says_all : {E : Type 0} → (schedule : Schedule) (moment : ℤ) (journeys : List DatedReading) (text : Result (List ℕ) E)
    → IfOk text (λ written. written ≡ delivery_text schedule moment journeys) → IsSound schedule.table → IsMoment moment → All (IsSayable schedule) journeys
    → IfOk text (SaysAgain schedule moment journeys)
says_all schedule moment journeys (Err fault) same sound at all = tt
says_all schedule moment journeys (Ok text) same sound at all = subst (SaysAgain schedule moment journeys) (sym same) (says_again schedule moment journeys sound at all)
