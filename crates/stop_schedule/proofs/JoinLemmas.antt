-- What the calendar files say together, and what several reads say of one folder.
use Rattle.std.proofs.Common.{◌≡◌, ◌∙◌, ◌⊎◌, Bool, true, List, Option, Some, None, refl, sym, inl, inr}
use Rattle.std.specs.Prelude.{IfSome, Result}
use Rattle.std.specs.Option.{is_some}
use Rattle.stop_schedule.specs.Causes.{date_fault}
use Rattle.stop_schedule.specs.Faults.{optional_fault}
use Rattle.stop_schedule.specs.Sheet.{Row}
use Rattle.stop_schedule.specs.Timetable.{dates_fault}
use Rattle.stop_schedule.specs.declared.table_file.TableFile.TheVariants as File
use Rattle.stop_schedule.specs.declared.table_fault.TableFault.{TableFault}
use Rattle.std.proofs.lemmas.Bool.{false≢true}

pub if_both : {A : Type 0} (told : Option A) {P Q R : A → Type 0} → IfSome told P → IfSome told Q
    → ((x : A) → P x → Q x → R x) → IfSome told R
if_both None p q f = tt
if_both (Some x) p q f = f x p q

pub dates-none : (calendar dates : Option (Result (List Row) TableFault)) (has_calendar has_dates : Bool)
    → has_calendar ≡ is_some calendar → has_dates ≡ is_some dates
    → (has_calendar ≡ true) ⊎ (has_dates ≡ true) → optional_fault File.CalendarDates date_fault dates ≡ None
    → dates_fault calendar dates ≡ None
dates-none None None a b one two (inl some) none = absurd (false≢true (sym one ∙ some))
dates-none None None a b one two (inr some) none = absurd (false≢true (sym two ∙ some))
dates-none (Some calendar) None a b one two some none = refl
dates-none None (Some dates) a b one two some none = none
dates-none (Some calendar) (Some dates) a b one two some none = none
