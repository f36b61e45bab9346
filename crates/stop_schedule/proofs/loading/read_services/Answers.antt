use Rattle.std.proofs.Common.{◌≡◌, ◌⊎◌, true, inl, inr}
use Rattle.stop_schedule.specs.Timetable.{sheets_in}
use Rattle.stop_schedule.specs.declared.table_file.TableFile.TheVariants as File
use Rattle.stop_schedule.proofs.FaultLemmas.{both-none}
use Rattle.stop_schedule.proofs.JoinLemmas.{if_both, dates-none}
use Rattle.stop_schedule.proofs.loading.read_services.Goals as goal
use Rattle.stop_schedule.proofs.loading.read_services.Goals.{else-not-has_calendar-via-then-not-has_calendar+else-not-has_dates, else-not-has_calendar-via-else-not-has_calendar}

pub returns-clause-exact : goal.returns-clause-exact
returns-clause-exact g c =
    let same = c.in_ok-has_calendar.ensures.same in
    let dates = rw same at c.in_ok-has_dates.ensures.exact in
    let some : (c.in_ok-has_calendar.has_calendar ≡ true) ⊎ (c.in_ok-has_dates.has_dates ≡ true) =
    elim c.else-not-has_calendar.branch [
      | else-not-has_calendar-via-then-not-has_calendar+else-not-has_dates w ↦ inr w.if-not-has_dates.false
      | else-not-has_calendar-via-else-not-has_calendar w ↦ inl w.if-not-has_calendar.false
    ] in
    if_both (g.F.Files.told c.args.files.now) c.in_ok-has_calendar.ensures.exact dates
    (λ told p q. (
      both-none _ _ p.0
          (dates-none (sheets_in told c.args.dir.now File.Calendar) (sheets_in told c.args.dir.now File.CalendarDates)
          _ _ p.1.0 q.1.0 some q.0),
      record {
        calendars_are = λ number service at. p.1.1.inside number service (p.1.1.extends number service at);
        exceptions_are =
            λ number service day at. q.1.1.inside number service day
            (q.1.1.extends number service (p.1.1.extends number service at));
      },
    ))
