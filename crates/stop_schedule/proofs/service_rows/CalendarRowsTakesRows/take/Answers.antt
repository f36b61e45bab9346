use Rattle.std.proofs.Common.{◌≡◌, ◌∙◌, true, Some, None, ℕ, cond, nat_eq, slice_get, sym, ap}
use Rattle.timetable.specs.Services.{calendar_at}
use Rattle.timetable.specs.Ids.{are_distinct, with_id}
use Rattle.stop_schedule.specs.Services.{calendar_of}
use Rattle.stop_schedule.specs.Sheet.{nth}
use Rattle.timetable.proofs.IdLemmas.{and-right}
use Rattle.stop_schedule.proofs.ServiceStep.{calendar-is, calendars-step, calendars-twice, text-8, text-9}
use Rattle.stop_schedule.proofs.service_rows.CalendarRowsTakesRows.take.Goals as goal

pub returns-in-Ok-None-clause-takes : goal.returns-in-Ok-None-clause-takes
returns-in-Ok-None-clause-takes c = λ start before holds counted.
    let row = c.args.sheet.now.row in
    let services = c.args.self.now.services in
    let number = c.in_ok-service.service in
    let service_is = c.in-Some.ensures.cases.0 in
    let grown : c.number_of.new.self ≡ with_id (nth 0 row) services = rw (← service_is) c.in_ok-service.ensures.ids in
    let distinct : are_distinct (with_id (nth 0 row) services) ≡ true =
    rw (← grown) (and-right _ _ c.in_ok-service.ensures.sound) in
    let numbered : slice_get (with_id (nth 0 row) services) number ≡ Some (nth 0 row) =
    rw (← grown) (rw service_is at c.in_ok-service.ensures.number) in
    let value = calendar-is row c.weekdays.result c.in-Some-Some.start c.in-Some-Some.end c.weekdays.ensures
    (c.in-Some-Some.ensures (text-8 row c.requires.fits.texts))
    (c.in-Some-Some.ensures' (text-9 row c.requires.fits.texts)) in
    let changed : (q : ℕ) → calendar_at c.insert.new.self q
    ≡ cond (nat_eq number q) (Some (calendar_of row)) (calendar_at c.args.self.now.calendars q) =
    λ q. c.in-Ok-None.ensures.updates.0 q
    ∙ ap (λ v. cond (nat_eq number q) (Some v) (calendar_at c.args.self.now.calendars q)) value in
    let fresh : calendar_at c.args.self.now.calendars number ≡ None =
    sym c.in-Ok-None.ensures.old ∙ c.in-Ok-None.field-0-is in
    let step = calendars-step start.services services number before row distinct numbered c.args.self.now.calendars
    c.insert.new.self holds changed fresh in
    (step.0, rw grown step.1)

pub returns-in-Ok-Some-clause-takes : goal.returns-in-Ok-Some-clause-takes
returns-in-Ok-Some-clause-takes c = λ start before holds counted.
    let row = c.args.sheet.now.row in
    let services = c.args.self.now.services in
    let number = c.in_ok-service.service in
    let service_is = c.in-Some.ensures.cases.0 in
    let grown : c.number_of.new.self ≡ with_id (nth 0 row) services = rw (← service_is) c.in_ok-service.ensures.ids in
    let distinct : are_distinct (with_id (nth 0 row) services) ≡ true =
    rw (← grown) (and-right _ _ c.in_ok-service.ensures.sound) in
    let numbered : slice_get (with_id (nth 0 row) services) number ≡ Some (nth 0 row) =
    rw (← grown) (rw service_is at c.in_ok-service.ensures.number) in
    let stands = sym c.in-Ok-Some.ensures.old ∙ c.in-Ok-Some.field-0-is in
    rw counted (calendars-twice start.services services number before row distinct numbered c.args.self.now.calendars
    holds _ stands)
