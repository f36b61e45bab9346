use Rattle.std.proofs.Common.{◌≡◌, ◌∙◌, ◌&&◌, true, Some, None, ℕ, ℤ, pos, cond, nat_eq, unwrap_or, rules, slice_get, sym, ap}
use mir.Val.{to_z, of_z}
use Rattle.std.specs.Int.{w32}
use Rattle.std.specs.Ordering.{int_eq}
use Rattle.std.proofs.lemmas.Int.{to_z-of_z}
use Rattle.timetable.specs.Services.{exception_at}
use Rattle.timetable.specs.Ids.{are_distinct, with_id}
use Rattle.stop_schedule.specs.Services.{day_of_row, is_one}
use Rattle.stop_schedule.specs.Sheet.{nth}
use Rattle.timetable.proofs.IdLemmas.{and-right}
use Rattle.stop_schedule.proofs.ServiceStep.{dates-step, dates-twice, text-1}
use Rattle.stop_schedule.proofs.service_rows.DateRowsTakesRows.take.Goals as goal

pub returns-in-Ok-None-clause-takes : goal.returns-in-Ok-None-clause-takes
returns-in-Ok-None-clause-takes c = λ start before holds counted.
    let row = c.args.sheet.now.row in
    let services = c.args.self.now.services in
    let number = c.in_ok-service.service in
    let service_is = c.in-Some-text.ensures.cases.0 in
    let grown : c.number_of.new.self ≡ with_id (nth 0 row) services = rw (← service_is) c.in_ok-service.ensures.ids in
    let distinct : are_distinct (with_id (nth 0 row) services) ≡ true =
    rw (← grown) (and-right _ _ c.in_ok-service.ensures.sound) in
    let numbered : slice_get (with_id (nth 0 row) services) number ≡ Some (nth 0 row) =
    rw (← grown) (rw service_is at c.in_ok-service.ensures.number) in
    let held = c.args.self.now.exceptions in
    let back : to_z w32 (of_z w32 c.number.result) ≡ c.number.result = to_z-of_z w32 c.number.result (search rules) in
    let day_is : to_z w32 (of_z w32 c.number.result) ≡ day_of_row row =
    back ∙ c.number.ensures.value
    ∙ ap (λ o. unwrap_or o (pos 0)) (c.in-Some.ensures (text-1 row c.requires.fits.texts)) in
    let changed : (n : ℕ) (day : ℤ)
    → exception_at c.insert.new.self n day ≡ cond (nat_eq number n && int_eq (day_of_row row) day)
    (Some (is_one 2 row)) (exception_at held n day) =
    λ n day. c.in-Ok-None.ensures.updates.0 (n, day)
    ∙ ap (λ d. cond (nat_eq number n && int_eq d day) (Some c.is_one-added.result) (exception_at held n day)) day_is
    ∙ ap (λ v. cond (nat_eq number n && int_eq (day_of_row row) day) (Some v) (exception_at held n day))
    c.is_one-added.ensures in
    let fresh : exception_at held number (day_of_row row) ≡ None =
    ap (λ d. exception_at held number d) (sym day_is) ∙ sym c.in-Ok-None.ensures.old ∙ c.in-Ok-None.field-0-is in
    let step = dates-step start.services services number before row distinct numbered held holds c.insert.new.self
    changed fresh in
    (step.0, rw grown step.1)

pub returns-in-Ok-Some-clause-takes : goal.returns-in-Ok-Some-clause-takes
returns-in-Ok-Some-clause-takes c = λ start before holds counted.
    let row = c.args.sheet.now.row in
    let services = c.args.self.now.services in
    let number = c.in_ok-service.service in
    let service_is = c.in-Some-text.ensures.cases.0 in
    let grown : c.number_of.new.self ≡ with_id (nth 0 row) services = rw (← service_is) c.in_ok-service.ensures.ids in
    let distinct : are_distinct (with_id (nth 0 row) services) ≡ true =
    rw (← grown) (and-right _ _ c.in_ok-service.ensures.sound) in
    let numbered : slice_get (with_id (nth 0 row) services) number ≡ Some (nth 0 row) =
    rw (← grown) (rw service_is at c.in_ok-service.ensures.number) in
    let held = c.args.self.now.exceptions in
    let back : to_z w32 (of_z w32 c.number.result) ≡ c.number.result = to_z-of_z w32 c.number.result (search rules) in
    let day_is : to_z w32 (of_z w32 c.number.result) ≡ day_of_row row =
    back ∙ c.number.ensures.value
    ∙ ap (λ o. unwrap_or o (pos 0)) (c.in-Some.ensures (text-1 row c.requires.fits.texts)) in
    let stands = ap (λ d. exception_at held number d) (sym day_is) ∙ sym c.in-Ok-Some.ensures.old
    ∙ c.in-Ok-Some.field-0-is in
    rw counted (dates-twice start.services services number before row distinct numbered held holds _ stands)
