use Rattle.std.proofs.Common.{◌≡◌, ◌∙◌, ◌++◌, ◌∷◌, [], true, false, set, sym, refl, ap}
use Rattle.std.specs.Str.{is_utf8}
use Rattle.stop_schedule.specs.Sheet.{nth}
use Rattle.stop_schedule.specs.Trips.{is_carried}
use Rattle.timetable.proofs.IdLemmas.{and-left, and-right, id-of-place}
use Rattle.stop_schedule.proofs.ListLemmas.{set-one}
use Rattle.stop_schedule.proofs.StepLemmas.{carried-other, carried-not}
use Rattle.stop_schedule.proofs.frequency_rows.FrequencyRowsTakesRows.take.Goals as goal

pub returns-in-Some-get_mut-clause-takes : goal.returns-in-Some-get_mut-clause-takes
returns-in-Some-get_mut-clause-takes c = λ start before kept counted.
    let holds = kept.1 in
    let row = c.args.sheet.now.row in
    let trips = c.args.self.now.trips.now in
    let trip = nth 0 row in
    let text : is_utf8 trip ≡ true = and-left (is_utf8 trip) true c.requires.fits.texts in
    let at = id-of-place trips c.in-Some.trip trip (sym (c.in-Some.ensures.place text)) in (
      rw (← c.in-Some.ensures.found text) refl,
      (
        kept.0,
        ap (λ items. set items c.in-Some.trip false) holds
            ∙ set-one (is_carried before) (is_carried (before ++ row ∷ [])) trip (carried-other before row) trips
            c.in-Some.trip false (and-right _ _ c.in-Some.ensures.ids) at (carried-not before row),
      ),
    )
