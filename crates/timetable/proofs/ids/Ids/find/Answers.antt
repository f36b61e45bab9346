use Rattle.std.proofs.Common.{sym, ◌∙◌}
use Rattle.std.specs.Str.{bytes_eq}
use Rattle.std.specs.String.{string_bytes}
use Rattle.timetable.proofs.IdLemmas.{position-map, list_any-map}
use Rattle.timetable.proofs.ids.Ids.find.Goals as goal

pub returns-in-Some-clause-place : goal.returns-in-Some-clause-place
returns-in-Some-clause-place c =
    rw (← c.self.view_is)
    (c.in-Some.ensures.index ∙ sym (position-map (bytes_eq c.args.id.now) string_bytes c.self.inside.ids.keys))

pub returns-in-Some-clause-found : goal.returns-in-Some-clause-found
returns-in-Some-clause-found c =
    rw (← c.self.view_is)
    (c.in-Some.ensures.found ∙ sym (list_any-map (bytes_eq c.args.id.now) string_bytes c.self.inside.ids.keys))

pub returns-in-None-clause-place : goal.returns-in-None-clause-place
returns-in-None-clause-place c =
    rw (← c.self.view_is)
    (c.in-None.ensures.index ∙ sym (position-map (bytes_eq c.args.id.now) string_bytes c.self.inside.ids.keys))

pub returns-in-None-clause-found : goal.returns-in-None-clause-found
returns-in-None-clause-found c =
    rw (← c.self.view_is)
    (c.in-None.ensures.found ∙ sym (list_any-map (bytes_eq c.args.id.now) string_bytes c.self.inside.ids.keys))
