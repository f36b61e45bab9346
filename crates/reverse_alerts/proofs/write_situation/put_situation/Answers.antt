-- What the alert names is known, and the three parts are the situation.
use Rattle.std.proofs.Common.{◌∙◌, ◌++◌, ap}
use Rattle.std.proofs.lemmas.Result.{on_ok_weaker}
use Rattle.siri_json.proofs.Pieces.{three_pieces}
use Rattle.timetable.specs.Seen.{seen}
use Rattle.reverse_alerts.proofs.NamingLemmas.{all_known}
use Rattle.reverse_alerts.proofs.SituationLemmas.{three_parts}
use Rattle.reverse_alerts.proofs.write_situation.put_situation.Goals as goal

pub put_what-requires : goal.put_what-requires
put_what-requires c = all_known (seen c.args.table.now) c.args.alert.now.selectors c.args.found.now c.requires.named

pub put_when-requires : goal.put_when-requires
put_when-requires c = rw c.as_slice.ensures.same c.requires.told

pub returns : goal.returns
returns c =
    on_ok_weaker c.put_when.result
    (λ e. three_pieces c.args.out.now _ _ _ _ _ _ c.in_ok-put_what.ensures c.in_ok-put_why.ensures
    (rw c.as_slice.ensures.same at e)
    ∙ ap (λ l. c.args.out.now ++ l) (three_parts (seen c.args.table.now) c.args.moment c.args.id.now c.args.alert.now c.args.found.now c.requires.named))
    c.put_when.ensures
