-- One entity more, and what that says of the situations.
use Rattle.std.proofs.Common.{All, subst}
use Rattle.std.proofs.lemmas.List.{take_all}
use Rattle.std.proofs.lemmas.List.Elements.{All-more}
use Rattle.timetable.specs.Seen.{seen}
use Rattle.reverse_alerts.specs.Texts.{HasTexts}
use Rattle.reverse_alerts.proofs.SxLemmas.{all_utf8}
use Rattle.reverse_alerts.proofs.texts.all_utf8_law.Goals as goal

pub loop-entity-preserved : goal.loop-entity-preserved
loop-entity-preserved c =
    All-more HasTexts c.args.entities.now c.loop-entity.entity-index c.entity-item.result c.loop-entity-test.true c.loop-entity.invariant
    (subst HasTexts c.entity-item.is c.entity_texts_law.ensures)

pub returns : goal.returns
returns c =
    all_utf8 (seen c.args.table.now) c.args.entities.now
    (subst (All HasTexts) (take_all c.loop-entity.entity-index c.args.entities.now c.loop-entity-test.false) c.loop-entity.invariant)
