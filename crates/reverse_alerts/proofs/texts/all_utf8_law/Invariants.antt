-- the entities so far have texts
use Rattle.std.proofs.Common.{All, take}
use Rattle.reverse_alerts.specs.Texts.{HasTexts}
use Rattle.reverse_alerts.proofs.texts.all_utf8_law.Given as goal

abbrev pub invariant-loop-entity : goal.invariant-loop-entity
invariant-loop-entity l = All HasTexts (take l.entity-index l.entities)
