use Rattle.std.proofs.Common.{arith, sym, ◌∙◌}
use Rattle.std.proofs.lemmas.Grind.{common_steps}
use Rattle.std.proofs.lemmas.Int.{to_z-of_z}
use Rattle.command_words.proofs.MomentLemmas.{utc_of-IsMoment}
use Rattle.command_words.proofs.words.forms.moment.Goals as goal

pub returns : goal.returns
returns c = let range = utc_of-IsMoment _ c.in_ok-read_utc.field-0 (sym c.read_utc.ensures.value ∙ c.in_ok-read_utc.was) in grind (arith, common_steps, to_z-of_z)
