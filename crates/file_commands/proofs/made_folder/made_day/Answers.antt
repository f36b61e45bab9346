-- The text names the day.
use Rattle.std.proofs.Common.{◌∙◌, sym}
use Rattle.std.proofs.lemmas.Option.{none-some, same_Some}
use Rattle.sample_counts.specs.Counts.{made_day}
use Rattle.file_commands.proofs.MadeFacts.{day_reads}
use Rattle.file_commands.proofs.made_folder.made_day.Goals as goal

pub unreachable-requires : goal.unreachable-requires
unreachable-requires c = none-some made_day (sym c.in-None.is ∙ c.read_day.ensures ∙ day_reads)

pub returns : goal.returns
returns c = same_Some c.in-Some.day made_day (sym c.in-Some.is ∙ c.read_day.ensures ∙ day_reads)
