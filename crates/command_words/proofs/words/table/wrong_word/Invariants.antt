use Rattle.std.proofs.Common.{length}
use Rattle.command_words.specs.Rows.{row_of}
use Rattle.command_words.proofs.TableLemmas.{Leads}
use Rattle.command_words.proofs.words.table.wrong_word.Given as goal

abbrev pub invariant-loop-number : goal.invariant-loop-number
invariant-loop-number l = Leads (row_of l.command) l.name l.words l.number l.before l.rest

abbrev pub decreases-loop-number : goal.decreases-loop-number
decreases-loop-number l = length l.rest
