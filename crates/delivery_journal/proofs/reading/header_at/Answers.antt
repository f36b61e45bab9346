use Rattle.std.proofs.Common.{◌+◌, drop, ap, ◌∙◌}
use Rattle.delivery_journal.specs.Kept.{header_of}
use Rattle.delivery_journal.proofs.BlockLemmas.{header_cut}
use Rattle.delivery_journal.proofs.reading.header_at.Goals as goal

pub returns-clause-header : goal.returns-clause-header
returns-clause-header g c file is =
    c.read_header.ensures ∙ ap header_of (c.in_ok-read_at.ensures.bytes file is) ∙ header_cut (drop (c.args.at + 1) file)
