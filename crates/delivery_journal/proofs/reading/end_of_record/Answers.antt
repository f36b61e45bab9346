use Rattle.std.proofs.Common.{◌+◌, ◌-◌, drop, arith, length-drop}
use Rattle.delivery_journal.proofs.BlockLemmas.{record_short, end_of_record}
use Rattle.delivery_journal.proofs.reading.end_of_record.Goals as goal

pub returns-then-left-lt14-clause-end : goal.returns-then-left-lt14-clause-end
returns-then-left-lt14-clause-end g c file is =
    record_short (drop (c.args.at + 1) file) (omega (arith, length-drop (c.args.at + 1) file, c.requires.length file is))

pub returns-clause-end : goal.returns-clause-end
returns-clause-end g c file is =
    end_of_record (drop (c.args.at + 1) file) c.in_ok-header.header c.args.at (c.args.len - c.args.at) c.end_behind.result (c.in_ok-header.ensures.header file is)
    (omega (arith, length-drop (c.args.at + 1) file, c.requires.length file is)) c.end_behind.ensures.none c.end_behind.ensures.some
