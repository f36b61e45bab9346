-- The file's bytes, and then what they give.
use Rattle.file_commands.specs.Work.{GivesBody}
use Rattle.file_commands.proofs.DeliveryLemmas.{file_read, still_stands}
use Rattle.file_commands.proofs.deliveries.file_taken.Goals as goal

pub returns-clause-told : goal.returns-clause-told
returns-clause-told g c =
    let took = rw c.as_slice.ensures.same at c.body_taken.ensures.told in
    file_read (g.F.Files.told c.args.files.now) c.args.gate.now.setting c.args.at c.args.flag.now c.args.name.now c.in_ok-body.body
    c.args.gate.now c.body_taken.new.gate c.body_taken.result c.in_ok-body.ensures.told took

pub returns-clause-stands : goal.returns-clause-stands
returns-clause-stands g c =
    still_stands (GivesBody c.args.gate.now.setting c.args.at c.args.flag.now c.args.name.now c.as_slice.result.now) c.args.at c.args.gate.now c.body_taken.new.gate c.body_taken.result
    c.body_taken.ensures.told
