-- What arrived, and the feed that the gateway serves which took it.
use Rattle.file_commands.proofs.DeliveryLemmas.{converted, not_converted}
use Rattle.file_commands.proofs.work.conversion.Goals as goal

pub returns-in-Ok-clause-told : goal.returns-in-Ok-clause-told
returns-in-Ok-clause-told g c =
    converted (g.F.Files.told c.args.files.now) c.args.setting c.in_ok-gate.gate.setting c.deliveries.new.gate.setting c.args.at c.args.words.now c.deliveries.new.gate c.in-Ok.reports c.feed.result
    c.in_ok-gate.ensures.setting c.deliveries.ensures.setting c.in-Ok.ensures.told c.feed.ensures

pub returns-in-Err-clause-told : goal.returns-in-Err-clause-told
returns-in-Err-clause-told g c =
    not_converted (g.F.Files.told c.args.files.now) c.args.setting c.in_ok-gate.gate.setting c.args.at c.args.words.now c.deliveries.new.gate c.in-Err.end
    c.in_ok-gate.ensures.setting c.in-Err.ensures.told
