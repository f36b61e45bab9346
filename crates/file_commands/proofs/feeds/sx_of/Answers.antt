-- A feed that is a full dataset has its delivery of situations.
use Rattle.std.proofs.Common.{Ok, subst, sym}
use Rattle.file_commands.specs.Done.{Done}
use Rattle.file_commands.specs.Work.{IsSxOf}
use Rattle.file_commands.proofs.FeedSteps.{full_sx_answer}
use Rattle.file_commands.proofs.feeds.sx_of.Goals as goal

pub returns-in_ok-err-in-Ok-clause-told : goal.returns-in_ok-err-in-Ok-clause-told
returns-in_ok-err-in-Ok-clause-told c =
    let answer = full_sx_answer c.context.result c.args.feed.now c.args.at (Ok (c.in-Ok.out, c.in-Ok.report)) c.requires c.in-Ok.ensures in
    subst (λ (done : Done). IsSxOf c.args.at c.args.setting.now c.args.name.now c.args.feed.now (Ok done)) (sym c.texts.ensures)
    (c.in-Ok.report, rw c.context.ensures.shows at answer, c.in_ok-err-in-Ok.ensures)
