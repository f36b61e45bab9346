-- The readings of the feed, and their lines.
use Rattle.std.proofs.Common.{◌∙◌, Ok, ap, subst, sym}
use Rattle.show_command.specs.Lines.{shown}
use Rattle.file_commands.specs.Done.{Done}
use Rattle.file_commands.specs.Work.{IsLinesOf}
use Rattle.file_commands.proofs.feeds.lines_of.Goals as goal

pub returns : goal.returns
returns c =
    subst (λ (done : Done). IsLinesOf c.args.setting.now c.args.feed (Ok done)) (sym c.texts.ensures) (
      c.in_ok-reading.reading,
      c.in_ok-reading.ensures,
      c.in_ok-out.ensures ∙ ap (λ schedule. shown schedule c.in_ok-reading.reading) c.context.ensures.shows,
      c.new.ensures.empty,
    )
