-- The readings of a feed have their delivery, or too many calls.
use Rattle.std.proofs.Common.{◌≡◌, Ok, Err, refl, rules, subst, sym}
use Rattle.reverse_calls.specs.declared.readings_fault.ReadingsFault.TheVariants.{TooManyCalls}
use Rattle.reverse_calls.specs.Siri.{IsTextOfFeed}
use Rattle.gw_base.specs.Answers.{UnlessFree}
use Rattle.file_commands.specs.Done.{Done}
use Rattle.file_commands.specs.Exits.{is_free}
use Rattle.file_commands.specs.Work.{IsSiriOf}
use Rattle.file_commands.specs.declared.exit.Exit.{Exit}
use Rattle.file_commands.proofs.feeds.siri_of.Goals as goal

pub returns-in-Ok-clause-told : goal.returns-in-Ok-clause-told
returns-in-Ok-clause-told c =
    let answer = c.in-Ok.ensures.of_feed c.args.feed (rw (← c.context.ensures.shows) at c.in_ok-reading.ensures) in
    subst (λ (done : Done). IsSiriOf c.args.at c.args.setting.now c.args.name.now c.args.feed (Ok done)) (sym c.texts.ensures)
    (c.in_ok-reading.reading.report, rw c.context.ensures.shows at answer, c.in_ok-err-in-Ok.ensures)

pub returns-in-Err-TooManyCalls-clause-told : goal.returns-in-Err-TooManyCalls-clause-told
returns-in-Err-TooManyCalls-clause-told c =
    let here : c.in-Err-TooManyCalls.field-0 ≡ TooManyCalls c.in-Err-TooManyCalls.count = search rules in
    let answer = c.in-Err-TooManyCalls.ensures.of_feed c.args.feed (rw (← c.context.ensures.shows) at c.in_ok-reading.ensures) in
    let many = subst (λ fault. IsTextOfFeed c.context.result c.args.feed c.args.at c.in_ok-reading.reading.report (Err fault)) here answer in
    subst (λ (end : Exit). UnlessFree {T = Done} is_free (Err end) (IsSiriOf c.args.at c.args.setting.now c.args.name.now c.args.feed)) (sym c.in_ok-fault_end-in-Err-TooManyCalls.ensures)
    (c.in-Err-TooManyCalls.count, rw c.context.ensures.shows at many, refl)
