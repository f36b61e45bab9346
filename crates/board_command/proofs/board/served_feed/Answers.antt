-- The feed that was written is the one that is read.
use Rattle.std.proofs.Common.{◌≡◌, List, ℕ, rules, subst}
use Rattle.gateway_core.specs.Arrivals.{moments_of, present, schedule_at}
use Rattle.gateway_core.specs.Gives.{GivesEach}
use Rattle.gateway_core.specs.Standing.{served}
use Rattle.board_command.proofs.ShownLemmas.{said_again}
use Rattle.board_command.proofs.board.served_feed.Goals as goal

pub returns-in-Ok : goal.returns-in-Ok
returns-in-Ok c = λ arrivals stands.
    let setting = c.args.gate.now.setting in
    let schedule = schedule_at setting (moments_of arrivals) in
    let records = present setting arrivals in
    let same : served c.args.at c.args.gate.now ≡ c.written.result.now = search rules in
    said_again c.args.at schedule records c.written.result.now c.meant.result
    (subst (λ (bytes : List ℕ). GivesEach c.args.at schedule records bytes) same (c.write_feed.ensures.gives arrivals stands)) c.meant.ensures.only
