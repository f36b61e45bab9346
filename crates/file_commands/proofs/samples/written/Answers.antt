-- What was written is what is served.
use Rattle.std.proofs.Common.{◌≡◌, ℕ, ℤ, List, rules, subst}
use Rattle.gateway_core.specs.Arrivals.{moments_of, present, schedule_at}
use Rattle.gateway_core.specs.Gives.{GivesEach}
use Rattle.gateway_core.specs.Standing.{served}
use Rattle.file_commands.specs.Made.{made_at}
use Rattle.file_commands.proofs.samples.written.Goals as goal

pub returns-in-Ok-clause-gives : goal.returns-in-Ok-clause-gives
returns-in-Ok-clause-gives c = λ arrivals stands.
    let setting = c.args.gate.now.setting in
    let same : served c.made_moment-at.result c.args.gate.now ≡ c.write_feed.new.sink.written = search rules in
    subst (λ (bytes : List ℕ). GivesEach made_at (schedule_at setting (moments_of arrivals)) (present setting arrivals) bytes) same
    (subst (λ (at : ℤ). GivesEach at (schedule_at setting (moments_of arrivals)) (present setting arrivals) (served c.made_moment-at.result c.args.gate.now)) c.made_moment-at.ensures
    (c.write_feed.ensures.gives arrivals stands))
