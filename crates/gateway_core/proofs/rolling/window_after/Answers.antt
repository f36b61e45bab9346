-- The window begins with the next first day.
use Rattle.gateway_core.proofs.RollingLemmas.{window_rolls}
use Rattle.gateway_core.proofs.rolling.window_after.Goals as goal

pub returns-clause-rolls : goal.returns-clause-rolls
returns-clause-rolls c = λ moments at.
    window_rolls c.args.setting.now c.args.moment c.first_after-first.result c.days.result c.args.window.now c.in-Ok.window moments
    c.days.ensures.value c.requires.days c.first_after-first.ensures.value c.in-Ok.ensures.value at
