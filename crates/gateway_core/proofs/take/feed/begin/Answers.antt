use Rattle.std.proofs.Common.{[]}
use Rattle.gateway_core.specs.Deliveries.{schedule_over}
use Rattle.gateway_core.proofs.take.feed.begin.Goals as goal

pub returns-clause-stands : goal.returns-clause-stands
returns-clause-stands c = record {
  given = [];
  read = c.make.ensures.stands;
  folded = c.make-2.ensures.stands (schedule_over c.args.setting.now c.window_move-window.result.window);
}
