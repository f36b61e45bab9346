use Rattle.std.proofs.Common.{[], refl}
use Rattle.json_tree.specs.Trees.{view}
use Rattle.siri_json.proofs.DeliveryLemmas.{frame_fault, want_of_memory}
use Rattle.siri_situations.specs.Frame.{groups_in}
use Rattle.siri_situations.specs.Situations.{verdicts}
use Rattle.siri_situations.proofs.delivery.take_tree.Goals as goal

pub returns-in-Err : goal.returns-in-Err
returns-in-Err g c = λ first begins.
    let root = view c.args.root.now in
    frame_fault _ (groups_in root) (verdicts c.args.context.now root) c.in-Err.fault (λ member e. rw e refl) c.in-Err.ensures.fault

pub returns-in-Ok-take_groups : goal.returns-in-Ok-take_groups
returns-in-Ok-take_groups g c = λ first begins.
    rw (c.in-Ok.ensures.found, ← c.as_slice.ensures.value) (c.in-Ok-take_groups.ensures first [] begins)

pub returns : goal.returns
returns g c = λ first begins. want_of_memory _ (verdicts c.args.context.now (view c.args.root.now))
