use Rattle.std.proofs.Common.{[], refl}
use Rattle.json_tree.specs.Trees.{view}
use Rattle.siri_json.proofs.DeliveryLemmas.{frame_fault, want_of_memory}
use Rattle.siri_calls.specs.Frame.{frames_in}
use Rattle.siri_calls.specs.Verdicts.{verdicts}
use Rattle.siri_calls.proofs.delivery.take_tree.Goals as goal

pub returns-in-Err : goal.returns-in-Err
returns-in-Err g c = λ first begins.
    let root = view c.args.root.now in
    frame_fault _ (frames_in root) (verdicts c.args.context.now root) c.in-Err.fault (λ member e. rw e refl) c.in-Err.ensures.fault

pub returns-in-Ok-take_frames : goal.returns-in-Ok-take_frames
returns-in-Ok-take_frames g c = λ first begins.
    rw (c.in-Ok.ensures.found, ← c.as_slice.ensures.value) (c.in-Ok-take_frames.ensures first [] begins)

pub returns : goal.returns
returns g c = λ first begins. want_of_memory _ (verdicts c.args.context.now (view c.args.root.now))
