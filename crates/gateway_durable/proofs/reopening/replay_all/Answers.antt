-- One step more, over the setting of the gateway at which the first body was taken.
use Rattle.std.proofs.Common.{◌<◌, ℕ, Option, Ok, Err, ◌∙◌, subst, arith}
use Rattle.std.specs.Prelude.{IfSome}
use Rattle.gateway_durable.specs.Again.{ReplaysNext}
use Rattle.gateway_durable.proofs.AgainLemmas.{next_over}
use Rattle.gateway_durable.proofs.DiskLemmas.{reads_then}
use Rattle.gateway_durable.proofs.reopening.replay_all.Goals as goal

pub returns-in-Ok-None-clause-replays : goal.returns-in-Ok-None-clause-replays
returns-in-Ok-None-clause-replays g c = λ file is bodies held.
    subst (λ (o : Option ℕ). ReplaysNext c.args.gate.now.setting bodies c.loop-at.count (Ok o) c.replay_next.new.gate) c.in-Ok-None.field-0-is
    (next_over c.args.gate.now.setting c.loop-at.gate.setting c.loop-at.invariant.setting bodies c.loop-at.at c.loop-at.count c.loop-at.gate c.replay_next.new.gate (Ok c.in-Ok-None.field-0)
    (c.loop-at.invariant.replays file is bodies held)
    (c.in-Ok-None.ensures.replays file (c.loop-at.invariant.reads.same ∙ is) bodies held))

pub returns-in-Err-clause-fault : goal.returns-in-Err-clause-fault
returns-in-Err-clause-fault g c = λ file is bodies held.
    next_over c.args.gate.now.setting c.loop-at.gate.setting c.loop-at.invariant.setting bodies c.loop-at.at c.loop-at.count c.loop-at.gate c.replay_next.new.gate (Err c.in-Err.fault)
    (c.loop-at.invariant.replays file is bodies held)
    (c.in-Err.ensures.replays file (c.loop-at.invariant.reads.same ∙ is) bodies held)

pub loop-at-preserved : goal.loop-at-preserved
loop-at-preserved g c =
    let further : c.loop-at.at < c.in-Ok-Some.next = subst (λ (o : Option ℕ). IfSome o (λ next. c.loop-at.at < next)) c.in-Ok-Some.field-0-is c.in-Ok-Some.ensures.further in
    record {
      replays = λ file is bodies held.
          subst (λ (o : Option ℕ). ReplaysNext c.args.gate.now.setting bodies c.loop-at.count (Ok o) c.replay_next.new.gate) c.in-Ok-Some.field-0-is
          (next_over c.args.gate.now.setting c.loop-at.gate.setting c.loop-at.invariant.setting bodies c.loop-at.at c.loop-at.count c.loop-at.gate c.replay_next.new.gate (Ok c.in-Ok-Some.field-0)
          (c.loop-at.invariant.replays file is bodies held)
          (c.in-Ok-Some.ensures.replays file (c.loop-at.invariant.reads.same ∙ is) bodies held));
      gate = c.replay_next.ensures.gate c.loop-at.invariant.gate.0 c.loop-at.invariant.gate.1;
      setting = c.replay_next.ensures.setting ∙ c.loop-at.invariant.setting;
      stands = c.replay_next.ensures.stands;
      reads = reads_then g.K.Disk.told g.K.Disk.may_leave g.K.Disk.clock g.K.Disk.left_since c.args.disk.now c.loop-at.disk c.replay_next.new.disk c.loop-at.invariant.reads c.replay_next.ensures.reads;
      faults = omega (arith, c.loop-at.invariant.faults, c.replay_next.ensures.counts.never_falls);
      few = omega (arith, further, c.loop-at.invariant.few);
    }
