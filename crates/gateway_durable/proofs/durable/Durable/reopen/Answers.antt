-- What the file held is what the gateway stands for, over the setting that was handed in.
use Rattle.std.proofs.Common.{◌≡◌, ◌⊎◌, ℕ, List, Some, Err, ◌∙◌, ap, subst, sym, arith}
use Rattle.std.specs.Prelude.{option_map}
use Rattle.delivery_journal.specs.Kept.{kept}
use Rattle.delivery_journal.specs.Standing.{opened_file}
use Rattle.gateway_core.specs.declared.setting.Setting.{Setting}
use Rattle.gateway_durable.specs.Reopening.{RefusesBodies, RefusesFile, StandsForBodies, of_open}
use Rattle.gateway_durable.specs.declared.reopen_fault.ReopenFault.{ReopenFault}
use Rattle.gateway_durable.specs.declared.reopen_fault.ReopenFault.TheVariants.{Disk}
use Rattle.gateway_durable.specs.declared.durable.Durable.{Durable}
use Rattle.gateway_durable.proofs.DiskLemmas.{survives_and_reads}
use Rattle.gateway_durable.proofs.ReopenLemmas.{never_replay, open_disk, open_refuses, replay_refuses, rose_later, same_fault, stands_with}
use Rattle.gateway_durable.proofs.durable.Durable.reopen.Goals as goal

pub returns-in-Err-clause-fault : goal.returns-in-Err-clause-fault
returns-in-Err-clause-fault g c = λ file is.
    subst (λ (why : ReopenFault). RefusesFile c.args.setting file why) (sym c.of_open.ensures)
    (open_refuses c.args.setting file c.in-Err.fault (λ other. c.in-Err.ensures.fault other file is))

pub returns-in-Err-clause-counts : goal.returns-in-Err-clause-counts
returns-in-Err-clause-counts g c = record {
  cause = λ e. c.in-Err.ensures.counts.cause (open_disk {A = Durable} c.in-Err.fault (ap Err (sym c.of_open.ensures) ∙ e));
  never_falls = c.in-Err.ensures.counts.never_falls;
}

pub returns-in-Ok-replay_all-clause-stands : goal.returns-in-Ok-replay_all-clause-stands
returns-in-Ok-replay_all-clause-stands g c =
    stands_with g.K.Disk.told g.K.Disk.may_leave c.replay_all.new.disk c.replay_all.new.gate c.in-Ok.journal c.replay_all.ensures.stands
    (λ file is bodies held.
    subst (λ (s : Setting). StandsForBodies s bodies c.replay_all.new.gate) (sym c.replay_all.ensures.setting)
    (c.in-Ok-replay_all.ensures.replays file (sym c.replay_all.ensures.reads.same ∙ is) bodies held))

pub returns-in-Ok-replay_all-clause-list : goal.returns-in-Ok-replay_all-clause-list
returns-in-Ok-replay_all-clause-list g c = λ file is.
    let held = c.in-Ok.ensures.list file is in
    let told : g.K.Disk.told c.open.new.disk ≡ Some (opened_file file) = c.in-Ok.ensures.file ∙ ap (option_map opened_file) is in (
      held.0,
      held.1,
      subst (λ (s : Setting). StandsForBodies s held.0 c.replay_all.new.gate) c.in-Ok-start.ensures.setting
          (c.in-Ok-replay_all.ensures.replays (opened_file file) told held.0 held.2),
    )

pub returns-in-Ok-replay_all-clause-any_moment : goal.returns-in-Ok-replay_all-clause-any_moment
returns-in-Ok-replay_all-clause-any_moment g c = λ file is.
    survives_and_reads g.K.Disk.told g.K.Disk.may_leave g.K.Disk.clock g.K.Disk.left_since c.args.disk.now c.open.new.disk c.replay_all.new.disk
    (λ (image : List ℕ). g.K.Disk.may_leave c.args.disk.now image ⊎ (kept image ≡ kept file)) (c.open.ensures.any_moment file is) c.replay_all.ensures.reads

pub returns-in-Err-replay_all-clause-fault : goal.returns-in-Err-replay_all-clause-fault
returns-in-Err-replay_all-clause-fault g c = λ file is.
    let held = c.in-Ok.ensures.list file is in
    let told : g.K.Disk.told c.open.new.disk ≡ Some (opened_file file) = c.in-Ok.ensures.file ∙ ap (option_map opened_file) is in
    replay_refuses c.args.setting file held.0 held.1 c.in-Err-replay_all.fault
    (subst (λ (s : Setting). RefusesBodies s held.0 c.in-Err-replay_all.fault) c.in-Ok-start.ensures.setting
    (c.in-Err-replay_all.ensures.fault (opened_file file) told held.0 held.2))

pub returns-in-Err-replay_all-clause-never : goal.returns-in-Err-replay_all-clause-never
returns-in-Err-replay_all-clause-never g c = λ n replays file is can.
    never_replay c.kept_bodies_replay_law.ensures.never_refused c.args.setting file c.in-Err-replay_all.fault
    (returns-in-Err-replay_all-clause-fault g c file is) n replays can

pub returns-in-Err-replay_all-clause-any_moment : goal.returns-in-Err-replay_all-clause-any_moment
returns-in-Err-replay_all-clause-any_moment g c = λ file is.
    survives_and_reads g.K.Disk.told g.K.Disk.may_leave g.K.Disk.clock g.K.Disk.left_since c.args.disk.now c.open.new.disk c.replay_all.new.disk
    (λ (image : List ℕ). g.K.Disk.may_leave c.args.disk.now image ⊎ (kept image ≡ kept file)) (c.open.ensures.any_moment file is) c.replay_all.ensures.reads

pub returns-in-Err-replay_all-clause-counts : goal.returns-in-Err-replay_all-clause-counts
returns-in-Err-replay_all-clause-counts g c = record {
  cause = λ e.
      rose_later (g.K.Disk.faults c.args.disk.now) (g.K.Disk.faults c.open.new.disk) (g.K.Disk.faults c.replay_all.new.disk) c.open.ensures.counts.never_falls
      (c.in-Err-replay_all.ensures.counts.cause (same_fault {A = Durable} c.in-Err-replay_all.fault Disk e));
  never_falls = omega (arith, c.open.ensures.counts.never_falls, c.in-Err-replay_all.ensures.counts.never_falls);
}
