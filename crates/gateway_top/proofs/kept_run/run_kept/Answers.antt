-- A server with a journal that ended before its first connection, and one that served.
use Rattle.std.proofs.Common.{arith, length, true, false, List, Result, Ok, Err, refl, ap, sym, ◌∙◌, inl, inr, subst}
use Rattle.std.specs.Prelude.{◌≡◌, ◌≤◌, ℕ, IsOk, option_map}
use Rattle.delivery_journal.specs.Standing.{opened_file}
use Rattle.gateway_top.specs.Runs.{Doorway}
use Rattle.command_words.specs.Works.{server_of}
use Rattle.gw_base.specs.Changes.{change}
use Rattle.gw_base.specs.Connections.{Beside}
use Rattle.gw_base.specs.Count.{Rose}
use Rattle.gw_base.specs.declared.door.Entry.{Entry}
use Rattle.gw_base.proofs.CountLemmas.{rose-after}
use Rattle.gateway_core.specs.declared.setting.Setting.{Setting}
use Rattle.gateway_durable.specs.declared.reopen_fault.ReopenFault.TheVariants as why
use Rattle.gateway_server.specs.Crashes.{HoldsOfBodies}
use Rattle.gateway_server.specs.Durable.{journal_room}
use Rattle.gateway_top.specs.Keeping.{SurvivesRun}
use Rattle.file_commands.specs.declared.exit.Exit.{Exit}
use Rattle.file_commands.specs.declared.exit.Exit.TheVariants.{Failed, Memory}
use Rattle.gateway_top.proofs.CompleteLemmas.{runs_kept}
use Rattle.gateway_top.proofs.HeadlineLemmas.{not_turned_away}
use Rattle.gateway_top.proofs.KeptLemmas.{counts_kept, ends_served, logged as kept_entries, no_entries, same_kept, uncalled, unlogged}
use Rattle.gateway_top.proofs.kept_run.run_kept.Goals as goal

not_failed : (setting : Setting) → ◌≡◌ {A = Result Setting Exit} (Ok setting) (Err Failed) → ⊥
not_failed setting is = cc

not_disk : why.Memory ≡ why.Disk → ⊥
not_disk is = cc

not_two : ◌≡◌ {A = ℕ} 0 2 → ⊥
not_two is = cc

le_self : (n : ℕ) → n ≤ n
le_self n = omega arith

le_both : (a b c : ℕ) → a ≤ b → b ≤ c → a ≤ c
le_both a b c ab bc = omega arith

not_zero : (ended : ℕ) → ended ≡ 74 → ended ≡ 0 → ⊥
not_zero ended is zero = cc

-- the folder, the zone or the window

pub returns-in-Err-clause-run : goal.returns-in-Err-clause-run
returns-in-Err-clause-run g c = runs_kept _ _ _ _ _ _ (Err c.in-Err.exit) c.in-Err.ensures.told (λ is. c.in-Err.ensures.counts.cause cc) (
  record { status_is = c.ended.ensures.status; told = c.ended.ensures.front },
  record { output = refl; output_faults = refl; connections = refl; clock = refl; clock_faults = refl },
)

pub returns-in-Err-clause-crash : goal.returns-in-Err-clause-crash
returns-in-Err-clause-crash g c = λ file is told tells entries left logged. (
  true,
  subst (λ (all : List Entry). HoldsOfBodies (SurvivesRun g.K.Disk.may_leave g.K.Disk.clock g.K.Disk.left_since c.args.disk.now c.args.disk.now file) true all)
      (sym (no_entries told (g.D.Sink.beside c.args.door.now) left entries tells.tells logged))
      (uncalled g.K.Disk.told g.K.Disk.may_leave g.K.Disk.clock g.K.Disk.left_since g.met.K.Disk.only_now c.args.disk.now file),
)

pub returns-in-Err-clause-worded : goal.returns-in-Err-clause-worded
returns-in-Err-clause-worded g c = not_turned_away c.in-Err.exit c.ended.result c.ended.ensures.status

-- the journal

pub returns-in-Err-reopened-clause-run : goal.returns-in-Err-reopened-clause-run
returns-in-Err-reopened-clause-run g c =
    let fault = c.in-Err-reopened.ensures.fault in
    runs_kept _ _ _ _ _ _ (Ok c.in-Ok.setting) c.in-Ok.ensures.told (λ is. absurd (not_failed c.in-Ok.setting is)) (inl (record {
      why = fault.0;
      refused = fault.1;
      cause = fault.3;
      ends = rw (← fault.2) (record { status_is = c.ended-in-Err-reopened.ensures.status; told = c.ended-in-Err-reopened.ensures.front });
      uncalled = record { output = refl; output_faults = refl; connections = refl; clock = refl; clock_faults = refl };
    }))

pub returns-in-Err-reopened-clause-crash : goal.returns-in-Err-reopened-clause-crash
returns-in-Err-reopened-clause-crash g c = λ file is told tells entries left logged. (
  true,
  subst (λ (all : List Entry). HoldsOfBodies (SurvivesRun g.K.Disk.may_leave g.K.Disk.clock g.K.Disk.left_since c.args.disk.now c.reopened.new.disk file) true all)
      (sym (no_entries told (g.D.Sink.beside c.args.door.now) left entries tells.tells logged))
      (unlogged g.K.Disk.told g.K.Disk.may_leave g.K.Disk.clock g.K.Disk.left_since c.args.disk.now c.reopened.new.disk file (c.in-Err-reopened.ensures.any_moment file is)),
)

pub returns-in-Err-reopened-clause-worded : goal.returns-in-Err-reopened-clause-worded
returns-in-Err-reopened-clause-worded g c = not_turned_away c.in-Err-reopened.exit c.ended-in-Err-reopened.result c.ended-in-Err-reopened.ensures.status

-- connections

pub returns-then-is_sound-clause-run : goal.returns-then-is_sound-clause-run
returns-then-is_sound-clause-run g c =
    let begins = c.in-Ok-reopened.ensures.begins in
    let wider = rose-after (g.K.Disk.faults c.args.disk.now) (g.K.Disk.faults c.reopened.new.disk) (g.K.Disk.faults c.served.new.disk) c.in-Ok-reopened.ensures.never_falls in
    let doorway : Doorway = record {
      output = change g.D.Sink.told g.D.Sink.faults c.args.door.now c.served.new.door;
      before = g.D.Sink.beside c.args.door.now;
      now = g.D.Sink.beside c.served.new.door;
      clock = change g.C.Clock.told g.C.Clock.faults c.args.clock.now c.served.new.clock;
    } in
    let disk = change g.K.Disk.told g.K.Disk.faults c.args.disk.now c.served.new.disk in
    let own = c.in-Ok-reopened.durable.gate.setting in
    runs_kept _ _ _ _ _ _ (Ok c.in-Ok.setting) c.in-Ok.ensures.told (λ is. absurd (not_failed c.in-Ok.setting is)) (inr (ends_served c.in-Ok.setting own disk (Rose (g.K.Disk.faults c.reopened.new.disk) (g.K.Disk.faults c.served.new.disk)) doorway begins.0 c.in-Ok-reopened.ensures.setting wider
    (server_of c.args.server.now) 0 (change g.E.Sink.told g.E.Sink.faults c.args.err.now c.args.err.now) (IsOk c.in-Ok-Ok.field-0 × (c.served.new.durable.journal.is_sound ≡ true)) begins.3 begins.2
    (inl (refl, refl, counts_kept c.in-Ok.setting own disk (Rose (g.K.Disk.faults c.reopened.new.disk) (g.K.Disk.faults c.served.new.disk)) doorway begins.0 c.in-Ok-reopened.ensures.setting wider 0 (λ told tells entries left entered. rw c.in-Ok-Ok.field-0-is at c.in-Ok-Ok.ensures.causes told tells begins.0 begins.1 entries left entered)))
    (λ _. (rw c.in-Ok-Ok.field-0-is refl, sym c.is_sound.ensures.value ∙ c.if-is_sound.true))
    (λ before entry lawful. c.what_is_well_formed_is_taken_law.ensures.kept (g.D.Sink.faults c.args.door.now) (g.D.Sink.faults c.served.new.door) (g.K.Disk.faults c.args.disk.now) (g.K.Disk.faults c.served.new.disk) (λ body. journal_room.is_full before.end (length body)) c.in-Ok.setting before.arrivals entry lawful)
    (λ told tells. c.in-Ok-Ok.ensures.served told tells begins.0 begins.1)))

pub returns-then-is_sound-clause-crash : goal.returns-then-is_sound-clause-crash
returns-then-is_sound-clause-crash g c = λ file is told tells entries left entered.
    let begins = c.in-Ok-reopened.ensures.begins in
    let found = begins.3 file is in (
      c.served.new.durable.journal.is_sound,
      kept_entries g.K.Disk.told g.K.Disk.may_leave g.K.Disk.clock g.K.Disk.left_since c.args.disk.now c.reopened.new.disk c.served.new.disk c.in-Ok-reopened.durable.gate.setting file found.bodies
          c.served.new.durable.journal.is_sound entries found.holds (c.in-Ok-reopened.ensures.any_moment file is)
          (c.in-Ok-Ok.ensures.crash told tells begins.0 begins.1 entries left entered (opened_file file) (c.in-Ok-reopened.ensures.file ∙ ap (option_map opened_file) is) found.bodies (same_kept file ∙ found.holds)),
    )

pub returns-in-Ok-Ok-clause-run : goal.returns-in-Ok-Ok-clause-run
returns-in-Ok-Ok-clause-run g c =
    let begins = c.in-Ok-reopened.ensures.begins in
    let wider = rose-after (g.K.Disk.faults c.args.disk.now) (g.K.Disk.faults c.reopened.new.disk) (g.K.Disk.faults c.served.new.disk) c.in-Ok-reopened.ensures.never_falls in
    let doorway : Doorway = record {
      output = change g.D.Sink.told g.D.Sink.faults c.args.door.now c.served.new.door;
      before = g.D.Sink.beside c.args.door.now;
      now = g.D.Sink.beside c.served.new.door;
      clock = change g.C.Clock.told g.C.Clock.faults c.args.clock.now c.served.new.clock;
    } in
    let over = sym c.is_sound.ensures.value ∙ c.if-is_sound.false in
    let disk = change g.K.Disk.told g.K.Disk.faults c.args.disk.now c.served.new.disk in
    let own = c.in-Ok-reopened.durable.gate.setting in
    runs_kept _ _ _ _ _ _ (Ok c.in-Ok.setting) c.in-Ok.ensures.told (λ is. absurd (not_failed c.in-Ok.setting is)) (inr (ends_served c.in-Ok.setting own disk (Rose (g.K.Disk.faults c.reopened.new.disk) (g.K.Disk.faults c.served.new.disk)) doorway begins.0 c.in-Ok-reopened.ensures.setting wider
    (server_of c.args.server.now) c.ended-else-is_sound.result (change g.E.Sink.told g.E.Sink.faults c.args.err.now c.ended-else-is_sound.new.err) (IsOk c.in-Ok-Ok.field-0 × (c.served.new.durable.journal.is_sound ≡ true)) begins.3 begins.2
    (inr (inr (wider (c.served.ensures.disk_failed over), record { status_is = c.ended-else-is_sound.ensures.status; told = c.ended-else-is_sound.ensures.front }, counts_kept c.in-Ok.setting own disk (Rose (g.K.Disk.faults c.reopened.new.disk) (g.K.Disk.faults c.served.new.disk)) doorway begins.0 c.in-Ok-reopened.ensures.setting wider 0 (λ told tells entries left entered. rw c.in-Ok-Ok.field-0-is at c.in-Ok-Ok.ensures.causes told tells begins.0 begins.1 entries left entered), λ told tells entries left entered. c.in-Ok-Ok.ensures.unkept over told tells begins.0 begins.1 begins.2 entries left entered)))
    (λ zero. absurd (not_zero c.ended-else-is_sound.result c.ended-else-is_sound.ensures.status zero))
    (λ before entry lawful. c.what_is_well_formed_is_taken_law.ensures.kept (g.D.Sink.faults c.args.door.now) (g.D.Sink.faults c.served.new.door) (g.K.Disk.faults c.args.disk.now) (g.K.Disk.faults c.served.new.disk) (λ body. journal_room.is_full before.end (length body)) c.in-Ok.setting before.arrivals entry lawful)
    (λ told tells. c.in-Ok-Ok.ensures.served told tells begins.0 begins.1)))

pub returns-in-Ok-Ok-clause-crash : goal.returns-in-Ok-Ok-clause-crash
returns-in-Ok-Ok-clause-crash g c = λ file is told tells entries left entered.
    let begins = c.in-Ok-reopened.ensures.begins in
    let found = begins.3 file is in (
      c.served.new.durable.journal.is_sound,
      kept_entries g.K.Disk.told g.K.Disk.may_leave g.K.Disk.clock g.K.Disk.left_since c.args.disk.now c.reopened.new.disk c.served.new.disk c.in-Ok-reopened.durable.gate.setting file found.bodies
          c.served.new.durable.journal.is_sound entries found.holds (c.in-Ok-reopened.ensures.any_moment file is)
          (c.in-Ok-Ok.ensures.crash told tells begins.0 begins.1 entries left entered (opened_file file) (c.in-Ok-reopened.ensures.file ∙ ap (option_map opened_file) is) found.bodies (same_kept file ∙ found.holds)),
    )

pub returns-in-Ok-Err-clause-run : goal.returns-in-Ok-Err-clause-run
returns-in-Ok-Err-clause-run g c =
    let begins = c.in-Ok-reopened.ensures.begins in
    let wider = rose-after (g.K.Disk.faults c.args.disk.now) (g.K.Disk.faults c.reopened.new.disk) (g.K.Disk.faults c.served.new.disk) c.in-Ok-reopened.ensures.never_falls in
    let doorway : Doorway = record {
      output = change g.D.Sink.told g.D.Sink.faults c.args.door.now c.served.new.door;
      before = g.D.Sink.beside c.args.door.now;
      now = g.D.Sink.beside c.served.new.door;
      clock = change g.C.Clock.told g.C.Clock.faults c.args.clock.now c.served.new.clock;
    } in
    let disk = change g.K.Disk.told g.K.Disk.faults c.args.disk.now c.served.new.disk in
    let own = c.in-Ok-reopened.durable.gate.setting in
    runs_kept _ _ _ _ _ _ (Ok c.in-Ok.setting) c.in-Ok.ensures.told (λ is. absurd (not_failed c.in-Ok.setting is)) (inr (ends_served c.in-Ok.setting own disk (Rose (g.K.Disk.faults c.reopened.new.disk) (g.K.Disk.faults c.served.new.disk)) doorway begins.0 c.in-Ok-reopened.ensures.setting wider
    (server_of c.args.server.now) c.ended-in-Ok-Err.result (change g.E.Sink.told g.E.Sink.faults c.args.err.now c.ended-in-Ok-Err.new.err) (IsOk c.in-Ok-Err.field-0 × (c.served.new.durable.journal.is_sound ≡ true)) begins.3 begins.2
    (inr (inl (c.in-Ok-Err.ensures.failed (rw c.in-Ok-Err.field-0-is refl), record { status_is = c.ended-in-Ok-Err.ensures.status; told = c.ended-in-Ok-Err.ensures.front }, counts_kept c.in-Ok.setting own disk (Rose (g.K.Disk.faults c.reopened.new.disk) (g.K.Disk.faults c.served.new.disk)) doorway begins.0 c.in-Ok-reopened.ensures.setting wider 1 (λ told tells entries left entered. rw c.in-Ok-Err.field-0-is at c.in-Ok-Err.ensures.causes told tells begins.0 begins.1 entries left entered))))
    (λ zero. absurd (not_zero c.ended-in-Ok-Err.result c.ended-in-Ok-Err.ensures.status zero))
    (λ before entry lawful. c.what_is_well_formed_is_taken_law.ensures.kept (g.D.Sink.faults c.args.door.now) (g.D.Sink.faults c.served.new.door) (g.K.Disk.faults c.args.disk.now) (g.K.Disk.faults c.served.new.disk) (λ body. journal_room.is_full before.end (length body)) c.in-Ok.setting before.arrivals entry lawful)
    (λ told tells. c.in-Ok-Err.ensures.served told tells begins.0 begins.1)))

pub returns-in-Ok-Err-clause-crash : goal.returns-in-Ok-Err-clause-crash
returns-in-Ok-Err-clause-crash g c = λ file is told tells entries left entered.
    let begins = c.in-Ok-reopened.ensures.begins in
    let found = begins.3 file is in (
      c.served.new.durable.journal.is_sound,
      kept_entries g.K.Disk.told g.K.Disk.may_leave g.K.Disk.clock g.K.Disk.left_since c.args.disk.now c.reopened.new.disk c.served.new.disk c.in-Ok-reopened.durable.gate.setting file found.bodies
          c.served.new.durable.journal.is_sound entries found.holds (c.in-Ok-reopened.ensures.any_moment file is)
          (c.in-Ok-Err.ensures.crash told tells begins.0 begins.1 entries left entered (opened_file file) (c.in-Ok-reopened.ensures.file ∙ ap (option_map opened_file) is) found.bodies (same_kept file ∙ found.holds)),
    )

pub returns-in-Ok-Ok-clause-worded : goal.returns-in-Ok-Ok-clause-worded
returns-in-Ok-Ok-clause-worded g c = not_turned_away Failed c.ended-else-is_sound.result c.ended-else-is_sound.ensures.status

pub returns-in-Ok-Err-clause-worded : goal.returns-in-Ok-Err-clause-worded
returns-in-Ok-Err-clause-worded g c = not_turned_away Failed c.ended-in-Ok-Err.result c.ended-in-Ok-Err.ensures.status

-- memory for what the first connection needs

pub returns-clause-run : goal.returns-clause-run
returns-clause-run g c = runs_kept _ _ _ _ _ _ (Ok c.in-Ok.setting) c.in-Ok.ensures.told (λ is. absurd (not_failed c.in-Ok.setting is)) (inl (record {
  why = why.Memory;
  refused = λ file is. tt;
  cause = λ is. absurd (not_disk is);
  ends = record { status_is = c.ended-in-Err-served.ensures.status; told = c.ended-in-Err-served.ensures.front };
  uncalled = record {
    output = ap g.D.Sink.told c.in-Err-served.ensures.memory.0;
    output_faults = ap g.D.Sink.faults c.in-Err-served.ensures.memory.0;
    connections = ap g.D.Sink.beside c.in-Err-served.ensures.memory.0;
    clock = ap g.C.Clock.told c.in-Err-served.ensures.memory.1;
    clock_faults = ap g.C.Clock.faults c.in-Err-served.ensures.memory.1;
  };
}))

pub returns-clause-crash : goal.returns-clause-crash
returns-clause-crash g c = λ file is told tells entries left logged.
    let same = c.in-Err-served.ensures.memory in (
      true,
      subst (λ (all : List Entry). HoldsOfBodies (SurvivesRun g.K.Disk.may_leave g.K.Disk.clock g.K.Disk.left_since c.args.disk.now c.served.new.disk file) true all)
          (sym (no_entries told (g.D.Sink.beside c.served.new.door) left entries (ap (λ (b : Beside). b.told) (ap g.D.Sink.beside same.0) ∙ tells.tells) logged))
          (rw same.2 (unlogged g.K.Disk.told g.K.Disk.may_leave g.K.Disk.clock g.K.Disk.left_since c.args.disk.now c.reopened.new.disk file (c.in-Ok-reopened.ensures.any_moment file is))),
    )

pub returns-clause-worded : goal.returns-clause-worded
returns-clause-worded g c = not_turned_away Memory c.ended-in-Err-served.result c.ended-in-Err-served.ensures.status

-- what stays

pub returns-then-is_sound-clause-absent : goal.returns-then-is_sound-clause-absent
returns-then-is_sound-clause-absent g c = c.served.ensures.absent

pub returns-then-is_sound-clause-files : goal.returns-then-is_sound-clause-files
returns-then-is_sound-clause-files g c = c.setting.ensures.same

pub returns-then-is_sound-clause-beside : goal.returns-then-is_sound-clause-beside
returns-then-is_sound-clause-beside g c = refl

pub returns-then-is_sound-clause-counts : goal.returns-then-is_sound-clause-counts
returns-then-is_sound-clause-counts g c = (
  c.setting.ensures.counts.never_falls,
  le_self (g.E.Sink.faults c.args.err.now),
  c.served.ensures.counts.0,
  c.served.ensures.counts.1,
  le_both (g.K.Disk.faults c.args.disk.now) (g.K.Disk.faults c.reopened.new.disk) (g.K.Disk.faults c.served.new.disk) c.reopened.ensures.never_falls c.served.ensures.counts.2,
)

pub returns-in-Ok-Ok-clause-absent : goal.returns-in-Ok-Ok-clause-absent
returns-in-Ok-Ok-clause-absent g c = c.served.ensures.absent

pub returns-in-Ok-Ok-clause-files : goal.returns-in-Ok-Ok-clause-files
returns-in-Ok-Ok-clause-files g c = c.setting.ensures.same

pub returns-in-Ok-Ok-clause-beside : goal.returns-in-Ok-Ok-clause-beside
returns-in-Ok-Ok-clause-beside g c = c.ended-else-is_sound.ensures.others

pub returns-in-Ok-Ok-clause-counts : goal.returns-in-Ok-Ok-clause-counts
returns-in-Ok-Ok-clause-counts g c = (
  c.setting.ensures.counts.never_falls,
  c.ended-else-is_sound.ensures.counts,
  c.served.ensures.counts.0,
  c.served.ensures.counts.1,
  le_both (g.K.Disk.faults c.args.disk.now) (g.K.Disk.faults c.reopened.new.disk) (g.K.Disk.faults c.served.new.disk) c.reopened.ensures.never_falls c.served.ensures.counts.2,
)

pub returns-in-Ok-Err-clause-absent : goal.returns-in-Ok-Err-clause-absent
returns-in-Ok-Err-clause-absent g c = c.served.ensures.absent

pub returns-in-Ok-Err-clause-files : goal.returns-in-Ok-Err-clause-files
returns-in-Ok-Err-clause-files g c = c.setting.ensures.same

pub returns-in-Ok-Err-clause-beside : goal.returns-in-Ok-Err-clause-beside
returns-in-Ok-Err-clause-beside g c = c.ended-in-Ok-Err.ensures.others

pub returns-in-Ok-Err-clause-counts : goal.returns-in-Ok-Err-clause-counts
returns-in-Ok-Err-clause-counts g c = (
  c.setting.ensures.counts.never_falls,
  c.ended-in-Ok-Err.ensures.counts,
  c.served.ensures.counts.0,
  c.served.ensures.counts.1,
  le_both (g.K.Disk.faults c.args.disk.now) (g.K.Disk.faults c.reopened.new.disk) (g.K.Disk.faults c.served.new.disk) c.reopened.ensures.never_falls c.served.ensures.counts.2,
)

pub returns-clause-absent : goal.returns-clause-absent
returns-clause-absent g c = c.served.ensures.absent

pub returns-clause-files : goal.returns-clause-files
returns-clause-files g c = c.setting.ensures.same

pub returns-clause-beside : goal.returns-clause-beside
returns-clause-beside g c = c.ended-in-Err-served.ensures.others

pub returns-clause-counts : goal.returns-clause-counts
returns-clause-counts g c = (
  c.setting.ensures.counts.never_falls,
  c.ended-in-Err-served.ensures.counts,
  c.served.ensures.counts.0,
  c.served.ensures.counts.1,
  le_both (g.K.Disk.faults c.args.disk.now) (g.K.Disk.faults c.reopened.new.disk) (g.K.Disk.faults c.served.new.disk) c.reopened.ensures.never_falls c.served.ensures.counts.2,
)

pub returns-then-is_sound-clause-worded : goal.returns-then-is_sound-clause-worded
returns-then-is_sound-clause-worded g c = not_two
