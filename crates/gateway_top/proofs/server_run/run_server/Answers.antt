-- A server that ended before its first connection, and one that served.
use Rattle.std.proofs.Common.{Ok, Err, refl, ap, inl, inr}
use Rattle.std.specs.Prelude.{◌≡◌, IsOk, ℕ, ⊤}
use Rattle.gw_base.specs.Changes.{change}
use Rattle.gw_base.specs.Count.{Rose}
use Rattle.file_commands.specs.declared.exit.Exit.TheVariants.{Failed, Memory}
use Rattle.file_commands.proofs.FeedSteps.{whatever}
use Rattle.gateway_top.proofs.CompleteLemmas.{runs_server}
use Rattle.gateway_top.proofs.HeadlineLemmas.{not_turned_away, served_whole}
use Rattle.gateway_top.proofs.server_run.run_server.Goals as goal

pub returns-in-Err-clause-run : goal.returns-in-Err-clause-run
returns-in-Err-clause-run g c = runs_server _ _ _ _ _ _ (Err c.in-Err.exit) c.in-Err.ensures.told (λ is. c.in-Err.ensures.counts.cause cc) (
  record { status_is = c.ended.ensures.status; told = c.ended.ensures.front },
  record { output = refl; output_faults = refl; connections = refl; clock = refl; clock_faults = refl },
)

pub returns-in-Err-clause-worded : goal.returns-in-Err-clause-worded
returns-in-Err-clause-worded g c = not_turned_away c.in-Err.exit c.ended.result c.ended.ensures.status

pub returns-in-Ok-Ok-clause-run : goal.returns-in-Ok-Ok-clause-run
returns-in-Ok-Ok-clause-run g c = runs_server _ _ _ _ _ _ (Ok c.in-Ok.setting) c.in-Ok.ensures.told (λ is. absurd cc) (
  inl (refl, refl, λ told tells. rw c.in-Ok-Ok.field-0-is at c.in-Ok-Ok.ensures.causes told tells),
  λ told tells.
      served_whole (Rose (g.D.Sink.faults c.args.door.now) (g.D.Sink.faults c.served.new.door)) (IsOk c.in-Ok-Ok.field-0) (◌≡◌ {A = ℕ} 0 0)
      c.args.server.now.connections c.in-Ok.setting told (change g.C.Clock.told g.C.Clock.faults c.args.clock.now c.served.new.clock)
      (g.D.Sink.beside c.served.new.door) (λ _. rw c.in-Ok-Ok.field-0-is refl) (c.what_is_well_formed_is_taken_law.ensures.taken (g.D.Sink.faults c.args.door.now) (g.D.Sink.faults c.served.new.door) c.in-Ok.setting) (c.in-Ok-Ok.ensures.served told tells),
)

pub returns-in-Ok-Err-clause-run : goal.returns-in-Ok-Err-clause-run
returns-in-Ok-Err-clause-run g c = runs_server _ _ _ _ _ _ (Ok c.in-Ok.setting) c.in-Ok.ensures.told (λ is. absurd cc) (
  inr (c.in-Ok-Err.ensures.failed (rw c.in-Ok-Err.field-0-is refl), record { status_is = c.ended-in-Ok-Err.ensures.status; told = c.ended-in-Ok-Err.ensures.front }, λ told tells. rw c.in-Ok-Err.field-0-is at c.in-Ok-Err.ensures.causes told tells),
  λ told tells.
      served_whole (Rose (g.D.Sink.faults c.args.door.now) (g.D.Sink.faults c.served.new.door)) (IsOk c.in-Ok-Err.field-0) (c.ended-in-Ok-Err.result ≡ 0)
      c.args.server.now.connections c.in-Ok.setting told (change g.C.Clock.told g.C.Clock.faults c.args.clock.now c.served.new.clock)
      (g.D.Sink.beside c.served.new.door) (λ zero. absurd (not_zero c.ended-in-Ok-Err.result c.ended-in-Ok-Err.ensures.status zero))
      (c.what_is_well_formed_is_taken_law.ensures.taken (g.D.Sink.faults c.args.door.now) (g.D.Sink.faults c.served.new.door) c.in-Ok.setting)
      (c.in-Ok-Err.ensures.served told tells),
)
  where
    not_zero : (ended : ℕ) → ended ≡ 74 → ended ≡ 0 → ⊥
    not_zero ended is zero = cc

pub returns-in-Ok-Err-clause-worded : goal.returns-in-Ok-Err-clause-worded
returns-in-Ok-Err-clause-worded g c = not_turned_away Failed c.ended-in-Ok-Err.result c.ended-in-Ok-Err.ensures.status

pub returns-in-Err-served-clause-run : goal.returns-in-Err-served-clause-run
returns-in-Err-served-clause-run g c = runs_server _ _ _ _ _ _ (Err Memory) (whatever (g.F.Files.told c.args.files.now) ⊤ tt) (λ is. absurd cc) (
  record { status_is = c.ended-in-Err-served.ensures.status; told = c.ended-in-Err-served.ensures.front },
  record {
    output = ap g.D.Sink.told c.in-Err-served.ensures.memory.0;
    output_faults = ap g.D.Sink.faults c.in-Err-served.ensures.memory.0;
    connections = ap g.D.Sink.beside c.in-Err-served.ensures.memory.0;
    clock = ap g.C.Clock.told c.in-Err-served.ensures.memory.1;
    clock_faults = ap g.C.Clock.faults c.in-Err-served.ensures.memory.1;
  },
)

pub returns-in-Err-served-clause-worded : goal.returns-in-Err-served-clause-worded
returns-in-Err-served-clause-worded g c = not_turned_away Memory c.ended-in-Err-served.result c.ended-in-Err-served.ensures.status
