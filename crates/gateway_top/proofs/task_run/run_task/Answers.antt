-- How a run ends by its work, what is published, and how a run ends whose streams failed.
use Rattle.std.proofs.Common.{◌≡◌, ℕ, Ok, Err, refl, inl, inr}
use Rattle.gw_base.proofs.CountLemmas.{rose-before, rose-after}
use Rattle.gw_base.proofs.ToldLemmas.{puts_wider}
use Rattle.command_words.specs.Works.{task_of}
use Rattle.gateway_top.proofs.CompleteLemmas.{runs_task}
use Rattle.gateway_top.proofs.PublishedLemmas.{publishes}
use Rattle.gateway_top.proofs.task_run.run_task.Goals as goal

pub returns-in-Err-clause-run : goal.returns-in-Err-clause-run
returns-in-Err-clause-run g c = runs_task _ _ _ _ _ (Err c.in-Err.exit) c.in-Err.ensures.told (λ is. c.in-Err.ensures.counts.cause cc) (record { status_is = c.ended.ensures.status; told = c.ended.ensures.front }, refl)

pub returns-in-Ok-written-clause-run : goal.returns-in-Ok-written-clause-run
returns-in-Ok-written-clause-run g c = runs_task _ _ _ _ _ (Ok c.in-Ok.done) c.in-Ok.ensures.told (λ is. absurd cc) (inl (record { status_is = refl; written = c.in-Ok-written.ensures.all.0; reported = c.in-Ok-written.ensures.all.1 }))

pub returns-in-Ok-written-clause-publishes : goal.returns-in-Ok-written-clause-publishes
returns-in-Ok-written-clause-publishes g c = λ _.
    publishes (g.F.Files.told c.args.files.now) (task_of c.args.task.now) c.in-Ok.done _ _ c.in-Ok.ensures.told c.in-Ok-written.ensures.all.0

pub returns-clause-run : goal.returns-clause-run
returns-clause-run g c = runs_task _ _ _ _ _ (Ok c.in-Ok.done) c.in-Ok.ensures.told (λ is. absurd cc) (inr (record {
  status_is = c.ended-in-Err-written.ensures.status;
  cause = elim (c.in-Err-written.ensures.cause refl) [
    | inl out ↦ inl out
    | inr err ↦ inr (rose-before _ _ _ err c.ended-in-Err-written.ensures.counts)
  ];
  written = c.in-Err-written.ensures.out;
  reported = c.in-Err-written.ensures.err.0;
  within = c.in-Err-written.ensures.err.1;
  told = rw (← c.in-Err-written.ensures.err.2) (puts_wider _ _ _ _ _ (rose-after _ _ _ c.written.ensures.counts.1) c.ended-in-Err-written.ensures.front);
}))

pub returns-clause-publishes : goal.returns-clause-publishes
returns-clause-publishes g c = λ zero. absurd (not_zero c.ended-in-Err-written.result c.ended-in-Err-written.ensures.status zero)
  where
    not_zero : (ended : ℕ) → ended ≡ 74 → ended ≡ 0 → ⊥
    not_zero ended is zero = cc
