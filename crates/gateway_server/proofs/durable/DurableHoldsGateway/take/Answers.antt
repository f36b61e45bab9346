-- What the durable gateway answered.
use Rattle.std.proofs.Common.{◌≡◌, ◌∙◌, ◌++◌, ℕ, List, Result, IfOk, subst, sym}
use Rattle.gw_base.specs.Count.{Counts}
use Rattle.gateway_core.specs.Taking.{report_json}
use Rattle.gateway_core.specs.declared.accepted.Accepted.{Accepted}
use Rattle.gateway_server.specs.Durable.{KeepsSince, answer_for, held_of, journal_room}
use Rattle.gateway_server.specs.Holding.{IsLeft, IsUnkept, TakesFirst, failed_of, taken_of}
use Rattle.gateway_server.specs.declared.not_taken.NotTaken.{NotTaken}
use Rattle.gateway_server.proofs.DurableLemmas.{counts_unkept, is_left, keeps_since, says_text, still_ready, takes_first}
use Rattle.gateway_server.proofs.durable.DurableHoldsGateway.take.Goals as goal

pub returns-clause-takes : goal.returns-clause-takes
returns-clause-takes g c = λ arrivals stands bytes posts.
    subst (λ (r : Result Accepted NotTaken). TakesFirst journal_room (held_of c.args.self.now) arrivals c.args.moment c.args.kind bytes r (held_of c.take-answer.new.self)) (sym c.answer_for.ensures)
    (subst (λ (b : List ℕ). TakesFirst journal_room (held_of c.args.self.now) arrivals c.args.moment c.args.kind b (answer_for c.take-answer.result) (held_of c.take-answer.new.self)) (c.as_slice.ensures.same ∙ posts)
    (takes_first c.args.self.now c.take-answer.new.self arrivals c.args.moment c.args.kind c.as_slice.result.now c.take-answer.result
    (c.take-answer.ensures.takes arrivals stands) c.take-answer.ensures.full c.take-answer.ensures.end))

pub returns-clause-left : goal.returns-clause-left
returns-clause-left g c =
    subst (λ (r : Result Accepted NotTaken). IsLeft (held_of c.args.self.now) r (held_of c.take-answer.new.self)) (sym c.answer_for.ensures)
    (is_left g.K.Disk.told g.K.Disk.may_leave g.K.Disk.clock g.K.Disk.left_since g.K.Disk.faults c.args.self.now c.take-answer.new.self c.args.beside.now c.take-answer.new.disk (record { kind = c.args.kind; moment = c.args.moment; body = c.as_slice.result.now }) c.take-answer.result c.take-answer.ensures)

pub returns-clause-text : goal.returns-clause-text
returns-clause-text g c =
    subst (λ (r : Result Accepted NotTaken). IfOk r (λ accepted. accepted.text ≡ report_json accepted.report)) (sym c.answer_for.ensures)
    (says_text (λ accepted. accepted.text ≡ report_json accepted.report) c.take-answer.result c.take-answer.ensures.text)

pub returns-clause-ready : goal.returns-clause-ready
returns-clause-ready g c = still_ready g.K.Disk.told g.K.Disk.may_leave g.K.Disk.clock g.K.Disk.left_since g.K.Disk.faults c.args.self.now c.take-answer.new.self c.args.beside.now c.take-answer.new.disk (record { kind = c.args.kind; moment = c.args.moment; body = c.as_slice.result.now }) c.take-answer.result c.take-answer.ensures

pub returns-clause-keeps : goal.returns-clause-keeps
returns-clause-keeps g c = λ bytes posts first taken so_far.
    subst
    (λ (r : Result Accepted NotTaken). KeepsSince g.K.Disk.told g.K.Disk.may_leave g.K.Disk.clock g.K.Disk.left_since first (taken ++ taken_of r (record { kind = c.args.kind; moment = c.args.moment; body = bytes })) (failed_of r (record { kind = c.args.kind; moment = c.args.moment; body = bytes })) c.take-answer.new.self c.take-answer.new.disk)
    (sym c.answer_for.ensures)
    (subst
    (λ (b : List ℕ). KeepsSince g.K.Disk.told g.K.Disk.may_leave g.K.Disk.clock g.K.Disk.left_since first (taken ++ taken_of (answer_for c.take-answer.result) (record { kind = c.args.kind; moment = c.args.moment; body = b })) (failed_of (answer_for c.take-answer.result) (record { kind = c.args.kind; moment = c.args.moment; body = b })) c.take-answer.new.self c.take-answer.new.disk)
    (c.as_slice.ensures.same ∙ posts)
    (keeps_since g.K.Disk.told g.K.Disk.may_leave g.K.Disk.clock g.K.Disk.left_since g.K.Disk.faults c.args.self.now c.take-answer.new.self c.args.beside.now c.take-answer.new.disk (record { kind = c.args.kind; moment = c.args.moment; body = c.as_slice.result.now }) c.take-answer.result c.take-answer.ensures
    (λ start bodies kept so. c.a_crash_leaves_a_prefix_law.ensures.goes_on start c.args.beside.now c.take-answer.new.disk c.args.self.now c.take-answer.new.self (record { kind = c.args.kind; moment = c.args.moment; body = c.as_slice.result.now }) c.take-answer.result bodies kept c.requires.ready so c.take-answer.ensures)
    first taken so_far))

pub returns-clause-counts : goal.returns-clause-counts
returns-clause-counts g c =
    subst (λ (r : Result Accepted NotTaken). Counts (IsUnkept r) (g.K.Disk.faults c.args.beside.now) (g.K.Disk.faults c.take-answer.new.disk)) (sym c.answer_for.ensures)
    (counts_unkept c.take-answer.result (g.K.Disk.faults c.args.beside.now) (g.K.Disk.faults c.take-answer.new.disk) c.take-answer.ensures.counts)
