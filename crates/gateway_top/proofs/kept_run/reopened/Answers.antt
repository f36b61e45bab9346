-- The journal is open, or it isn't opened.
use Rattle.std.proofs.Common.{ap}
use Rattle.std.specs.Prelude.{Err}
use Rattle.std.proofs.lemmas.Result.{err_from_is_err_and}
use Rattle.gateway_durable.specs.declared.reopen_fault.ReopenFault.TheVariants.{Memory}
use Rattle.gateway_top.proofs.KeptLemmas.{begins}
use Rattle.gateway_top.proofs.kept_run.reopened.Goals as goal

pub returns-in-Ok-clause-begins : goal.returns-in-Ok-clause-begins
returns-in-Ok-clause-begins g c =
    begins g.K.Disk.told g.K.Disk.may_leave c.args.setting c.in-Ok.durable c.args.disk.now c.reopen.new.disk c.in-Ok.ensures.setting c.in-Ok.ensures.sound c.in-Ok.ensures.file c.in-Ok.ensures.stands
    c.in-Ok.ensures.gate

pub returns-in_ok-reopen_end-in-Err-clause-fault : goal.returns-in_ok-reopen_end-in-Err-clause-fault
returns-in_ok-reopen_end-in-Err-clause-fault g c = (c.in-Err.fault, c.in-Err.ensures.fault, c.in_ok-reopen_end-in-Err.ensures, λ is. c.in-Err.ensures.counts.cause (ap Err is))

pub returns-in_err-reopen_end-in-Err-clause-fault : goal.returns-in_err-reopen_end-in-Err-clause-fault
returns-in_err-reopen_end-in-Err-clause-fault g c =
    let p = err_from_is_err_and c.from_residual.result c.from_residual.ensures.1 in
    rw p.1 (Memory, λ file is. tt, p.2, λ is. absurd cc)
