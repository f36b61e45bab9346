use Rattle.std.proofs.Common.{subst, map}
use Rattle.std.proofs.lemmas.Result.{err_from_is_err_and}
use Rattle.command_words.specs.Rows.{pair_of}
use Rattle.command_words.specs.Tables.{IsAccepted, StopsAt}
use Rattle.command_words.proofs.WordLemmas.{read as can_read}
use Rattle.command_words.proofs.words.job_with.Goals as goal

pub returns-in_err-check-clause-refused : goal.returns-in_err-check-clause-refused
returns-in_err-check-clause-refused c =
    let p = err_from_is_err_and c.from_residual.result c.from_residual.ensures.1 in
    rw (p.1, p.2) (record {
      stops = subst (λ rows. StopsAt (IsAccepted rows) c.args.words.now c.in_err-check.field-0.0.at) c.commands.ensures.rows c.in_err-check.ensures.refused;
    })

pub read-requires : goal.read-requires
read-requires c =
    can_read (map pair_of c.args.optional.now) c.args.words.now
    (subst (λ rows. IsAccepted rows c.args.words.now) c.commands.ensures.rows c.in_ok-check.ensures.accepted)

pub returns-clause-accepted : goal.returns-clause-accepted
returns-clause-accepted c = record {
  accepted = subst (λ rows. IsAccepted rows c.args.words.now) c.commands.ensures.rows c.in_ok-check.ensures.accepted;
  says = c.read.ensures;
}
