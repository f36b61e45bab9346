use Rattle.std.proofs.Common.{◌≡◌, ◌⊎◌, ◌<◌, ◌+◌, ◌-◌, inl, inr, subst, length, slice_get, arith}
use Rattle.std.specs.Prelude.{IfSome, IsTrue}
use Rattle.std.proofs.lemmas.Grind.{common_steps}
use Rattle.std.proofs.lemmas.List.{length-map}
use Rattle.command_words.specs.Pairs.{IsWrongAt}
use Rattle.command_words.specs.Rows.{row_of}
use Rattle.command_words.specs.Tables.{ArePairs, StopsAt, is_flag}
use Rattle.command_words.proofs.TableLemmas.{leads_on, wrong_at}
use Rattle.command_words.proofs.words.table.wrong_word.Goals as goal
use Rattle.command_words.proofs.words.table.wrong_word.Goals.{then-number-command, else-number-command+then-not-is_empty}

pub returns-in-Err : goal.returns-in-Err
returns-in-Err c =
    let more : (c.loop-number.number < length (row_of c.args.command.now).pairs) ⊎ (0 < length c.loop-number.rest.now) =
    elim c.if-number-command.branch [
      | then-number-command w ↦ inl (simp length-map w.if-number-command.true)
      | else-number-command+then-not-is_empty w ↦ inr (grind (arith, common_steps, w.is_empty.ensures, w.if-not-is_empty.true))
    ] in
    let at : c.loop-number.invariant.at ≡ length c.args.words.now - length c.loop-number.rest.now = omega (arith, c.loop-number.invariant.counted) in
    subst (λ k. StopsAt (ArePairs (row_of c.args.command.now) 0 c.args.name.now) c.args.words.now (k + c.in-Err.wrong)) at
    (c.loop-number.invariant.refuses c.in-Err.wrong
    (wrong_at (row_of c.args.command.now) c.loop-number.number c.loop-number.before.now c.loop-number.rest.now c.in-Err.wrong c.requires more
    (subst (λ pair. IsWrongAt pair c.loop-number.before.now c.loop-number.rest.now c.in-Err.wrong) c.pair_at.ensures c.in-Err.ensures.wrong)))

pub loop-number-preserved : goal.loop-number-preserved
loop-number-preserved c =
    leads_on (row_of c.args.command.now) c.args.name.now c.args.words.now c.loop-number.number _ _ c.in-Ok.value.now c.in-Ok.after.now
    c.loop-number.invariant
    (subst (λ pair. IfSome (slice_get c.loop-number.rest.now 0) (λ flag. IsTrue (is_flag pair flag))) c.pair_at.ensures c.in-Ok.ensures.flag)
    (subst (λ pair. IsTrue (pair.form c.loop-number.before.now c.in-Ok.value.now)) c.pair_at.ensures c.in-Ok.ensures.value)
    c.in-Ok.ensures.rest
