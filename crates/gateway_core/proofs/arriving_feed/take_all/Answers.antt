use Rattle.std.proofs.Common.{◌≡◌, ◌∙◌, ◌+◌, ◌++◌, List, ℕ, ap, arith, drop, subst, sym, take}
use Rattle.std.proofs.Math.Seq.{take-add}
use Rattle.std.proofs.lemmas.List.{append_assoc}
use Rattle.gateway_core.specs.Arriving.{Reads}
use Rattle.gateway_core.proofs.arriving_feed.take_all.Goals as goal

further : (bytes piece rest : List ℕ) (done used : ℕ) → rest ≡ drop done piece → bytes ++ take done piece ++ take used rest ≡ bytes ++ take (done + used) piece
further bytes piece rest done used is =
    append_assoc bytes (take done piece) (take used rest)
    ∙ ap (λ (more : List ℕ). bytes ++ more) (ap (λ (l : List ℕ). take done piece ++ take used l) is ∙ sym (take-add done used piece))

pub loop-done-preserved : goal.loop-done-preserved
loop-done-preserved c = record {
  within = omega (arith, c.in_ok-done.ensures.used.1, c.split_at.ensures.back_len, c.loop-done.invariant.within);
  counted = omega (arith, c.in_ok-done.ensures.counted, c.loop-done.invariant.counted);
  takes = λ bytes h.
      subst (Reads c.args.context.now c.take_front.new.reader c.take_front.new.fold) (further bytes c.args.piece.now c.split_at.result.1.now c.loop-done.done c.in_ok-done.field-0 c.split_at.ensures.back)
      (c.in_ok-done.ensures.takes (bytes ++ take c.loop-done.done c.args.piece.now) (c.loop-done.invariant.takes bytes h));
}
