-- A piece that failed, and all pieces.
use Rattle.std.proofs.Common.{◌++◌, ◌∙◌, ap, refl, codes, Option, List, ℕ}
use Rattle.gw_base.specs.Told.{with_bytes}
use Rattle.gw_base.proofs.CountLemmas.{rose-after}
use Rattle.gw_base.proofs.ToldLemmas.{puts_front, puts_more, puts_wider, with_bytes-with_bytes}
use Rattle.gateway_top.proofs.ending.put_line.Goals as goal

pub returns-in_err-put_all-clause-front : goal.returns-in_err-put_all-clause-front
returns-in_err-put_all-clause-front g c =
    puts_front _ _ _ (codes "gateway: ") (c.args.text.now ++ codes "\n") (c.in_err-put_all.ensures.counts.cause refl) c.put_all.ensures.front

pub returns-in_err-put_all-2-clause-front : goal.returns-in_err-put_all-2-clause-front
returns-in_err-put_all-2-clause-front g c =
    let rose = rose-after _ _ _ c.put_all.ensures.counts.never_falls (c.in_err-put_all-2.ensures.counts.cause refl) in
    let text = puts_wider _ _ _ _ _ (λ _. rose) (rw c.as_bytes.ensures.value at c.put_all-2.ensures.front) in
    puts_front _ _ _ (codes "gateway: " ++ c.args.text.now) (codes "\n") rose (puts_more _ _ _ _ (codes "gateway: ") c.args.text.now c.in_ok-put_all.ensures.all text)

pub returns-clause-front : goal.returns-clause-front
returns-clause-front g c =
    let first = c.in_ok-put_all.ensures.all in
    let second = rw c.as_bytes.ensures.value at c.in_ok-put_all-2.ensures.all in
    let both = second ∙ ap (λ (told : Option (List ℕ)). with_bytes told c.args.text.now) first ∙ with_bytes-with_bytes _ (codes "gateway: ") c.args.text.now in
    puts_more _ _ _ _ (codes "gateway: " ++ c.args.text.now) (codes "\n") both
    (puts_wider _ _ _ _ _ (λ rose. rose-after _ _ _ c.put_all.ensures.counts.never_falls (rose-after _ _ _ c.put_all-2.ensures.counts.never_falls rose)) c.put_all-3.ensures.front)
