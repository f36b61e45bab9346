use Rattle.std.proofs.Common.{◌∙◌, ◌∷◌, [], ◌++◌, ℕ, List, false, cond, get_or, ap, sym, arith}
use Rattle.stop_schedule.proofs.CarryingLemmas.{ids-all, ids_more}
use Rattle.stop_schedule.proofs.FitLemmas.{few-ids, new-id}
use Rattle.stop_schedule.proofs.assembling.carried_ids.Goals as goal

pub keep_at-requires-clause-new : goal.keep_at-requires-clause-new
keep_at-requires-clause-new c =
    rw c.loop-place.invariant (new-id c.args.ids c.args.carried.now c.loop-place.place c.len.ensures.ids (omega arith))

pub keep_at-requires-clause-room : goal.keep_at-requires-clause-room
keep_at-requires-clause-room c = rw c.loop-place.invariant (few-ids c.args.ids c.args.carried.now c.loop-place.place)

pub returns-then-are_all_carried : goal.returns-then-are_all_carried
returns-then-are_all_carried c =
    sym (ids-all c.args.ids c.args.carried.now
    (rw c.len.ensures.value at (c.are_all_carried.ensures c.if-are_all_carried.true)))

pub loop-place-preserved : goal.loop-place-preserved
loop-place-preserved c =
    let place = c.loop-place.place in
    let ids = c.args.ids in
    let carried = c.args.carried.now in
    c.in_ok-keep_at.ensures
    ∙ ap (λ (all : List (List ℕ)). all ++ cond (get_or carried place false) (get_or ids place [] ∷ []) [])
    c.loop-place.invariant
    ∙ sym (ids_more ids carried place)
