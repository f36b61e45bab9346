-- One live span more stands after the others, or a slot without one is passed over.
use Rattle.std.proofs.Common.{None, Some, refl, sym, ◌∙◌, ap, cond, get_or}
use Rattle.std.proofs.lemmas.Bool.{leb-true}
use Rattle.span_pool.specs.Places.{with_place}
use Rattle.span_pool.proofs.PackLemmas.{packing_skip, packing_move, packing_all, packing_next, packing_read}
use Rattle.span_pool.proofs.packing.pack.Goals as goal
use Rattle.span_pool.proofs.packing.pack.Goals.{then-is_taken, else-is_taken}

pub move_down-moved-requires-clause-within : goal.move_down-moved-requires-clause-within
move_down-moved-requires-clause-within c =
    let is = c.loop-slot.invariant.packing in
    let at = packing_read _ _ _ _ _ _ _ c.index.result.now c.loop-slot-test.true c.requires.below c.index.ensures is in
    let next = packing_next _ _ _ _ _ _ _ _ c.loop-slot-test.true at (leb-true _ _ (sym c.is_taken.ensures.value ∙ c.if-is_taken.true)) is in
    next.1

pub move_down-moved-requires-clause-down : goal.move_down-moved-requires-clause-down
move_down-moved-requires-clause-down c =
    let is = c.loop-slot.invariant.packing in
    let at = packing_read _ _ _ _ _ _ _ c.index.result.now c.loop-slot-test.true c.requires.below c.index.ensures is in
    let next = packing_next _ _ _ _ _ _ _ _ c.loop-slot-test.true at (leb-true _ _ (sym c.is_taken.ensures.value ∙ c.if-is_taken.true)) is in
    next.0

pub loop-slot-preserved : goal.loop-slot-preserved
loop-slot-preserved c =
    let is = c.loop-slot.invariant.packing in
    let at = packing_read _ _ _ _ _ _ _ c.index.result.now c.loop-slot-test.true c.requires.below c.index.ensures is in
    elim c.if-is_taken.branch [
      | then-is_taken w ↦
          let ordered = leb-true _ _ (sym c.is_taken.ensures.value ∙ w.if-is_taken.true) in
          let moved = w.move_down-moved.ensures in
          rw (w.bytes-is, w.places-is, w.end-is, moved.place) (record {
            packing = packing_move _ _ _ _ _ _ _ _ _ c.index.result.now c.loop-slot-test.true at ordered moved.moved refl c.requires.distinct is;
            bytes_room = moved.room ∙ c.loop-slot.invariant.bytes_room;
            places_room = c.loop-slot.invariant.places_room;
          })
      | else-is_taken w ↦
          let nobodys = ap (with_place (get_or c.args.in_use.now c.loop-slot.slot-index 0)) at ∙ ap (λ b. cond b (Some (get_or c.args.in_use.now c.loop-slot.slot-index 0, c.index.result.now)) None) (sym c.is_taken.ensures.value ∙ w.if-is_taken.false) in
          rw (w.bytes-is, w.places-is, w.end-is) (record {
            packing = packing_skip _ _ _ _ _ _ _ c.loop-slot-test.true nobodys is;
            bytes_room = c.loop-slot.invariant.bytes_room;
            places_room = c.loop-slot.invariant.places_room;
          })
    ]

pub returns-clause-same : goal.returns-clause-same
returns-clause-same c =
    let all = packing_all _ _ _ _ _ _ _ c.loop-slot-test.false c.loop-slot.invariant.packing in
    rw c.truncate.ensures.items all.0
