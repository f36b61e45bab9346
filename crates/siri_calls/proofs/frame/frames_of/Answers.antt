use Rattle.std.proofs.Common.{◌≡◌, ◌∙◌, ◌+◌, ◌∷◌, sym, ap, map, drop}
use Rattle.std.proofs.lemmas.List.{drop_more}
use Rattle.json_tree.specs.Trees.{view}
use Rattle.siri_calls.specs.Frame.{delivery_place}
use Rattle.siri_calls.specs.Shown.{places_of}
use Rattle.siri_calls.proofs.FrameLemmas.{one_more, one_refused}
use Rattle.siri_calls.proofs.frame.frames_of.Goals as goal

pub returns-in-Err-clause-fault : goal.returns-in-Err-clause-fault
returns-in-Err-clause-fault c =
    let i = c.loop-delivery.delivery-index in
    let trees = c.args.deliveries.now in
    let left : drop i trees ≡ c.delivery-item.result ∷ drop (i + 1) trees =
    drop_more trees i c.delivery-item.result c.loop-delivery-test.true ∙ ap (λ y. y ∷ drop (i + 1) trees) (sym c.delivery-item.is) in
    one_refused _ (places_of c.loop-delivery.found.items) (delivery_place (view c.args.service.now) (view c.delivery-item.result))
    (map (delivery_place (view c.args.service.now)) (map view (drop (i + 1) trees))) c.in-Err.fault c.in-Err.ensures.fault (rw left at c.loop-delivery.invariant)

pub loop-delivery-preserved : goal.loop-delivery-preserved
loop-delivery-preserved c =
    let i = c.loop-delivery.delivery-index in
    let trees = c.args.deliveries.now in
    let left : drop i trees ≡ c.delivery-item.result ∷ drop (i + 1) trees =
    drop_more trees i c.delivery-item.result c.loop-delivery-test.true ∙ ap (λ y. y ∷ drop (i + 1) trees) (sym c.delivery-item.is) in
    one_more _ (places_of c.loop-delivery.found.items) (places_of c.add_frames.new.found.items) (delivery_place (view c.args.service.now) (view c.delivery-item.result))
    (map (delivery_place (view c.args.service.now)) (map view (drop (i + 1) trees))) c.in_default.ensures.found (rw left at c.loop-delivery.invariant)
