-- The slot's place is one of a live span, and lies within the region.
use Rattle.std.proofs.Common.{◌∙◌, ap, take, Some, arith}
use Rattle.span_pool.proofs.RegionLemmas.{is_here, here_read}
use Rattle.span_pool.proofs.pool.SpanPool.span.Goals as goal

pub index-place-requires : goal.index-place-requires
index-place-requires c =
    let p = c.self.inside in
    let has = rw (← c.self.view_is, ← c.slot.view_is) at c.requires.held in
    let here = is_here p.bytes.items p.places.items (take p.used p.order.items) c.slot.inside.number p.live c.self.invariant.1 has in
    omega (arith, here.inside, p.places.ok.0)

pub slice_bounds-result-count : goal.slice_bounds-result-count
slice_bounds-result-count c =
    let p = c.self.inside in
    let has = rw (← c.self.view_is, ← c.slot.view_is) at c.requires.held in
    let here = is_here p.bytes.items p.places.items (take p.used p.order.items) c.slot.inside.number p.live c.self.invariant.1 has in
    let read = here_read p.bytes.items p.places.items (take p.used p.order.items) c.slot.inside.number here c.index-place.result.now c.index-place.ensures in
    rw read here.ordered

pub slice_bounds-result-start : goal.slice_bounds-result-start
slice_bounds-result-start c =
    let p = c.self.inside in
    let has = rw (← c.self.view_is, ← c.slot.view_is) at c.requires.held in
    let here = is_here p.bytes.items p.places.items (take p.used p.order.items) c.slot.inside.number p.live c.self.invariant.1 has in
    let read = here_read p.bytes.items p.places.items (take p.used p.order.items) c.slot.inside.number here c.index-place.result.now c.index-place.ensures in
    let start = ap (λ place. place.start) read in
    let end = ap (λ place. place.end) read in
    omega (arith, here.ordered, here.within, c.deref.ensures.len, p.bytes.ok.0, start, end)

pub slice_bounds-result-end : goal.slice_bounds-result-end
slice_bounds-result-end c =
    let p = c.self.inside in
    let has = rw (← c.self.view_is, ← c.slot.view_is) at c.requires.held in
    let here = is_here p.bytes.items p.places.items (take p.used p.order.items) c.slot.inside.number p.live c.self.invariant.1 has in
    let read = here_read p.bytes.items p.places.items (take p.used p.order.items) c.slot.inside.number here c.index-place.result.now c.index-place.ensures in
    let start = ap (λ place. place.start) read in
    let end = ap (λ place. place.end) read in
    omega (arith, here.ordered, here.within, c.deref.ensures.len, p.bytes.ok.0, start, end)

pub returns : goal.returns
returns c =
    let p = c.self.inside in
    let has = rw (← c.self.view_is, ← c.slot.view_is) at c.requires.held in
    let here = is_here p.bytes.items p.places.items (take p.used p.order.items) c.slot.inside.number p.live c.self.invariant.1 has in
    let read = here_read p.bytes.items p.places.items (take p.used p.order.items) c.slot.inside.number here c.index-place.result.now c.index-place.ensures in
    rw (← c.self.view_is, ← c.slot.view_is, c.deref.ensures.value, read) (record { bytes = here.held ∙ ap Some here.span_is })
