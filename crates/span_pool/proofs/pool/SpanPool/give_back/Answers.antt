-- The slot's place becomes nobody's; its bytes stay where they are.
use Rattle.std.proofs.Common.{take, arith}
use Rattle.std.proofs.lemmas.List.{length-set}
use Rattle.span_pool.proofs.RegionLemmas.{is_here, here_read, is_given, region_fits}
use Rattle.span_pool.proofs.pool.SpanPool.give_back.Goals as goal

pub index-place-requires : goal.index-place-requires
index-place-requires c =
    let p = c.self.inside in
    let has = rw (← c.self.view_is, ← c.slot.view_is) at c.requires.held in
    let here = is_here p.bytes.items p.places.items (take p.used p.order.items) c.slot.inside.number p.live c.self.invariant.1 has in
    omega (arith, here.inside, p.places.ok.0)

pub overflow_sub-self : goal.overflow_sub-self
overflow_sub-self c =
    let p = c.self.inside in
    let has = rw (← c.self.view_is, ← c.slot.view_is) at c.requires.held in
    let here = is_here p.bytes.items p.places.items (take p.used p.order.items) c.slot.inside.number p.live c.self.invariant.1 has in
    let read = here_read p.bytes.items p.places.items (take p.used p.order.items) c.slot.inside.number here c.index-place.result.now c.index-place.ensures in
    rw read here.ordered

pub overflow_sub-self-2 : goal.overflow_sub-self-2
overflow_sub-self-2 c =
    let p = c.self.inside in
    let has = rw (← c.self.view_is, ← c.slot.view_is) at c.requires.held in
    let here = is_here p.bytes.items p.places.items (take p.used p.order.items) c.slot.inside.number p.live c.self.invariant.1 has in
    let read = here_read p.bytes.items p.places.items (take p.used p.order.items) c.slot.inside.number here c.index-place.result.now c.index-place.ensures in
    let given = is_given p.bytes.items p.places.items (take p.used p.order.items) c.slot.inside.number (record { start = 1; end = 0 }) c.index-place.result.now p.live (omega arith) c.self.invariant.1 here read in
    given.fits

pub index_mut-requires : goal.index_mut-requires
index_mut-requires c =
    let p = c.self.inside in
    let has = rw (← c.self.view_is, ← c.slot.view_is) at c.requires.held in
    let here = is_here p.bytes.items p.places.items (take p.used p.order.items) c.slot.inside.number p.live c.self.invariant.1 has in
    omega (arith, here.inside, p.places.ok.0)

pub invariant_of-self : goal.invariant_of-self
invariant_of-self c =
    let p = c.self.inside in
    let has = rw (← c.self.view_is, ← c.slot.view_is) at c.requires.held in
    let here = is_here p.bytes.items p.places.items (take p.used p.order.items) c.slot.inside.number p.live c.self.invariant.1 has in
    let read = here_read p.bytes.items p.places.items (take p.used p.order.items) c.slot.inside.number here c.index-place.result.now c.index-place.ensures in
    let given = is_given p.bytes.items p.places.items (take p.used p.order.items) c.slot.inside.number (record { start = 1; end = 0 }) c.index-place.result.now p.live (omega arith) c.self.invariant.1 here read in (
      rw (length-set p.places.items c.slot.inside.number (record { start = 1; end = 0 })) c.self.invariant.0,
      given.region,
      c.self.invariant.2,
      c.self.invariant.3,
      c.self.invariant.4,
    )

pub returns-clause-spans : goal.returns-clause-spans
returns-clause-spans c =
    let p = c.self.inside in
    let has = rw (← c.self.view_is, ← c.slot.view_is) at c.requires.held in
    let here = is_here p.bytes.items p.places.items (take p.used p.order.items) c.slot.inside.number p.live c.self.invariant.1 has in
    let read = here_read p.bytes.items p.places.items (take p.used p.order.items) c.slot.inside.number here c.index-place.result.now c.index-place.ensures in
    let given = is_given p.bytes.items p.places.items (take p.used p.order.items) c.slot.inside.number (record { start = 1; end = 0 }) c.index-place.result.now p.live (omega arith) c.self.invariant.1 here read in
    rw (← c.self.view_is, ← c.slot.view_is) given.spans

pub returns-clause-dead : goal.returns-clause-dead
returns-clause-dead c =
    let p = c.self.inside in
    let has = rw (← c.self.view_is, ← c.slot.view_is) at c.requires.held in
    let here = is_here p.bytes.items p.places.items (take p.used p.order.items) c.slot.inside.number p.live c.self.invariant.1 has in
    let read = here_read p.bytes.items p.places.items (take p.used p.order.items) c.slot.inside.number here c.index-place.result.now c.index-place.ensures in
    let given = is_given p.bytes.items p.places.items (take p.used p.order.items) c.slot.inside.number (record { start = 1; end = 0 }) c.index-place.result.now p.live (omega arith) c.self.invariant.1 here read in
    rw (← c.self.view_is, ← c.slot.view_is) (omega (arith, given.size_is, given.fits, region_fits p.bytes.items _ p.live c.self.invariant.1))

pub returns-clause-live : goal.returns-clause-live
returns-clause-live c =
    let p = c.self.inside in
    let has = rw (← c.self.view_is, ← c.slot.view_is) at c.requires.held in
    let here = is_here p.bytes.items p.places.items (take p.used p.order.items) c.slot.inside.number p.live c.self.invariant.1 has in
    let read = here_read p.bytes.items p.places.items (take p.used p.order.items) c.slot.inside.number here c.index-place.result.now c.index-place.ensures in
    let given = is_given p.bytes.items p.places.items (take p.used p.order.items) c.slot.inside.number (record { start = 1; end = 0 }) c.index-place.result.now p.live (omega arith) c.self.invariant.1 here read in
    rw (← c.self.view_is, ← c.slot.view_is) (omega (arith, given.size_is, given.live))
