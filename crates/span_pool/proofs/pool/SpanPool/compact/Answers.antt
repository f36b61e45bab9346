-- The live spans stand together, and those in use are theirs alone.
use Rattle.std.proofs.Common.{◌≡◌, ◌∙◌, ℕ, List, sym, ap, take, length, subst, arith}
use Rattle.span_pool.specs.declared.place.Place.{Place}
use Rattle.span_pool.specs.Places.{IsRegion, standing}
use Rattle.span_pool.proofs.RegionLemmas.{region_fits, moved_region, written_back}
use Rattle.span_pool.proofs.pool.SpanPool.compact.Goals as goal

pub overflow_sub-dead : goal.overflow_sub-dead
overflow_sub-dead c = omega (arith, region_fits _ _ _ c.self.invariant.1, c.len.ensures)

pub invariant_of-self : goal.invariant_of-self
invariant_of-self c =
    let p = c.self.inside in
    let places : List Place = c.pack.new.places.items in
    let order : List ℕ = c.sweep-in_use.new.order in
    let back = written_back p.order.items order p.order.len p.order.ok.0 (c.sweep-in_use.auto.order ∙ ap length c.deref_mut.ensures.value) in
    let is_order = rw c.deref-2.ensures.value at c.sweep-in_use.ensures.is_order in
    let swept = rw (c.deref-2.ensures.value, c.deref_mut.ensures.value) at c.sweep-in_use.ensures.same in
    let same = rw c.deref.ensures.value at c.pack.ensures.same in
    let ascends = rw c.deref.ensures.value at c.pack.ensures.ascend in
    let live = rw c.deref.ensures.value at c.pack.ensures.live in
    let packed = moved_region p.bytes.items c.pack.new.bytes.items (standing p.places.items (take p.used p.order.items)) (standing places (take p.used p.order.items)) p.live same ascends c.self.invariant.1 in
    let short : c.pack.new.bytes.len ≡ p.live = c.pack.new.bytes.ok.0 ∙ live ∙ sym c.self.invariant.1.total_is in
    rw back (
      is_order,
      subst (λ stand. IsRegion c.pack.new.bytes.items stand p.live) (sym swept) packed,
      omega (arith, short, c.self.invariant.2, c.pack.ensures.bytes_room, c.len.ensures, region_fits p.bytes.items _ p.live c.self.invariant.1),
      omega (arith, c.self.invariant.3, c.sweep-in_use.ensures.fewer, c.pack.ensures.places_room),
      omega (arith, c.self.invariant.4, c.sweep-in_use.ensures.fewer),
    )
