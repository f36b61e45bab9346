-- A span more after the others, under a slot that none of them has.
use Rattle.std.proofs.Common.{◌+◌, sym, ◌∙◌, ap, length, arith}
use Rattle.span_pool.proofs.RegionLemmas.{region_fits, is_put}
use Rattle.span_pool.proofs.PlaceLemmas.{bytes_of-lacks}
use Rattle.span_pool.proofs.pool.SpanPool.put.Goals as goal

pub overflow_add-self-2 : goal.overflow_add-self-2
overflow_add-self-2 c =
    let grown = rw c.unwrap.ensures at c.extend_from_slice.ensures.len in
    omega (arith, region_fits _ _ _ c.self.invariant.1, c.len.ensures, c.len.type_inv)

pub invariant_of-self : goal.invariant_of-self
invariant_of-self c =
    let grown = rw c.unwrap.ensures at c.extend_from_slice.ensures.items in
    let longer = rw c.unwrap.ensures at c.extend_from_slice.ensures.len in
    let none = bytes_of-lacks _ c.self.inside.bytes.items c.self.inside.places.items _ c.take_slot-number.ensures.lacks in
    let put = is_put _ _ _ _ _ _ _ _ _ c.self.invariant.1 none grown (c.len-start.ensures ∙ c.self.inside.bytes.ok.0) (c.len.ensures ∙ c.extend_from_slice.new.self.ok.0) c.take_slot-number.ensures.added in (
      c.take_slot-number.ensures.is_order,
      put.region,
      omega (arith, c.self.invariant.2, c.requires.bytes_room, c.extend_from_slice.ensures.capacity, ap (λ v. v.spare_bytes) c.self.view_is),
      omega (arith, c.self.invariant.3, c.requires.spans_room, c.take_slot-number.ensures.places_room, ap (λ v. v.spare_spans) c.self.view_is),
      omega (arith, c.self.invariant.4, c.requires.spans_room, c.take_slot-number.ensures.order_room, ap (λ v. v.spare_spans) c.self.view_is),
    )

pub returns-clause-apart : goal.returns-clause-apart
returns-clause-apart c =
    rw (← c.self.view_is) (bytes_of-lacks _ c.self.inside.bytes.items c.self.inside.places.items _ c.take_slot-number.ensures.lacks)

pub returns-clause-added : goal.returns-clause-added
returns-clause-added c =
    let grown = rw c.unwrap.ensures at c.extend_from_slice.ensures.items in
    let none = bytes_of-lacks _ c.self.inside.bytes.items c.self.inside.places.items _ c.take_slot-number.ensures.lacks in
    let put = is_put _ _ _ _ _ _ _ _ _ c.self.invariant.1 none grown (c.len-start.ensures ∙ c.self.inside.bytes.ok.0) (c.len.ensures ∙ c.extend_from_slice.new.self.ok.0) c.take_slot-number.ensures.added in
    rw (← c.self.view_is) put.spans

pub returns-clause-held : goal.returns-clause-held
returns-clause-held c =
    let grown = rw c.unwrap.ensures at c.extend_from_slice.ensures.items in
    let none = bytes_of-lacks _ c.self.inside.bytes.items c.self.inside.places.items _ c.take_slot-number.ensures.lacks in
    let put = is_put _ _ _ _ _ _ _ _ _ c.self.invariant.1 none grown (c.len-start.ensures ∙ c.self.inside.bytes.ok.0) (c.len.ensures ∙ c.extend_from_slice.new.self.ok.0) c.take_slot-number.ensures.added in
    put.held

pub returns-clause-live : goal.returns-clause-live
returns-clause-live c =
    let grown = rw c.unwrap.ensures at c.extend_from_slice.ensures.items in
    let none = bytes_of-lacks _ c.self.inside.bytes.items c.self.inside.places.items _ c.take_slot-number.ensures.lacks in
    let put = is_put _ _ _ _ _ _ _ _ _ c.self.invariant.1 none grown (c.len-start.ensures ∙ c.self.inside.bytes.ok.0) (c.len.ensures ∙ c.extend_from_slice.new.self.ok.0) c.take_slot-number.ensures.added in
    rw (← c.self.view_is) (sym put.region.total_is ∙ ap (λ n. n + length c.args.bytes.now) c.self.invariant.1.total_is)
