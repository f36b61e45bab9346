-- A slot that was free before, or one more than there were.
use Rattle.std.proofs.Common.{◌≡◌, ◌<◌, ◌≤◌, ◌++◌, ◌∷◌, [], ℕ, List, length, get_or, set, arith}
use Rattle.std.proofs.lemmas.List.{get_or_read}
use Rattle.span_pool.specs.declared.place.Place.{Place}
use Rattle.span_pool.proofs.RegionLemmas.{IsTaken, taken_again, taken_new}
use Rattle.span_pool.proofs.order.take_slot.Goals as goal

pub returns-then-used-len-clause-added : goal.returns-then-used-len-clause-added
returns-then-used-len-clause-added c =
    let order : List ℕ = c.args.order.now.items in
    let within : c.args.used < length order = omega (arith, c.if-used-len.true, c.len.ensures) in
    let read : c.index-slot.result.now ≡ get_or order c.args.used 0 = get_or_read order c.args.used c.index-slot.result.now within c.index-slot.ensures 0 in
    let taken : IsTaken c.args.places.now.items (set c.args.places.now.items (get_or order c.args.used 0) c.args.place) order order c.args.used (get_or order c.args.used 0) c.args.place =
    taken_again c.args.places.now.items order c.args.used c.args.place c.requires.ordered within c.requires.is_order in
    rw read taken.added

pub returns-else-used-len-clause-added : goal.returns-else-used-len-clause-added
returns-else-used-len-clause-added c =
    let places : List Place = c.args.places.now.items in
    let order : List ℕ = c.args.order.now.items in
    let full : length order ≤ c.args.used = omega (arith, c.if-used-len.false, c.len.ensures) in
    let slot : c.len-slot.result ≡ length places = omega (arith, c.len-slot.ensures) in
    let places_now = rw c.unwrap.ensures at c.push.ensures.items in
    let order_now = rw c.unwrap-else-used-len.ensures at c.push-else-used-len.ensures.items in
    let taken : IsTaken places (places ++ c.args.place ∷ []) order (order ++ length places ∷ []) c.args.used (length places) c.args.place =
    taken_new places order c.args.used c.args.place c.requires.ordered full c.requires.is_order in
    rw (places_now, order_now, slot) taken.added
