use Rattle.std.proofs.Common.{◌≡◌, is_some, drop}
use Rattle.json.specs.Value.{value_view}
use Rattle.serde_json.specs.Read.{of_json}
use Rattle.json_tree.proofs.RangeLemmas.{items_fit, members_fit}
use Rattle.json_tree.proofs.reading.+are_in_range.Given as goal

abbrev pub decreases-are_in_range : goal.decreases-are_in_range
decreases-are_in_range l = goal.size-are_in_range l

abbrev pub invariant-loop-item : goal.invariant-loop-item
invariant-loop-item l = items_fit (drop l.item-index l.item-items) ≡ is_some (of_json (value_view l.tree))

abbrev pub invariant-loop-member : goal.invariant-loop-member
invariant-loop-member l = members_fit (drop l.member-index l.member-items) ≡ is_some (of_json (value_view l.tree))
