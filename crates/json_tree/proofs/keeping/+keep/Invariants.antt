use Rattle.std.proofs.Common.{◌≡◌, ℕ, ◌+◌, ◌*◌, ◌≤◌, length, List, ◌++◌, Bor, Global}
use Rattle.json.specs.declared.value.Value.{Value}
use Rattle.json.specs.Json.{items, members, value, parse_map}
use Rattle.json.proofs.Trees.{items_before, members_before}
use Rattle.serde_json.specs.Read.{converted}
use Rattle.json_tree.specs.Keeping.{items_if_fit, members_if_fit}
use Rattle.json_tree.proofs.keeping.+keep.Given as goal

abbrev pub decreases-keep_value : goal.decreases-keep_value
decreases-keep_value g l = 2 * l.depth

abbrev pub decreases-keep_items : goal.decreases-keep_items
decreases-keep_items g l = 2 * l.depth + 1

abbrev pub decreases-keep_members : goal.decreases-keep_members
decreases-keep_members g l = 2 * l.depth + 1

abbrev pub invariant-keep_items-loop-alloc : goal.invariant-keep_items-loop-alloc
invariant-keep_items-loop-alloc g l =
    (n : ℕ) × (length l.reader ≤ n)
    × (converted (items_if_fit g.N.Names.has) (items (value l.depth) (length l.initial.reader) l.initial.reader)
    ≡ parse_map (items_before l.found.items) (converted (items_if_fit g.N.Names.has) (items (value l.depth) n l.reader)))
    × (length l.reader ≤ length l.initial.reader) × (l.gathered.items ≡ l.fn.gathered.items)

abbrev pub decreases-keep_items-loop-alloc : goal.decreases-keep_items-loop-alloc
decreases-keep_items-loop-alloc g l = length l.reader

abbrev pub invariant-keep_members-loop-key : goal.invariant-keep_members-loop-key
invariant-keep_members-loop-key g l =
    (n : ℕ) × (found : List (Bor (List ℕ) × Value Global)) × (length l.reader ≤ n)
    × (converted (members_if_fit g.N.Names.has) (members (value l.depth) (length l.initial.reader) l.initial.reader)
    ≡ parse_map (members_before found) (converted (members_if_fit g.N.Names.has) (members (value l.depth) n l.reader)))
    × (length l.reader ≤ length l.initial.reader) × (l.gathered.items ≡ l.fn.gathered.items ++ found) × (l.start ≡ length l.fn.gathered.items)

abbrev pub decreases-keep_members-loop-key : goal.decreases-keep_members-loop-key
decreases-keep_members-loop-key g l = length l.reader
