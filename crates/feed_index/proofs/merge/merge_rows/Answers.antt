use Rattle.std.proofs.Common.{◌≡◌, [], length, take, drop, refl, arith}
use Rattle.std.proofs.lemmas.List.{drop_all, length-map, reverse-reverse, take_all}
use Rattle.std.proofs.lemmas.List.Sorted.{IsPermutation-map, sum_by-IsPermutation}
use Rattle.feed_index.specs.declared.entry.Entry.{Entry}
use Rattle.feed_index.specs.Entries.{total}
use Rattle.feed_index.specs.Rows.{entries_of, entry_of}
use Rattle.feed_index.proofs.GatherLemmas.{all_live}
use Rattle.feed_index.proofs.HeldLemmas.{held_moved}
use Rattle.feed_index.proofs.RisingLemmas.{rising_none}
use Rattle.feed_index.proofs.SetLemmas.{rising_entries}
use Rattle.feed_index.proofs.TakeLemmas.{staged_rows}
use Rattle.feed_index.proofs.merge.merge_rows.Goals as goal

pub items-init : goal.items-init
items-init g c =
    let rows = c.args.rows.now.items in
    let entries = entries_of c.args.pool.now.spans rows in
    let items = c.args.items.items in
    let turned = c.reverse.new.self.items in
    let spans = c.args.from.now.spans in
    let long : length entries ≡ length rows = length-map rows (entry_of c.args.pool.now.spans) in
    let all : take c.len-front.result entries ≡ entries = take_all c.len-front.result entries (omega arith) in
    let none : drop c.len-front.result entries ≡ [] = drop_all c.len-front.result entries (omega arith) in
    let sum : total (entries_of spans turned) ≡ total (entries_of spans items) =
    sum_by-IsPermutation (λ (one : Entry _ _). length one.bytes) (entries_of spans items) (entries_of spans turned) (IsPermutation-map (entry_of spans) items turned c.reverse.ensures.permutation) in
    record {
      held = c.requires.held;
      staged = rw (all, none) (record { front_rises = rising_entries g.met.K.Ord.total c.args.pool.now.spans rows c.requires.sorted; back_rises = rising_none (λ (one : Entry _ _). one.key) g.K.Ord.cmp; apart = tt });
      within = omega arith;
      live = all_live [] turned spans (held_moved items turned spans c.reverse.ensures.permutation c.requires.from);
      entries = rw (all, none, c.reverse.ensures.items, reverse-reverse items) refl;
      len = omega arith;
      capacity = refl;
      never_falls = omega arith;
      sums = omega arith;
      spare_bytes = omega arith;
      spare_spans = omega arith;
    }

pub join-requires-clause-staged : goal.join-requires-clause-staged
join-requires-clause-staged g c = staged_rows g.met.K.Ord.total c.items.pool.spans c.items.rows.items c.items.front c.items.invariant.staged
