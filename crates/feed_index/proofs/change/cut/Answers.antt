use Rattle.std.proofs.Common.{◌≡◌, ◌∙◌, ◌<◌, ◌≤◌, ◌-◌, ◌++◌, ap, refl, length, take, drop, arith}
use Rattle.std.proofs.lemmas.List.{length-map, take-append-drop, take-map, drop-map}
use Rattle.std.proofs.lemmas.List.Sorted.{IsPermutation-append_comm}
use Rattle.std.specs.Prelude.{IsPermutation}
use Rattle.feed_index.specs.Rows.{entries_of, entry_of}
use Rattle.feed_index.proofs.ChangeLemmas.{cut_more}
use Rattle.feed_index.proofs.HeldLemmas.{entries-append, held_moved}
use Rattle.feed_index.proofs.change.cut.Goals as goal

pub loop-i-init : goal.loop-i-init
loop-i-init g c =
    let rows = c.args.rows.now.items in
    let spans = c.args.pool.now.spans in
    let turned : IsPermutation (take c.args.n rows ++ drop c.args.n rows) (drop c.args.n rows ++ take c.args.n rows) = IsPermutation-append_comm (take c.args.n rows) (drop c.args.n rows) in
    let moved : IsPermutation rows c.rotate_left.new.self.items = rw c.rotate_left.ensures.items (rw take-append-drop at turned) in
    let all : c.args.n - 0 ≡ c.args.n = omega arith in
    record {
      held = held_moved rows c.rotate_left.new.self.items spans moved c.requires.held;
      entries = ap (entries_of spans) c.rotate_left.ensures.items ∙ entries-append spans (drop c.args.n rows) (take c.args.n rows)
          ∙ rw (all, take-map (entry_of spans) c.args.n rows, drop-map (entry_of spans) c.args.n rows) refl;
      len = omega arith;
      capacity = c.rotate_left.ensures.capacity;
      never_falls = omega arith;
      sums = refl;
      spare_bytes = omega arith;
      spare_spans = omega arith;
    }

pub loop-i-preserved : goal.loop-i-preserved
loop-i-preserved g c =
    let entries = entries_of c.args.pool.now.spans c.args.rows.now.items in
    let long : length entries ≡ length c.args.rows.now.items = length-map c.args.rows.now.items (entry_of c.args.pool.now.spans) in
    let len : c.len-len.result ≡ length entries = omega arith in
    let within : c.args.n ≤ length entries = omega arith in
    let lt : c.loop-i.i < c.args.n = omega arith in
    record {
      held = c.take_out-value.ensures.held;
      entries = c.take_out-value.ensures.entries ∙ rw (c.loop-i.invariant.entries, len) (cut_more entries c.args.n c.loop-i.i lt within);
      len = omega arith;
      capacity = c.take_out-value.ensures.capacity ∙ c.loop-i.invariant.capacity;
      never_falls = omega (arith, c.take_out-value.ensures.dead.never_falls, c.loop-i.invariant.never_falls);
      sums = omega (arith, c.take_out-value.ensures.dead.sums, c.loop-i.invariant.sums);
      spare_bytes = omega (arith, c.take_out-value.ensures.spare_bytes, c.loop-i.invariant.spare_bytes);
      spare_spans = omega (arith, c.take_out-value.ensures.spare_spans, c.loop-i.invariant.spare_spans);
    }
