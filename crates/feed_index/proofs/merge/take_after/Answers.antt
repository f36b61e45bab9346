use Rattle.std.proofs.Common.{◌≡◌, ◌≤◌, length, drop, arith}
use Rattle.std.proofs.lemmas.List.{length-map}
use Rattle.feed_index.specs.declared.entry.Entry.{Entry}
use Rattle.feed_index.specs.Rows.{IsGapAt, StandsAt, entries_of, entry_of}
use Rattle.feed_index.proofs.StageLemmas.{list_insert, list_set}
use Rattle.feed_index.proofs.TakeLemmas.{back_found, back_gap, back_sorted, new_entries}
use Rattle.feed_index.proofs.merge.take_after.Goals as goal

pub place-requires : goal.place-requires
place-requires g c = record { sorted = rw (c.split_at.ensures.back, c.deref.ensures.value) (back_sorted g.met.K.Ord.total c.args.pool.now.spans c.args.rows.now.items c.args.front c.requires.staged.back_rises) }

pub returns-in-Ok-clause-takes : goal.returns-in-Ok-clause-takes
returns-in-Ok-clause-takes g c =
    let rows = c.args.rows.now.items in
    let spans = c.args.pool.now.spans in
    let front = c.args.front in
    let one : Entry _ _ = record { key = c.args.key; value = c.args.value; bytes = c.args.bytes.now } in
    let stands : StandsAt g.K.Ord.cmp (drop front rows) c.args.key c.in-Ok.at = rw (c.split_at.ensures.back, c.deref.ensures.value) at c.in-Ok.ensures.parts in
    let long : length (entries_of spans rows) ≡ length rows = length-map rows (entry_of spans) in
    let le : front ≤ length (entries_of spans rows) = omega arith in
    record {
      held = c.exchange-old.ensures.held;
      stages = rw c.exchange-old.ensures.entries (list_set (λ (each : Entry _ _). each.key) g.met.K.Ord.total (entries_of spans rows) front c.in-Ok.at one le c.requires.staged
          (new_entries g.met.K.Ord.total spans rows front c.args.key c.requires.new) (back_found g.met.K.Ord.total spans rows front c.in-Ok.at one stands));
      within = omega arith;
      long = omega arith;
      dead = c.exchange-old.ensures.dead;
      spare_bytes = c.exchange-old.ensures.spare_bytes;
      spare_spans = c.exchange-old.ensures.spare_spans;
    }

pub returns-in-Err-clause-takes : goal.returns-in-Err-clause-takes
returns-in-Err-clause-takes g c =
    let rows = c.args.rows.now.items in
    let spans = c.args.pool.now.spans in
    let front = c.args.front in
    let one : Entry _ _ = record { key = c.args.key; value = c.args.value; bytes = c.args.bytes.now } in
    let gap : IsGapAt g.K.Ord.cmp (drop front rows) c.args.key c.in-Err.at = rw (c.split_at.ensures.back, c.deref.ensures.value) at c.in-Err.ensures.parts in
    let long : length (entries_of spans rows) ≡ length rows = length-map rows (entry_of spans) in
    let le : front ≤ length (entries_of spans rows) = omega arith in
    record {
      held = c.insert.ensures.held;
      stages = rw c.insert.ensures.entries (list_insert (λ (each : Entry _ _). each.key) g.met.K.Ord.total (entries_of spans rows) front c.in-Err.at one le c.requires.staged
          (new_entries g.met.K.Ord.total spans rows front c.args.key c.requires.new) (back_gap g.met.K.Ord.total spans rows front c.in-Err.at one gap));
      within = omega arith;
      long = omega arith;
      dead = c.insert.ensures.dead;
      spare_bytes = c.insert.ensures.spare_bytes;
      spare_spans = c.insert.ensures.spare_spans;
    }
