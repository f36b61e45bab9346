use Rattle.std.proofs.Common.{◌≡◌, ◌<◌, ◌≤◌, length, take, arith}
use Rattle.std.proofs.lemmas.List.{length-map, length-take-le}
use Rattle.feed_index.specs.declared.entry.Entry.{Entry}
use Rattle.feed_index.specs.Rows.{IsGapAt, StandsAt, entries_of, entry_of}
use Rattle.feed_index.proofs.StageLemmas.{list_found}
use Rattle.feed_index.proofs.TakeLemmas.{back_new, front_found, front_sorted, new_rows}
use Rattle.feed_index.proofs.merge.take_early.Goals as goal

pub place-requires : goal.place-requires
place-requires g c = record { sorted = rw c.deref.ensures.value (front_sorted g.met.K.Ord.total c.args.pool.now.spans c.args.rows.now.items c.args.front c.requires.staged.front_rises) }

pub take_after-requires-clause-new : goal.take_after-requires-clause-new
take_after-requires-clause-new g c =
    let gap : IsGapAt g.K.Ord.cmp (take c.args.front c.args.rows.now.items) c.args.key c.in-Err.field-0 = rw c.deref.ensures.value at c.in-Err.ensures.parts in
    new_rows g.met.K.Ord.total c.args.rows.now.items c.args.front c.in-Err.field-0 c.args.key gap

pub returns-in-Ok-clause-takes : goal.returns-in-Ok-clause-takes
returns-in-Ok-clause-takes g c =
    let rows = c.args.rows.now.items in
    let spans = c.args.pool.now.spans in
    let front = c.args.front in
    let one : Entry _ _ = record { key = c.args.key; value = c.args.value; bytes = c.args.bytes.now } in
    let stands : StandsAt g.K.Ord.cmp (take front rows) c.args.key c.in-Ok.at = rw c.deref.ensures.value at c.in-Ok.ensures.parts in
    let long : length (entries_of spans rows) ≡ length rows = length-map rows (entry_of spans) in
    let le : front ≤ length (entries_of spans rows) = omega arith in
    let short : length (take front rows) ≡ front = length-take-le front rows (omega arith) in
    let lt : c.in-Ok.at < front = omega (arith, stands.within) in
    record {
      held = c.exchange-old.ensures.held;
      stages = rw c.exchange-old.ensures.entries (list_found (λ (each : Entry _ _). each.key) g.met.K.Ord.total (entries_of spans rows) front c.in-Ok.at one le c.requires.staged
          (back_new g.met.K.Ord.total spans rows front c.in-Ok.at c.args.key c.requires.staged stands) lt (front_found g.met.K.Ord.total spans rows front c.in-Ok.at one stands));
      within = omega arith;
      long = omega arith;
      dead = c.exchange-old.ensures.dead;
      spare_bytes = c.exchange-old.ensures.spare_bytes;
      spare_spans = c.exchange-old.ensures.spare_spans;
    }
