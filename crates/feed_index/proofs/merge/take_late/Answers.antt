use Rattle.std.proofs.Common.{◌≡◌, ◌∙◌, [], List, ap, length, take, drop, arith}
use Rattle.std.proofs.lemmas.List.{drop_all, length-map, take_all}
use Rattle.feed_index.specs.declared.entry.Entry.{Entry}
use Rattle.feed_index.specs.Entries.{put}
use Rattle.feed_index.specs.Rows.{entries_of, entry_of}
use Rattle.feed_index.specs.Staged.{gathered}
use Rattle.feed_index.proofs.RisingLemmas.{rising_none}
use Rattle.feed_index.proofs.SetLemmas.{rising_entries}
use Rattle.feed_index.proofs.TakeLemmas.{staged_rows}
use Rattle.feed_index.proofs.merge.take_late.Goals as goal

pub returns-clause-takes : goal.returns-clause-takes
returns-clause-takes g c =
    let rows = c.args.rows.now.items in
    let spans = c.args.pool.now.spans in
    let joined = c.join.new.rows.items in
    let next = c.len-next.result in
    let entries = entries_of spans joined in
    let long : length entries ≡ length joined = length-map joined (entry_of spans) in
    let all : take next entries ≡ entries = take_all next entries (omega (arith, long)) in
    let none : drop next entries ≡ [] = drop_all next entries (omega (arith, long)) in
    let same : gathered g.K.Ord.cmp joined spans next ≡ gathered g.K.Ord.cmp rows spans c.args.front = rw (all, none) (c.join.ensures.entries spans) in
    let one : Entry _ _ = record { key = c.args.key; value = c.args.value; bytes = c.args.bytes.now } in
    let takes = c.take_early.ensures.takes in
    record {
      held = takes.held;
      stages = record {
        staged = takes.stages.staged;
        merged = takes.stages.merged ∙ ap (λ (all : List (Entry _ _)). put g.K.Ord.cmp all one) same;
      };
      within = takes.within;
      long = omega (arith, takes.long);
      dead = takes.dead;
      spare_bytes = takes.spare_bytes;
      spare_spans = takes.spare_spans;
    }

pub join-requires-clause-staged : goal.join-requires-clause-staged
join-requires-clause-staged g c = staged_rows g.met.K.Ord.total c.args.pool.now.spans c.args.rows.now.items c.args.front c.requires.staged

pub take_early-requires-clause-staged : goal.take_early-requires-clause-staged
take_early-requires-clause-staged g c =
    let spans = c.args.pool.now.spans in
    let joined = c.join.new.rows.items in
    let next = c.len-next.result in
    let entries = entries_of spans joined in
    let long : length entries ≡ length joined = length-map joined (entry_of spans) in
    let all : take next entries ≡ entries = take_all next entries (omega (arith, long)) in
    let none : drop next entries ≡ [] = drop_all next entries (omega (arith, long)) in
    rw (all, none) (record { front_rises = rising_entries g.met.K.Ord.total spans joined c.join.ensures.sorted; back_rises = rising_none (λ (each : Entry _ _). each.key) g.K.Ord.cmp; apart = tt })
