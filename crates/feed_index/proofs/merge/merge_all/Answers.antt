use Rattle.std.proofs.Common.{◌∙◌, [], List, ap, sym}
use Rattle.feed_index.specs.declared.entry.Entry.{Entry}
use Rattle.feed_index.specs.declared.row.Row.{Row}
use Rattle.feed_index.specs.Entries.{put_all}
use Rattle.feed_index.specs.Rows.{entries_of}
use Rattle.feed_index.proofs.AllLemmas.{all_after}
use Rattle.feed_index.proofs.SetLemmas.{rising_entries}
use Rattle.feed_index.proofs.merge.merge_all.Goals as goal

pub returns-then-may_replace-clause-entries : goal.returns-then-may_replace-clause-entries
returns-then-may_replace-clause-entries g c =
    let items = c.args.items.items in
    let spans = c.args.from.spans in
    rw (c.replace.ensures.rows, c.replace.ensures.spans)
    (sym (all_after (λ (one : Entry _ _). one.key) g.met.K.Ord.total [] (entries_of spans items) (rising_entries g.met.K.Ord.total spans items c.requires.from_sorted))
    ∙ ap (λ (rows : List (Row _ _)). put_all g.K.Ord.cmp (entries_of c.args.pool.now.spans rows) (entries_of spans items)) (sym c.if-may_replace.ensures.room.no_rows))
