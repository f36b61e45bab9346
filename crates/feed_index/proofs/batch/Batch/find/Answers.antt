use Rattle.std.proofs.Common.{◌≡◌, ◌∙◌, Some, None, take, drop, sym, ap}
use Rattle.std.proofs.lemmas.List.{drop-map, take-map}
use Rattle.std.specs.Option.{option_or}
use Rattle.feed_index.specs.Entries.{value_at}
use Rattle.feed_index.specs.Rows.{entries_of, entry_of}
use Rattle.feed_index.specs.declared.entry.Entry.{Entry}
use Rattle.std.specs.Prelude.{List, Option}
use Rattle.feed_index.proofs.GatherLemmas.{value_after}
use Rattle.feed_index.proofs.TakeLemmas.{back_sorted, front_sorted}
use Rattle.feed_index.proofs.batch.Batch.find.Goals as goal

pub value_in-requires : goal.value_in-requires
value_in-requires g c = record { sorted = rw (c.split_at.ensures.back, c.deref.ensures.value) (back_sorted g.met.K.Ord.total c.self.inside.pool.spans c.self.inside.rows.items c.self.inside.front c.self.invariant.staged.back_rises) }

pub value_in-requires-in-None : goal.value_in-requires-in-None
value_in-requires-in-None g c = record { sorted = rw (c.split_at.ensures.front, c.deref.ensures.value) (front_sorted g.met.K.Ord.total c.self.inside.pool.spans c.self.inside.rows.items c.self.inside.front c.self.invariant.staged.front_rises) }

pub returns-in-Some : goal.returns-in-Some
returns-in-Some g c =
    let spans = c.self.inside.pool.spans in
    let rows = c.self.inside.rows.items in
    let front = c.self.inside.front in
    let entries = entries_of spans rows in
    let after : Some c.in-Some.value.now ≡ value_at g.K.Ord.cmp (entries_of spans (drop front rows)) c.args.key.now =
    rw (c.split_at.ensures.back, c.deref.ensures.value) at c.in-Some.ensures.value spans in
    let there : Some c.in-Some.value.now ≡ value_at g.K.Ord.cmp (drop front entries) c.args.key.now = after ∙ ap (λ (all : List (Entry _ _)). value_at g.K.Ord.cmp all c.args.key.now) (sym (drop-map (entry_of spans) front rows)) in
    record {
      value = rw (← c.self.view_is)
          (ap (λ (it : Option _). option_or it (value_at g.K.Ord.cmp (take front entries) c.args.key.now)) there
          ∙ sym (value_after g.met.K.Ord.total (take front entries) (drop front entries) c.args.key.now c.self.invariant.staged.back_rises));
    }

pub returns-in-None : goal.returns-in-None
returns-in-None g c =
    let spans = c.self.inside.pool.spans in
    let rows = c.self.inside.rows.items in
    let front = c.self.inside.front in
    let entries = entries_of spans rows in
    let after : None ≡ value_at g.K.Ord.cmp (entries_of spans (drop front rows)) c.args.key.now =
    rw (c.split_at.ensures.back, c.deref.ensures.value) at c.in-None.ensures.value spans in
    let there : None ≡ value_at g.K.Ord.cmp (drop front entries) c.args.key.now = after ∙ ap (λ (all : List (Entry _ _)). value_at g.K.Ord.cmp all c.args.key.now) (sym (drop-map (entry_of spans) front rows)) in
    let before = rw (c.split_at.ensures.front, c.deref.ensures.value) at c.value_in-in-None.ensures.value spans in
    record {
      value = rw (← c.self.view_is)
          (before
          ∙ ap (λ (all : List (Entry _ _)). value_at g.K.Ord.cmp all c.args.key.now) (sym (take-map (entry_of spans) front rows))
          ∙ ap (λ (it : Option _). option_or it (value_at g.K.Ord.cmp (take front entries) c.args.key.now)) there
          ∙ sym (value_after g.met.K.Ord.total (take front entries) (drop front entries) c.args.key.now c.self.invariant.staged.back_rises));
    }
