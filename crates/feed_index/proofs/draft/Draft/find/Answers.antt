use Rattle.std.proofs.Common.{◌∙◌, drop, sym, ap}
use Rattle.std.specs.Prelude.{Option}
use Rattle.std.specs.Option.{option_or}
use Rattle.feed_index.specs.Entries.{value_at}
use Rattle.feed_index.proofs.GatherLemmas.{value_after}
use Rattle.feed_index.proofs.draft.Draft.find.Goals as goal

pub returns-in-Some : goal.returns-in-Some
returns-in-Some g c =
    let kept = drop c.self.inside.gone c.self.inside.index.now.entries in
    record {
      value = rw (← c.self.view_is)
          (ap (λ (it : Option _). option_or it (value_at g.K.Ord.cmp kept c.args.key.now)) c.in-Some.ensures.value
          ∙ sym (value_after g.met.K.Ord.total kept c.self.inside.batch.entries c.args.key.now c.self.invariant.2));
    }

pub returns-in-None : goal.returns-in-None
returns-in-None g c =
    let kept = drop c.self.inside.gone c.self.inside.index.now.entries in
    record {
      value = rw (← c.self.view_is)
          (c.find_after.ensures.value
          ∙ ap (λ (it : Option _). option_or it (value_at g.K.Ord.cmp kept c.args.key.now)) c.in-None.ensures.value
          ∙ sym (value_after g.met.K.Ord.total kept c.self.inside.batch.entries c.args.key.now c.self.invariant.2));
    }
