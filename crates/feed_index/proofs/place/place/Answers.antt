use Rattle.std.proofs.Common.{rules}
use Rattle.std.proofs.lemmas.Fn.{always_returns_same}
use Rattle.feed_index.proofs.PlaceLemmas.{place_found}
use Rattle.feed_index.proofs.place.place.Goals as goal

pub returns : goal.returns
returns g c = record {
  parts = place_found g.met.K.Ord.total _ _ _ c.requires.sorted c.binary_search_by.ensures.bound (c.binary_search_by.ensures.position (λ row. g.K.Ord.cmp row.key c.args.key.now) (always_returns_same _ _ _ (λ a r f k. search rules)));
}
