use Rattle.std.proofs.Common.{refl}
use Rattle.std.proofs.lemmas.Option.{slice_get_read, slice_get_within}
use Rattle.command_words.proofs.words.show.Goals as goal

pub returns : goal.returns
returns c =
    let is = c.requires.1 in
    let words = c.args.words.now in
    record {
      name = is.name;
      scope = c.scope_in.ensures;
      feed = slice_get_read words _ 10 _ refl (slice_get_within words 10 _ is.feed) c.index-words-10.is;
    }
