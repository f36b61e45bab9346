use Rattle.std.proofs.Common.{refl, sym, ◌∙◌}
use Rattle.std.proofs.lemmas.Option.{slice_get_read, slice_get_within}
use Rattle.command_words.proofs.WordLemmas.{read_at}
use Rattle.command_words.proofs.words.to_siri.Goals as goal
use Rattle.service_day.specs.Utc.{utc_of}

pub returns : goal.returns
returns c =
    let is = c.requires.1 in
    let words = c.args.words.now in
    record {
      name = is.name;
      scope = c.scope_in.ensures;
      at = read_at utc_of words 10 _ _ _ is.at c.index-words-10.is (sym c.moment.ensures ∙ c.unwrap.ensures);
      feed = slice_get_read words _ 12 _ refl (slice_get_within words 12 _ is.feed) c.index-words-12.is;
    }
