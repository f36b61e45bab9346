use Rattle.std.proofs.Common.{refl, sym, ◌∙◌}
use Rattle.std.proofs.lemmas.Option.{slice_get_read, slice_get_within}
use Rattle.command_words.specs.Forms.{connection_count, kept_count}
use Rattle.command_words.proofs.WordLemmas.{read_at}
use Rattle.command_words.proofs.words.serve.Goals as goal

pub returns : goal.returns
returns c =
    let is = c.requires.1 in
    let words = c.args.words.now in
    record {
      name = is.name;
      scope = c.scope_in.ensures;
      keep = read_at kept_count words 10 _ _ _ is.keep c.index-words-10.is (sym c.kept_count.ensures ∙ c.unwrap.ensures);
      listen = slice_get_read words _ 12 _ refl (slice_get_within words 12 _ is.listen) c.index-words-12.is;
      connections = read_at connection_count words 14 _ _ _ is.connections c.index-words-14.is (sym c.connection_count.ensures ∙ c.unwrap-2.ensures);
      journal = c.word_at.ensures;
    }
