use Rattle.std.proofs.Common.{refl, sym, ◌∙◌}
use Rattle.std.proofs.lemmas.List.{take_rest}
use Rattle.std.proofs.lemmas.Option.{slice_get_read, slice_get_within}
use Rattle.command_words.specs.Forms.{minute_count, visit_count}
use Rattle.command_words.proofs.WordLemmas.{read_at}
use Rattle.command_words.proofs.words.board.Goals as goal
use Rattle.service_day.specs.Utc.{utc_of}

pub returns : goal.returns
returns c =
    let is = c.requires.1 in
    let words = c.args.words.now in
    record {
      name = is.name;
      scope = c.scope_in.ensures;
      at = read_at utc_of words 10 _ _ _ is.at c.index-words-10.is (sym c.moment.ensures ∙ c.unwrap.ensures);
      stop = slice_get_read words _ 12 _ refl (slice_get_within words 12 _ is.stop) c.index-words-12.is;
      minutes = read_at minute_count words 14 _ _ _ is.minutes c.index-words-14.is (sym c.minute_count.ensures ∙ c.unwrap-2.ensures);
      most = read_at visit_count words 16 _ _ _ is.most c.index-words-16.is (sym c.visit_count.ensures ∙ c.unwrap-3.ensures);
      more = sym (take_rest words 17);
    }
