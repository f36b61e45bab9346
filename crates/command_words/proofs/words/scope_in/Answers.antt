use Rattle.std.proofs.Common.{refl, sym, ◌∙◌}
use Rattle.std.proofs.lemmas.Option.{slice_get_read, slice_get_within}
use Rattle.command_words.specs.Forms.{beginning, day_count}
use Rattle.command_words.proofs.WordLemmas.{read_at}
use Rattle.command_words.proofs.words.scope_in.Goals as goal

pub returns : goal.returns
returns c =
    let is = c.requires.1 in
    let words = c.args.words.now in
    record {
      gtfs = slice_get_read words _ 2 _ refl (slice_get_within words 2 _ is.gtfs) c.index-words-2.is;
      zone = (
        _,
        _,
        slice_get_read words _ 3 _ refl (slice_get_within words 3 _ is.zone.2) c.index-words-3.is,
        slice_get_read words _ 4 _ refl (slice_get_within words 4 _ is.zone.3) c.index-words-4.is,
        c.zone_word.ensures,
      );
      from = read_at beginning words 6 _ _ _ is.from c.index-words-6.is (sym c.first_day.ensures ∙ c.unwrap.ensures);
      days = read_at day_count words 8 _ _ _ is.days c.index-words-8.is (sym c.day_count.ensures ∙ c.unwrap-2.ensures);
    }
