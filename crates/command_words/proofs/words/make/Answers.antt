use Rattle.std.proofs.Common.{sym, ◌∙◌}
use Rattle.command_words.specs.Forms.{seed_number, stop_count, trip_count}
use Rattle.command_words.proofs.WordLemmas.{read_at}
use Rattle.command_words.proofs.words.make.Goals as goal

pub returns : goal.returns
returns c =
    let is = c.requires.1 in
    let words = c.args.words.now in
    record {
      name = is.name;
      seed = read_at seed_number words 2 _ _ _ is.seed c.index-words-2.is (sym c.seed_number.ensures ∙ c.unwrap.ensures);
      trips = read_at trip_count words 4 _ _ _ is.trips c.index-words-4.is (sym c.trip_count.ensures ∙ c.unwrap-2.ensures);
      stops = read_at stop_count words 6 _ _ _ is.stops c.index-words-6.is (sym c.stop_count.ensures ∙ c.unwrap-3.ensures);
    }
