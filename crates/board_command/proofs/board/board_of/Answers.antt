-- The board of the journeys of the feed that was written and read again.
use Rattle.board_command.proofs.ShownLemmas.{shown}
use Rattle.board_command.proofs.board.board_of.Goals as goal

pub returns : goal.returns
returns c =
    record {
      shows = λ arrivals stands.
          shown c.args.gate.now.setting c.args.at arrivals c.in_ok-feed.feed c.context-context.result c.in_ok-reading.reading c.make-board.result c.add_all.new.board
          c.args.stop c.args.minutes c.args.most c.text.result (c.in_ok-feed.ensures arrivals stands) (c.context-context.ensures.shows arrivals stands)
          c.in_ok-reading.ensures c.make-board.ensures.made c.in_ok-add_all.ensures.asked (rw c.as_slice.ensures.same at c.in_ok-add_all.ensures.visits)
          c.text.ensures.text;
    }
