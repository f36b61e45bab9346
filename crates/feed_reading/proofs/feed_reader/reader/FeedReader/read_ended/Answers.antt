-- Where nothing is held, the bytes are the whole body.
use Rattle.std.proofs.Common.{ℕ, List, ap, subst, ◌∙◌, ◌-◌, length}
use Rattle.feed_reading.specs.Faults.{Piece}
use Rattle.feed_reading.specs.FeedSteps.{IsReadOf}
use Rattle.std.specs.Prelude.{IfOk}
use Rattle.feed_reading.proofs.FeedReading.{alone}
use Rattle.feed_reading.proofs.feed_reader.reader.FeedReader.read_ended.Goals as goal

pub returns-then-is_empty-clause-read : goal.returns-then-is_empty-clause-read
returns-then-is_empty-clause-read c =
    rw (← c.self.view_is)
    (subst (λ (p : Piece). IfOk c.read_entity.result (IsReadOf p))
    (c.ending_at.ensures
    ∙ ap (λ (b : List ℕ). record { tag = c.args.at; start = c.self.inside.taken - length b; bytes = b })
    (alone c.self.inside.held c.args.bytes.now c.if-is_empty.ensures.value)) c.read_entity.ensures)
