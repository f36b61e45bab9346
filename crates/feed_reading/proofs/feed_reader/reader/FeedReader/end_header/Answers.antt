-- The piece is that of what was held and of the last bytes.
use Rattle.std.proofs.Common.{ℕ, List, ap, subst, ◌∙◌, ◌-◌, length, inr}
use Rattle.std.specs.Prelude.{Some}
use Rattle.feed_reading.specs.declared.feed_reader.state.Body.TheVariants as bodies
use Rattle.feed_reading.specs.Faults.{Piece, IsLeast}
use Rattle.feed_reading.specs.FeedSteps.{InHeaderBody}
use Rattle.feed_reading.proofs.feed_reader.reader.FeedReader.end_header.Goals as goal

pub returns-in-Err : goal.returns-in-Err
returns-in-Err c =
    let inside = c.self.inside in
    let joined = c.as_slice.ensures.same ∙ c.in_ok-extend.ensures.added in
    rw (← c.self.view_is)
    (inr (
      c.in-Err.fault,
      subst (λ (p : Piece). IsLeast (InHeaderBody p) (Some c.in-Err.fault))
          (c.ending_at-piece.ensures
          ∙ ap (λ (b : List ℕ). record { tag = c.args.at; start = inside.taken - length b; bytes = b }) joined)
          (rw c.in-Err.is at c.in_ok-read.ensures),
      ap (λ (h : List ℕ). record {
        taken = inside.taken;
        given = inside.given;
        top = inside.top;
        body = bodies.Other;
        held = h;
        head = inside.head;
        fault = Some c.in-Err.fault;
      }) c.clear.ensures.empty,
    ))
