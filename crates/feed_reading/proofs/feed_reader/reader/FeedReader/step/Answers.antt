-- Each event goes on as its lemma says.
use Rattle.std.proofs.Common.{subst, sym, ◌≡◌, ◌++◌, length, take, arith}
use Rattle.std.proofs.lemmas.List.{length-take-le}
use Rattle.wire_fields.specs.declared.top.event.TopEvent.{TopEvent}
use Rattle.wire_fields.specs.TopReading.{Tells}
use Rattle.feed_reading.proofs.FeedReading.{begin_steps, part_steps, broken_steps, more_steps, other_steps, passed_steps, top_of}
use Rattle.feed_reading.proofs.feed_reader.reader.FeedReader.step.Goals.{in-Begin+in_ok-ended-in-Begin, in-Part+in_ok-ended-in-Part, in-Broken, in-More, in-Other}
use Rattle.feed_reading.proofs.feed_reader.reader.FeedReader.step.Goals as goal

pub returns-then-is_some-clause-steps : goal.returns-then-is_some-clause-steps
returns-then-is_some-clause-steps c =
    rw (← c.self.view_is)
    (λ bytes given h.
    passed_steps _ bytes (take (length c.args.piece.now) c.args.piece.now) given (length c.args.piece.now) h
    c.if-is_some.ensures (sym (length-take-le (length c.args.piece.now) c.args.piece.now (omega arith))))

pub returns-clause-steps : goal.returns-clause-steps
returns-clause-steps c =
    rw (← c.self.view_is)
    (λ bytes given h.
    let used = c.step-used.result.used in
    let taken = take used c.args.piece.now in
    let top = c.step-used.new.self in
    let none = c.if-is_some.ensures in
    let says = c.step-used.ensures.says bytes (top_of _ bytes given h none) in
    let count : used ≡ length taken = sym (length-take-le used c.args.piece.now c.step-used.ensures.most) in
    let front = c.split_at.ensures.front in
    elim c.match-event.branch [
      | in-Begin+in_ok-ended-in-Begin w ↦ rw (w.self-is, w.ended-is)
          (begin_steps _ w.begin.new.self bytes taken given used w.in-Begin.number w.in-Begin.at w.in-Begin.len top
          w.in_ok-ended-in-Begin.ended h none count
          (subst (λ (e : TopEvent). Tells e used c.args.piece.now c.self.inside.top top (bytes ++ taken)) w.in-Begin.is
          says) w.in_ok-ended-in-Begin.ensures)
      | in-Part+in_ok-ended-in-Part w ↦ rw (w.self-is, w.ended-is)
          (part_steps _ w.go_on.new.self bytes taken given used top w.in_ok-ended-in-Part.ended h none count
          (subst (λ (e : TopEvent). Tells e used c.args.piece.now c.self.inside.top top (bytes ++ taken)) w.in-Part.is
          says) (rw front at w.in_ok-ended-in-Part.ensures))
      | in-Broken w ↦ rw (w.self-is, w.ended-is, w.stop.ensures)
          (broken_steps _ bytes taken given used top w.in-Broken.fault h none count
          (subst (λ (e : TopEvent). Tells e used c.args.piece.now c.self.inside.top top (bytes ++ taken)) w.in-Broken.is
          says))
      | in-More w ↦ rw (w.self-is, w.ended-is)
          (more_steps _ bytes taken given used top h none count
          (subst (λ (e : TopEvent). Tells e used c.args.piece.now c.self.inside.top top (bytes ++ taken)) w.in-More.is
          says).1)
      | in-Other w ↦ rw (w.self-is, w.ended-is)
          (other_steps _ bytes taken given used top h none count
          (subst (λ (e : TopEvent). Tells e used c.args.piece.now c.self.inside.top top (bytes ++ taken)) w.in-Other.is
          says))
    ])
