use Rattle.std.proofs.Common.{◌≡◌, ◌∙◌, ◌++◌, [], false, true, Result, Ok, Err, drop, length, length-append, arith, refl, rules, subst, sym, take}
use Rattle.std.specs.Prelude.{OnOk}
use Rattle.std.specs.Result.{is_err}
use Rattle.door_talk.specs.Bodies.{ReadsBody}
use Rattle.door_talk.specs.declared.bodies.BodyRead.TheVariants as BodyRead
use Rattle.door_talk.proofs.AskLemmas.{asks_less, asks_post, asks_taken}
use Rattle.door_talk.proofs.requests.read_post.Given.{Over}
use Rattle.door_talk.proofs.requests.read_post.Goals as goal

fine : {A E : Type 0} {P : Type 0} (answer : Result A E) → is_err answer ≡ false → OnOk answer P → P
fine (Ok value) e h = h
fine (Err fault) e h = absurd (clash e)
  where
    clash : true ≡ false → ⊥
    clash c = cc

read_whole : (g : Over) (c : goal.In-Ok-Whole g)
    → ReadsBody (g.D.Sink.beside c.read_body.new.door) (g.B.TakesBody.stands c.args.over.now c.hand_on.new.taker) (g.B.TakesBody.stands c.args.over.now c.read_body.new.taker)
    (length c.split_at-3.result.0.now) c.in-Ok-Whole.ensures.reads.0 c.args.head.length BodyRead.Whole
read_whole g c = subst (ReadsBody (g.D.Sink.beside c.read_body.new.door) (g.B.TakesBody.stands c.args.over.now c.hand_on.new.taker) (g.B.TakesBody.stands c.args.over.now c.read_body.new.taker)
    (length c.split_at-3.result.0.now) c.in-Ok-Whole.ensures.reads.0 c.args.head.length) c.in-Ok-Whole.field-0-is c.in-Ok-Whole.ensures.reads.2

stands_whole : (g : Over) (c : goal.In-Ok-Whole g)
    → g.B.TakesBody.stands c.args.over.now c.read_body.new.taker c.args.moment c.args.kind (c.split_at-3.result.0.now ++ c.in-Ok-Whole.ensures.reads.0)
stands_whole g c =
    (read_whole g c).0 c.args.moment c.args.kind c.split_at-3.result.0.now
    (fine c.hand_on.result (sym c.is_err-2.ensures.value ∙ c.if-is_err-2.false)
    (c.hand_on.ensures.takes c.args.moment c.args.kind [] (fine c.begin.result (sym c.is_err.ensures.value ∙ c.if-is_err.false) c.begin.ensures.begins)))

pub returns-in-Ok-Whole-clause-posted : goal.returns-in-Ok-Whole-clause-posted
returns-in-Ok-Whole-clause-posted g c = (c.split_at-3.result.0.now ++ c.in-Ok-Whole.ensures.reads.0, stands_whole g c)

pub returns-in-Ok-Whole-clause-asks : goal.returns-in-Ok-Whole-clause-asks
returns-in-Ok-Whole-clause-asks g c =
    asks_taken (g.B.TakesBody.stands c.args.over.now c.read_body.new.taker c.args.moment) (g.D.Sink.beside c.args.door.now).told
    (drop c.args.from (take c.args.to c.args.piece.now)) (c.split_at-3.result.0.now ++ c.in-Ok-Whole.ensures.reads.0) c.args.head c.args.kind
    (stands_whole g c)
    (asks_post (g.D.Sink.beside c.args.door.now) (g.D.Sink.beside c.read_body.new.door) c.in-Ok-Whole.ensures.reads.0
    (drop c.args.from (take c.args.to c.args.piece.now)) c.split_at-3.result.0.now (c.split_at-3.result.0.now ++ c.in-Ok-Whole.ensures.reads.0) c.args.head c.args.kind c.in-Ok-Whole.ensures.reads.1 c.requires.post
    (search rules) refl (omega (arith, length-append c.split_at-3.result.0.now c.in-Ok-Whole.ensures.reads.0, (read_whole g c).1)))

pub returns-in-Ok-Cut-clause-asks : goal.returns-in-Ok-Cut-clause-asks
returns-in-Ok-Cut-clause-asks g c =
    asks_less (g.D.Sink.beside c.args.door.now) (g.D.Sink.beside c.read_body.new.door) c.in-Ok-Cut.ensures.reads.0
    (drop c.args.from (take c.args.to c.args.piece.now)) c.split_at-3.result.0.now c.args.head c.args.kind c.in-Ok-Cut.ensures.reads.1 c.requires.post
    (search rules) read.0 (omega (arith, length-append c.split_at-3.result.0.now c.in-Ok-Cut.ensures.reads.0, read.1))
  where
    read : ReadsBody (g.D.Sink.beside c.read_body.new.door) (g.B.TakesBody.stands c.args.over.now c.hand_on.new.taker) (g.B.TakesBody.stands c.args.over.now c.read_body.new.taker)
        (length c.split_at-3.result.0.now) c.in-Ok-Cut.ensures.reads.0 c.args.head.length BodyRead.Cut
    read = subst (ReadsBody (g.D.Sink.beside c.read_body.new.door) (g.B.TakesBody.stands c.args.over.now c.hand_on.new.taker) (g.B.TakesBody.stands c.args.over.now c.read_body.new.taker)
        (length c.split_at-3.result.0.now) c.in-Ok-Cut.ensures.reads.0 c.args.head.length) c.in-Ok-Cut.field-0-is c.in-Ok-Cut.ensures.reads.2
