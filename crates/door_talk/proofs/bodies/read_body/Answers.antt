use Rattle.std.proofs.Common.{[], ◌≡◌, ◌∙◌, ◌++◌, ◌+◌, ℕ, false, true, List, arith, ap, length, length-append, take, Result, Ok, Err, refl, sym, subst, append-nil}
use Rattle.std.specs.Prelude.{OnOk}
use Rattle.std.specs.Result.{is_err}
use Rattle.door_talk.proofs.ReadLemmas.{read_nothing, stands_on, takes_on}
use Rattle.door_talk.proofs.bodies.read_body.Goals as goal

more : (x piece came : List ℕ) (from done count : ℕ) → from + length x ≡ done → came ≡ take count piece → length came ≡ count
    → from + length (x ++ take count piece) ≡ done + count
more x piece came from done count sum is many = omega (arith, sum, ap length is, many, length-append x (take count piece))

pub loop-done-init : goal.loop-done-init
loop-done-init g c = record {
  room = refl;
  within = c.requires.small.0;
  taken = c.requires.came;
  reads = (
    [],
    read_nothing (g.D.Sink.beside c.args.door.now),
    (λ moment target front before. subst (g.B.TakesBody.stands c.args.over.now c.args.taker.now moment target) (sym (append-nil front)) before),
    omega arith,
  );
  output = refl;
  never_falls = omega arith;
}

pub returns-then-is_err-clause-reads : goal.returns-then-is_err-clause-reads
returns-then-is_err-clause-reads g c = (
  c.loop-done.invariant.reads.0 ++ take c.in_ok-count.count c.read_piece.new.piece,
  takes_on (g.D.Sink.beside c.args.door.now) (g.D.Sink.beside c.loop-done.door) (g.D.Sink.beside c.read_piece.new.door) c.loop-done.invariant.reads.0 (take c.in_ok-count.count c.read_piece.new.piece) c.loop-done.invariant.reads.1 c.in_ok-count.ensures.taken,
  tt,
  omega (
    arith,
    more c.loop-done.invariant.reads.0 c.read_piece.new.piece _ c.args.came c.loop-done.done c.in_ok-count.count c.loop-done.invariant.reads.3 c.split_at.ensures.front c.split_at.ensures.front_len,
    c.in_ok-count.ensures.most,
    c.loop-done.invariant.within,
  ),
)

taken : {A E : Type 0} {P : Type 0} (answer : Result A E) → is_err answer ≡ false → OnOk answer P → P
taken (Ok value) e h = h
taken (Err fault) e h = absurd (clash e)
  where
    clash : true ≡ false → ⊥
    clash c = cc

pub loop-done-preserved : goal.loop-done-preserved
loop-done-preserved g c = record {
  room = c.read_piece.ensures.room ∙ c.loop-done.invariant.room;
  within = omega (arith, c.in_ok-count.ensures.most, c.loop-done.invariant.within);
  taken = taken c.take.result fine c.take.ensures.counted ∙ omega (arith, c.loop-done.invariant.taken, c.split_at.ensures.front_len);
  reads = (
    c.loop-done.invariant.reads.0 ++ take c.in_ok-count.count c.read_piece.new.piece,
    takes_on (g.D.Sink.beside c.args.door.now) (g.D.Sink.beside c.loop-done.door) (g.D.Sink.beside c.read_piece.new.door) c.loop-done.invariant.reads.0 (take c.in_ok-count.count c.read_piece.new.piece) c.loop-done.invariant.reads.1 c.in_ok-count.ensures.taken,
    stands_on (g.B.TakesBody.stands c.args.over.now c.args.taker.now) (g.B.TakesBody.stands c.args.over.now c.loop-done.taker) (g.B.TakesBody.stands c.args.over.now c.take.new.self)
        c.loop-done.invariant.reads.0 (take c.in_ok-count.count c.read_piece.new.piece) c.loop-done.invariant.reads.2
        (λ moment target front before. subst (λ (came : List ℕ). g.B.TakesBody.stands c.args.over.now c.take.new.self moment target (front ++ came)) c.split_at.ensures.front
        (taken c.take.result fine (c.take.ensures.takes moment target front before))),
    more c.loop-done.invariant.reads.0 c.read_piece.new.piece _ c.args.came c.loop-done.done c.in_ok-count.count c.loop-done.invariant.reads.3 c.split_at.ensures.front c.split_at.ensures.front_len,
  );
  output = c.read_piece.ensures.output ∙ c.loop-done.invariant.output;
  never_falls = omega (arith, c.loop-done.invariant.never_falls, c.read_piece.ensures.counts.never_falls);
}
  where
    fine : is_err c.take.result ≡ false
    fine = sym c.is_err.ensures.value ∙ c.if-is_err.false
