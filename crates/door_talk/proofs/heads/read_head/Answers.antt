use Rattle.std.proofs.Common.{◌≤◌, ◌++◌, ◌+◌, ℕ, List, Ok, length, take, ap, arith, sym, length-append, subst, refl}
use Rattle.std.proofs.Math.Seq.{drop-append-add}
use Rattle.http_talk.specs.Request.{IsHead, IsRefused}
use Rattle.door_talk.specs.Requests.{HasRead}
use Rattle.door_talk.proofs.LimitLemmas.{one_more}
use Rattle.door_talk.proofs.ReadLemmas.{read_nothing, refused, takes_on}
use Rattle.door_talk.proofs.heads.read_head.Given.{Over}
use Rattle.door_talk.proofs.heads.read_head.Goals as goal

pub loop-count-init : goal.loop-count-init
loop-count-init g c = record {
  room = refl;
  some = omega arith;
  left = omega (arith, ap length c.requires.empty);
  reads = subst (λ (held : List ℕ). HasRead (g.D.Sink.beside c.args.door.now) (g.D.Sink.beside c.args.door.now) held) (sym c.requires.empty) (read_nothing (g.D.Sink.beside c.args.door.now));
  output = refl;
  never_falls = omega arith;
}

used_within : (g : Over) (c : goal.In-Whole g) → c.in-Whole.used ≤ c.in_ok-count.count
used_within g c = omega (arith, c.in-Whole.ensures.says.0, c.split_at.ensures.front_len)

pub returns-in-Whole-clause-reads : goal.returns-in-Whole-clause-reads
returns-in-Whole-clause-reads g c = (
  c.loop-count.reader ++ take c.in_ok-count.count c.read_piece.new.piece,
  takes_on (g.D.Sink.beside c.args.door.now) (g.D.Sink.beside c.loop-count.door) (g.D.Sink.beside c.read_piece.new.door) c.loop-count.reader (take c.in_ok-count.count c.read_piece.new.piece) c.loop-count.invariant.reads c.in_ok-count.ensures.taken,
  (
    used_within g c,
    omega (arith, c.in_ok-count.ensures.count, c.read_piece.ensures.room),
    length c.loop-count.reader + c.in-Whole.used,
    (λ more. subst (λ (came : List ℕ). IsHead (c.loop-count.reader ++ came ++ more) (length c.loop-count.reader + c.in-Whole.used) (Ok c.in-Whole.head)) c.split_at.ensures.front (c.in-Whole.ensures.says.1 more)),
    drop-append-add c.loop-count.reader (take c.in_ok-count.count c.read_piece.new.piece) c.in-Whole.used,
    omega (arith, length-append c.loop-count.reader (take c.in_ok-count.count c.read_piece.new.piece), ap length c.split_at.ensures.front, c.split_at.ensures.front_len, used_within g c),
  ),
  one_more c.loop-count.reader c.read_piece.new.piece _ c.in_ok-count.count c.loop-count.left c.loop-count.invariant.left c.in_ok-count.ensures.most c.split_at.ensures.front c.split_at.ensures.front_len,
)

pub returns-in-Refused-clause-reads : goal.returns-in-Refused-clause-reads
returns-in-Refused-clause-reads g c = (
  c.loop-count.reader ++ take c.in_ok-count.count c.read_piece.new.piece,
  takes_on (g.D.Sink.beside c.args.door.now) (g.D.Sink.beside c.loop-count.door) (g.D.Sink.beside c.read_piece.new.door) c.loop-count.reader (take c.in_ok-count.count c.read_piece.new.piece) c.loop-count.invariant.reads c.in_ok-count.ensures.taken,
  (λ more. refused (c.loop-count.reader ++ take c.in_ok-count.count c.read_piece.new.piece ++ more) c.in-Refused.why
      (subst (λ (came : List ℕ). IsRefused (c.loop-count.reader ++ came ++ more) c.in-Refused.why) c.split_at.ensures.front (c.in-Refused.ensures.says more))),
  one_more c.loop-count.reader c.read_piece.new.piece _ c.in_ok-count.count c.loop-count.left c.loop-count.invariant.left c.in_ok-count.ensures.most c.split_at.ensures.front c.split_at.ensures.front_len,
)
