use Rattle.std.proofs.Common.{◌∙◌, ◌++◌, [], arith, drop, subst, sym, take}
use Rattle.door_talk.specs.Requests.{ReadsHead}
use Rattle.door_talk.specs.declared.heads.HeadRead.TheVariants as heads
use Rattle.door_talk.proofs.AskLemmas.{asks_after, asks_cut, asks_get, asks_refused}
use Rattle.door_talk.proofs.LimitLemmas.{small_body, within}
use Rattle.door_talk.proofs.ReadLemmas.{reads_on}
use Rattle.door_talk.proofs.requests.read_request.Goals as goal

pub returns-in-Get-clause-asks : goal.returns-in-Get-clause-asks
returns-in-Get-clause-asks g c =
    asks_get (g.D.Sink.beside c.args.door.now) (g.D.Sink.beside c.read_head.new.door) c.in-Ok-Ended.ensures.reads.0 read.2 c.in-Ok-Ended.head c.in-Get.resource c.in-Ok-Ended.ensures.reads.1 read.3 (sym c.action.ensures ∙ c.in-Get.is)
  where
    read : ReadsHead (g.D.Sink.beside c.read_head.new.door) c.in-Ok-Ended.ensures.reads.0 c.read_head.new.piece (heads.Ended c.in-Ok-Ended.head c.in-Ok-Ended.from c.in-Ok-Ended.to)
    read = subst (ReadsHead (g.D.Sink.beside c.read_head.new.door) c.in-Ok-Ended.ensures.reads.0 c.read_head.new.piece) c.in-Ok-Ended.field-0-is c.in-Ok-Ended.ensures.reads.2

pub returns-in-Post-clause-asks : goal.returns-in-Post-clause-asks
returns-in-Post-clause-asks g c =
    asks_after (g.B.TakesBody.stands c.args.over.now c.read_post.new.taker c.args.moment) (g.D.Sink.beside c.args.door.now) (g.D.Sink.beside c.read_head.new.door) c.in-Ok-Ended.ensures.reads.0
    (drop c.in-Ok-Ended.from (take c.in-Ok-Ended.to c.read_head.new.piece)) read.2 c.in-Ok-Ended.head c.read_post.result c.in-Ok-Ended.ensures.reads.1 read.3 read.4 read.5 c.read_post.ensures.asks
  where
    read : ReadsHead (g.D.Sink.beside c.read_head.new.door) c.in-Ok-Ended.ensures.reads.0 c.read_head.new.piece (heads.Ended c.in-Ok-Ended.head c.in-Ok-Ended.from c.in-Ok-Ended.to)
    read = subst (ReadsHead (g.D.Sink.beside c.read_head.new.door) c.in-Ok-Ended.ensures.reads.0 c.read_head.new.piece) c.in-Ok-Ended.field-0-is c.in-Ok-Ended.ensures.reads.2

pub returns-in-Post-clause-reads : goal.returns-in-Post-clause-reads
returns-in-Post-clause-reads g c = (
  c.in-Ok-Ended.ensures.reads.0 ++ c.read_post.ensures.reads.0,
  reads_on (g.D.Sink.beside c.args.door.now) (g.D.Sink.beside c.read_head.new.door) (g.D.Sink.beside c.read_post.new.door) c.in-Ok-Ended.ensures.reads.0 c.read_post.ensures.reads.0 c.in-Ok-Ended.ensures.reads.1 c.read_post.ensures.reads.1,
  within c.in-Ok-Ended.ensures.reads.0 (drop c.in-Ok-Ended.from (take c.in-Ok-Ended.to c.read_head.new.piece)) c.read_post.ensures.reads.0 read.2 c.in-Ok-Ended.head c.in-Post.kind c.in-Ok-Ended.ensures.reads.3 read.3
      (sym c.action.ensures ∙ c.in-Post.is) read.4 read.5 c.read_post.ensures.reads.2,
)
  where
    read : ReadsHead (g.D.Sink.beside c.read_head.new.door) c.in-Ok-Ended.ensures.reads.0 c.read_head.new.piece (heads.Ended c.in-Ok-Ended.head c.in-Ok-Ended.from c.in-Ok-Ended.to)
    read = subst (ReadsHead (g.D.Sink.beside c.read_head.new.door) c.in-Ok-Ended.ensures.reads.0 c.read_head.new.piece) c.in-Ok-Ended.field-0-is c.in-Ok-Ended.ensures.reads.2

pub returns-in-Ok-Refused-clause-asks : goal.returns-in-Ok-Refused-clause-asks
returns-in-Ok-Refused-clause-asks g c =
    asks_refused (g.D.Sink.beside c.args.door.now) (g.D.Sink.beside c.read_head.new.door) c.in-Ok-Refused.ensures.reads.0 c.in-Ok-Refused.why c.in-Ok-Refused.ensures.reads.1
    (subst (ReadsHead (g.D.Sink.beside c.read_head.new.door) c.in-Ok-Refused.ensures.reads.0 c.read_head.new.piece) c.in-Ok-Refused.field-0-is c.in-Ok-Refused.ensures.reads.2)

pub returns-in-Ok-Cut-clause-asks : goal.returns-in-Ok-Cut-clause-asks
returns-in-Ok-Cut-clause-asks g c =
    asks_cut (g.D.Sink.beside c.args.door.now) (g.D.Sink.beside c.read_head.new.door) c.in-Ok-Cut.ensures.reads.0 c.in-Ok-Cut.why c.in-Ok-Cut.ensures.reads.1 read.0 read.1
  where
    read : ReadsHead (g.D.Sink.beside c.read_head.new.door) c.in-Ok-Cut.ensures.reads.0 c.read_head.new.piece (heads.Cut c.in-Ok-Cut.why)
    read = subst (ReadsHead (g.D.Sink.beside c.read_head.new.door) c.in-Ok-Cut.ensures.reads.0 c.read_head.new.piece) c.in-Ok-Cut.field-0-is c.in-Ok-Cut.ensures.reads.2

pub returns-in-Post-clause-taken : goal.returns-in-Post-clause-taken
returns-in-Post-clause-taken g c = λ small.
    omega (arith, c.read_post.ensures.taken, small_body (c.in-Ok-Ended.ensures.reads.0 ++ []) read.2 c.in-Ok-Ended.head (read.3 []))
  where
    read : ReadsHead (g.D.Sink.beside c.read_head.new.door) c.in-Ok-Ended.ensures.reads.0 c.read_head.new.piece (heads.Ended c.in-Ok-Ended.head c.in-Ok-Ended.from c.in-Ok-Ended.to)
    read = subst (ReadsHead (g.D.Sink.beside c.read_head.new.door) c.in-Ok-Ended.ensures.reads.0 c.read_head.new.piece) c.in-Ok-Ended.field-0-is c.in-Ok-Ended.ensures.reads.2

pub read_post-requires-clause-small : goal.read_post-requires-clause-small
read_post-requires-clause-small g c = small_body (c.in-Ok-Ended.ensures.reads.0 ++ []) read.2 c.in-Ok-Ended.head (read.3 [])
  where
    read : ReadsHead (g.D.Sink.beside c.read_head.new.door) c.in-Ok-Ended.ensures.reads.0 c.read_head.new.piece (heads.Ended c.in-Ok-Ended.head c.in-Ok-Ended.from c.in-Ok-Ended.to)
    read = subst (ReadsHead (g.D.Sink.beside c.read_head.new.door) c.in-Ok-Ended.ensures.reads.0 c.read_head.new.piece) c.in-Ok-Ended.field-0-is c.in-Ok-Ended.ensures.reads.2
