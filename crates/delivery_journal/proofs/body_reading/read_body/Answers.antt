use Rattle.std.proofs.Common.{◌++◌, take, drop, sym, ◌∙◌, arith}
use Rattle.std.proofs.Math.Seq.{take-add}
use Rattle.std.proofs.lemmas.List.{drop-drop}
use Rattle.delivery_journal.proofs.RunLemmas.{reads_then}
use Rattle.delivery_journal.proofs.body_reading.read_body.Goals as goal

pub loop-done-preserved : goal.loop-done-preserved
loop-done-preserved g c = record {
  body = λ file is.
      c.in_ok-read_piece.ensures.body file (c.loop-done.invariant.reads.same ∙ is)
      ∙ (λ i. c.loop-done.invariant.body file is i ++ take c.min-piece.result (sym (drop-drop c.loop-done.done c.args.at file) i))
      ∙ sym (take-add c.loop-done.done c.min-piece.result (drop c.args.at file));
  room = c.type_inv.room;
  within = omega arith;
  reads = reads_then g.K.Disk.told g.K.Disk.may_leave g.K.Disk.clock g.K.Disk.left_since c.args.disk.now c.loop-done.disk c.read_piece.new.disk c.loop-done.invariant.reads c.read_piece.ensures.reads;
  faults = omega (arith, c.loop-done.invariant.faults, c.read_piece.ensures.counts.never_falls);
}
