-- One more row.
use Rattle.std.proofs.Common.{◌∙◌, ◌+◌, [], List, ℕ, cond, take, drop, subst, sym, refl, arith}
use Rattle.gw_base.specs.Count.{Rose}
use Rattle.gw_base.specs.Told.{PutsUnless}
use Rattle.gw_base.proofs.CountLemmas.{rose-after}
use Rattle.gw_base.proofs.ToldLemmas.{puts_front}
use Rattle.feed_index.specs.Chosen.{Sends, chosen}
use Rattle.feed_index.specs.Rows.{entries_of}
use Rattle.feed_index.proofs.WriteLemmas.{chosen_next, chosen_whole, sends_front, sends_more}
use Rattle.feed_index.proofs.write.gather_rows.Goals as goal

pub loop-row-preserved : goal.loop-row-preserved
loop-row-preserved g c =
    let test = g.C.Choice.test c.args.choice.now in
    let told = g.S.Sink.told in
    let entries = entries_of c.args.pool.now.spans c.args.rows.now in
    let row = c.row-item.result in
    let piece = c.span-piece.result.now in
    let next = chosen_next test c.args.pool.now.spans c.args.rows.now c.loop-row.row-index row piece c.loop-row-test.true c.row-item.is c.span-piece.ensures.bytes in
    let T : List ℕ → Type 0 = λ text. Sends (told c.args.sink.now) (told c.offer.new.sink) c.offer.new.gathered.items text in
    record {
      sent = subst T (sym next) (sends_more (told c.args.sink.now) (told c.loop-row.sink) (told c.offer.new.sink) c.loop-row.gathered.items c.offer.new.gathered.items (chosen test (take c.loop-row.row-index entries)) (cond (test row.value) piece []) c.loop-row.invariant.sent c.in-Ok.ensures.sent);
      never_falls = omega (arith, c.loop-row.invariant.never_falls, c.in-Ok.ensures.counts.never_falls);
      others = c.in-Ok.ensures.others ∙ c.loop-row.invariant.others;
    }

pub returns-in-Err-clause-front : goal.returns-in-Err-clause-front
returns-in-Err-clause-front g c =
    let test = g.C.Choice.test c.args.choice.now in
    let told = g.S.Sink.told in
    let faults = g.S.Sink.faults in
    let entries = entries_of c.args.pool.now.spans c.args.rows.now in
    let i = c.loop-row.row-index in
    let row = c.row-item.result in
    let piece = c.span-piece.result.now in
    let next = chosen_next test c.args.pool.now.spans c.args.rows.now i row piece c.loop-row-test.true c.row-item.is c.span-piece.ensures.bytes in
    let P = Rose (faults c.loop-row.sink) (faults c.offer.new.sink) in
    let Q = Rose (faults c.args.sink.now) (faults c.offer.new.sink) in
    let rose = rose-after (faults c.args.sink.now) (faults c.loop-row.sink) (faults c.offer.new.sink) c.loop-row.invariant.never_falls in
    let T : List ℕ → Type 0 = λ text. PutsUnless Q (told c.args.sink.now) (told c.offer.new.sink) text in
    let here = sends_front P Q (told c.args.sink.now) (told c.loop-row.sink) (told c.offer.new.sink) c.loop-row.gathered.items (chosen test (take i entries)) (cond (test row.value) piece []) c.loop-row.invariant.sent rose c.in-Err.ensures.front in
    subst T (chosen_whole test entries (i + 1))
    (puts_front Q (told c.args.sink.now) (told c.offer.new.sink) (chosen test (take (i + 1) entries)) (chosen test (drop (i + 1) entries)) (rose (c.in-Err.ensures.counts.cause refl)) (subst T (sym next) here))
