-- The last of what is gathered.
use Rattle.gw_base.specs.Count.{Rose}
use Rattle.gw_base.proofs.CountLemmas.{rose-after}
use Rattle.feed_index.specs.Chosen.{chosen}
use Rattle.feed_index.specs.Rows.{entries_of}
use Rattle.feed_index.proofs.WriteLemmas.{puts_whole, sends_all, sends_part}
use Rattle.feed_index.proofs.write.write_rows.Goals as goal

pub returns-in-Ok-put_all-clause-all : goal.returns-in-Ok-put_all-clause-all
returns-in-Ok-put_all-clause-all g c =
    let told = g.S.Sink.told in
    let text = chosen (g.C.Choice.test c.args.choice.now) (entries_of c.args.pool.now.spans c.args.rows.now) in
    let whole = rw c.as_slice.ensures.value at c.in-Ok-put_all.ensures.all in
    sends_all (told c.args.sink.now) (told c.gather_rows.new.sink) (told c.put_all.new.sink) c.gather_rows.new.gathered.items text c.in-Ok.ensures.sent whole

pub returns-in-Ok-put_all-clause-front : goal.returns-in-Ok-put_all-clause-front
returns-in-Ok-put_all-clause-front g c =
    let told = g.S.Sink.told in
    let faults = g.S.Sink.faults in
    let text = chosen (g.C.Choice.test c.args.choice.now) (entries_of c.args.pool.now.spans c.args.rows.now) in
    puts_whole (Rose (faults c.args.sink.now) (faults c.put_all.new.sink)) (told c.args.sink.now) (told c.put_all.new.sink) text (returns-in-Ok-put_all-clause-all g c)

pub returns-in-Err-put_all-clause-front : goal.returns-in-Err-put_all-clause-front
returns-in-Err-put_all-clause-front g c =
    let told = g.S.Sink.told in
    let faults = g.S.Sink.faults in
    let text = chosen (g.C.Choice.test c.args.choice.now) (entries_of c.args.pool.now.spans c.args.rows.now) in
    let P = Rose (faults c.gather_rows.new.sink) (faults c.put_all.new.sink) in
    let Q = Rose (faults c.args.sink.now) (faults c.put_all.new.sink) in
    let puts = rw c.as_slice.ensures.value at c.in-Err-put_all.ensures.front in
    sends_part P Q (told c.args.sink.now) (told c.gather_rows.new.sink) (told c.put_all.new.sink) c.gather_rows.new.gathered.items text c.in-Ok.ensures.sent
    (rose-after (faults c.args.sink.now) (faults c.gather_rows.new.sink) (faults c.put_all.new.sink) c.in-Ok.ensures.counts.never_falls) puts
