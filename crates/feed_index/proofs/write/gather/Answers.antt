-- What is gathered goes first, and then a piece that is too long.
use Rattle.std.proofs.Common.{◌≡◌, ◌∙◌, ◌++◌, [], List, ap, rules}
use Rattle.std.proofs.lemmas.List.{append-nil}
use Rattle.gw_base.specs.Count.{Rose}
use Rattle.gw_base.specs.Told.{with_bytes}
use Rattle.gw_base.proofs.CountLemmas.{rose-after}
use Rattle.gw_base.proofs.ToldLemmas.{puts_more, puts_wider, with_bytes-with_bytes}
use Rattle.feed_index.proofs.write.gather.Goals as goal

pub returns-in-Ok-put_all-clause-sent : goal.returns-in-Ok-put_all-clause-sent
returns-in-Ok-put_all-clause-sent g c =
    let before = c.args.gathered.now.items in
    let piece = c.args.piece.now in
    let first : g.S.Sink.told c.put_all.new.sink ≡ with_bytes (g.S.Sink.told c.args.sink.now) before = search rules in
    let none : c.try_extend_from_slice-2.new.self.items ≡ [] = search rules in
    record {
      sent = before ++ piece;
      told = c.in-Ok-put_all.ensures.all ∙ ap (λ told. with_bytes told piece) first ∙ with_bytes-with_bytes (g.S.Sink.told c.args.sink.now) before piece;
      rest = ap (λ (rest : List _). (before ++ piece) ++ rest) none ∙ append-nil (before ++ piece);
    }

pub returns-in-Err-put_all-clause-front : goal.returns-in-Err-put_all-clause-front
returns-in-Err-put_all-clause-front g c =
    let before = c.args.gathered.now.items in
    let piece = c.args.piece.now in
    let told = g.S.Sink.told in
    let faults = g.S.Sink.faults in
    let first : g.S.Sink.told c.put_all.new.sink ≡ with_bytes (g.S.Sink.told c.args.sink.now) before = search rules in
    let P = Rose (faults c.put_all.new.sink) (faults c.put_all-2.new.sink) in
    let Q = Rose (faults c.args.sink.now) (faults c.put_all-2.new.sink) in
    puts_more Q (told c.args.sink.now) (told c.put_all.new.sink) (told c.put_all-2.new.sink) before piece first
    (puts_wider P Q (told c.put_all.new.sink) (told c.put_all-2.new.sink) piece (rose-after (faults c.args.sink.now) (faults c.put_all.new.sink) (faults c.put_all-2.new.sink) c.in-Ok.ensures.counts.never_falls) c.in-Err-put_all.ensures.front)
