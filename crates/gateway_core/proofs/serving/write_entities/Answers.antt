-- Three pieces, one after the other.
use Rattle.std.proofs.Common.{◌≡◌, ◌∙◌, ◌++◌, ◌≤◌, ℕ, true, List, Option, ap, refl}
use Rattle.gw_base.specs.Count.{Rose}
use Rattle.gw_base.specs.Told.{PutsUnless, with_bytes}
use Rattle.gw_base.proofs.CountLemmas.{rose-after}
use Rattle.gw_base.proofs.ToldLemmas.{puts_front, puts_more, puts_wider, with_bytes-with_bytes}
use Rattle.feed_index.specs.Chosen.{chosen}
use Rattle.gateway_core.specs.declared.keys.Edition.{Edition}
use Rattle.gateway_core.proofs.serving.write_entities.Goals as goal

-- the second failed
second : (before mid now : Option (List ℕ)) (f g h : ℕ) (A B C : List ℕ) → mid ≡ with_bytes before A → f ≤ g → Rose g h → PutsUnless (Rose g h) mid now B
    → PutsUnless (Rose f h) before now (A ++ B ++ C)
second before mid now f g h A B C first le cause puts =
    puts_front (Rose f h) before now (A ++ B) C (rose-after f g h le cause)
    (puts_more (Rose f h) before mid now A B first (puts_wider (Rose g h) (Rose f h) mid now B (rose-after f g h le) puts))

-- the third was put, or a prefix of it
third : (before mid next now : Option (List ℕ)) (e f g h : ℕ) (A B C : List ℕ) → mid ≡ with_bytes before A → next ≡ with_bytes mid B → e ≤ f → f ≤ g
    → PutsUnless (Rose g h) next now C → PutsUnless (Rose e h) before now (A ++ B ++ C)
third before mid next now e f g h A B C first then le more puts =
    puts_more (Rose e h) before next now (A ++ B) C
    (then ∙ ap (λ told. with_bytes told B) first ∙ with_bytes-with_bytes before A B)
    (puts_wider (Rose g h) (Rose e h) next now C (λ rose. rose-after e f h le (rose-after f g h more rose)) puts)

pub returns-in-Err-write-clause-front : goal.returns-in-Err-write-clause-front
returns-in-Err-write-clause-front g c =
    let told = g.S.Sink.told in
    let faults = g.S.Sink.faults in
    second (told c.args.sink.now) (told c.put_all.new.sink) (told c.write.new.sink) (faults c.args.sink.now) (faults c.put_all.new.sink) (faults c.write.new.sink)
    c.args.header.now (chosen (λ value. true) c.args.journeys.now.entries) (chosen (λ (value : Edition). value.served) c.args.situations.now.entries)
    c.in-Ok.ensures.all c.in-Ok.ensures.counts.never_falls (c.in-Err-write.ensures.counts.cause refl) c.in-Err-write.ensures.front

pub returns-in-Ok-write-2-clause-front : goal.returns-in-Ok-write-2-clause-front
returns-in-Ok-write-2-clause-front g c =
    let told = g.S.Sink.told in
    let faults = g.S.Sink.faults in
    third (told c.args.sink.now) (told c.put_all.new.sink) (told c.write.new.sink) (told c.write-2.new.sink)
    (faults c.args.sink.now) (faults c.put_all.new.sink) (faults c.write.new.sink) (faults c.write-2.new.sink)
    c.args.header.now (chosen (λ value. true) c.args.journeys.now.entries) (chosen (λ (value : Edition). value.served) c.args.situations.now.entries)
    c.in-Ok.ensures.all c.in-Ok-write.ensures.all c.in-Ok.ensures.counts.never_falls c.in-Ok-write.ensures.counts.never_falls c.in-Ok-write-2.ensures.front

pub returns-in-Err-write-2-clause-front : goal.returns-in-Err-write-2-clause-front
returns-in-Err-write-2-clause-front g c =
    let told = g.S.Sink.told in
    let faults = g.S.Sink.faults in
    third (told c.args.sink.now) (told c.put_all.new.sink) (told c.write.new.sink) (told c.write-2.new.sink)
    (faults c.args.sink.now) (faults c.put_all.new.sink) (faults c.write.new.sink) (faults c.write-2.new.sink)
    c.args.header.now (chosen (λ value. true) c.args.journeys.now.entries) (chosen (λ (value : Edition). value.served) c.args.situations.now.entries)
    c.in-Ok.ensures.all c.in-Ok-write.ensures.all c.in-Ok.ensures.counts.never_falls c.in-Ok-write.ensures.counts.never_falls c.in-Err-write-2.ensures.front
