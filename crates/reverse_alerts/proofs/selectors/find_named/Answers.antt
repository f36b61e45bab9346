-- What one selector more names stands after what those before it name.
use Rattle.std.proofs.Common.{◌≡◌, ◌∙◌, ◌+◌, ◌∷◌, ap, sym, drop}
use Rattle.std.proofs.lemmas.List.{at_drop_all, drop_more}
use Rattle.timetable.specs.Seen.{seen}
use Rattle.reverse_alerts.specs.Kept.{all_named, named}
use Rattle.reverse_alerts.proofs.NamingLemmas.{joined, joined_none, one_joined}
use Rattle.reverse_alerts.proofs.selectors.find_named.Goals as goal

pub loop-one-preserved : goal.loop-one-preserved
loop-one-preserved c =
    let table = seen c.args.table.now in
    let all = c.args.selectors.now in
    let i = c.loop-one.one-index in
    let left : drop i all ≡ c.one-item.result ∷ drop (i + 1) all =
    drop_more all i c.one-item.result c.loop-one-test.true ∙ ap (λ y. y ∷ drop (i + 1) all) (sym c.one-item.is) in
    ap (λ f. joined f (all_named table (drop (i + 1) all))) c.in_ok-add_named.ensures
    ∙ one_joined c.loop-one.found (named table c.one-item.result) (all_named table (drop (i + 1) all))
    ∙ (rw left at c.loop-one.invariant)

pub returns : goal.returns
returns c =
    let table = seen c.args.table.now in
    let all = c.args.selectors.now in
    sym (joined_none c.loop-one.found)
    ∙ sym (at_drop_all (λ rest. joined c.loop-one.found (all_named table rest)) all c.loop-one.one-index c.loop-one-test.false)
    ∙ c.loop-one.invariant
