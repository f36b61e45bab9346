use Rattle.std.proofs.Common.{◌≡◌, ◌∙◌, ap, arith, ℕ, ℤ, w32, to_z, of_z, sym}
use Rattle.std.proofs.lemmas.Int.{ints, to_z-of_z}
use Rattle.propagation.specs.SortedOut.{key_of}
use Rattle.propagation.proofs.FeedLemmas.{last_new, last_seen}
use Rattle.propagation.proofs.feeds.keep_last.Goals as goal

pub returns-in_ok-push : goal.returns-in_ok-push
returns-in_ok-push c = λ after h.
    let one = c.args.reading in
    let day : to_z w32 (of_z w32 c.number.result) ≡ one.day =
    to_z-of_z w32 c.number.result (omega (arith, ints)) ∙ c.number.ensures.value in
    let key : ℤ × ℕ = (to_z w32 (of_z w32 c.number.result), one.trip.0) in
    let same : key ≡ key_of one = ap (λ number. (number, one.trip.0)) day in
    last_new after c.args.seen.now.keys c.insert.new.self.keys c.args.last.now.items c.push.new.self.items
    one key h same (sym c.if-branch.true ∙ c.in_ok-insert.ensures.added)
    (rw c.if-branch.true at c.in_ok-insert.ensures.keys) c.in_ok-push.ensures.items

pub returns-else-branch : goal.returns-else-branch
returns-else-branch c = λ after h.
    let one = c.args.reading in
    let day : to_z w32 (of_z w32 c.number.result) ≡ one.day =
    to_z-of_z w32 c.number.result (omega (arith, ints)) ∙ c.number.ensures.value in
    let key : ℤ × ℕ = (to_z w32 (of_z w32 c.number.result), one.trip.0) in
    let same : key ≡ key_of one = ap (λ number. (number, one.trip.0)) day in
    last_seen after c.args.seen.now.keys c.insert.new.self.keys c.args.last.now.items
    one key h same (sym c.if-branch.false ∙ c.in_ok-insert.ensures.added)
    (rw c.if-branch.false at c.in_ok-insert.ensures.keys)
