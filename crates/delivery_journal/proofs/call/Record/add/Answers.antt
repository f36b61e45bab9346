use Rattle.std.proofs.Common.{◌≡◌, ◌-◌, length, ◌∙◌, ap, arith, rules, length-append, ◌++◌, ◌∷◌, []}
use Rattle.delivery_journal.specs.DiskInMemory.{Recorded, done_calls, total_count, recorded}
use Rattle.delivery_journal.proofs.CallLemmas.{total_count-push, done_calls-push}
use Rattle.delivery_journal.proofs.call.Record.add.Goals as goal

pub invariant_of-self : goal.invariant_of-self
invariant_of-self c =
    let items : c.push.new.self.items ≡ c.self.inside.calls.items ++ c.args.call ∷ [] = search rules in
    let total = ap total_count items ∙ total_count-push c.self.inside.calls.items c.args.call in
    let bytes = ap length c.put_slice.ensures.bytes ∙ length-append c.self.inside.bytes.bytes c.args.bytes.now in
    (omega arith, omega arith)

pub returns : goal.returns
returns c =
    let items : c.push.new.self.items ≡ c.self.inside.calls.items ++ c.args.call ∷ [] = search rules in
    let done : done_calls c.push.new.self.items c.put_slice.new.self.bytes ≡ done_calls c.self.inside.calls.items c.self.inside.bytes.bytes ++ record { call = c.args.call; bytes = c.args.bytes.now } ∷ [] =
    (λ i. done_calls (items i) (c.put_slice.ensures.bytes i))
    ∙ done_calls-push c.self.inside.calls.items c.self.inside.bytes.bytes c.args.call c.args.bytes.now c.self.invariant.1 c.requires.count in
    (λ i. record { done = done i; calls_left = c.self.inside.calls_left - 1; room = c.put_slice.ensures.spare i })
    ∙ ap (λ (calls : Recorded). recorded calls (record { call = c.args.call; bytes = c.args.bytes.now })) c.self.view_is
