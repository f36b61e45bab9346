use Rattle.std.proofs.Common.{sym, ap, ◌∙◌}
use Rattle.delivery_journal.specs.DiskInMemory.{Recorded}
use Rattle.delivery_journal.specs.CrashImages.{calls_of}
use Rattle.delivery_journal.proofs.CrashLemmas.{calls_are}
use Rattle.delivery_journal.proofs.call.Record.calls.Goals as goal

pub returns : goal.returns
returns c =
    c.as_slice.ensures.value ∙ sym (calls_are c.self.inside.calls.items c.self.inside.bytes.bytes)
    ∙ ap (λ (r : Recorded). calls_of r.done) c.self.view_is
