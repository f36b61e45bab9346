use Rattle.std.proofs.Common.{sym, ap, ◌∙◌}
use Rattle.delivery_journal.specs.DiskInMemory.{Recorded}
use Rattle.delivery_journal.specs.CrashImages.{bytes_of}
use Rattle.delivery_journal.proofs.CrashLemmas.{bytes_are}
use Rattle.delivery_journal.proofs.call.Record.bytes.Goals as goal

pub returns : goal.returns
returns c =
    c.as_slice.ensures.same ∙ sym (bytes_are c.self.inside.calls.items c.self.inside.bytes.bytes c.self.invariant.1)
    ∙ ap (λ (r : Recorded). bytes_of r.done) c.self.view_is
