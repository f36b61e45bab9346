use Rattle.std.proofs.Common.{[], length, subst}
use Rattle.delivery_journal.specs.Disk.{Passes}
use Rattle.delivery_journal.specs.declared.call.Op.TheVariants.{Sync}
use Rattle.delivery_journal.specs.DiskInMemory.{DiskInMemory, IsImage, LeftSince, content_after}
use Rattle.delivery_journal.proofs.DiskLemmas.{passes}
use Rattle.delivery_journal.proofs.memory_disk.MemoryDiskDisk.sync.Goals as goal

pub returns-clause-time : goal.returns-clause-time
returns-clause-time c = subst (λ (disk : DiskInMemory). Passes (length disk.calls.done) (length c.note.new.calls.done) (LeftSince disk)
    (LeftSince (record { start = c.self.inside.start; calls = c.note.new.calls; uses = c.note.new.uses })) (IsImage (content_after c.self.inside.start c.note.new.calls.done)))
    c.self.view_is (passes c.self.inside.start Sync 0 0 [] c.self.inside.calls.done c.note.new.calls.done c.note.ensures.noted)
