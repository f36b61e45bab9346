use Rattle.std.proofs.Common.{[], length, subst}
use Rattle.delivery_journal.specs.Disk.{Passes, NoMore}
use Rattle.delivery_journal.specs.declared.call.Op.TheVariants.{Read}
use Rattle.delivery_journal.specs.DiskInMemory.{DiskInMemory, IsImage, LeftSince, content_now, content_after}
use Rattle.delivery_journal.proofs.DiskLemmas.{passes, images_by_read}
use Rattle.delivery_journal.proofs.memory_disk.MemoryDiskDisk.read_at.Goals as goal

pub returns-clause-time : goal.returns-clause-time
returns-clause-time c = subst (λ (disk : DiskInMemory). Passes (length disk.calls.done) (length c.note.new.calls.done) (LeftSince disk)
    (LeftSince (record { start = c.self.inside.start; calls = c.note.new.calls; uses = c.note.new.uses })) (IsImage (content_after c.self.inside.start c.note.new.calls.done)))
    c.self.view_is (passes c.self.inside.start Read c.args.at (length c.args.into.now) [] c.self.inside.calls.done c.note.new.calls.done c.note.ensures.noted)

pub returns-clause-images : goal.returns-clause-images
returns-clause-images c = subst (λ (disk : DiskInMemory). NoMore (IsImage (content_now disk)) (IsImage (content_after c.self.inside.start c.note.new.calls.done)))
    c.self.view_is (images_by_read c.self.inside.start c.args.at (length c.args.into.now) c.self.inside.calls.done c.note.new.calls.done c.note.ensures.noted)
