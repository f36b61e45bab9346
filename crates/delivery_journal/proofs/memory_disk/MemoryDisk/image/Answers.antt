use Rattle.std.proofs.Common.{◌≡◌, subst}
use Rattle.std.specs.Prelude.{IfOk}
use Rattle.delivery_journal.specs.CrashImages.{unsynced, crash_image}
use Rattle.delivery_journal.specs.DiskInMemory.{DiskInMemory, content_now, IsImage}
use Rattle.delivery_journal.proofs.CrashLemmas.{image_answer, image_may}
use Rattle.delivery_journal.proofs.memory_disk.MemoryDisk.image.Goals as goal

pub returns-clause-image : goal.returns-clause-image
returns-clause-image c =
    subst (λ (d : DiskInMemory). IfOk c.image.result (λ image. image ≡ crash_image c.args.number c.args.fill (unsynced d.calls.done) (content_now d).on_disk)) c.self.view_is
    (image_answer c.args.number c.args.fill c.self.inside.start c.as_slice.result.now c.self.inside.calls.done c.image.result c.as_slice.ensures.same c.image.ensures)

pub returns-clause-may_be_left : goal.returns-clause-may_be_left
returns-clause-may_be_left c =
    subst (λ (d : DiskInMemory). IfOk c.image.result (λ image. IsImage (content_now d) image)) c.self.view_is
    (image_may c.args.number c.args.fill c.self.inside.start c.self.inside.calls.done c.image.result
    (image_answer c.args.number c.args.fill c.self.inside.start c.as_slice.result.now c.self.inside.calls.done c.image.result c.as_slice.ensures.same c.image.ensures))
