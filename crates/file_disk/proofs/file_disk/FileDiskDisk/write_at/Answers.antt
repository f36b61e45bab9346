-- Any image may be left before and after a write.
use Rattle.std.proofs.Common.{refl, arith}
use Rattle.file_disk.proofs.file_disk.FileDiskDisk.write_at.Goals as goal

pub returns-clause-images : goal.returns-clause-images
returns-clause-images g c = λ image left.
    (image, tt, record { before = refl; behind = refl; no_shorter = omega arith; no_longer = omega arith })
