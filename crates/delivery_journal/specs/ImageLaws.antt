-- That a disk in memory meets the laws of a disk.
use Rattle.std.specs.Prelude.{◌≡◌, ◌≤◌, ℕ, List, length, Some}
use Rattle.std.proofs.Common.{sym, ap, subst, inl, arith}
use Rattle.std.proofs.lemmas.List.{take_all}
use Rattle.delivery_journal.specs.DiskInMemory.{DiskInMemory, Done, Content, content_now, content_at, content_after, IsImage, LeftSince}

pub reads_as_left : (disk : DiskInMemory) (file : List ℕ) → Some (content_now disk).file ≡ Some file
    → IsImage (content_now disk) file
reads_as_left disk file is = inl (cc)

all_of : (disk : DiskInMemory) (n : ℕ) → length disk.calls.done ≤ n → content_at disk n ≡ content_now disk
all_of disk n le = ap (λ (done : List Done). content_after disk.start done) (take_all n disk.calls.done le)

pub is_left_now : (disk : DiskInMemory) (since : ℕ) (image : List ℕ) → since ≤ length disk.calls.done
    → IsImage (content_now disk) image → LeftSince disk since image
is_left_now disk since image le is = (
  length disk.calls.done,
  le,
  omega arith,
  subst (λ (content : Content). IsImage content image)
      (sym (all_of disk (length disk.calls.done) (omega arith))) is,
)

pub only_left_now : (disk : DiskInMemory) (image : List ℕ) → LeftSince disk (length disk.calls.done) image
    → IsImage (content_now disk) image
only_left_now disk image left = subst (λ (content : Content). IsImage content image) (all_of disk left.0 left.1) left.3
