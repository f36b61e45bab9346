-- What is kept while the calls of a disk in memory are gone through again for the file that a crash leaves.
use Rattle.std.specs.Prelude.{◌/◌, ◌%◌, ℕ, if◌then◌else◌, List}
use Rattle.delivery_journal.specs.Disk.{with_bytes_at}
use Rattle.delivery_journal.specs.declared.call.Op.{Op}
use Rattle.delivery_journal.specs.declared.call.Op.TheVariants.{Len, Read, Write, Sync}
use Rattle.delivery_journal.specs.DiskInMemory.{Done, bytes_put}
use Rattle.delivery_journal.specs.CrashImages.{torn_by}

-- the file as it reads, the one that a crash leaves, and the digits of the number that are left
pub record Crash : Type 0 where
  pub file : List ℕ
  pub image : List ℕ
  pub left : ℕ

-- the same after one call more
abbrev pub crash_by : ℕ → ℕ → Op → Done → Crash → Crash
crash_by number fill Len done crash = crash
crash_by number fill Read done crash = crash
crash_by number fill Write done crash = record {
  file = with_bytes_at crash.file done.call.at (bytes_put done.call.went done.bytes);
  image = torn_by (crash.left % 5) fill done crash.image;
  left = crash.left / 5;
}
crash_by number fill Sync done crash =
    if done.call.went then record { file = crash.file; image = crash.file; left = number } else crash

abbrev pub next_crash : ℕ → ℕ → Crash → Done → Crash
next_crash number fill crash done = crash_by number fill done.call.op done crash
