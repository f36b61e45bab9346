-- A disk in memory: the file that it began with, and a record of the calls since, which say all else.
use Rattle.std.specs.Prelude.{◌≡◌, ◌⊎◌, ◌&&◌, ◌+◌, ◌-◌, ◌≤◌, ◌/◌, ℕ, Bool, not, nat_le, nat_lt, if◌then◌else◌, List, [], ◌∷◌, ◌++◌, length, take, drop}
use Rattle.std.specs.List.{fold}
use Rattle.gw_base.specs.Memory.{Uses, fails_next, after_use, after_fault}
use Rattle.delivery_journal.specs.Disk.{with_bytes_at, Torn}
use Rattle.delivery_journal.specs.declared.call.Op.{Op}
use Rattle.delivery_journal.specs.declared.call.Op.TheVariants.{Len, Read, Write, Sync}
use Rattle.delivery_journal.specs.declared.call.Call.{Call}

-- a call that was done, and the bytes that it was to write
pub record Done : Type 0 where
  pub call : Call
  pub bytes : List ℕ

-- the file as it reads, as it was when it was last brought onto the disk, and the ranges that were written since: each
-- one's place and length
pub record Content : Type 0 where
  pub file : List ℕ
  pub on_disk : List ℕ
  pub ranges : List (ℕ × ℕ)

-- the bytes that a write puts into the file: all of them, or the first half where it fails
abbrev pub bytes_put : Bool → List ℕ → List ℕ
bytes_put went bytes = if went then bytes else take (length bytes / 2) bytes

-- what a call makes of the content
abbrev pub content_by : Op → Done → Content → Content
content_by Len done content = content
content_by Read done content = content
content_by Write done content = record {
  file = with_bytes_at content.file done.call.at (bytes_put done.call.went done.bytes);
  on_disk = content.on_disk;
  ranges = content.ranges ++ (done.call.at, length done.bytes) ∷ [];
}
content_by Sync done content =
    if done.call.went then record { file = content.file; on_disk = content.file; ranges = [] } else content

abbrev pub next_content : Content → Done → Content
next_content content done = content_by done.call.op done content

-- the content after these calls, from this file on
abbrev pub content_after : List ℕ → List Done → Content
content_after start done = fold next_content (record { file = start; on_disk = start; ranges = [] }) done

-- a file of which each of these ranges, in order, was written and may be torn
abbrev pub IsTornBy : List ℕ → List (ℕ × ℕ) → List ℕ → Type 0
IsTornBy file [] image = image ≡ file
IsTornBy file (range ∷ ranges) image = (next : List ℕ) × Torn range.0 range.1 file next × IsTornBy next ranges image

-- an image that a crash may leave of this content: the file as it reads, or the one on the disk with those ranges torn
abbrev pub IsImage : Content → List ℕ → Type 0
IsImage content image = (image ≡ content.file) ⊎ IsTornBy content.on_disk content.ranges image

-- a record of calls: those that were done, how many more it takes, and how many bytes more the writes may have
pub record Recorded : Type 0 where
  pub done : List Done
  pub calls_left : ℕ
  pub room : ℕ

-- a disk in memory: the file that it began with, the record of the calls since, and the uses, of which some are to fail
pub record DiskInMemory : Type 0 where
  pub start : List ℕ
  pub calls : Recorded
  pub uses : Uses

-- its content now, and after the first n of the calls
abbrev pub content_now : DiskInMemory → Content
content_now disk = content_after disk.start disk.calls.done

abbrev pub content_at : DiskInMemory → ℕ → Content
content_at disk n = content_after disk.start (take n disk.calls.done)

-- the images that a crash may have left after as many calls as that, or later
abbrev pub LeftSince : DiskInMemory → ℕ → List ℕ → Type 0
LeftSince disk since image = (n : ℕ) × (since ≤ n) × (n ≤ length disk.calls.done) × IsImage (content_at disk n) image

-- the bytes that a call was to write, of those of all writes in their order
abbrev pub count_by_op : Op → ℕ → ℕ
count_by_op Write count = count
count_by_op Len count = 0
count_by_op Read count = 0
count_by_op Sync count = 0

abbrev pub written_count : Call → ℕ
written_count call = count_by_op call.op call.count

-- calls, each with the bytes that it was to write, cut off the front of those of all
abbrev pub done_calls : List Call → List ℕ → List Done
done_calls [] bytes = []
done_calls (call ∷ calls) bytes =
    record { call = call; bytes = take (written_count call) bytes } ∷ done_calls calls (drop (written_count call) bytes)

-- how many bytes they were to write together
abbrev pub total_count : List Call → ℕ
total_count [] = 0
total_count (call ∷ calls) = written_count call + total_count calls

-- whether a call that writes so many bytes has room in the record
abbrev pub has_room : Recorded → ℕ → Bool
has_room calls count = nat_lt 0 calls.calls_left && nat_le count calls.room

-- whether the next call, which writes so many bytes, goes well: it isn't to fail, and there is room for it
abbrev pub goes_next : DiskInMemory → ℕ → Bool
goes_next disk count = not (fails_next disk.uses) && has_room disk.calls count

-- the record with one call more
abbrev pub recorded : Recorded → Done → Recorded
recorded calls done = record {
  done = calls.done ++ done ∷ [];
  calls_left = calls.calls_left - 1;
  room = calls.room - length done.bytes;
}

-- the next call as it is recorded: it goes well unless it is to fail
abbrev pub next_done : DiskInMemory → Op → ℕ → ℕ → List ℕ → Done
next_done disk op at count bytes =
    record { call = record { op = op; at = at; count = count; went = not (fails_next disk.uses) }; bytes = bytes }

-- the disk after the next call; one for which there is no room is a fault, and isn't recorded
abbrev pub after_call : DiskInMemory → Op → ℕ → ℕ → List ℕ → DiskInMemory
after_call disk op at count bytes =
    if has_room disk.calls (length bytes) then record {
      start = disk.start;
      calls = recorded disk.calls (next_done disk op at count bytes);
      uses = if fails_next disk.uses then after_fault disk.uses else after_use disk.uses;
    } else record { start = disk.start; calls = disk.calls; uses = after_fault disk.uses }

-- the calls after one more was asked for: the same, if there was no room for it, or with this one at the end
abbrev pub IsNoted : Op → ℕ → ℕ → List ℕ → List Done → List Done → Type 0
IsNoted op at count bytes old new = (new ≡ old) ⊎ ((went : Bool)
    × (new ≡ old ++ record { call = record { op = op; at = at; count = count; went = went }; bytes = bytes } ∷ []))
