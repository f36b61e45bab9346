-- The files that a crash leaves of a disk in memory, by number.
use Rattle.std.specs.Prelude.{◌==◌, ◌/◌, ◌%◌, ◌^◌, ℕ, nat_le, if◌then◌else◌, List, [], ◌∷◌, ◌++◌, length, take, map, min, replicate}
use Rattle.std.specs.List.{flat_map, fold}
use Rattle.gw_base.specs.Count.{last_count}
use Rattle.delivery_journal.specs.Disk.{with_bytes_at}
use Rattle.delivery_journal.specs.declared.call.Op.{Op}
use Rattle.delivery_journal.specs.declared.call.Op.TheVariants.{Len, Read, Write, Sync}
use Rattle.delivery_journal.specs.declared.call.Call.{Call}
use Rattle.delivery_journal.specs.DiskInMemory.{Done}

-- the calls of a record, and the bytes that its writes were to put, one after the other
abbrev pub calls_of : List Done → List Call
calls_of = map (λ (done : Done). done.call)

abbrev pub bytes_of : List Done → List ℕ
bytes_of = flat_map (λ (done : Done). done.bytes)

-- the writes that a crash may tear after one call more: those since the last sync that went well
abbrev pub unsynced_by : Op → Done → List Done → List Done
unsynced_by Len done writes = writes
unsynced_by Read done writes = writes
unsynced_by Write done writes = writes ++ done ∷ []
unsynced_by Sync done writes = if done.call.went then [] else writes

abbrev pub next_unsynced : List Done → Done → List Done
next_unsynced writes done = unsynced_by done.call.op done writes

abbrev pub unsynced : List Done → List Done
unsynced done = fold next_unsynced [] done

-- what a torn write puts, of the bytes that it was to put: nothing, all of them, their first half, or a byte in the
-- place of each of these
abbrev pub torn_bytes : ℕ → ℕ → List ℕ → List ℕ
torn_bytes way fill bytes =
    if way == 0 then [] else if way == 1 then bytes else if way == 2 then take (length bytes / 2) bytes
    else if way == 3 then replicate (length bytes) fill else replicate (length bytes / 2) fill

-- the file after a torn write; one that begins past the end of what is there leaves nothing
abbrev pub torn_by : ℕ → ℕ → Done → List ℕ → List ℕ
torn_by way fill done file =
    if nat_le done.call.at (length file) then with_bytes_at file done.call.at (torn_bytes way fill done.bytes) else file

-- the file with these writes torn, by the digits of a number to the base 5, the lowest of which is the first write's
abbrev pub crash_image : ℕ → ℕ → List Done → List ℕ → List ℕ
crash_image number fill [] file = file
crash_image number fill (done ∷ writes) file =
    crash_image (number / 5) fill writes (torn_by (number % 5) fill done file)

-- how many numbers there are before they repeat, as far as a u64 goes
abbrev pub image_count : List Done → ℕ
image_count writes = min (5 ^ length writes) last_count
