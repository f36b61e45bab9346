use Rattle.std.proofs.Common.{◌≡◌, ◌+◌, ◌≤◌, take, vec_len, vec_capacity}
use Rattle.delivery_journal.specs.Disk.{with_bytes_at}
use Rattle.delivery_journal.proofs.memory_disk.put_bytes.Given as goal

abbrev pub invariant-loop-byte : goal.invariant-loop-byte
invariant-loop-byte l = record {
  put : l.file.items ≡ with_bytes_at l.fn.file.items l.fn.at (take l.byte-index l.bytes);
  place : l.place ≡ l.fn.at + l.byte-index;
  inside : l.place ≤ vec_len l.file;
  len : vec_len l.file ≤ vec_len l.fn.file + l.byte-index;
  room : vec_capacity l.fn.file ≤ vec_capacity l.file;
}
