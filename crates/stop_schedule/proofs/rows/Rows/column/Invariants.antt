use Rattle.std.proofs.Common.{◌≡◌, ◌<◌, ℕ, false}
use Rattle.std.specs.Str.{bytes_eq}
use Rattle.stop_schedule.specs.Fields.{field_of}
use Rattle.stop_schedule.proofs.rows.Rows.column.Given as goal

abbrev pub invariant-loop-place : goal.invariant-loop-place
invariant-loop-place l = (k : ℕ) → k < l.place → bytes_eq (field_of k l.self.row) l.name ≡ false
