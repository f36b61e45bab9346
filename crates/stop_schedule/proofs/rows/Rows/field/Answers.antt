use Rattle.std.proofs.Common.{◌∙◌, ap, refl, List, ℕ}
use denote.Ref.{Bor}
use Rattle.csv.specs.Records.{fields_of}
use Rattle.stop_schedule.specs.Fields.{trimmed}
use Rattle.stop_schedule.proofs.FieldLemmas.{field-read}
use Rattle.stop_schedule.proofs.rows.Rows.field.Goals as goal

pub returns : goal.returns
returns c =
    let read = ap (λ (slice : Bor (List ℕ)). slice.now) c.unwrap_or.ensures in
    let field = field-read c.get.result _ (fields_of c.self.inside.row) c.args.place refl c.get.ensures.value in
    record { value = rw (← c.self.view_is) (c.trimmed.ensures ∙ ap trimmed (read ∙ field)) }
