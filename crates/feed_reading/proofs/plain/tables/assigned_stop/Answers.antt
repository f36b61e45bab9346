-- StopTimeProperties is the id of the stop that it assigns.
use Rattle.std.proofs.Common.{ℕ, List, refl}
use Rattle.std.specs.Prelude.{Option, Some, option_map}
use Rattle.wire_fields.specs.Grammar.{WireField}
use Rattle.feed_reading.specs.declared.plain.tables.StopTimeProperties.{StopTimeProperties}
use Rattle.feed_reading.specs.Tables.{OfStopTimeProperties}
use Rattle.feed_reading.proofs.Finding.{passed_on, joined_along}
use Rattle.feed_reading.proofs.plain.tables.assigned_stop.Goals as goal

abbrev Wrapped : List WireField → StopTimeProperties → Type 0
Wrapped fields properties = OfStopTimeProperties fields properties.assigned

abbrev wrapped : Option (List ℕ) → StopTimeProperties
wrapped assigned = record { assigned = assigned }

abbrev unwrapped : StopTimeProperties → Option (List ℕ)
unwrapped properties = properties.assigned

pub returns-in_err-assigned : goal.returns-in_err-assigned
returns-in_err-assigned c =
    passed_on _ _ _ _ c.from_residual.ensures.1 c.in_err-assigned.ensures
    (λ _ whole. (
      option_map wrapped whole.found,
      (
        whole.message.0,
        joined_along OfStopTimeProperties Wrapped wrapped (λ fields text h. h) _ whole.found
            whole.message.1,
      ),
    ))

pub returns-in-Some : goal.returns-in-Some
returns-in-Some c = record {
  found = Some c.in-Some.field-0.assigned;
  message = (
    c.in_ok-assigned.ensures.0,
    joined_along Wrapped OfStopTimeProperties unwrapped (λ fields text h. h) _ (Some c.in-Some.field-0)
        (rw c.in-Some.is at c.in_ok-assigned.ensures.1),
  );
  same = refl;
}
