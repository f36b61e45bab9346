-- StopTimeProperties is the id of the stop that it assigns.
use Rattle.std.proofs.Common.{List, refl}
use Rattle.std.specs.Prelude.{Option, Some, ℕ}
use Rattle.wire_fields.specs.Grammar.{WireField}
use Rattle.feed_reading.specs.declared.plain.tables.StopTimeProperties.{StopTimeProperties}
use Rattle.feed_reading.specs.Tables.{OfStopTimeProperties}
use Rattle.feed_reading.proofs.Finding.{joined_along}
use Rattle.feed_reading.proofs.quick.trips.assigned_stop.Goals as goal

abbrev Wrapped : List WireField → StopTimeProperties → Type 0
Wrapped fields properties = OfStopTimeProperties fields properties.assigned

abbrev unwrapped : StopTimeProperties → Option (List ℕ)
unwrapped properties = properties.assigned

pub returns-in-Some : goal.returns-in-Some
returns-in-Some c = λ number fields found.
    let joined = c.in_ok-assigned.ensures number fields found in record {
      found = Some c.in-Some.field-0.assigned;
      message = (
        joined.0,
        joined_along Wrapped OfStopTimeProperties unwrapped (λ fields text h. h) _ (Some c.in-Some.field-0)
            (rw c.in-Some.is at joined.1),
      );
      same = refl;
    }
