-- Those that aren't set aside are taken.
use Rattle.std.proofs.Common.{◌≡◌, ap, arith, length}
use Rattle.std.specs.Prelude.{is_none}
use Rattle.std.specs.List.{count_by}
use Rattle.gateway_core.proofs.ReportLemmas.{taken_or_aside}
use Rattle.gateway_core.proofs.items.tally.Tally.into_report.Goals as goal

pub returns : goal.returns
returns c = λ all sum h.
    let counts = taken_or_aside all 0 in
    let long = ap length h.aside_are in
    let taken_is : c.saturating_sub.result ≡ count_by is_none all = omega (arith, c.saturating_sub.ensures, c.len.ensures.value, counts, h.items_are, long) in
    λ i. record { taken = taken_is i; passed = h.passed_is i; aside = h.aside_are i }
