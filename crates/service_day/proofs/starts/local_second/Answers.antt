use Rattle.std.proofs.Common.{◌≡◌, ◌∙◌, pos, ◌+ℤ◌, ◌-ℤ◌, ◌*ℤ◌, arith}
use Rattle.std.proofs.lemmas.Int.{ints}
use Rattle.jiff_core.specs.Timestamp.{IsOffsetSeconds, IsTimestampNanos}
use Rattle.jiff_core.proofs.SignedLemmas.{signed_arith}
use Rattle.jiff_tz.specs.Ambiguous.{compatible_offset, instant_of}
use Rattle.jiff_tz.specs.Zone.{ambiguous_at}
use Rattle.jiff.specs.ZoneView.{plain_zone}
use Rattle.service_day.proofs.StartLemmas.{whole_second}
use Rattle.service_day.proofs.starts.local_second.Goals as goal

pub unreachable-requires : goal.unreachable-requires
unreachable-requires c =
    let offset = compatible_offset (ambiguous_at (plain_zone c.time_zone.result) c.shown_at.result) in
    let h : IsOffsetSeconds offset.seconds = offset.in_range in
    let there : IsTimestampNanos (instant_of c.shown_at.result offset) = omega (arith, signed_arith, h.0, h.1, c.shown_at.ensures.nanos) in
    let e = c.in-Err.ensures.succeeds.1 there in
    cc

pub returns-clause-bound : goal.returns-clause-bound
returns-clause-bound c =
    let offset = compatible_offset (ambiguous_at (plain_zone c.time_zone.result) c.shown_at.result) in
    let h : IsOffsetSeconds offset.seconds = offset.in_range in
    let secs = c.args.day *ℤ pos 86400 +ℤ pos c.args.second -ℤ offset.seconds in
    let whole : c.in-Ok.instant.nanosecond ≡ secs *ℤ pos 1_000_000_000 = c.in-Ok.ensures.value ∙ omega (arith, signed_arith, c.shown_at.ensures.nanos) in
    let same : c.as_second.result ≡ secs = c.as_second.ensures ∙ whole_second c.in-Ok.instant.nanosecond secs whole in
    omega (arith, ints, same, h.0, h.1)
