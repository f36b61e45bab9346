-- The sums are exact, since what a gateway serves is counted in 64 bits.
use Rattle.std.proofs.Common.{◌∙◌, ap, arith, length}
use Rattle.std.specs.Prelude.{filter}
use Rattle.std.specs.List.{flat_map}
use Rattle.gateway_core.specs.Standing.{JourneyEntry, Kept, SituationEntry}
use Rattle.gateway_core.proofs.LengthLemmas.{alerts_fit, journeys_length, served_length}
use Rattle.gateway_core.proofs.ServingLemmas.{alerts_written}
use Rattle.gateway_core.proofs.gateway.Gateway.feed_len.Goals as goal

pub returns : goal.returns
returns c = record {
  value = λ arrivals stands.
      let head = ap length (c.as_slice.ensures.same ∙ c.header_bytes-header.ensures.written) in
      let short = c.header_bytes-header.ensures.short in
      let same = ap length c.as_slice.ensures.same in
      let journeys = journeys_length c.self.inside.state.journeys.entries in
      let of_journeys = ap (λ (kept : Kept). length (flat_map (λ (one : JourneyEntry). one.bytes) kept.journeys)) c.self.view_is in
      let alerts = ap length (alerts_written c.self.inside.state.situations.entries) in
      let of_alerts = ap (λ (kept : Kept). length (flat_map (λ (one : SituationEntry). one.bytes) (filter (λ (one : SituationEntry). one.value.1) kept.situations))) c.self.view_is in
      let fit = alerts_fit c.args.self.now arrivals stands in
      let whole = served_length c.args.moment c.args.self.now in
      omega (arith, c.total_bytes-journeys.ensures.value, c.total_bytes-journeys.ensures.fits, c.saturating_add.ensures, c.served_len.ensures, c.saturating_add-2.ensures);
}
