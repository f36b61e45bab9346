-- What is written is what is served, which is what is rebuilt.
use Rattle.std.proofs.Common.{◌≡◌, ◌∙◌, [], ℕ, List, OnOk, ap, subst}
use Rattle.gw_base.specs.Count.{Rose}
use Rattle.gw_base.specs.Told.{PutsUnless, with_bytes}
use Rattle.feed_reading.specs.Tables.{MeansFeed, full_dataset}
use Rattle.timetable.specs.Seen.{seen}
use Rattle.timetable.specs.Sound.{IsSound}
use Rattle.gateway_core.specs.Standing.{Kept}
use Rattle.gateway_core.proofs.ServingLemmas.{all_written, stands_gives, stands_rebuilt}
use Rattle.gateway_core.proofs.gateway.Gateway.write_feed.Goals as goal

pub returns-clause-all : goal.returns-clause-all
returns-clause-all g c =
    let told = g.S.Sink.told in
    let text = all_written c.args.moment c.args.self.now c.as_slice.result.now c.self.inside.state.journeys.entries c.self.inside.state.situations.entries
    (c.as_slice.ensures.same ∙ c.header_bytes-header.ensures.written) (ap (λ (kept : Kept). kept.journeys) c.self.view_is) (ap (λ (kept : Kept). kept.situations) c.self.view_is) in
    subst (λ (text : List ℕ). OnOk c.write_entities.result (told c.write_entities.new.sink ≡ with_bytes (told c.args.sink.now) text)) text c.write_entities.ensures.all

pub returns-clause-front : goal.returns-clause-front
returns-clause-front g c =
    let told = g.S.Sink.told in
    let faults = g.S.Sink.faults in
    let text = all_written c.args.moment c.args.self.now c.as_slice.result.now c.self.inside.state.journeys.entries c.self.inside.state.situations.entries
    (c.as_slice.ensures.same ∙ c.header_bytes-header.ensures.written) (ap (λ (kept : Kept). kept.journeys) c.self.view_is) (ap (λ (kept : Kept). kept.situations) c.self.view_is) in
    subst (λ (text : List ℕ). PutsUnless (Rose (faults c.args.sink.now) (faults c.write_entities.new.sink)) (told c.args.sink.now) (told c.write_entities.new.sink) text) text
    c.write_entities.ensures.front

pub returns-clause-rebuilt : goal.returns-clause-rebuilt
returns-clause-rebuilt g c = λ arrivals stands.
    stands_rebuilt c.args.self.now arrivals c.args.moment
    (subst (λ (head : List ℕ). MeansFeed head (full_dataset c.args.moment [])) c.header_bytes-header.ensures.written c.header_bytes-header.ensures.means) stands

pub returns-clause-gives : goal.returns-clause-gives
returns-clause-gives g c = λ arrivals stands.
    stands_gives c.args.self.now arrivals c.args.moment
    (subst (λ (head : List ℕ). MeansFeed head (full_dataset c.args.moment [])) c.header_bytes-header.ensures.written c.header_bytes-header.ensures.means) stands
    (subst (λ (k : Kept). IsSound (seen k.setting.table)) c.self.view_is c.soundness_law.ensures)
