-- What arrived of the texts so far, and what the texts left say after it.
use Rattle.std.proofs.Common.{◌∙◌, drop, sym}
use Rattle.sample_maker.specs.Deliveries.{deliveries}
use Rattle.file_commands.proofs.ArrivalLemmas.{all_taken, ends_with, gave, gave_all, goes_on}
use Rattle.file_commands.proofs.samples.take_all.Goals as goal

pub loop-text-preserved : goal.loop-text-preserved
loop-text-preserved c =
    let held = c.loop-text.invariant in
    let maker = c.args.maker.now in
    let next = gave maker.seed maker.trips maker.stops c.loop-text.maker c.next_delivery.new.self c.in-Some.text held.seed held.trips held.stops
    (sym c.in_ok-text.ensures.given ∙ c.in-Some.is) c.in_ok-text.ensures.after in
    record {
      arrived = goes_on c.args.gate.now.setting c.loop-text.gate.setting (deliveries maker.seed maker.trips maker.stops)
          (drop c.loop-text.maker.given (deliveries maker.seed maker.trips maker.stops)) (drop c.next_delivery.new.self.given (deliveries maker.seed maker.trips maker.stops))
          c.in-Some.text c.loop-text.gate c.take_text.new.gate _ held.setting next.left held.arrived c.in-Ok.ensures.told;
      seed = next.seed_is;
      trips = next.trips_are;
      stops = next.stops_are;
      setting = c.in-Ok.ensures.setting ∙ held.setting;
    }

pub returns-in-Err-clause-told : goal.returns-in-Err-clause-told
returns-in-Err-clause-told c =
    let held = c.loop-text.invariant in
    let maker = c.args.maker.now in
    let next = gave maker.seed maker.trips maker.stops c.loop-text.maker c.next_delivery.new.self c.in-Some.text held.seed held.trips held.stops
    (sym c.in_ok-text.ensures.given ∙ c.in-Some.is) c.in_ok-text.ensures.after in
    ends_with (Unit {0}) c.args.gate.now.setting c.loop-text.gate.setting (deliveries maker.seed maker.trips maker.stops)
    (drop c.loop-text.maker.given (deliveries maker.seed maker.trips maker.stops)) (drop c.next_delivery.new.self.given (deliveries maker.seed maker.trips maker.stops))
    c.in-Some.text c.loop-text.gate c.take_text.new.gate c.in-Err.end held.setting next.left held.arrived c.in-Err.ensures.told

pub returns-clause-told : goal.returns-clause-told
returns-clause-told c =
    let held = c.loop-text.invariant in
    let maker = c.args.maker.now in
    all_taken c.args.gate.now.setting (deliveries maker.seed maker.trips maker.stops) (drop c.loop-text.maker.given (deliveries maker.seed maker.trips maker.stops))
    c.loop-text.gate (tt {0}) (gave_all maker.seed maker.trips maker.stops c.loop-text.maker held.trips (sym c.in_ok-text.ensures.given ∙ c.in_default.is)) held.arrived
