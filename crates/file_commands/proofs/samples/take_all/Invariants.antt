-- what arrived so far stands, and what the texts left say after it is what all texts say
use Rattle.std.proofs.Common.{◌≡◌, ◌-◌, drop}
use Rattle.sample_maker.specs.Deliveries.{deliveries, delivery_count}
use Rattle.file_commands.proofs.ArrivalLemmas.{HasTaken}
use Rattle.file_commands.proofs.samples.take_all.Given as goal

abbrev pub invariant-loop-text : goal.invariant-loop-text
invariant-loop-text l = record {
  arrived : HasTaken l.fn.gate.setting (deliveries l.fn.maker.seed l.fn.maker.trips l.fn.maker.stops)
      (drop l.maker.given (deliveries l.fn.maker.seed l.fn.maker.trips l.fn.maker.stops)) l.gate;
  seed : l.maker.seed ≡ l.fn.maker.seed;
  trips : l.maker.trips ≡ l.fn.maker.trips;
  stops : l.maker.stops ≡ l.fn.maker.stops;
  setting : l.gate.setting ≡ l.fn.gate.setting;
}

abbrev pub decreases-loop-text : goal.decreases-loop-text
decreases-loop-text l = delivery_count l.maker.trips - l.maker.given
