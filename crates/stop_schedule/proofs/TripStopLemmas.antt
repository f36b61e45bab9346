-- What is kept of the stops of a trip.
use Rattle.std.proofs.Common.{◌≡◌, ◌∙◌, ◌<◌, ◌+◌, ℕ, zero, suc, true, List, [], ◌∷◌, ◌++◌, length, get_or, refl, ap, sym, arith}
use Rattle.std.proofs.lemmas.List.{append-nil}
use Rattle.stop_schedule.specs.Rising.{all_less, is_rising}
use Rattle.stop_schedule.specs.StopTimes.{placed}
use Rattle.stop_schedule.specs.TripStops.{Places, all_expanded, expanded}
use Rattle.stop_schedule.specs.declared.stop_times.LoadedStop.{LoadedStop}
use Rattle.stop_schedule.specs.declared.trip_stops.BriefStop.{BriefStop}
use Rattle.stop_schedule.proofs.SequenceLemmas.{less-apart, less-front, placed-after}

pub length-expanded : (row minute : ℕ) (stops : List BriefStop) → length (all_expanded row minute stops) ≡ length stops
length-expanded row minute [] = refl
length-expanded row minute (stop ∷ stops) = ap (λ n. suc n) (length-expanded (row + 1) minute stops)

pub expanded-after : (row minute : ℕ) (stops : List BriefStop) (stop : BriefStop)
    → all_expanded row minute (stops ++ stop ∷ []) ≡ all_expanded row minute stops
    ++ expanded (row + length stops) minute stop ∷ []
expanded-after row minute [] stop = let same : row ≡ row + 0 =
    omega arith in ap (λ n. expanded n minute stop ∷ []) same
expanded-after row minute (first ∷ stops) stop =
    let same : row + 1 + length stops ≡ row + suc (length stops) = omega arith in
    ap (λ later. expanded row minute first ∷ later)
    (expanded-after (row + 1) minute stops stop
    ∙ ap (λ n. all_expanded (row + 1) minute stops ++ expanded n minute stop ∷ []) same)

sequence-at : (row minute : ℕ) (stops : List BriefStop) (k : ℕ) (d : BriefStop) (e : LoadedStop) → k < length stops
    → (get_or (all_expanded row minute stops) k e).sequence ≡ (get_or stops k d).sequence
sequence-at row minute [] k d e within = absurd (omega arith)
sequence-at row minute (stop ∷ stops) zero d e within = refl
sequence-at row minute (stop ∷ stops) (suc k) d e within = sequence-at (row + 1) minute stops k d e (omega arith)

-- all are less than what the last is less than
pub less-all : (row minute : ℕ) (stops : List BriefStop) (k : ℕ) (d : BriefStop) (sequence : ℕ) → length stops ≡ suc k
    → (get_or stops k d).sequence < sequence
    → is_rising (all_expanded row minute stops) ≡ true → all_less sequence (all_expanded row minute stops) ≡ true
less-all row minute stops k d sequence long less rising =
    let all = all_expanded row minute stops in
    let e = expanded 0 0 d in
    let same = sequence-at row minute stops k d e (omega (arith, long)) in
    less-front all [] sequence k e (length-expanded row minute stops ∙ long) (ap is_rising (append-nil all) ∙ rising)
    (rw same less)

-- a stop after those of less sequences is at its place
pub places-after : (stop : LoadedStop) (stops : List LoadedStop) → all_less stop.sequence stops ≡ true
    → Places stop stops (stops ++ stop ∷ []) true
places-after stop stops less = (
  less-apart stop.sequence stops less,
  sym (placed-after stop stops [] less) ∙ ap (λ (all : List LoadedStop). placed stop all) (append-nil stops),
)
