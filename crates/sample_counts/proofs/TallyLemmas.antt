-- Tallies of stops that stand one after the other, and of stops that all read alike.
use Rattle.std.proofs.Common.{◌≡◌, ◌∙◌, ◌++◌, ◌+◌, ◌≤◌, ℕ, List, length, sym, ap, arith}
use Rattle.std.proofs.lemmas.List.Sums.{count_by-le-length, sum_by-append}
use Rattle.std.specs.Prelude.{cond, sum_by}
use Rattle.journey_model.specs.declared.readings.StopReading.{StopReading}
use Rattle.journey_model.specs.Readings.{is_absent, is_skipped}
use Rattle.sample_maker.proofs.ListLemmas.{all_below-0, all_below-next}
use Rattle.sample_maker.specs.Pieces.{all_below}
use Rattle.gw_base.specs.declared.messages.Feed.{Feed}
use Rattle.journey_model.specs.Schedules.{Schedule}
use Rattle.sample_counts.specs.Counts.{all_read, counts_of, is_timed, updates_of}
use Rattle.sample_counts.specs.Steps.{IsWithin, plus, tally}
use Rattle.sample_counts.specs.declared.tally.Tally.{Tally}

pub tally-append : (xs ys : List StopReading) → tally (xs ++ ys) ≡ plus (tally xs) (tally ys)
tally-append xs ys = λ i. record {
  skipped = sum_by-append (λ one. cond (is_skipped one) 1 0) xs ys i;
  absent = sum_by-append (λ one. cond (is_absent one) 1 0) xs ys i;
  timed = sum_by-append (λ one. cond (is_timed one) 1 0) xs ys i;
}

-- no count is over the number of stops
pub tally_within : (readings : List StopReading) (most : ℕ) → length readings ≤ most → IsWithin most (tally readings)
tally_within readings most few = record {
  skipped = omega (arith, count_by-le-length is_skipped readings);
  absent = omega (arith, count_by-le-length is_absent readings);
  timed = omega (arith, count_by-le-length is_timed readings);
}

-- one trip more
pub tally_more : (stops : ℕ → List StopReading) (trip : ℕ) (sum more : Tally) → sum ≡ tally (all_below stops trip) → more ≡ plus sum (tally (stops trip))
    → more ≡ tally (all_below stops (trip + 1))
tally_more stops trip sum more so_far added =
    added ∙ ap (λ (s : Tally). plus s (tally (stops trip))) so_far ∙ sym (tally-append (all_below stops trip) (stops trip))
    ∙ ap (λ (xs : List StopReading). tally xs) (sym (all_below-next stops trip))

pub tally_none : (stops : ℕ → List StopReading) → record { skipped = 0; absent = 0; timed = 0 } ≡ tally (all_below stops 0)
tally_none stops = ap (λ (xs : List StopReading). tally xs) (sym (all_below-0 stops))

-- the counts of a feed, by how its stops read, its updates and its bytes
pub counts_are : (schedule : Schedule) (bytes : List ℕ) (feed : Feed) (found : Tally) (updates len : ℕ) → found ≡ tally (all_read schedule feed)
    → updates ≡ sum_by updates_of feed.entities → len ≡ length bytes
    → record { skipped = found.skipped; absent = found.absent; timed = found.timed; updates = updates; bytes = len } ≡ counts_of schedule bytes feed
counts_are schedule bytes feed found updates len read updated long = λ i. record {
  skipped = (read i).skipped;
  absent = (read i).absent;
  timed = (read i).timed;
  updates = updated i;
  bytes = long i;
}
