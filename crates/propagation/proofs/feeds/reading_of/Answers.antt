use Rattle.std.proofs.lemmas.List.Sorted.{IsPermutation-reverse, IsPermutation-trans}
use Rattle.std.specs.List.Sorted.{IsPermutation}
use Rattle.journey_model.specs.FeedReadings.{given_all, last_of_each, readings}
use Rattle.propagation.proofs.LastLemmas.{last_there}
use Rattle.propagation.proofs.ServableLemmas.{all-servable}
use Rattle.propagation.proofs.feeds.reading_of.Goals as goal

pub returns : goal.returns
returns c = λ schedule feed sorted_out.
    let given = given_all (readings schedule feed) in
    let last = last_of_each given in
    let front : IsPermutation last c.args.sorted.last.items =
    rw sorted_out.last (IsPermutation-reverse last) in
    let same : IsPermutation last c.in_ok-journeys.journeys =
    IsPermutation-trans last c.args.sorted.last.items c.in_ok-journeys.journeys front
    c.in_ok-journeys.ensures.same in
    record {
      same = same;
      each_last = λ trip day. last_there trip day given c.in_ok-journeys.journeys same;
      sorted = c.in_ok-journeys.ensures.sorted;
      servable = all-servable schedule feed c.in_ok-journeys.journeys same;
      taken = sorted_out.taken;
      passed = sorted_out.passed;
      aside = sorted_out.aside;
    }
