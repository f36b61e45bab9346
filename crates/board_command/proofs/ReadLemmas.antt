-- The journeys of the served feed that is read again are the latest records that say something.
use Rattle.std.proofs.Common.{◌≡◌, ◌∙◌, ◌∷◌, [], Bool, true, false, List, map, None, refl, sym, ap, subst}
use Rattle.std.proofs.lemmas.Bool.{and_parts, true≢false}
use Rattle.std.proofs.lemmas.List.Sorted.{ranks_by}
use Rattle.std.specs.Prelude.{filter}
use Rattle.std.specs.List.{AllByRecursion, list_all, list_any}
use Rattle.std.specs.List.Sorted.{IsPermutation}
use Rattle.gw_base.specs.declared.messages.Feed.{Feed}
use Rattle.journey_model.specs.FeedReadings.{last_of_each, last_reading}
use Rattle.journey_model.specs.Records.{Recorded}
use Rattle.journey_model.specs.Schedules.{Schedule}
use Rattle.journey_model.specs.declared.readings.DatedReading.{DatedReading}
use Rattle.latest_store.specs.Latest.{was_later}
use Rattle.latest_store.specs.Reads.{dated_reading}
use Rattle.propagation.specs.Feeds.{IsReading}
use Rattle.propagation.specs.declared.feeds.FeedReading.{FeedReading}
use Rattle.gateway_core.specs.Feeds.{are_ordered_by, comes_before}
use Rattle.gateway_core.specs.Gives.{SaysLatest, says_something}
use Rattle.gateway_core.specs.Winners.{Key, has_key, key_cmp, key_of}
use Rattle.gateway_core.proofs.LatestLemmas.{none_after}
use Rattle.gateway_core.proofs.OrderedLemmas.{ordered_filter}
use Rattle.gateway_core.proofs.StandingLemmas.{journeys_by_key}
use Rattle.gateway_core.proofs.WinnerLemmas.{journeys as journeys_keyed}
use Rattle.gateway_core.proofs.ReadingOrder.{apart, before, moved, reading_key, same, self}
use Rattle.gateway_core.proofs.SortedLemmas.{IsStrict, only_order, sorted_rises}

-- ---- records in order, and their readings

all_before : (one : Recorded) (others : List Recorded) → list_all (comes_before one) others ≡ true
    → AllByRecursion (λ y. before (dated_reading one) y ≡ true) (map dated_reading others)
all_before one [] after = tt
all_before one (other ∷ others) after =
    let parts = and_parts (comes_before one other) (list_all (comes_before one) others) after in
    (sym (journeys_by_key one other) ∙ parts.0, all_before one others parts.1)

strict : (records : List Recorded) → are_ordered_by comes_before records ≡ true → IsStrict before (map dated_reading records)
strict [] in_order = tt
strict (one ∷ others) in_order =
    let parts = and_parts (list_all (comes_before one) others) (are_ordered_by comes_before others) in_order in
    (all_before one others parts.0, strict others parts.1)

-- none of another journey's readings is one of this
none_read : (key : Key) (records : List Recorded) → list_any (has_key key) records ≡ false
    → last_reading key.1 key.0 (map dated_reading records) ≡ None
none_read key [] none = refl
none_read key (one ∷ others) none = by (has_key key one) refl none (none_read key others)
  where
    by : (b : Bool) → has_key key one ≡ b → list_any (has_key key) (one ∷ others) ≡ false
        → (list_any (has_key key) others ≡ false → last_reading key.1 key.0 (map dated_reading others) ≡ None)
        → last_reading key.1 key.0 (map dated_reading (one ∷ others)) ≡ None
    by true is none rest = absurd (true≢false (sym (rw is refl) ∙ none))
    by false is none rest = rw (rest (sym (rw is refl) ∙ none), is) refl

-- so the last of each journey are all of them
all_last : (records : List Recorded) → are_ordered_by comes_before records ≡ true → last_of_each (map dated_reading records) ≡ map dated_reading records
all_last [] in_order = refl
all_last (one ∷ others) in_order =
    let parts = and_parts (list_all (comes_before one) others) (are_ordered_by comes_before others) in_order in
    let none : last_reading one.trip one.day (map dated_reading others) ≡ None =
    none_read (key_of one) others (none_after key_cmp key_of has_key was_later journeys_keyed comes_before journeys_by_key one others parts.0) in
    rw none (ap (λ (rest : List DatedReading). dated_reading one ∷ rest) (all_last others parts.1))

-- ---- the feed that is read again

pub journeys_are : (schedule : Schedule) (records : List Recorded) (feed : Feed) (reading : FeedReading) (says : SaysLatest schedule records feed)
    → IsReading schedule feed reading → reading.journeys ≡ map dated_reading (filter says_something says.latest)
journeys_are schedule records feed reading says is =
    only_order before same self apart moved (map dated_reading told) reading.journeys (strict told in_order)
    (sorted_rises before (ranks_by journeys_keyed.total reading_key) reading.journeys is.sorted)
    (subst (λ (all : List DatedReading). IsPermutation all reading.journeys) (ap last_of_each says.given ∙ all_last told in_order) is.same)
  where
    told : List Recorded
    told = filter says_something says.latest

    in_order : are_ordered_by comes_before told ≡ true
    in_order = ordered_filter key_cmp key_of has_key was_later journeys_keyed comes_before journeys_by_key says_something says.latest says.are_latest.in_order
