-- What is kept is known by what it is kept of.
use Rattle.std.proofs.Common.{◌≡◌, ◌∙◌, ◌++◌, ◌<◌, ◌^◌, ℤ, List, map, ap, sym, subst, arith}
use Rattle.std.proofs.lemmas.Int.{ints}
use Rattle.std.specs.Prelude.{filter, find, unsigned_abs}
use Rattle.std.specs.Cmp.Lexicographic.{slice_cmp}
use Rattle.std.specs.List.{flat_map}
use Rattle.std.specs.Ordering.{nat_cmp}
use Rattle.feed_writing.specs.Written.{header}
use Rattle.feed_messages.proofs.Headers.{means_header}
use Rattle.gw_base.specs.Moments.{IsMoment}
use Rattle.journey_model.specs.Records.{Recorded}
use Rattle.journey_model.specs.Schedules.{Schedule}
use Rattle.journey_model.specs.declared.situation.Situation.{Situation}
use Rattle.latest_store.specs.Latest.{has_number, is_newer, was_later}
use Rattle.timetable.specs.Seen.{seen}
use Rattle.timetable.specs.Table.{Table}
use Rattle.gateway_core.specs.Arrivals.{Arrival, admitted_situations, moments_of, present, schedule_at, window_at}
use Rattle.gateway_core.specs.Feeds.{comes_before, has_lesser_number}
use Rattle.gateway_core.specs.Recording.{AreDecided, ArriveAlike, IsRebuiltOf}
use Rattle.gateway_core.specs.Standing.{JourneyEntry, Kept, KeepsJourneys, KeepsSituations, SituationEntry, Stands, journey_entry, served, situation_entry}
use Rattle.gateway_core.specs.Winners.{has_key, key_cmp, key_of}
use Rattle.gateway_core.specs.declared.setting.Setting.{Setting}
use Rattle.gateway_core.proofs.OneLemmas.{before_less, number_less, one_keyed, same_counts}
use Rattle.gateway_core.proofs.OrderOfArrival.{feeds_alike}
use Rattle.gateway_core.proofs.ServingLemmas.{stands_rebuilt}
use Rattle.gateway_core.proofs.WinnerLemmas.{journeys, numbers}

journeys_one : (schedule : Schedule) (records : List Recorded) (entries others : List JourneyEntry) → KeepsJourneys schedule records entries → KeepsJourneys schedule records others → entries ≡ others
journeys_one schedule records entries others h k =
    h.entries_are
    ∙ ap (map (journey_entry schedule)) (one_keyed key_cmp key_of has_key was_later journeys comes_before before_less h.ordered k.ordered h.are_latest.in_order k.are_latest.in_order
    (λ key. same_counts (has_key key) was_later records (find (has_key key) h.ordered) (find (has_key key) k.ordered) (h.are_latest.latest key) (k.are_latest.latest key)))
    ∙ sym k.entries_are

situations_one : (table : Table) (all : List Situation) (entries others : List SituationEntry) → KeepsSituations table all entries → KeepsSituations table all others → entries ≡ others
situations_one table all entries others h k =
    h.entries_are
    ∙ ap (map (situation_entry table)) (one_keyed (slice_cmp nat_cmp) (λ (one : Situation). one.number) has_number is_newer numbers has_lesser_number number_less h.ordered k.ordered h.are_latest.in_order k.are_latest.in_order
    (λ number. same_counts (has_number number) is_newer all (find (has_number number) h.ordered) (find (has_number number) k.ordered) (h.are_latest.latest number) (k.are_latest.latest number)))
    ∙ sym k.entries_are

module _ (kept other : Kept) (arrivals : List Arrival) (same : kept.setting ≡ other.setting) (h : Stands kept arrivals) (k : Stands other arrivals) where
  pub window_one : kept.window ≡ other.window
  window_one = h.window_is ∙ ap (λ (setting : Setting). window_at setting (moments_of arrivals)) same ∙ sym k.window_is

  pub kept_journeys_one : kept.journeys ≡ other.journeys
  kept_journeys_one =
      journeys_one (schedule_at kept.setting (moments_of arrivals)) (present kept.setting arrivals) kept.journeys other.journeys h.journeys_are
      (subst (λ (setting : Setting). KeepsJourneys (schedule_at setting (moments_of arrivals)) (present setting arrivals) other.journeys) (sym same) k.journeys_are)

  pub kept_situations_one : kept.situations ≡ other.situations
  kept_situations_one =
      situations_one (seen kept.setting.table) (admitted_situations arrivals) kept.situations other.situations h.situations_are
      (subst (λ (setting : Setting). KeepsSituations (seen setting.table) (admitted_situations arrivals) other.situations) (sym same) k.situations_are)

  pub served_one : (at : ℤ) → served at kept ≡ served at other
  served_one at =
      ap (λ (entries : List JourneyEntry). header at ++ flat_map (λ one. one.bytes) entries ++ flat_map (λ (one : SituationEntry). one.bytes) (filter (λ (one : SituationEntry). one.value.1) kept.situations)) kept_journeys_one
      ∙ ap (λ (entries : List SituationEntry). header at ++ flat_map (λ (one : JourneyEntry). one.bytes) other.journeys ++ flat_map (λ one. one.bytes) (filter (λ one. one.value.1) entries)) kept_situations_one

-- a moment is counted in 64 bits
moment_short : (at : ℤ) → IsMoment at → unsigned_abs at < 2 ^ 64
moment_short at moment = let first = moment.0 in let last = moment.1 in grind (arith, ints)

-- in any two orders of arrival
pub served_alike : (kept other : Kept) (arrivals others : List Arrival) (at : ℤ) → IsMoment at → kept.setting ≡ other.setting → ArriveAlike kept.setting arrivals others → AreDecided arrivals
    → Stands kept arrivals → Stands other others → served at kept ≡ served at other
served_alike kept other arrivals others at moment same alike decided h k =
    feeds_alike kept.setting arrivals others at (served at kept) (served at other) alike decided
    (stands_rebuilt kept arrivals at (means_header at (moment_short at moment)) h)
    (subst (λ (setting : Setting). IsRebuiltOf setting at others (served at other)) (sym same) (stands_rebuilt other others at (means_header at (moment_short at moment)) k))
