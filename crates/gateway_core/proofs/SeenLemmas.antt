-- What contracts see of the entries of an index: of journeys, and of situations.
use Rattle.std.proofs.Common.{◌≡◌, ◌∙◌, ◌||◌, ℕ, Bool, true, not, List, map, Option, Some, None, option_map, ap, sym, refl, drop}
use Rattle.std.proofs.lemmas.List.{drop-map, length-map}
use Rattle.std.specs.Prelude.{is_some, length, nat_lt}
use Rattle.std.specs.Cmp.Lexicographic.{slice_cmp}
use Rattle.std.specs.Ordering.{is_eq, nat_cmp}
use Rattle.std.specs.declared.cmp.Ordering.{Ordering}
use Rattle.feed_index.specs.Entries.{put, value_at}
use Rattle.feed_index.specs.declared.entry.Entry.{Entry}
use Rattle.feed_index.proofs.MapLemmas.{find-map, one-map}
use Rattle.journey_model.specs.Records.{recorded}
use Rattle.journey_model.specs.declared.readings.JourneyRecord.{JourneyRecord}
use Rattle.journey_model.specs.declared.situation.Situation.{Situation}
use Rattle.latest_store.specs.Latest.{is_later}
use Rattle.service_day.specs.declared.moments.Instant.{Instant}
use Rattle.gateway_core.specs.Arrivals.{most_journeys, most_numbers}
use Rattle.gateway_core.specs.Keeping.{at_key}
use Rattle.gateway_core.specs.Standing.{JourneyEntry, SituationEntry, journey_seen, situation_seen}
use Rattle.gateway_core.specs.Steps.{journey_counts, journey_fits, journey_kept, situation_counts, situation_fits, situation_kept, with_journey, with_situation}
use Rattle.gateway_core.specs.Winners.{Key, key_cmp}
use Rattle.gateway_core.specs.declared.keys.Edition.{Edition}
use Rattle.gateway_core.specs.declared.keys.JourneyKey.{JourneyKey}
use Rattle.gateway_core.specs.contracts.keys.JourneyKeyOrd.TheImpl as derived

-- the value of what is found
found_value : {X Y V W : Type 0} (show : X → Y) (of : X → V) (value : Y → W) (shown : V → W) → ((x : X) → value (show x) ≡ shown (of x))
    → (found : Option X) → option_map value (option_map show found) ≡ option_map shown (option_map of found)
found_value show of value shown same None = refl
found_value show of value shown same (Some x) = ap (λ w. Some w) (same x)

-- whether something is found, and what a test answers that reads the value alone
module _ {Y W : Type 0} (value : Y → W) where
  some_value : (found : Option Y) (w : W) → option_map value found ≡ Some w → is_some found ≡ true
  some_value None w e = absurd cc
  some_value (Some y) w e = refl

  no_value : (found : Option Y) → option_map value found ≡ None → found ≡ None
  no_value None e = refl
  no_value (Some y) e = absurd cc

  test_value : (test : Option Y → Bool) (of : W → Bool) → ((y : Y) → test (Some y) ≡ of (value y))
      → (found : Option Y) (w : W) → option_map value found ≡ Some w → test found ≡ of w
  test_value test of same None w e = absurd cc
  test_value test of same (Some y) w e = same y ∙ ap of (w_is e)
    where
      w_is : option_map value (Some y) ≡ Some w → value y ≡ w
      w_is f = cc

-- ---- journeys

-- the order that is derived is by day, then trip number
abbrev pub journey_cmp : JourneyKey → JourneyKey → Ordering
journey_cmp = (derived.ghosts).cmp

abbrev pub key_seen : JourneyKey → Key
key_seen key = (key.day, key.trip.0)

-- the journey of a record
abbrev pub key_at : JourneyRecord → JourneyKey
key_at rec = record { day = rec.day; trip = rec.trip }

module _ (entries : List (Entry JourneyKey Instant)) where
  pub journey_put : (one : Entry JourneyKey Instant) → map journey_seen (put journey_cmp entries one) ≡ with_journey (map journey_seen entries) (journey_seen one)
  journey_put one = sym (one-map journey_seen (λ (e : JourneyEntry). e.key) key_cmp entries one)

  pub journey_value : (key : JourneyKey)
      → option_map (λ e. e.value) (at_key (λ e. e.key) key_cmp (map journey_seen entries) (key_seen key))
      ≡ option_map (λ v. (v.secs, v.nanos)) (value_at journey_cmp entries key)
  journey_value key =
      ap (option_map (λ (e : JourneyEntry). e.value)) (find-map journey_seen (λ (e : JourneyEntry). is_eq (key_cmp e.key (key_seen key))) entries)
      ∙ found_value journey_seen (λ e. e.value) (λ e. e.value) (λ v. (v.secs, v.nanos)) (λ e. refl) _

  pub journeys_long : length (map journey_seen entries) ≡ length entries
  journeys_long = length-map entries journey_seen

  pub journeys_drop : (n : ℕ) → drop n (map journey_seen entries) ≡ map journey_seen (drop n entries)
  journeys_drop n = drop-map journey_seen n entries

  -- a record whose journey has a value
  module _ (rec : JourneyRecord) (old : Instant) (found : Some old ≡ value_at journey_cmp entries (key_at rec)) where
    there : option_map (λ (e : JourneyEntry). e.value) (journey_kept (map journey_seen entries) (recorded rec)) ≡ Some (old.secs, old.nanos)
    there = journey_value (key_at rec) ∙ ap (option_map (λ (v : Instant). (v.secs, v.nanos))) (sym found)

    pub journey_fits_found : journey_fits (map journey_seen entries) (recorded rec) ≡ true
    journey_fits_found =
        ap (λ (b : Bool). b || nat_lt (length (map journey_seen entries)) most_journeys)
        (some_value (λ e. e.value) (journey_kept (map journey_seen entries) (recorded rec)) (old.secs, old.nanos) there)

    pub journey_counts_found : journey_counts (journey_kept (map journey_seen entries) (recorded rec)) (recorded rec)
        ≡ not (is_later (old.secs, old.nanos) (rec.at.secs, rec.at.nanos))
    journey_counts_found =
        test_value (λ e. e.value) (λ kept. journey_counts kept (recorded rec)) (λ value. not (is_later value (rec.at.secs, rec.at.nanos))) (λ e. refl)
        (journey_kept (map journey_seen entries) (recorded rec)) (old.secs, old.nanos) there

  -- and one whose journey has none
  module _ (rec : JourneyRecord) (new : None ≡ value_at journey_cmp entries (key_at rec)) where
    not_there : journey_kept (map journey_seen entries) (recorded rec) ≡ None
    not_there =
        no_value (λ e. e.value) (journey_kept (map journey_seen entries) (recorded rec))
        (journey_value (key_at rec) ∙ ap (option_map (λ (v : Instant). (v.secs, v.nanos))) (sym new))

    pub journey_fits_new : journey_fits (map journey_seen entries) (recorded rec) ≡ nat_lt (length entries) most_journeys
    journey_fits_new =
        ap (λ (kept : Option JourneyEntry). is_some kept || nat_lt (length (map journey_seen entries)) most_journeys) not_there
        ∙ ap (λ (n : ℕ). nat_lt n most_journeys) journeys_long

    pub journey_counts_new : journey_counts (journey_kept (map journey_seen entries) (recorded rec)) (recorded rec) ≡ true
    journey_counts_new = ap (λ (kept : Option JourneyEntry). journey_counts kept (recorded rec)) not_there

-- ---- situations

module _ (entries : List (Entry (List ℕ) Edition)) where
  pub situation_put : (one : Entry (List ℕ) Edition)
      → map situation_seen (put (slice_cmp nat_cmp) entries one) ≡ with_situation (map situation_seen entries) (situation_seen one)
  situation_put one = sym (one-map situation_seen (λ (e : SituationEntry). e.key) (slice_cmp nat_cmp) entries one)

  pub situation_value : (number : List ℕ)
      → option_map (λ e. e.value) (at_key (λ e. e.key) (slice_cmp nat_cmp) (map situation_seen entries) number)
      ≡ option_map (λ v. (v.version, v.served)) (value_at (slice_cmp nat_cmp) entries number)
  situation_value number =
      ap (option_map (λ (e : SituationEntry). e.value)) (find-map situation_seen (λ (e : SituationEntry). is_eq (slice_cmp nat_cmp e.key number)) entries)
      ∙ found_value situation_seen (λ e. e.value) (λ e. e.value) (λ v. (v.version, v.served)) (λ e. refl) _

  pub situations_long : length (map situation_seen entries) ≡ length entries
  situations_long = length-map entries situation_seen

  -- a situation whose number has a value
  module _ (one : Situation) (old : Edition) (found : Some old ≡ value_at (slice_cmp nat_cmp) entries one.number) where
    known : option_map (λ (e : SituationEntry). e.value) (situation_kept (map situation_seen entries) one) ≡ Some (old.version, old.served)
    known = situation_value one.number ∙ ap (option_map (λ (v : Edition). (v.version, v.served))) (sym found)

    pub situation_fits_found : situation_fits (map situation_seen entries) one ≡ true
    situation_fits_found =
        ap (λ (b : Bool). b || nat_lt (length (map situation_seen entries)) most_numbers)
        (some_value (λ e. e.value) (situation_kept (map situation_seen entries) one) (old.version, old.served) known)

    pub situation_counts_found : situation_counts (situation_kept (map situation_seen entries) one) one ≡ not (nat_lt one.version old.version)
    situation_counts_found =
        test_value (λ e. e.value) (λ kept. situation_counts kept one) (λ value. not (nat_lt one.version value.0)) (λ e. refl)
        (situation_kept (map situation_seen entries) one) (old.version, old.served) known

  -- and one whose number has none
  module _ (one : Situation) (new : None ≡ value_at (slice_cmp nat_cmp) entries one.number) where
    unknown : situation_kept (map situation_seen entries) one ≡ None
    unknown =
        no_value (λ e. e.value) (situation_kept (map situation_seen entries) one)
        (situation_value one.number ∙ ap (option_map (λ (v : Edition). (v.version, v.served))) (sym new))

    pub situation_fits_new : situation_fits (map situation_seen entries) one ≡ nat_lt (length entries) most_numbers
    situation_fits_new =
        ap (λ (kept : Option SituationEntry). is_some kept || nat_lt (length (map situation_seen entries)) most_numbers) unknown
        ∙ ap (λ (n : ℕ). nat_lt n most_numbers) situations_long

    pub situation_counts_new : situation_counts (situation_kept (map situation_seen entries) one) one ≡ true
    situation_counts_new = ap (λ (kept : Option SituationEntry). situation_counts kept one) unknown
