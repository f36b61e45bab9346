-- How many bytes are served, and that 64 bits count them: at most 5,000 alerts of at most 65,536 bytes stand after the entities of journeys.
use Rattle.std.proofs.Common.{◌≡◌, ◌∙◌, ◌++◌, ◌∷◌, ◌||◌, ◌+◌, ◌*◌, ◌<◌, ◌≤◌, [], ℕ, ℤ, suc, get_or, Bool, true, false, cond, List, map, ap, sym, refl, arith, length-append}
use Rattle.std.proofs.lemmas.List.Folds.{list_any-append}
use Rattle.std.proofs.lemmas.List.Sums.{sum_by-cons}
use Rattle.std.proofs.lemmas.Option.{get_or_from_slice_get, slice_get_within}
use Rattle.std.specs.Prelude.{Some, filter, length, nat_lt, slice_get, take}
use Rattle.std.specs.Cmp.Lexicographic.{slice_cmp}
use Rattle.std.specs.List.{AllByRecursion, flat_map, list_any}
use Rattle.std.specs.Ordering.{is_lt, nat_cmp}
use Rattle.std.specs.declared.cmp.Ordering.{Ordering}
use Rattle.feed_index.proofs.WriteLemmas.{chosen-more}
use Rattle.feed_index.specs.Chosen.{chosen}
use Rattle.feed_index.specs.Entries.{total}
use Rattle.feed_index.specs.declared.entry.Entry.{Entry}
use Rattle.feed_writing.specs.Written.{feed_entity, header, written}
use Rattle.journey_model.specs.declared.situation.Situation.{Situation}
use Rattle.service_day.specs.declared.moments.Instant.{Instant}
use Rattle.timetable.specs.Seen.{seen}
use Rattle.timetable.specs.Table.{Table}
use Rattle.alert_map.specs.Alerts.{alert_message}
use Rattle.latest_store.specs.Latest.{has_number, is_newer}
use Rattle.wire_fields.specs.Spelling.{varint}
use Rattle.wire_fields.proofs.Varints.{length-varint_10}
use Rattle.gateway_core.specs.Alerts.{alert_limit}
use Rattle.gateway_core.specs.Arrivals.{Arrival, admit, admitted_situations, always, firsts, has_room, is_same_number, situations_of, most_numbers}
use Rattle.gateway_core.specs.Feeds.{has_lesser_number}
use Rattle.gateway_core.specs.Standing.{IsAlertServed, Kept, SituationEntry, Stands, journey_seen, served, situation_entry}
use Rattle.gateway_core.specs.Winners.{IsKeyed}
use Rattle.gateway_core.specs.declared.keys.Edition.{Edition}
use Rattle.gateway_core.specs.declared.keys.JourneyKey.{JourneyKey}
use Rattle.gateway_core.proofs.LatestLemmas.{any_firsts, distinct_firsts, key_is, latest_count}
use Rattle.gateway_core.proofs.RecordingLemmas.{at_most}
use Rattle.gateway_core.proofs.RollLemmas.{filter_all}
use Rattle.gateway_core.proofs.StandingLemmas.{numbers_by_key}
use Rattle.gateway_core.proofs.WinnerLemmas.{numbers}

-- ---- no more keys are admitted than the limit

module _ {A Q : Type 0} (cmp : Q → Q → Ordering) (key_of : A → Q) (is_its : Q → A → Bool) (is_later : A → A → Bool)
    (keyed : IsKeyed cmp key_of is_its is_later) (comes_before : A → A → Bool)
    (by_key : (a b : A) → comes_before a b ≡ is_lt (cmp (key_of a) (key_of b))) (counts : A → Bool) (all_count : (xs : List A) → AllByRecursion (λ a. counts a ≡ true) xs) (limit : ℕ) where
  abbrev alike : A → A → Bool
  alike a b = is_its (key_of a) b

  keys : (q : Q) (before : List A) (one : A) → list_any (is_its q) (firsts alike (before ++ one ∷ [])) ≡ (list_any (is_its q) before || (is_its q one || false))
  keys q before one =
      any_firsts cmp key_of is_its is_later keyed comes_before by_key q (before ++ one ∷ []) ∙ list_any-append (is_its q) before (one ∷ [])

  one_more : (before : List A) (one : A) → length (firsts alike before) ≤ limit → has_room alike counts limit before one ≡ true → length (firsts alike (before ++ one ∷ [])) ≤ limit
  one_more before one few room =
      by (list_any (is_its (key_of one)) before) refl
      (ap (λ (xs : List A). list_any (is_its (key_of one)) before || nat_lt (length (firsts alike xs)) limit) (sym (filter_all counts before (all_count before))) ∙ room)
    where
      of_one : (q : Q) (b : Bool) → is_its q one ≡ b → (list_any (is_its q) before || (b || false)) ≡ true → list_any (is_its (key_of one)) before ≡ true → list_any (is_its q) (firsts alike before) ≡ true
      of_one q true its e there =
          any_firsts cmp key_of is_its is_later keyed comes_before by_key q before
          ∙ ap (λ (key : Q). list_any (is_its key) before) (key_is cmp key_of is_its is_later keyed comes_before by_key q one its) ∙ there
      of_one q false its e there = any_firsts cmp key_of is_its is_later keyed comes_before by_key q before ∙ left (list_any (is_its q) before) e
        where
          left : (a : Bool) → (a || false) ≡ true → a ≡ true
          left true f = refl
          left false f = f

      of_new : (q : Q) (b : Bool) → is_its q one ≡ b → (list_any (is_its q) before || (b || false)) ≡ true → (b || list_any (is_its q) (firsts alike before)) ≡ true
      of_new q true its e = refl
      of_new q false its e = any_firsts cmp key_of is_its is_later keyed comes_before by_key q before ∙ left (list_any (is_its q) before) e
        where
          left : (a : Bool) → (a || false) ≡ true → a ≡ true
          left true f = refl
          left false f = f

      turned : (q : Q) → list_any (is_its q) (firsts alike (before ++ one ∷ [])) ≡ true → (list_any (is_its q) before || (is_its q one || false)) ≡ true
      turned q e = sym (keys q before one) ∙ e

      below_limit : (n : ℕ) → nat_lt n limit ≡ true → n < limit
      below_limit n e = grind arith

      by : (b : Bool) → list_any (is_its (key_of one)) before ≡ b → (b || nat_lt (length (firsts alike before)) limit) ≡ true → length (firsts alike (before ++ one ∷ [])) ≤ limit
      by true there e =
          let most = at_most cmp key_of is_its is_later keyed comes_before by_key (firsts alike (before ++ one ∷ [])) (firsts alike before)
          (distinct_firsts cmp key_of is_its is_later keyed comes_before by_key (before ++ one ∷ [])) (λ q f. of_one q (is_its q one) refl (turned q f) there) in
          omega arith
      by false there e =
          let most = at_most cmp key_of is_its is_later keyed comes_before by_key (firsts alike (before ++ one ∷ [])) (one ∷ firsts alike before)
          (distinct_firsts cmp key_of is_its is_later keyed comes_before by_key (before ++ one ∷ [])) (λ q f. of_new q (is_its q one) refl (turned q f)) in
          let less = below_limit (length (firsts alike before)) e in
          omega arith

  pub few_admitted : (before xs : List A) → length (firsts alike before) ≤ limit → length (firsts alike (admit alike counts limit before xs)) ≤ limit
  few_admitted before [] few = few
  few_admitted before (one ∷ others) few =
      by (has_room alike counts limit before one) refl (λ room. few_admitted (before ++ one ∷ []) others (one_more before one few room)) (few_admitted before others few)
    where
      by : (b : Bool) → has_room alike counts limit before one ≡ b
          → (has_room alike counts limit before one ≡ true → length (firsts alike (admit alike counts limit (before ++ one ∷ []) others)) ≤ limit)
          → length (firsts alike (admit alike counts limit before others)) ≤ limit
          → length (firsts alike (admit alike counts limit (cond b (before ++ one ∷ []) before) others)) ≤ limit
      by true room more same = more room
      by false room more same = same

few_numbers : (arrivals : List Arrival) → length (firsts is_same_number (admitted_situations arrivals)) ≤ most_numbers
few_numbers [] = omega arith
few_numbers (one ∷ earlier) =
    few_admitted (slice_cmp nat_cmp) (λ (one : Situation). one.number) has_number is_newer numbers has_lesser_number numbers_by_key always each most_numbers
    (admitted_situations earlier) (situations_of one.gives) (few_numbers earlier)
  where
    each : (all : List Situation) → AllByRecursion (λ (one : Situation). always one ≡ true) all
    each [] = tt
    each (one ∷ others) = (refl, each others)

-- ---- the alerts are short

module _ (table : Table) where
  alert_short : (one : Situation) → IsAlertServed table one → length (written (alert_message table one)) ≤ 65556
  alert_short one good =
      let body = feed_entity (alert_message table one) in
      let short : length (feed_entity (alert_message table one)) ≤ alert_limit = good.short in
      let tag = length-varint_10 18 (omega arith) in
      let size = length-varint_10 (length (feed_entity (alert_message table one))) (omega arith) in
      let whole = length-append (varint 18 ++ varint (length (feed_entity (alert_message table one)))) (feed_entity (alert_message table one)) in
      let front = length-append (varint 18) (varint (length (feed_entity (alert_message table one)))) in
      omega arith

  alerts_short : (all : List Situation) → AllByRecursion (IsAlertServed table) all
      → length (flat_map (λ one. one.bytes) (filter (λ one. one.value.1) (map (situation_entry table) all))) ≤ length all * 65556
  alerts_short [] good = omega arith
  alerts_short (one ∷ all) good = by one.served (alerts_short all good.1)
    where
      by : (b : Bool) → length (flat_map (λ (one : SituationEntry). one.bytes) (filter (λ (one : SituationEntry). one.value.1) (map (situation_entry table) all))) ≤ length all * 65556
          → length (flat_map (λ (each : SituationEntry). each.bytes)
          (cond b (situation_entry table one ∷ filter (λ (each : SituationEntry). each.value.1) (map (situation_entry table) all)) (filter (λ (each : SituationEntry). each.value.1) (map (situation_entry table) all))))
          ≤ suc (length all) * 65556
      by true h =
          let first = alert_short one good.0 in
          let both = length-append (written (alert_message table one)) (flat_map (λ (one : SituationEntry). one.bytes) (filter (λ (one : SituationEntry). one.value.1) (map (situation_entry table) all))) in
          omega arith
      by false h = omega arith

-- so a gateway serves at most so many bytes of alerts
pub alerts_fit : (kept : Kept) (arrivals : List Arrival) → Stands kept arrivals → length (flat_map (λ one. one.bytes) (filter (λ one. one.value.1) kept.situations)) ≤ 327780000
alerts_fit kept arrivals h =
    let short = alerts_short (seen kept.setting.table) h.situations_are.ordered h.situations_are.all_good in
    let same = ap (λ (entries : List SituationEntry). length (flat_map (λ (one : SituationEntry). one.bytes) (filter (λ (one : SituationEntry). one.value.1) entries))) h.situations_are.entries_are in
    let counted = latest_count (slice_cmp nat_cmp) (λ (one : Situation). one.number) has_number is_newer numbers has_lesser_number numbers_by_key (admitted_situations arrivals) h.situations_are.ordered h.situations_are.are_latest in
    let few = few_numbers arrivals in
    omega arith

-- ---- the length of what is served

pub journeys_length : (entries : List (Entry JourneyKey Instant)) → length (flat_map (λ one. one.bytes) (map journey_seen entries)) ≡ total entries
journeys_length [] = refl
journeys_length (one ∷ entries) =
    length-append one.bytes (flat_map (λ one. one.bytes) (map journey_seen entries)) ∙ ap (λ (n : ℕ). length one.bytes + n) (journeys_length entries)
    ∙ sym (sum_by-cons (λ (each : Entry JourneyKey Instant). length each.bytes) one entries)

pub served_length : (at : ℤ) (kept : Kept)
    → length (served at kept) ≡ length (header at) + length (flat_map (λ one. one.bytes) kept.journeys) + length (flat_map (λ one. one.bytes) (filter (λ one. one.value.1) kept.situations))
served_length at kept =
    length-append (header at ++ flat_map (λ one. one.bytes) kept.journeys) (flat_map (λ one. one.bytes) (filter (λ one. one.value.1) kept.situations))
    ∙ ap (λ (n : ℕ). n + length (flat_map (λ (one : SituationEntry). one.bytes) (filter (λ (one : SituationEntry). one.value.1) kept.situations))) (length-append (header at) (flat_map (λ one. one.bytes) kept.journeys))

-- the alerts so far, and one entry more
pub one_counted : (entries : List (Entry (List ℕ) Edition)) (i : ℕ) (one : Entry (List ℕ) Edition) → slice_get entries i ≡ Some one
    → length (chosen (λ value. value.served) (take (i + 1) entries)) ≡ length (chosen (λ value. value.served) (take i entries)) + (cond one.value.served (length one.bytes) 0)
one_counted entries i one found =
    ap (λ (bytes : List ℕ). length bytes) (chosen-more (λ (value : Edition). value.served) entries i one (slice_get_within entries i one found))
    ∙ length-append (chosen (λ (value : Edition). value.served) (take i entries)) (cond (get_or entries i one).value.served (get_or entries i one).bytes [])
    ∙ ap (λ (each : Entry (List ℕ) Edition). length (chosen (λ (value : Edition). value.served) (take i entries)) + length (cond each.value.served each.bytes [])) (get_or_from_slice_get entries i one one found)
    ∙ ap (λ (n : ℕ). length (chosen (λ (value : Edition). value.served) (take i entries)) + n) (by one.value.served)
  where
    by : (b : Bool) → length (cond b one.bytes []) ≡ cond b (length one.bytes) 0
    by true = refl
    by false = refl
