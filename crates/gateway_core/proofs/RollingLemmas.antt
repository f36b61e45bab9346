-- The window after one moment more, and the entries that it leaves behind.
use Rattle.journey_model.specs.Schedules.{schedule_from}
use Rattle.std.proofs.Common.{◌≡◌, ◌∙◌, ◌<◌, ◌∷◌, ◌+◌, [], ℕ, add-one, ℤ, zero, suc, true, false, List, map, take, drop, ap, sym, subst, arith}
use Rattle.std.specs.Prelude.{int_lt, length, slice_index_or, filter}
use Rattle.std.specs.List.{AllByRecursion}
use Rattle.service_day.specs.Windows.{DayStarts, IsWindow}
use Rattle.service_day.specs.declared.moments.Instant.{Instant}
use Rattle.feed_index.specs.declared.entry.Entry.{Entry}
use Rattle.timetable.specs.Seen.{seen}
use Rattle.gateway_core.specs.Arrivals.{Arrival, admitted, first_after, first_day, is_within, moments_of, schedule_at, window_at, window_from}
use Rattle.gateway_core.specs.Deliveries.{schedule_in}
use Rattle.gateway_core.specs.Settings.{IsWindowIn}
use Rattle.gateway_core.specs.Standing.{JourneyEntry, Kept, KeepsJourneys, Stands, journey_seen}
use Rattle.gateway_core.specs.declared.keys.JourneyKey.{JourneyKey}
use Rattle.gateway_core.specs.declared.setting.Setting.{Setting}
use Rattle.gateway_core.proofs.StandingLemmas.{keeps_rolled}
use Rattle.gateway_core.proofs.WindowLemmas.{window_is}

-- the window of so many days from the next first day on
pub window_rolls : (setting : Setting) (moment first : ℤ) (days : ℕ) (window next : DayStarts) (moments : List ℤ)
    → days ≡ length window.starts → length window.starts ≡ length setting.window.starts → first ≡ first_after setting setting.keep moment window.first
    → IsWindow setting.zone first days next → window ≡ window_at setting moments → next ≡ window_at setting (moment ∷ moments)
window_rolls setting moment first days window next moments days_are same first_is is at =
    window_is setting.zone first days next is
    ∙ ap (λ (n : ℕ). window_from setting.zone first n) (days_are ∙ same)
    ∙ ap (λ (day : ℤ). window_from setting.zone day (length setting.window.starts))
    (first_is ∙ ap (λ (day : ℤ). first_after setting setting.keep moment day) (ap (λ (w : DayStarts). w.first) at))

-- what holds of the first entries holds of them as they are seen
before_seen : (first : ℤ) (entries : List (Entry JourneyKey Instant)) (n : ℕ)
    → AllByRecursion (λ one. int_lt one.key.day first ≡ true) (take n entries)
    → AllByRecursion (λ (e : JourneyEntry). int_lt e.key.0 first ≡ true) (take n (map journey_seen entries))
before_seen first [] zero h = tt
before_seen first [] (suc n) h = tt
before_seen first (one ∷ entries) zero h = tt
before_seen first (one ∷ entries) (suc n) h = (h.0, before_seen first entries n h.1)

after_seen : (first : ℤ) (entries : List (Entry JourneyKey Instant)) (n : ℕ)
    → ((other : Entry JourneyKey Instant) → n < length entries → int_lt (slice_index_or entries n other).key.day first ≡ false)
    → (d : JourneyEntry) → n < length (map journey_seen entries) → int_lt (slice_index_or (map journey_seen entries) n d).key.0 first ≡ false
after_seen first [] n h d lt = absurd (omega arith)
after_seen first (one ∷ entries) zero h d lt = h one (omega arith)
after_seen first (one ∷ entries) (suc n) h d lt = after_seen first entries n (λ other less. h other (omega arith)) d (omega arith)

-- what is left of what is kept
pub keeps_left : (kept : Kept) (moment : ℤ) (arrivals : List Arrival) (entries : List (Entry JourneyKey Instant)) (first : ℤ) (n : ℕ)
    → kept.journeys ≡ map journey_seen entries → first ≡ first_day kept.setting (moment ∷ moments_of arrivals) → Stands kept arrivals
    → AllByRecursion (λ one. int_lt one.key.day first ≡ true) (take n entries)
    → ((other : Entry JourneyKey Instant) → n < length entries → int_lt (slice_index_or entries n other).key.day first ≡ false)
    → KeepsJourneys (schedule_at kept.setting (moment ∷ moments_of arrivals)) (filter (is_within (window_at kept.setting (moment ∷ moments_of arrivals))) (admitted kept.setting arrivals)) (drop n kept.journeys)
keeps_left kept moment arrivals entries first n seen first_is h before after =
    keeps_rolled kept.setting moment arrivals kept.journeys n h.journeys_are h.judged
    (subst (λ (es : List JourneyEntry). AllByRecursion (λ (e : JourneyEntry). int_lt e.key.0 (first_day kept.setting (moment ∷ moments_of arrivals)) ≡ true) (take n es)) (sym seen)
    (subst (λ (day : ℤ). AllByRecursion (λ (e : JourneyEntry). int_lt e.key.0 day ≡ true) (take n (map journey_seen entries))) first_is (before_seen first entries n before)))
    (subst (λ (es : List JourneyEntry). (d : JourneyEntry) → n < length es → int_lt (slice_index_or es n d).key.0 (first_day kept.setting (moment ∷ moments_of arrivals)) ≡ false) (sym seen)
    (subst (λ (day : ℤ). (d : JourneyEntry) → n < length (map journey_seen entries) → int_lt (slice_index_or (map journey_seen entries) n d).key.0 day ≡ false) first_is (after_seen first entries n after)))

-- the first window is that of no moments
pub starts_as : (setting : Setting) (window : DayStarts) (first : ℤ) (days : ℕ) → first ≡ setting.window.first → days ≡ length setting.window.starts
    → IsWindow setting.zone first days window → window ≡ window_at setting []
starts_as setting window first days first_is days_are is =
    window_is setting.zone first days window is
    ∙ ap (λ (day : ℤ). window_from setting.zone day days) first_is
    ∙ ap (λ (n : ℕ). window_from setting.zone setting.window.first n) days_are

pub starts_in : (setting : Setting) → IsWindowIn setting.zone setting.window → schedule_in setting ≡ schedule_at setting []
starts_in setting own = λ i. schedule_from setting.table setting.zone (same i)
  where
    same : setting.window ≡ window_at setting []
    same = window_is setting.zone setting.window.first (length setting.window.starts) setting.window own

-- one entry more that goes
pub one_more_gone : (first : ℤ) (entries : List (Entry JourneyKey Instant)) (i : ℕ) → i < length entries
    → ((other : Entry JourneyKey Instant) → int_lt (slice_index_or entries i other).key.day first ≡ true)
    → AllByRecursion (λ one. int_lt one.key.day first ≡ true) (take i entries) → AllByRecursion (λ one. int_lt one.key.day first ≡ true) (take (i + 1) entries)
one_more_gone first entries i lt here h = rw add-one (at entries i lt here h)
  where
    at : (entries : List (Entry JourneyKey Instant)) (i : ℕ) → i < length entries
        → ((other : Entry JourneyKey Instant) → int_lt (slice_index_or entries i other).key.day first ≡ true)
        → AllByRecursion (λ one. int_lt one.key.day first ≡ true) (take i entries) → AllByRecursion (λ one. int_lt one.key.day first ≡ true) (take (suc i) entries)
    at [] i lt here h = absurd (omega arith)
    at (one ∷ entries) zero lt here h = (here one, tt)
    at (one ∷ entries) (suc i) lt here h = (h.0, at entries i (omega arith) here h.1)
