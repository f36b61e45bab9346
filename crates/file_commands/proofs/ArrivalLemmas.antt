-- What arrived of the deliveries so far, and the one day of the window that stays.
use Rattle.std.proofs.Common.{◌≡◌, ◌∙◌, ◌&&◌, ◌+◌, ◌<◌, ◌≤◌, ◌++◌, ◌∷◌, [], ℕ, zero, suc, ℤ, pos, Bool, true, false, cond, List, length, drop, get_or, map, Option, Some, None, Result, Ok, Err, refl, sym, ap, subst, inl, inr, arith, length-append}
use Rattle.std.proofs.lemmas.Bool.Decides.{nat_tests}
use Rattle.std.proofs.lemmas.Int.{ints}
use Rattle.std.proofs.lemmas.List.{drop_all, drop_more, get_or_append_left, get_or_at}
use Rattle.std.proofs.lemmas.List.FromFn.{length-map-range_with_len}
use Rattle.std.proofs.lemmas.Option.{none-some}
use Rattle.std.specs.Prelude.{◌+ℤ◌, ◌-ℤ◌, nat_lt, if◌then◌else◌, int_le, int_lt, slice_index_or, unsigned_abs}
use Rattle.std.specs.List.{range_with_len}
use Rattle.gw_base.proofs.AnswerLemmas.{unless_free}
use Rattle.gw_base.specs.Answers.{UnlessFree}
use Rattle.service_day.specs.Starts.{start}
use Rattle.journey_model.specs.declared.report.Report.{Report}
use Rattle.sample_maker.specs.Deliveries.{deliveries, delivery_count, delivery_text}
use Rattle.sample_maker.specs.Making.{Making, after_next, has_next, next_text}
use Rattle.sample_maker.specs.Pieces.{all_below}
use Rattle.gateway_core.specs.Arrivals.{Arrival, first_after, first_day, window_at}
use Rattle.gateway_core.specs.Standing.{Kept, Stands}
use Rattle.gateway_core.specs.declared.setting.Setting.{Setting}
use Rattle.sample_counts.specs.Counts.{HasOneDay, made_day}
use Rattle.file_commands.specs.Exits.{is_free}
use Rattle.file_commands.specs.Made.{HasMadeDay, made_at}
use Rattle.file_commands.specs.Samples.{ArrivesOf, GivesText, with_text}
use Rattle.file_commands.specs.Served.{Takes, TakesTexts}
use Rattle.file_commands.specs.declared.exit.Exit.{Exit}

-- ---- the window

first_stays : (setting : Setting) (moments : List ℤ) → setting.keep ≡ None → first_day setting moments ≡ setting.window.first
first_stays setting [] stays = refl
first_stays setting (moment ∷ earlier) stays =
    ap (λ (keep : Option ℕ). first_after setting keep moment (first_day setting earlier)) stays ∙ first_stays setting earlier stays

only_day : (first day : ℤ) → (int_le first day && int_lt day (first +ℤ pos 1)) ≡ true → day ≡ first
only_day first day h = grind (arith, ints)

-- the window has no other day, whenever what arrived
pub one_day : (setting : Setting) (moments : List ℤ) → HasMadeDay setting → HasOneDay (window_at setting moments)
one_day setting moments has day begins is =
    by (int_le first day && int_lt day (first +ℤ pos (length starts))) refl is
  where
    first : ℤ
    first = first_day setting moments

    starts : List ℤ
    starts = map (λ place. start setting.zone (first +ℤ pos place)) (range_with_len 0 (length setting.window.starts))

    by : (b : Bool) → (int_le first day && int_lt day (first +ℤ pos (length starts))) ≡ b
        → cond b (Some (slice_index_or starts (unsigned_abs (day -ℤ first)) (pos 0))) None ≡ Some begins → day ≡ made_day
    by true e found =
        let days : length starts ≡ 1 = length-map-range_with_len (λ place. start setting.zone (first +ℤ pos place)) 0 (length setting.window.starts) ∙ has.one in
        only_day first day (subst (λ (n : ℕ). (int_le first day && int_lt day (first +ℤ pos n)) ≡ true) days e)
        ∙ first_stays setting moments has.stays ∙ has.first
    by false e found = absurd (none-some begins found)

-- ---- the texts that are left

module _ {A : Type 0} (text : ℕ → A) where
  count : (n : ℕ) → length (all_below (λ i. text i ∷ []) n) ≡ n
  unfolding all_below
  count zero = refl
  count (suc n) =
      let more = length-append (all_below (λ i. text i ∷ []) n) (text n ∷ []) in
      let so_far = count n in
      omega arith

  at : (n k : ℕ) (d : A) → k < n → get_or (all_below (λ i. text i ∷ []) n) k d ≡ text k
  unfolding all_below
  at zero k d below = absurd (omega arith)
  at (suc n) k d below = by (nat_lt k n) refl (λ less. at n k d less)
    where
      by : (b : Bool) → nat_lt k n ≡ b → (k < n → get_or (all_below (λ i. text i ∷ []) n) k d ≡ text k)
          → get_or (all_below (λ i. text i ∷ []) n ++ text n ∷ []) k d ≡ text k
      by true e earlier =
          let less : k < n = grind (arith, nat_tests) in
          get_or_append_left (all_below (λ i. text i ∷ []) n) (text n ∷ []) d k (rw count less) ∙ earlier less
      by false e earlier =
          let same : k ≡ n = grind (arith, nat_tests) in
          get_or_at (all_below (λ i. text i ∷ []) n) (text n) [] d k (count n ∙ sym same) ∙ ap text (sym same)

  pub next_left : (n k : ℕ) → k < n → drop k (all_below (λ i. text i ∷ []) n) ≡ text k ∷ drop (k + 1) (all_below (λ i. text i ∷ []) n)
  next_left n k below =
      drop_more (all_below (λ i. text i ∷ []) n) k (text k) (rw count below)
      ∙ ap (λ (one : A). one ∷ drop (k + 1) (all_below (λ i. text i ∷ []) n)) (at n k (text k) below)

  pub none_left : (n k : ℕ) → n ≤ k → drop k (all_below (λ i. text i ∷ []) n) ≡ []
  none_left n k past = drop_all k (all_below (λ i. text i ∷ []) n) (rw count past)

-- a sample gave this text, which is the first of those that were left, and the others are left
pub record Gave (seed trips stops : ℕ) (making now : Making) (text : List ℕ) : Type 0 where
  pub left : drop making.given (deliveries seed trips stops) ≡ text ∷ drop now.given (deliveries seed trips stops)
  pub seed_is : now.seed ≡ seed
  pub trips_are : now.trips ≡ trips
  pub stops_are : now.stops ≡ stops

pub gave : (seed trips stops : ℕ) (making now : Making) (text : List ℕ) → making.seed ≡ seed → making.trips ≡ trips → making.stops ≡ stops
    → next_text making ≡ Some text → now ≡ after_next making → Gave seed trips stops making now text
gave seed trips stops making now text seed_is trips_are stops_are is after = by (has_next making) refl is after
  where
    by : (b : Bool) → has_next making ≡ b → (if b then Some (delivery_text making.seed making.trips making.stops making.given) else None) ≡ Some text
        → now ≡ (if b then record making { given = making.given + 1 } else making) → Gave seed trips stops making now text
    by true e is after =
        let below : making.given < delivery_count trips = grind (arith, nat_tests) in
        let here : delivery_text making.seed making.trips making.stops making.given ≡ text = cc in
        let same : delivery_text seed trips stops making.given ≡ text = rw (← seed_is, ← trips_are, ← stops_are) here in
        record {
          left = next_left (delivery_text seed trips stops) (delivery_count trips) making.given below
              ∙ ap (λ (one : List ℕ). one ∷ drop (making.given + 1) (deliveries seed trips stops)) same
              ∙ ap (λ (one : Making). text ∷ drop one.given (deliveries seed trips stops)) (sym after);
          seed_is = ap (λ (one : Making). one.seed) after ∙ seed_is;
          trips_are = ap (λ (one : Making). one.trips) after ∙ trips_are;
          stops_are = ap (λ (one : Making). one.stops) after ∙ stops_are;
        }
    by false e is after = absurd (none-some text is)

-- it gives no more where no text is left
pub gave_all : (seed trips stops : ℕ) (making : Making) → making.trips ≡ trips → next_text making ≡ None → drop making.given (deliveries seed trips stops) ≡ []
gave_all seed trips stops making trips_are is = by (has_next making) refl is
  where
    by : (b : Bool) → has_next making ≡ b → (if b then Some (delivery_text making.seed making.trips making.stops making.given) else None) ≡ None
        → drop making.given (deliveries seed trips stops) ≡ []
    by true e is = absurd (none-some (delivery_text making.seed making.trips making.stops making.given) (sym is))
    by false e is = none_left (delivery_text seed trips stops) (delivery_count trips) making.given (grind (arith, nat_tests))

-- ---- what arrived

-- what arrived so far stands, and what the texts left say after it is what all texts say
pub record HasTaken (setting : Setting) (texts rest : List (List ℕ)) (now : Kept) : Type 0 where
  pub arrivals : List Arrival
  pub stands : Stands now arrivals
  pub back : (answer : Result (List Arrival) Exit) → ArrivesOf setting rest arrivals answer → ArrivesOf setting texts [] answer

-- the next text was taken
pub goes_on : (setting own : Setting) (texts rest left : List (List ℕ)) (text : List ℕ) (before now : Kept) (report : Report) → own ≡ setting → rest ≡ text ∷ left
    → HasTaken setting texts rest before
    → ((arrivals : List Arrival) → Stands before arrivals → Takes (GivesText own text arrivals) made_at arrivals now (Ok report))
    → HasTaken setting texts left now
goes_on setting own texts rest left text before now report stays same held took = record {
  arrivals = with_text held.arrivals (got.0, report);
  stands = got.2;
  back = by;
}
  where
    got : Takes (GivesText own text held.arrivals) made_at held.arrivals now (Ok report)
    got = took held.arrivals held.stands

    gives : GivesText setting text held.arrivals (Ok (got.0, report))
    gives = subst (λ (s : Setting). GivesText s text held.arrivals (Ok (got.0, report))) stays got.1

    by : (answer : Result (List Arrival) Exit) → ArrivesOf setting left (with_text held.arrivals (got.0, report)) answer → ArrivesOf setting texts [] answer
    by (Ok found) h = held.back (Ok found) (rw same ((got.0, report), gives, h))
    by (Err end) h = held.back (Err end) (rw same (inr ((got.0, report), gives, h)))

-- an end at the next text is the end of all
pub ends_with : (A : Type 0) (setting own : Setting) (texts rest left : List (List ℕ)) (text : List ℕ) (before now : Kept) (end : Exit) → own ≡ setting → rest ≡ text ∷ left
    → HasTaken setting texts rest before
    → ((arrivals : List Arrival) → Stands before arrivals → UnlessFree {T = Report} is_free (Err end) (Takes (GivesText own text arrivals) made_at arrivals now))
    → UnlessFree {T = A} is_free (Err end) (TakesTexts (ArrivesOf setting texts []) now)
ends_with A setting own texts rest left text before now end stays same held took =
    unless_free is_free end (Takes (GivesText own text held.arrivals) made_at held.arrivals now) (TakesTexts {A = A} (ArrivesOf setting texts []) now)
    (λ h. held.back (Err end) (rw same (inl (subst (λ (s : Setting). GivesText s text held.arrivals (Err end)) stays h)))) (took held.arrivals held.stands)

-- no text is left
pub all_taken : {A : Type 0} (setting : Setting) (texts rest : List (List ℕ)) (now : Kept) (done : A) → rest ≡ [] → HasTaken setting texts rest now
    → TakesTexts (ArrivesOf setting texts []) now (Ok done)
all_taken setting texts rest now done none held = (held.arrivals, held.back (Ok held.arrivals) (rw none refl), held.stands)
