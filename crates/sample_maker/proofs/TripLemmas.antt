-- Trips draw one after the other.
use Rattle.std.proofs.Common.{◌≡◌, ◌∙◌, ℕ, zero, suc, ◌+◌, ◌-◌, ◌*◌, ◌<◌, min, refl, sym, ap, arith, add-one, add-suc, add-zero, pos, nat_lt, true, ◌/◌, List, Some}
use Rattle.std.proofs.lemmas.Bool.Decides.{nat_tests}
use Rattle.sample_maker.specs.Deliveries.{delivery_count, delivery_text, journeys, text_of_journeys}
use Rattle.sample_maker.specs.Making.{IsHeld, next_text}
use Rattle.sample_maker.specs.Draws.{after_stop, after_stops, after_trips}

-- one stop more
pub after_stops-next : (held n : ℕ) → after_stops held (n + 1) ≡ after_stop (after_stops held n)
unfolding after_stops
after_stops-next held n = rw add-one refl

pub after_stops-0 : (held : ℕ) → after_stops held 0 ≡ record { held = held; delay = pos 0 }
unfolding after_stops
after_stops-0 held = refl

-- one trip more
pub after_trips-next : (stops held n : ℕ) → after_trips stops held (n + 1) ≡ (after_stops (after_trips stops held n) stops).held
unfolding after_trips
after_trips-next stops held n = rw add-one refl

pub after_trips-0 : (stops held : ℕ) → after_trips stops held 0 ≡ held
unfolding after_trips
after_trips-0 stops held = refl

-- trips after others
pub after_trips-add : (stops held n m : ℕ) → after_trips stops (after_trips stops held n) m ≡ after_trips stops held (n + m)
unfolding after_trips
after_trips-add stops held n zero = rw add-zero refl
after_trips-add stops held n (suc m) = rw add-suc (ap (λ (x : ℕ). (after_stops x stops).held) (after_trips-add stops held n m))

-- before the first delivery
pub none_yet : (seed trips stops : ℕ) → seed ≡ after_trips stops seed (min trips (100 * 0))
none_yet seed trips stops =
    let none : min trips (100 * 0) ≡ 0 = omega arith in
    sym (ap (λ (n : ℕ). after_trips stops seed n) none ∙ after_trips-0 stops seed)

-- one delivery more
pub held_next : (seed trips stops given held count after : ℕ) → IsHeld seed trips stops given held → 100 * given < trips
    → count ≡ min (trips - 100 * given) 100 → after ≡ after_trips stops held count → IsHeld seed trips stops (given + 1) after
held_next seed trips stops given held count after kept left counted drawn =
    let all : 100 * given + count ≡ min trips (100 * (given + 1)) = omega arith in
    let here : min trips (100 * given) ≡ 100 * given = omega arith in
    let so_far = rw here at kept.held_is in
    record {
      sample = kept.sample;
      given_in = omega arith;
      held_is = drawn ∙ rw so_far (after_trips-add stops seed (100 * given) count ∙ ap (λ (n : ℕ). after_trips stops seed n) all);
    }

-- a delivery is left where trips are
left_over : (trips given : ℕ) → 100 * given < trips → nat_lt given (delivery_count trips) ≡ true
left_over trips given left =
    let below : given < (trips + 99) / 100 = omega arith in
    grind (arith, nat_tests)

-- its text
pub text_next : (seed trips stops given held count : ℕ) (text : List ℕ) → IsHeld seed trips stops given held → 100 * given < trips
    → count ≡ min (trips - 100 * given) 100 → text ≡ text_of_journeys (journeys stops (100 * given) held count)
    → Some text ≡ next_text (record { seed = seed; trips = trips; stops = stops; given = given })
unfolding delivery_text
text_next seed trips stops given held count text kept left counted is =
    let here : min trips (100 * given) ≡ 100 * given = omega arith in
    let so_far = rw here at kept.held_is in
    rw (left_over trips given left) (ap (λ (t : List ℕ). Some t) (rw (so_far, counted) at is))
