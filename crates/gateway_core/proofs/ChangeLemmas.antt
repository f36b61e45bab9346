-- What a change makes of what is kept, as it is seen; and what is answered to a body that was prepared.
use Rattle.std.proofs.Common.{◌≡◌, List, Result, Ok, Err, map, drop, refl, subst, sym}
use Rattle.gateway_core.specs.Arrivals.{Arrival}
use Rattle.gateway_core.specs.Changes.{IsChanged, IsSame, WillAnswer, journeys_after, kept_of, situations_after, text_after}
use Rattle.gateway_core.specs.Standing.{Kept, Stands, journey_seen, situation_seen}
use Rattle.gateway_core.specs.declared.accepted.Accepted.{Accepted}
use Rattle.gateway_core.specs.declared.setting.Setting.{Setting}
use Rattle.gateway_core.specs.declared.state.Change.{Change}
use Rattle.gateway_core.specs.declared.state.Prepared.{Prepared}
use Rattle.gateway_core.specs.declared.state.State.{State}

-- what is as it was is seen as it was
pub same_kept : (setting : Setting) (old now : State) → IsSame old now → kept_of setting now ≡ kept_of setting old
same_kept setting old now h = λ i. record {
  setting = setting;
  window = h.window_is i;
  journeys = map journey_seen (h.journeys_are i);
  situations = map situation_seen (h.situations_are i);
  text = h.text_is i;
  dead_journeys = h.dead_journeys_are i;
  dead_situations = h.dead_situations_are i;
}

-- what is answered over a gateway that is seen so, once a change is made; and to a body that was refused
module _ {E : Type 0} (kept : Kept) (setting : Setting) (old : State) (seen_is : kept_of setting old ≡ kept) (arrivals : List Arrival) (Answer : Kept → Result Accepted E → Kept → Type 0) where
  pub committed : (prepared : Prepared) (state now : State) → Stands kept arrivals
      → (Stands (kept_of setting old) arrivals → WillAnswer setting state (Answer (kept_of setting old)) (Ok prepared))
      → IsChanged state prepared.change now → Answer kept (Ok prepared.accepted) (kept_of setting now)
  committed prepared state now h answers changed =
      subst (λ (k : Kept). Answer k (Ok prepared.accepted) (kept_of setting now)) seen_is (answers (subst (λ (k : Kept). Stands k arrivals) (sym seen_is) h) now changed)

  pub not_committed : (why : E) (state : State) (now : Kept) → Stands kept arrivals
      → (Stands (kept_of setting old) arrivals → WillAnswer setting state (Answer (kept_of setting old)) (Err why))
      → Answer kept (Err why) now
  not_committed why state now h answers =
      subst (λ (k : Kept). Answer k (Err why) now) seen_is (answers (subst (λ (k : Kept). Stands k arrivals) (sym seen_is) h) now)

-- a state that a change makes
abbrev pub changed_state : State → Change → State
changed_state state change = record {
  window = change.window;
  journeys = record { entries = journeys_after change.news (drop change.expired state.journeys.entries); spare_entries = 0; spare_bytes = 0; dead = 0 };
  situations = record { entries = situations_after change.news state.situations.entries; spare_entries = 0; spare_bytes = 0; dead = 0 };
  text = text_after change.news state.text;
}

pub is_changed : (state : State) (change : Change) → IsChanged state change (changed_state state change)
is_changed state change = record { window_is = refl; journeys_are = refl; situations_are = refl; text_is = refl }
