-- What a body changes of a gateway, and what there has to be room for before anything changes.
use Rattle.std.specs.Prelude.{◌≡◌, ◌≤◌, ℕ, List, drop, length, map, Result, Ok, Err, ⊤}
use Rattle.std.specs.Cmp.Lexicographic.{slice_cmp}
use Rattle.std.specs.Ordering.{nat_cmp}
use Rattle.feed_index.specs.Entries as index
use Rattle.feed_index.specs.Entries.{put_all, total}
use Rattle.feed_index.specs.declared.entry.Entry.{Entry}
use Rattle.service_day.specs.Windows.{DayStarts}
use Rattle.service_day.specs.declared.moments.Instant.{Instant}
use Rattle.gateway_core.specs.JourneySteps.{key_order}
use Rattle.gateway_core.specs.Settings.{IsWindowIn}
use Rattle.gateway_core.specs.Standing.{Kept, journey_seen, situation_seen}
use Rattle.gateway_core.specs.declared.accepted.Accepted.{Accepted}
use Rattle.gateway_core.specs.declared.keys.Edition.{Edition}
use Rattle.gateway_core.specs.declared.keys.JourneyKey.{JourneyKey}
use Rattle.gateway_core.specs.declared.setting.Setting.{Setting}
use Rattle.gateway_core.specs.declared.state.Change.{Change}
use Rattle.gateway_core.specs.declared.state.News.{News}
use Rattle.gateway_core.specs.declared.state.News.TheVariants.{Journeys, Situations, Text}
use Rattle.gateway_core.specs.declared.state.Prepared.{Prepared}
use Rattle.gateway_core.specs.declared.state.State.{State}

-- a gateway of this setting that keeps this, as contracts see it
abbrev pub kept_of : Setting → State → Kept
kept_of setting state = record {
  setting = setting;
  window = state.window;
  journeys = map journey_seen state.journeys.entries;
  situations = map situation_seen state.situations.entries;
  text = state.text;
  dead_journeys = state.journeys.dead;
  dead_situations = state.situations.dead;
}

-- a window is one of a setting: each of its days starts by the zone's clock, and it has as many days
abbrev pub IsWindowOf : Setting → DayStarts → Type 0
IsWindowOf setting window =
    IsWindowIn setting.zone window × (length window.starts ≡ length setting.window.starts)

-- ---- what changes

-- the entries of journeys after news, those of situations, and the SIRI text
abbrev pub journeys_after : News → List (Entry JourneyKey Instant) → List (Entry JourneyKey Instant)
journeys_after (Journeys batch) entries = put_all key_order entries batch.entries
journeys_after (Situations batch) entries = entries
journeys_after (Text text) entries = entries

abbrev pub situations_after : News → List (Entry (List ℕ) Edition) → List (Entry (List ℕ) Edition)
situations_after (Journeys batch) entries = entries
situations_after (Situations batch) entries = put_all (slice_cmp nat_cmp) entries batch.entries
situations_after (Text text) entries = entries

abbrev pub text_after : News → List ℕ → List ℕ
text_after (Journeys batch) before = before
text_after (Situations batch) before = before
text_after (Text text) before = text

-- what is kept after a change: the window is the new one, and the news are put once the expired journeys are gone
pub record IsChanged (old : State) (change : Change) (now : State) : Type 0 where
  pub window_is : now.window ≡ change.window
  pub journeys_are : now.journeys.entries
      ≡ journeys_after change.news (drop change.expired old.journeys.entries)
  pub situations_are : now.situations.entries ≡ situations_after change.news old.situations.entries
  pub text_is : now.text ≡ text_after change.news old.text

-- all that is kept is as it was, whatever room there is
pub record IsSame (old now : State) : Type 0 where
  pub window_is : now.window ≡ old.window
  pub journeys_are : now.journeys.entries ≡ old.journeys.entries
  pub dead_journeys_are : now.journeys.dead ≡ old.journeys.dead
  pub situations_are : now.situations.entries ≡ old.situations.entries
  pub dead_situations_are : now.situations.dead ≡ old.situations.dead
  pub text_is : now.text ≡ old.text

-- ---- that there is room

-- an index has room for a batch
abbrev pub Fits : {K R : Type 0} → index.Kept K R → index.Gathered K R → Type 0
Fits kept batch = (length batch.entries ≤ kept.spare_entries) × (total batch.entries ≤ kept.spare_bytes)

-- and what is kept has room for news
abbrev pub HasRoom : State → News → Type 0
HasRoom state (Journeys batch) = Fits state.journeys batch
HasRoom state (Situations batch) = Fits state.situations batch
HasRoom state (Text text) = ⊤

-- a change can be made: the expired journeys are there, and there is room for the news
pub record CanBeMade (state : State) (change : Change) : Type 0 where
  pub within : change.expired ≤ length state.journeys.entries
  pub room : HasRoom state change.news

-- ---- what is prepared

-- what is answered to a body that was prepared, over the gateway that its change makes; and to one that was refused
abbrev pub WillAnswer : {E : Type 0} → Setting → State → (Result Accepted E → Kept → Type 0) → Result Prepared E
    → Type 0
WillAnswer setting state Answer (Ok prepared) =
    (now : State) → IsChanged state prepared.change now → Answer (Ok prepared.accepted) (kept_of setting now)
WillAnswer setting state Answer (Err why) = (now : Kept) → Answer (Err why) now

-- the change of a body that was prepared can be made, and its window is one of the setting
pub record IsReady (setting : Setting) (state : State) (prepared : Prepared) : Type 0 where
  pub own : IsWindowOf setting prepared.change.window
  pub fits : CanBeMade state prepared.change
