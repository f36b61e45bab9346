-- Steps of the work on a sample, by their answers.
use Rattle.std.proofs.Common.{◌≡◌, ◌≤◌, ◌∷◌, [], ℕ, ℤ, codes, List, length, None, Result, Ok, Err, sym, ap, subst, inl, inr}
use Rattle.std.specs.Prelude.{sum_by}
use Rattle.gw_base.proofs.AnswerLemmas.{unless_free}
use Rattle.gw_base.specs.Answers.{UnlessFree}
use Rattle.gw_base.specs.Steps.{Then}
use Rattle.gw_base.specs.declared.messages.Entity.{Entity}
use Rattle.gw_base.specs.declared.messages.Feed.{Feed}
use Rattle.feed_reading.specs.Faults.{HasFault, IsTold}
use Rattle.feed_reading.specs.Tables.{full_dataset}
use Rattle.feed_reading.specs.declared.fault.FeedFault.{FeedFault}
use Rattle.feed_reading.specs.declared.fault.FeedFault.TheVariants as faults
use Rattle.journey_model.specs.Schedules.{Schedule}
use Rattle.journey_model.specs.declared.report.Report.{Report}
use Rattle.sample_counts.specs.Counts.{counts_of, made_day, updates_of}
use Rattle.sample_counts.specs.declared.counts.SampleCounts.{SampleCounts}
use Rattle.gateway_core.specs.Arrivals.{Arrival, moments_of, schedule_at}
use Rattle.gateway_core.specs.FeedTexts.{IsFeed}
use Rattle.gateway_core.specs.Feeds.{IsFeedOf}
use Rattle.gateway_core.specs.Standing.{Kept}
use Rattle.gateway_core.specs.declared.setting.Setting.{Setting}
use Rattle.file_commands.specs.Bodies.{feed_end}
use Rattle.file_commands.specs.Exits.{is_free}
use Rattle.command_words.specs.Words.{by_rule}
use Rattle.file_commands.specs.Made.{HasMadeDay, made, made_at, made_files, made_scope, zone_rule}
use Rattle.file_commands.specs.Samples.{ArrivesOf, GivesText, IsCounted, IsCountsOf, IsMadeSetting, from_memory}
use Rattle.file_commands.specs.Served.{Takes}
use Rattle.file_commands.specs.Work.{Directory, GivesFile, IsFeedIn, IsSettingOf}
use Rattle.file_commands.specs.declared.exit.Exit.{Exit}
use Rattle.file_commands.specs.declared.exit.Exit.TheVariants.{Failed, Memory, Missing, Refused}
use Rattle.file_commands.proofs.UpdateLemmas.{no_more_updates}

-- ---- files in memory

-- what an end tells stays told
pub in_memory : {A : Type 0} (P : Result A Exit → Type 0) (end : Exit) → UnlessFree is_free (Err end) P → UnlessFree is_free (Err (from_memory end)) P
in_memory P (Refused text) h = h
in_memory P (Missing text) h = h
in_memory P Failed h = tt
in_memory P Memory h = tt

-- what a file in memory gives that has a delivery's text
pub text_given : (setting : Setting) (text : List ℕ) (files : Directory) (at : ℤ) (arrivals : List Arrival) (now : Kept) (answer : Result Report Exit) → files ≡ (made, text) ∷ [] → at ≡ made_at
    → UnlessFree is_free answer (Takes (GivesFile setting at (codes "--et") made files arrivals) at arrivals now) → UnlessFree is_free answer (Takes (GivesText setting text arrivals) made_at arrivals now)
text_given setting text files at arrivals now answer same then told =
    subst (λ (moment : ℤ). UnlessFree is_free answer (Takes (GivesFile setting moment (codes "--et") made ((made, text) ∷ []) arrivals) moment arrivals now)) then
    (subst (λ (all : Directory). UnlessFree is_free answer (Takes (GivesFile setting at (codes "--et") made all arrivals) at arrivals now)) same told)

-- what is worked over in a folder of that name, and a zone of that rule, is what a sample is worked over
pub made_of : (trips stops : ℕ) (gtfs rule : List ℕ) (files : Directory) (answer : Result Setting Exit) → gtfs ≡ made → rule ≡ zone_rule → files ≡ made_files trips stops
    → UnlessFree is_free answer (IsSettingOf (record { gtfs = gtfs; zone = by_rule rule; from = made_day; days = 1 }) None files)
    → UnlessFree is_free answer (IsMadeSetting trips stops)
made_of trips stops gtfs rule files answer named ruled same told =
    subst (λ (all : Directory). UnlessFree is_free answer (IsSettingOf made_scope None all)) same
    (subst (λ (text : List ℕ). UnlessFree is_free answer (IsSettingOf (record { gtfs = made; zone = by_rule text; from = made_day; days = 1 }) None files)) ruled
    (subst (λ (name : List ℕ). UnlessFree is_free answer (IsSettingOf (record { gtfs = name; zone = by_rule rule; from = made_day; days = 1 }) None files)) named told))

-- the window has the one day
pub has_day : (trips stops : ℕ) (setting : Setting) → IsMadeSetting trips stops (Ok setting) → HasMadeDay setting
has_day trips stops setting (table, folder_is, (zone, zone_is, (table_same, zone_same, window_is, keeps))) = record {
  first = window_is.first_is;
  one = window_is.days_are;
  stays = keeps;
}

-- ---- the feed

-- the updates of a feed can be counted
pub few_updates : (bytes : List ℕ) (feed : Feed) (entities : List Entity) → IsFeedOf made_at entities bytes → feed ≡ full_dataset made_at entities
    → sum_by updates_of feed.entities ≤ length bytes
few_updates bytes feed entities is same =
    let listed : feed.entities ≡ entities = ap (λ (one : Feed). one.entities) same in
    let few = no_more_updates made_at entities in
    subst (λ (xs : List Entity). sum_by updates_of xs ≤ length bytes) (sym listed)
    (subst (λ (all : List ℕ). sum_by updates_of entities ≤ length all) (sym is.bytes) few)

-- the counts over what the deliveries were read over
pub counts_found : (setting : Setting) (arrivals : List Arrival) (other : Schedule) (bytes : List ℕ) (feed : Feed) (found : SampleCounts) → IsFeed bytes feed
    → other ≡ schedule_at setting (moments_of arrivals) → found ≡ counts_of other bytes feed
    → IsCountsOf setting arrivals bytes (Ok found)
counts_found setting arrivals other bytes feed found means same counted =
    (feed, means, ap (λ (counts : SampleCounts). Ok counts) (subst (λ (s : Schedule). found ≡ counts_of s bytes feed) same counted))

-- bytes without a fault end no work but for want of memory
pub no_end : {A : Type 0} (P : Result A Exit → Type 0) (name bytes : List ℕ) (end : Exit) → ((fault : FeedFault) → ¬ HasFault bytes fault)
    → UnlessFree {T = Feed} is_free (Err end) (IsFeedIn name bytes) → UnlessFree {T = A} is_free (Err end) P
no_end P name bytes Failed none told = tt
no_end P name bytes Memory none told = tt
no_end {A} P name bytes (Refused text) none told = by told.0 told.1 told.2
  where
    by : (fault : FeedFault) → IsTold bytes fault → Refused text ≡ feed_end name fault → UnlessFree {T = A} is_free (Err (Refused text)) P
    by (faults.EntityTooLong at) has is = absurd (none (faults.EntityTooLong at) has.0)
    by (faults.Wire fault) has is = absurd (none (faults.Wire fault) has.0)
    by (faults.NotText at) has is = absurd (none (faults.NotText at) has.0)
    by (faults.MissingField at field) has is = absurd (none (faults.MissingField at field) has.0)
    by faults.Memory has is = absurd cc
no_end {A} P name bytes (Missing text) none told = by told.0 told.1 told.2
  where
    by : (fault : FeedFault) → IsTold bytes fault → Missing text ≡ feed_end name fault → UnlessFree {T = A} is_free (Err (Missing text)) P
    by (faults.EntityTooLong at) has is = absurd (none (faults.EntityTooLong at) has.0)
    by (faults.Wire fault) has is = absurd (none (faults.Wire fault) has.0)
    by (faults.NotText at) has is = absurd (none (faults.NotText at) has.0)
    by (faults.MissingField at field) has is = absurd (none (faults.MissingField at field) has.0)
    by faults.Memory has is = absurd cc

-- ---- one step after another

-- the first of two steps found this, and the second answered
pub then_found : {A B : Type 0} (First : Result A Exit → Type 0) (Next : A → Result B Exit → Type 0) (found : A) (answer : Result B Exit)
    → First (Ok found) → UnlessFree is_free answer (Next found) → UnlessFree is_free answer (Then First Next)
then_found First Next found (Ok last) first next = (found, first, next)
then_found {A} {B} First Next found (Err end) first next = unless_free {T = B} {U = B} is_free end (Next found) (Then First Next) (λ h. inr (found, first, h)) next

-- the first of two steps ended the work
pub then_ended : {A B : Type 0} (First : Result A Exit → Type 0) (Next : A → Result B Exit → Type 0) (end : Exit)
    → UnlessFree {T = A} is_free (Err end) First → UnlessFree {T = B} is_free (Err end) (Then First Next)
then_ended {A} {B} First Next end first = unless_free {T = A} {U = B} is_free end First (Then First Next) (λ h. inl h) first

-- what took all deliveries and what is counted of it, over one setting
pub all_counted : (setting own last : Setting) (texts : List (List ℕ)) (answer : Result SampleCounts Exit) → own ≡ setting → last ≡ setting
    → (arrivals : List Arrival) → ArrivesOf own texts [] (Ok arrivals) → UnlessFree is_free answer (IsCounted last arrivals)
    → UnlessFree is_free answer (Then (ArrivesOf setting texts []) (IsCounted setting))
all_counted setting own last texts answer starts ends arrivals arrived counted =
    then_found (ArrivesOf setting texts []) (IsCounted setting) arrivals answer
    (subst (λ (s : Setting). ArrivesOf s texts [] (Ok arrivals)) starts arrived)
    (subst (λ (s : Setting). UnlessFree is_free answer (IsCounted s arrivals)) ends counted)
