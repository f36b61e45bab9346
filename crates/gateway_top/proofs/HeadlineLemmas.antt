-- What a lawful log shows.
use Rattle.std.proofs.Common.{Bool, false, ◌≡◌, ◌⊎◌, ◌++◌, ◌∷◌, [], ℕ, ℤ, List, Option, Some, None, Result, Ok, Err, IfSome, inl, inr, refl, subst, sym, ◌∙◌, length, rules}
use Rattle.std.specs.Prelude.{IsOk, OnOk, ◌≤◌}
use Rattle.gw_base.specs.Changes.{Change}
use Rattle.gw_base.specs.Connections.{Beside, Connections}
use Rattle.gw_base.specs.declared.door.Entry.{Entry}
use Rattle.gw_base.specs.declared.door.Mark.TheVariants as mark
use Rattle.gateway_core.specs.Arrivals.{Arrival, Given, feed, journeys, situations}
use Rattle.gateway_core.specs.Standing.{Kept}
use Rattle.gateway_core.specs.declared.setting.Setting.{Setting}
use Rattle.gateway_server.specs.Answers.{IsAnswered, body_refused, feed_shown, mark_of, refused, taken, text_shown}
use Rattle.gateway_server.specs.Completeness.{Completes}
use Rattle.gateway_server.specs.Log.{IsFront, IsLawful, IsLawfulBy, IsLawfulLog, IsLogBy, Leaves, answered, full, lost, no_clock, no_memory, unkept}
use Rattle.gateway_server.specs.Holding.{Room}
use Rattle.gateway_server.specs.Past.{IsLawfulAfter, LeavesPast, Past}
use Rattle.gateway_server.specs.Serving.{IsEnd, ServesAll, Tells}
use Rattle.gw_base.specs.Answers.{UnlessFree}
use Rattle.file_commands.specs.Exits.{is_free, status_of}
use Rattle.gateway_top.specs.Headline.{HasArrived, HeadlineWith, ServesFeed, ServesText, Shows}
use Rattle.gateway_top.specs.Runs.{Doorway, EndsServer, HasFailed, RunsServer}
use Rattle.gateway_top.specs.Serving.{IsWhole, Served, ServedBy}
use Rattle.file_commands.specs.Work.{Directory, IsSettingOf}
use Rattle.command_words.specs.Tables.{Pair}
use Rattle.command_words.specs.Words.{IsJobWith, Serve, serve_job}
use Rattle.gateway_top.proofs.PublishedLemmas.{is_setting}
use Rattle.file_commands.specs.declared.exit.Exit.{Exit}
use Rattle.file_commands.specs.declared.exit.Exit.TheVariants.{Failed, Memory, Missing, Refused}

-- what an answer under the mark Shown shows
answer_shows : (Cause : Type 0) (setting : Setting) (arrivals : List Arrival) (entry : Entry) (moment : ℤ) (bytes : List ℕ) → entry.moment ≡ Some moment
    → IsAnswered setting arrivals entry.input moment entry.mark bytes → IsFront Cause entry.output bytes → entry.mark ≡ mark.Shown
    → ServesFeed Cause setting arrivals entry ⊎ ServesText Cause setting arrivals entry
answer_shows Cause setting arrivals entry moment bytes at (refused why asked ends is) front shown = absurd cc
answer_shows Cause setting arrivals entry moment bytes at (feed_shown body asked shows ends is) front shown = inl (record {
  moment = moment;
  at = at;
  asked = asked;
  feed = body;
  output = subst (λ b. IsFront Cause entry.output b) is front;
  rebuilt = shows.0;
  gives = shows.1;
})
answer_shows Cause setting arrivals entry moment bytes at (text_shown body asked says ends is) front shown = inr (record {
  asked = asked;
  text = body;
  output = subst (λ b. IsFront Cause entry.output b) is front;
  says = says;
})
answer_shows Cause setting arrivals entry moment bytes at (body_refused target body fault asked refuses ends is) front shown = absurd cc
answer_shows Cause setting arrivals entry moment bytes at (taken target body report given asked brings ends is) front shown = absurd (not_shown given (sym ends ∙ shown))
  where
    not_shown : (given : Given) → mark_of given ≡ mark.Shown → ⊥
    not_shown (journeys records) e = cc
    not_shown (situations all) e = cc
    not_shown (feed one) e = cc

entry_shows : (Cause Unkept : Type 0) (is_full : List ℕ → Bool) (setting : Setting) (arrivals : List Arrival) (entry : Entry) → IsLawfulBy Cause Unkept is_full setting arrivals entry → entry.mark ≡ mark.Shown
    → ServesFeed Cause setting arrivals entry ⊎ ServesText Cause setting arrivals entry
entry_shows Cause Unkept is_full setting arrivals entry (no_clock ends at front) shown = absurd cc
entry_shows Cause Unkept is_full setting arrivals entry (lost moment ends at output cause) shown = absurd cc
entry_shows Cause Unkept is_full setting arrivals entry (no_memory moment ends at posted front) shown = absurd cc
entry_shows Cause Unkept is_full setting arrivals entry (unkept moment of body ends at asked would cause front) shown = absurd cc
entry_shows Cause Unkept is_full setting arrivals entry (full moment of body ends at asked would no_room front) shown = absurd cc
entry_shows Cause Unkept is_full setting arrivals entry (answered moment bytes at is fits front) shown = answer_shows Cause setting arrivals entry moment bytes at is front shown

-- each entry of a lawful log is lawful after what arrived of the entries before it
log_shows : (Cause : Type 0) (setting : Setting) (before now : List Arrival) (earlier : List Entry) (entry : Entry) (later : List Entry)
    → IsLawfulLog Cause setting before (earlier ++ entry ∷ later) now → entry.mark ≡ mark.Shown
    → (arrivals : List Arrival) × HasArrived setting before earlier arrivals × (ServesFeed Cause setting arrivals entry ⊎ ServesText Cause setting arrivals entry)
log_shows Cause setting before now [] entry later lawful shown = (before, refl, entry_shows Cause ⊥ (λ body. false) setting before entry lawful.0 shown)
log_shows Cause setting before now (one ∷ earlier) entry later (is, after, leaves, more) shown =
    let rest = log_shows Cause setting after now earlier entry later more shown in
    (rest.0, (after, leaves, rest.1), rest.2)

-- the same of a log over what holds a gateway
pub after_shows : (Cause Unkept : Type 0) (room : Room) (setting : Setting) (before now : Past) (earlier : List Entry) (entry : Entry) (later : List Entry)
    → IsLogBy (IsLawfulAfter Cause Unkept room setting) (LeavesPast room setting) before (earlier ++ entry ∷ later) now → entry.mark ≡ mark.Shown
    → Shows Cause setting before.arrivals earlier entry
after_shows Cause Unkept room setting before now [] entry later lawful shown = record {
  arrivals = before.arrivals;
  arrived = refl;
  served = entry_shows Cause Unkept (λ body. room.is_full before.end (length body)) setting before.arrivals entry lawful.0.1 shown;
}
after_shows Cause Unkept room setting before now (one ∷ earlier) entry later (is, after, leaves, more) shown =
    let rest = after_shows Cause Unkept room setting after now earlier entry later more shown in
    record { arrivals = rest.arrivals; arrived = (after.arrivals, leaves.arrived, rest.arrived); served = rest.served }

pub shows : (Cause : Type 0) (setting : Setting) (past : List Arrival) (entries : List Entry) (now : List Arrival) → IsLawfulLog Cause setting past entries now
    → (earlier : List Entry) (entry : Entry) (later : List Entry) → entries ≡ earlier ++ entry ∷ later → entry.mark ≡ mark.Shown
    → Shows Cause setting past earlier entry
shows Cause setting past entries now lawful earlier entry later is shown =
    let found = log_shows Cause setting past now earlier entry later (subst (λ (all : List Entry). IsLawfulLog Cause setting past all now) is lawful) shown in
    record { arrivals = found.0; arrived = found.1; served = found.2 }

-- a log of entries of which each is something that follows from what it was
pub log_as : {P : Type 0} (Lawful Wider : P → Entry → Type 0) (LeavesThis : P → Entry → P → Type 0) (past now : P) (entries : List Entry)
    → ((before : P) (entry : Entry) → Lawful before entry → Wider before entry) → IsLogBy Lawful LeavesThis past entries now → IsLogBy Wider LeavesThis past entries now
log_as Lawful Wider LeavesThis past now [] by same = same
log_as Lawful Wider LeavesThis past now (entry ∷ later) by (is, after, leaves, more) =
    (by past entry is, after, leaves, log_as Lawful Wider LeavesThis after now later by more)

-- the same of connections that were served, where it is known in another way whether it came to its end
pub served_by : {P : Type 0} (Lawful Wider : P → Entry → Type 0) (LeavesThis : P → Entry → P → Type 0) (End Other : Type 0) (most : ℕ) (past : P) (told : Connections) (clock : Change (List ℤ)) (now : Beside)
    → ((before : P) (entry : Entry) → Lawful before entry → Wider before entry) → (Other → End)
    → ServedBy Lawful LeavesThis End most past told clock now → ServedBy Wider LeavesThis Other most past told clock now
served_by Lawful Wider LeavesThis End Other most past told clock now wider by served = record {
  entries = served.entries;
  left = served.left;
  logged = served.logged;
  inputs = served.inputs;
  few = served.few;
  all = λ other. served.all (by other);
  moments = served.moments;
  timed = served.timed;
  arrived = served.arrived;
  lawful = log_as Lawful Wider LeavesThis past served.arrived served.entries wider served.lawful;
}

-- connections that were served over the setting of the words show as told
pub headline : (optional : List Pair) (Cause End : Type 0) (words : List (List ℕ)) (files : Directory) (command : Serve) (setting : Setting) (past : List Arrival) (told : Connections) (clock : Change (List ℤ)) (now : Beside)
    → IsJobWith optional words (serve_job command) → IsSettingOf command.scope (Some command.keep) files (Ok setting)
    → Served Cause End command.connections setting past told clock now
    → HeadlineWith optional Cause words files past told now
headline optional Cause End words files command setting past told clock now accepted setting_is served = record {
  entries = served.entries;
  left = served.left;
  logged = served.logged;
  shown = λ earlier entry later is shown. record {
    command = command;
    accepted = accepted;
    setting = setting;
    has_setting = is_setting command.scope (Some command.keep) files setting setting_is;
    shows = shows Cause setting past served.entries served.arrived
        (log_as (IsWhole Cause setting) (IsLawful Cause setting) (Leaves setting) past served.arrived served.entries (λ before one whole. whole.0) served.lawful)
        earlier entry later is shown;
  };
}

-- where no connection was served nothing is shown
pub no_headline : (optional : List Pair) (Cause : Type 0) (words : List (List ℕ)) (files : Directory) (past : List Arrival) (told : Connections) (before now : Beside) → before.told ≡ Some told → now ≡ before
    → HeadlineWith optional Cause words files past told now
no_headline optional Cause words files past told before now tells same = record {
  entries = [];
  left = told;
  logged = record { tells = rw same tells; log = search rules };
  shown = λ earlier entry later is shown. absurd (none earlier entry later is);
}
  where
    none : (earlier : List Entry) (entry : Entry) (later : List Entry) → [] ≡ earlier ++ entry ∷ later → ⊥
    none [] entry later is = cc
    none (one ∷ earlier) entry later is = cc

-- where neither door nor clock is called
pub idle : (optional : List Pair) (Cause : Type 0) (words : List (List ℕ)) (files : Option Directory) (past : List Arrival) (output : Option (List ℕ)) (beside : Beside)
    → IfSome files (λ folder. (told : Connections) → Tells output beside told → HeadlineWith optional Cause words folder past told beside)
idle optional Cause words None past output beside = tt
idle optional Cause words (Some folder) past output beside = λ told tells. no_headline optional Cause words folder past told beside beside tells.tells refl

-- a run of a server
pub of_run : (optional : List Pair) (words : List (List ℕ)) (command : Serve) (past : List Arrival) (ended : ℕ) (files : Change Directory) (err : Change (List ℕ)) (doorway : Doorway)
    → IsJobWith optional words (serve_job command) → RunsServer command past ended files err doorway
    → IfSome files.before (λ folder. (told : Connections) → Tells doorway.output.before doorway.before told
    → HeadlineWith optional (HasFailed doorway.output) words folder past told doorway.now)
of_run optional words command past ended files err doorway accepted runs = by files.before runs.answer runs.work runs.ends
  where
    by : (before : Option Directory) (answer : Result Setting Exit)
        → IfSome before (λ folder. UnlessFree is_free answer (IsSettingOf command.scope (Some command.keep) folder)) → EndsServer command past answer ended err doorway
        → IfSome before (λ folder. (told : Connections) → Tells doorway.output.before doorway.before told → HeadlineWith optional (HasFailed doorway.output) words folder past told doorway.now)
    by None answer work ends = tt
    by (Some folder) (Ok setting) work ends = λ told tells.
        headline optional (HasFailed doorway.output) (ended ≡ 0) words folder command setting past told doorway.clock doorway.now accepted work (ends.1 told tells)
    by (Some folder) (Err exit) work ends = λ told tells.
        no_headline optional (HasFailed doorway.output) words folder past told doorway.before doorway.now tells.tells ends.1.connections

-- no early end has the status of words that are no command's
pub not_turned_away : (exit : Exit) (ended : ℕ) → ended ≡ status_of exit → ended ≡ 2 → ⊥
not_turned_away (Refused text) ended is turned = cc
not_turned_away (Missing text) ended is turned = cc
not_turned_away Failed ended is turned = cc
not_turned_away Memory ended is turned = cc

-- ---- what a loop over connections served

pub served : {A E : Type 0} (Cause : Type 0) (before : Kept) (setting : Setting) (told : Connections) (clock : Change (List ℤ)) (output : Option (List ℕ)) (beside : Beside) (now : Kept) (count most : ℕ) (end : Result A E)
    → before.setting ≡ setting → count ≤ most → ServesAll Cause before [] told clock output beside now count → OnOk end ((count ≡ most) ⊎ IsEnd beside)
    → ServedBy (IsLawful Cause setting) (Leaves setting) (IsOk end) most [] told clock beside
served {A} {E} Cause before setting told clock output beside now count most end same fits all whole = record {
  entries = all.entries;
  left = all.left;
  logged = record { tells = all.tells.tells; log = all.log };
  inputs = all.inputs;
  few = rw all.count_is fits;
  all = λ ok. by end ok whole;
  moments = all.moments;
  timed = all.timed;
  arrived = all.arrived;
  lawful = subst (λ (s : Setting). IsLawfulLog Cause s [] all.entries all.arrived) same all.lawful;
}
  where
    by : (end : Result A E) → IsOk end → OnOk end ((count ≡ most) ⊎ IsEnd beside) → (length all.entries ≡ most) ⊎ (all.left.coming ≡ [])
    by (Ok value) ok (inl is) = inl (all.count_is ∙ is)
    by (Ok value) ok (inr is) = inr (rw all.tells.tells at is)
    by (Err fault) ok is = absurd cc

-- and so each connection takes what is well formed, and shows what is asked for
pub served_whole : (Cause End Other : Type 0) (most : ℕ) (setting : Setting) (told : Connections) (clock : Change (List ℤ)) (now : Beside) → (Other → End)
    → ((arrivals : List Arrival) (entry : Entry) → IsLawful Cause setting arrivals entry → Completes Cause setting arrivals entry)
    → ServedBy (IsLawful Cause setting) (Leaves setting) End most [] told clock now → Served Cause Other most setting [] told clock now
served_whole Cause End Other most setting told clock now by law =
    served_by (IsLawful Cause setting) (IsWhole Cause setting) (Leaves setting) End Other most [] told clock now (λ before entry lawful. (lawful, law before entry lawful)) by
