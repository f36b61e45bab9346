-- What a server with a journal shows, what keeping a body that failed ends, and what a crash leaves.
use Rattle.std.proofs.Common.{◌≡◌, ◌∙◌, ◌⊎◌, ◌++◌, ◌∷◌, ◌≤◌, [], Bool, true, false, not, ℕ, zero, suc, ◌+◌, ℤ, List, length, take, drop, Option, Some, None, Result, Ok, Err, inl, inr, refl, sym, ap, subst, arith, rules}
use Rattle.std.specs.Prelude.{◌==◌, IfSome, IsOk, OnOk, nat_le, option_map, if◌then◌else◌}
use Rattle.std.specs.Option.{option_map_or}
use Rattle.std.specs.Str.{bytes_eq}
use Rattle.gw_base.specs.Chains.{ok_map}
use Rattle.std.proofs.lemmas.Bool.{true≢false}
use Rattle.std.proofs.lemmas.List.{append-nil, append_cancel_left}
use Rattle.std.proofs.lemmas.Option.{same_Some}
use Rattle.gw_base.specs.Answers.{UnlessFree}
use Rattle.gw_base.specs.Changes.{Change}
use Rattle.gw_base.specs.Connections.{Beside, Connections}
use Rattle.gw_base.specs.declared.door.Entry.{Entry}
use Rattle.delivery_journal.specs.Disk.{Survives, WhereTold}
use Rattle.delivery_journal.specs.Kept.{Found, KeptBody, found, found_from, kept, magic, place_after, record_of, size_of, with_first}
use Rattle.delivery_journal.specs.declared.open_fault.OpenFault.{OpenFault}
use Rattle.delivery_journal.specs.declared.open_fault.OpenFault.TheVariants.{Damaged, NotJournal}
use Rattle.delivery_journal.specs.Standing.{new_file, opened_file}
use Rattle.gateway_core.specs.Arrivals.{Arrival}
use Rattle.gateway_core.specs.Standing.{Stands}
use Rattle.gateway_core.specs.declared.setting.Setting.{Setting}
use Rattle.gateway_durable.specs.Replays.{Replays}
use Rattle.gateway_durable.specs.Runs.{HasKept, HoldsPrefix}
use Rattle.gateway_durable.specs.Standing.{DurableGate, DurableStandsOn}
use Rattle.gateway_durable.proofs.DiskLemmas.{survives_none, survives_then, survives_wider}
use Rattle.gateway_durable.proofs.FoundLemmas.{found_kept}
use Rattle.gateway_server.specs.Crashes.{HoldsOfBodies}
use Rattle.gateway_server.specs.Holding.{Held, Room}
use Rattle.gateway_server.specs.Completeness.{CompletesBy}
use Rattle.gateway_server.specs.Log.{IsLawfulBy, IsLogBy}
use Rattle.gateway_server.specs.Durable.{held_of, journal_room}
use Rattle.gateway_server.specs.Past.{IsLawfulAfter, LeavesPast, Past, StandsFor, is_unkept}
use Rattle.gateway_server.specs.Serving.{CountsCausesAfter, IsEnd, ServesAllAfter, Tells}
use Rattle.gateway_server.proofs.CauseLemmas.{caused_wider}
use Rattle.gateway_server.proofs.LoopLemmas.{log_wider}
use Rattle.file_commands.specs.Exits.{is_free}
use Rattle.gateway_top.specs.Headline.{HeadlineWith}
use Rattle.gateway_top.specs.Keeping.{BeginsWith, CountsKeptFaults, EndsKeeping, EndsKept, EndsServed, EndsUnkept, HeadlineKept, HoldsMore, IsWholeAfter, RunsKept, SurvivesRun}
use Rattle.gateway_top.specs.Runs.{Doorway, HasFailed}
use Rattle.gateway_top.specs.Serving.{HasLogged, ServedBy}
use Rattle.file_commands.specs.Work.{Directory, IsSettingOf}
use Rattle.command_words.specs.Words.{IsJobWith, Serve, serve_job, with_journal}
use Rattle.file_commands.specs.declared.exit.Exit.{Exit}
use Rattle.gateway_top.proofs.HeadlineLemmas.{after_shows, log_as, served_by}
use Rattle.gateway_top.proofs.PublishedLemmas.{is_setting}

-- ---- keeping a body that failed is the end

ends_here : (one : Bool) → false ≡ not one → one ≡ true
ends_here true e = refl
ends_here false e = absurd cc

pub unkept_last : (Cause Unkept : Type 0) (room : Room) (setting : Setting) (past now : Past) (entries : List Entry) → past.is_sound ≡ true → now.is_sound ≡ false
    → IsLogBy (IsLawfulAfter Cause Unkept room setting) (LeavesPast room setting) past entries now → EndsUnkept entries
unkept_last Cause Unkept room setting past now [] sound over log = let same : now ≡ past = log in absurd (sound_no (ap (λ (p : Past). p.is_sound) same))
  where
    sound_no : now.is_sound ≡ past.is_sound → ⊥
    sound_no e = cc
unkept_last Cause Unkept room setting past now (entry ∷ []) sound over (lawful, after, leaves, same) =
    ([], entry, refl, ends_here (is_unkept entry.mark) (sym over ∙ ap (λ (p : Past). p.is_sound) same ∙ leaves.sound))
unkept_last Cause Unkept room setting past now (entry ∷ next ∷ later) sound over (lawful, after, leaves, more) =
    let rest = unkept_last Cause Unkept room setting after now (next ∷ later) more.0.0 over more in
    (entry ∷ rest.0, rest.1, ap (λ (all : List Entry). entry ∷ all) rest.2, rest.3)

-- ---- what a loop over connections served

-- a log got these entries and no others
same_entries : (told : Connections) (now : Beside) (one other : Connections) (entries others : List Entry) → now.told ≡ Some one → one.log ≡ told.log ++ entries
    → now.told ≡ Some other → other.log ≡ told.log ++ others → entries ≡ others
same_entries told now one other entries others tells log also more =
    let same : one ≡ other = same_Some one other (sym tells ∙ also) in
    append_cancel_left told.log entries others (sym log ∙ ap (λ (c : Connections). c.log) same ∙ more)

-- a log that wasn't written to got none
pub no_entries : (told : Connections) (now : Beside) (left : Connections) (entries : List Entry) → now.told ≡ Some told → HasLogged told now entries left → entries ≡ []
no_entries told now left entries tells logged = same_entries told now left told entries [] logged.tells logged.log tells (sym (append-nil told.log))

module _ (Cause Unkept : Type 0) (room : Room) (before now : Held) (past : Past) (told : Connections) (clock : Change (List ℤ)) (output : Option (List ℕ)) (beside : Beside) (count : ℕ)
    (all : ServesAllAfter Cause Unkept room before past told clock output beside now count) where
  pub served_all : {A E : Type 0} (most : ℕ) (end : Result A E) → count ≤ most → OnOk end ((count ≡ most) ⊎ (IsEnd beside ⊎ (now.is_sound ≡ false)))
      → ServedBy (IsLawfulAfter Cause Unkept room before.gate.setting) (LeavesPast room before.gate.setting) (IsOk end × (now.is_sound ≡ true)) most past told clock beside
  served_all {A} {E} most end fits whole = record {
    entries = all.entries;
    left = all.left;
    logged = record { tells = all.tells.tells; log = all.log };
    inputs = all.inputs;
    few = rw all.count_is fits;
    all = λ ok. by end ok.0 whole ok.1;
    moments = all.moments;
    timed = all.timed;
    arrived = all.arrived;
    lawful = all.lawful;
  }
    where
      by : (end : Result A E) → IsOk end → OnOk end ((count ≡ most) ⊎ (IsEnd beside ⊎ (now.is_sound ≡ false))) → now.is_sound ≡ true
          → (length all.entries ≡ most) ⊎ (all.left.coming ≡ [])
      by (Ok value) ok (inl is) sound = inl (all.count_is ∙ is)
      by (Ok value) ok (inr (inl is)) sound = inr (rw all.tells.tells at is)
      by (Ok value) ok (inr (inr is)) sound = absurd (true≢false (sym sound ∙ is))
      by (Err fault) ok is sound = absurd cc

  pub unkept_ends : past.is_sound ≡ true → now.is_sound ≡ false → (entries : List Entry) (left : Connections) → HasLogged told beside entries left → EndsUnkept entries
  unkept_ends sound over entries left logged =
      subst EndsUnkept (same_entries told beside all.left left all.entries entries all.tells.tells all.log logged.tells logged.log)
      (unkept_last Cause Unkept room before.gate.setting past all.arrived all.entries sound (all.stands.sound ∙ over) all.lawful)

-- the same over a setting that is its own, where keeping a body fails for a wider cause, and it is known in another way whether it came to its end
pub served_as : (Cause Unkept Wider End Other : Type 0) (room : Room) (setting own : Setting) (most : ℕ) (past : Past) (told : Connections) (clock : Change (List ℤ)) (beside : Beside) → own ≡ setting → (Unkept → Wider) → (Other → End)
    → ServedBy (IsLawfulAfter Cause Unkept room own) (LeavesPast room own) End most past told clock beside
    → ServedBy (IsLawfulAfter Cause Wider room setting) (LeavesPast room setting) Other most past told clock beside
served_as Cause Unkept Wider End Other room setting own most past told clock beside same wider by served = record {
  entries = served.entries;
  left = served.left;
  logged = served.logged;
  inputs = served.inputs;
  few = served.few;
  all = λ other. served.all (by other);
  moments = served.moments;
  timed = served.timed;
  arrived = served.arrived;
  lawful = subst (λ (s : Setting). IsLogBy (IsLawfulAfter Cause Wider room s) (LeavesPast room s) past served.entries served.arrived) same
      (log_wider Cause Cause Unkept Wider room own past served.entries served.arrived (λ cause. cause) wider served.lawful);
}

pub causes_as : (Unkept Wider : Type 0) (room : Room) (setting own : Setting) (past : Past) (entries : List Entry) (further da db ca cb : ℕ) → own ≡ setting → (Unkept → Wider)
    → CountsCausesAfter Unkept room own past entries further da db ca cb → CountsCausesAfter Wider room setting past entries further da db ca cb
causes_as Unkept Wider room setting own past entries further da db ca cb same wider counts =
    subst (λ (s : Setting). CountsCausesAfter Wider room s past entries further da db ca cb) same (record {
      causes = counts.causes;
      arrived = counts.arrived;
      lawful = caused_wider Unkept Wider room own past entries counts.causes counts.arrived wider counts.lawful;
      door = counts.door;
      clock = counts.clock;
    })

-- a server that was opened again, by what it served over the setting that it has
module _ (setting own : Setting) (disk : Change (List ℕ)) (Unkept : Type 0) (doorway : Doorway) (past : Past) (same : own ≡ setting) (wider : Unkept → HasFailed disk) where
  pub counts_kept : (besides : ℕ)
      → ((told : Connections) → Tells doorway.output.before doorway.before told → (entries : List Entry) (left : Connections) → HasLogged told doorway.now entries left
      → CountsCausesAfter Unkept journal_room own past entries besides doorway.output.faults_before doorway.output.faults_now doorway.clock.faults_before doorway.clock.faults_now)
      → CountsKeptFaults setting past disk besides doorway
  counts_kept besides causes told tells entries left logged =
      causes_as Unkept (HasFailed disk) journal_room setting own past entries besides doorway.output.faults_before doorway.output.faults_now doorway.clock.faults_before doorway.clock.faults_now same wider
      (causes told tells entries left logged)

  pub ends_served : (command : Serve) (ended : ℕ) (err : Change (List ℕ)) (End : Type 0)
      → WhereTold disk.before (λ file. BeginsWith setting file past) → past.is_sound ≡ true → EndsKeeping setting past disk ended err doorway → (ended ≡ 0 → End)
      → ((before : Past) (entry : Entry) → IsLawfulBy (HasFailed doorway.output) (HasFailed disk) (λ body. journal_room.is_full before.end (length body)) setting before.arrivals entry
      → CompletesBy (HasFailed doorway.output) (HasFailed disk) (λ body. journal_room.is_full before.end (length body)) setting before.arrivals entry)
      → ((told : Connections) → Tells doorway.output.before doorway.before told
      → ServedBy (IsLawfulAfter (HasFailed doorway.output) Unkept journal_room own) (LeavesPast journal_room own) End command.connections past told doorway.clock doorway.now)
      → EndsServed command setting disk ended err doorway
  ends_served command ended err End begins sound ends by law served = record {
    past = past;
    begins = begins;
    sound = sound;
    ends = ends;
    served = λ told tells.
        served_by (IsLawfulAfter (HasFailed doorway.output) (HasFailed disk) journal_room setting) (IsWholeAfter (HasFailed doorway.output) (HasFailed disk) setting) (LeavesPast journal_room setting)
        (ended ≡ 0) (ended ≡ 0) command.connections past told doorway.clock doorway.now (λ before entry lawful. (lawful, law before entry lawful.1)) (λ zero. zero)
        (served_as (HasFailed doorway.output) Unkept (HasFailed disk) End (ended ≡ 0) journal_room setting own command.connections past told doorway.clock doorway.now same wider by (served told tells));
  }

-- ---- what is shown

-- where no connection was served nothing is shown
pub nothing_shown : (Cause : Type 0) (words : List (List ℕ)) (files : Directory) (disk : Option (List ℕ)) (told : Connections) (before now : Beside) → before.told ≡ Some told → now ≡ before
    → HeadlineKept Cause words files disk told now
nothing_shown Cause words files disk told before now tells same = record {
  entries = [];
  left = told;
  logged = record { tells = rw same tells; log = search rules };
  shown = λ earlier entry later is shown. absurd (none earlier entry later is);
}
  where
    none : (earlier : List Entry) (entry : Entry) (later : List Entry) → [] ≡ earlier ++ entry ∷ later → ⊥
    none [] entry later is = cc
    none (one ∷ earlier) entry later is = cc

pub idle_kept : (Cause : Type 0) (words : List (List ℕ)) (files : Option Directory) (disk : Option (List ℕ)) (output : Option (List ℕ)) (beside : Beside)
    → IfSome files (λ folder. (told : Connections) → Tells output beside told → HeadlineKept Cause words folder disk told beside)
idle_kept Cause words None disk output beside = tt
idle_kept Cause words (Some folder) disk output beside = λ told tells. nothing_shown Cause words folder disk told beside beside tells.tells refl

-- a server without a journal shows the same
without_journal : (Cause : Type 0) (words : List (List ℕ)) (files : Directory) (disk : Option (List ℕ)) (command : Serve) (told : Connections) (now : Beside)
    → IsJobWith with_journal words (serve_job command) → command.journal ≡ None
    → HeadlineWith with_journal Cause words files [] told now → HeadlineKept Cause words files disk told now
without_journal Cause words files disk command told now accepted none headline = record {
  entries = headline.entries;
  left = headline.left;
  logged = headline.logged;
  shown = λ earlier entry later is shown.
      let shows = headline.shown earlier entry later is shown in
      let no_journal : shows.command.journal ≡ None = sym shows.accepted.says.journal ∙ accepted.says.journal ∙ none in
      record {
        command = shows.command;
        accepted = shows.accepted;
        setting = shows.setting;
        has_setting = shows.has_setting;
        past = [];
        arrived = rw no_journal refl;
        shows = shows.shows;
      };
}

pub of_bare : (Cause : Type 0) (words : List (List ℕ)) (files : Option Directory) (disk : Option (List ℕ)) (command : Serve) (output : Option (List ℕ)) (beside now : Beside)
    → IsJobWith with_journal words (serve_job command) → command.journal ≡ None
    → IfSome files (λ folder. (told : Connections) → Tells output beside told → HeadlineWith with_journal Cause words folder [] told now)
    → IfSome files (λ folder. (told : Connections) → Tells output beside told → HeadlineKept Cause words folder disk told now)
of_bare Cause words None disk command output beside now accepted none headline = tt
of_bare Cause words (Some folder) disk command output beside now accepted none headline = λ told tells.
    without_journal Cause words folder disk command told now accepted none (headline told tells)

-- a server with a journal
pub of_kept : (words : List (List ℕ)) (command : Serve) (journal : List ℕ) (disk : Change (List ℕ)) (ended : ℕ) (files : Change Directory) (err : Change (List ℕ)) (doorway : Doorway)
    → IsJobWith with_journal words (serve_job command) → command.journal ≡ Some journal → RunsKept command disk ended files err doorway
    → IfSome files.before (λ folder. (told : Connections) → Tells doorway.output.before doorway.before told
    → HeadlineKept (HasFailed doorway.output) words folder disk.before told doorway.now)
of_kept words command journal disk ended files err doorway accepted has runs = by files.before runs.answer runs.work runs.ends
  where
    served : (folder : Directory) (setting : Setting) → IsSettingOf command.scope (Some command.keep) folder (Ok setting) → EndsServed command setting disk ended err doorway
        → (told : Connections) → Tells doorway.output.before doorway.before told → HeadlineKept (HasFailed doorway.output) words folder disk.before told doorway.now
    served folder setting setting_is ends told tells =
        let all = ends.served told tells in
        record {
          entries = all.entries;
          left = all.left;
          logged = all.logged;
          shown = λ earlier entry later is shown. record {
            command = command;
            accepted = accepted;
            setting = setting;
            has_setting = is_setting command.scope (Some command.keep) folder setting setting_is;
            past = ends.past.arrivals;
            arrived = rw has (λ file here.
                let begins = ends.begins file here in
                (begins.bodies, begins.holds, begins.replays));
            shows = after_shows (HasFailed doorway.output) (HasFailed disk) journal_room setting ends.past all.arrived earlier entry later
                (subst (λ (entries : List Entry). IsLogBy (IsLawfulAfter (HasFailed doorway.output) (HasFailed disk) journal_room setting) (LeavesPast journal_room setting) ends.past entries all.arrived) is
                (log_as (IsWholeAfter (HasFailed doorway.output) (HasFailed disk) setting) (IsLawfulAfter (HasFailed doorway.output) (HasFailed disk) journal_room setting) (LeavesPast journal_room setting)
                ends.past all.arrived all.entries (λ before one whole. whole.0) all.lawful)) shown;
          };
        }

    by : (before : Option Directory) (answer : Result Setting Exit)
        → IfSome before (λ folder. UnlessFree is_free answer (IsSettingOf command.scope (Some command.keep) folder)) → EndsKept command disk answer ended err doorway
        → IfSome before (λ folder. (told : Connections) → Tells doorway.output.before doorway.before told → HeadlineKept (HasFailed doorway.output) words folder disk.before told doorway.now)
    by None answer work ends = tt
    by (Some folder) (Err exit) work ends = λ told tells. nothing_shown (HasFailed doorway.output) words folder disk.before told doorway.before doorway.now tells.tells ends.1.connections
    by (Some folder) (Ok setting) work (inl ends) = λ told tells. nothing_shown (HasFailed doorway.output) words folder disk.before told doorway.before doorway.now tells.tells ends.uncalled.connections
    by (Some folder) (Ok setting) work (inr ends) = served folder setting work ends

-- ---- what there is before the first connection

-- a file of at most nine bytes holds nothing, before and after it is made anew
pub same_kept : (file : List ℕ) → kept (opened_file file) ≡ kept file
same_kept file = by (nat_le (length file) 9) refl
  where
    by : (short : Bool) → nat_le (length file) 9 ≡ short → kept (if short then new_file else file) ≡ kept file
    by true e = rw e refl
    by false e = refl

-- the place of the closed gate behind bodies is that which their records lead to
found_end : (bytes : List ℕ) (skip at : ℕ) (all : Found) → found_from skip at bytes ≡ Ok all → all.end ≡ at + size_of all.bodies
found_end [] zero at all is = absurd cc
found_end [] (suc skip) at all is = absurd cc
found_end (byte ∷ bytes) (suc skip) at all is = found_end bytes skip at all is
found_end (gate ∷ bytes) zero at all is = by (gate == 0) (record_of bytes) (λ k f e. found_end bytes (13 + length k.body) (at + 14 + length k.body) f e) is
  where
    after : (one : KeptBody) (found : Result Found OpenFault) → ((f : Found) → found ≡ Ok f → f.end ≡ (at + 14 + length one.body) + size_of f.bodies)
        → with_first one found ≡ Ok all → all.end ≡ at + size_of all.bodies
    after one (Ok f) rest e =
        let same : all ≡ record { bodies = one ∷ f.bodies; end = f.end } = cc in
        subst (λ (a : Found). a.end ≡ at + size_of a.bodies) (sym same) (let end = rest f refl in omega (arith, end))
    after one (Err fault) rest e = absurd cc

    by : (shut : Bool) (one : Option KeptBody)
        → ((k : KeptBody) (f : Found) → found_from (13 + length k.body) (at + 14 + length k.body) bytes ≡ Ok f → f.end ≡ (at + 14 + length k.body) + size_of f.bodies)
        → (if shut then Ok (record { bodies = []; end = at })
        else option_map_or (λ (k : KeptBody). with_first k (found_from (13 + length k.body) (at + 14 + length k.body) bytes)) one (Err (Damaged at))) ≡ Ok all
        → all.end ≡ at + size_of all.bodies
    by true one rest e = let same : all ≡ record { bodies = []; end = at } = cc in subst (λ (a : Found). a.end ≡ at + size_of a.bodies) (sym same) (omega arith)
    by false None rest e = absurd cc
    by false (Some k) rest e = after k (found_from (13 + length k.body) (at + 14 + length k.body) bytes) (rest k) e

pub file_end : (file : List ℕ) (all : Found) → found file ≡ Ok all → all.end ≡ place_after all.bodies
file_end file all is = by (bytes_eq (take 8 file) magic) is
  where
    by : (begins : Bool) → (if begins then found_from 0 8 (drop 8 file) else Err NotJournal) ≡ Ok all → all.end ≡ place_after all.bodies
    by true e = found_end (drop 8 file) 0 8 all e
    by false e = absurd cc

-- a durable gateway that was opened again stands for what its journal's bodies give, and they end at its gate
pub begins : {D : Type 0} (told : D → Option (List ℕ)) (may_leave : D → List ℕ → Type 0) (setting : Setting) (durable : DurableGate) (old new : D)
    → durable.gate.setting ≡ setting → durable.journal.is_sound ≡ true → told new ≡ option_map opened_file (told old)
    → DurableStandsOn told may_leave durable new → (arrivals : List Arrival) × Stands durable.gate arrivals
    → (past : Past) × StandsFor (held_of durable) past × (past.is_sound ≡ true) × WhereTold (told old) (λ file. BeginsWith setting file past)
begins {D} told may_leave setting durable old new same sound opened stands any = by (told old) opened
  where
    by : (file : Option (List ℕ)) → told new ≡ option_map opened_file file
        → (past : Past) × StandsFor (held_of durable) past × (past.is_sound ≡ true) × WhereTold file (λ file. BeginsWith setting file past)
    by None is = (
      record { arrivals = any.0; end = durable.journal.end; is_sound = true },
      record { stands = any.1; sound = sym sound; end = λ _. refl },
      refl,
      λ file none. absurd cc,
    )
    by (Some file) is =
        let on = stands (opened_file file) is in (
          record { arrivals = on.arrivals; end = durable.journal.end; is_sound = true },
          record { stands = on.stands; sound = sym sound; end = λ _. refl },
          refl,
          λ other here.
              let one : file ≡ other = same_Some file other here in
              subst (λ (f : List ℕ). BeginsWith setting f (record { arrivals = on.arrivals; end = durable.journal.end; is_sound = true })) one (record {
                bodies = on.bodies;
                holds = sym (same_kept file) ∙ found_kept (opened_file file) (record { bodies = on.bodies; end = durable.journal.end }) on.holds;
                end = file_end (opened_file file) (record { bodies = on.bodies; end = durable.journal.end }) on.holds;
                replays = subst (λ (s : Setting). Replays s [] on.bodies on.arrivals) same on.replays;
              }),
        )

-- ---- what a crash leaves

-- with nothing behind it, what a file holds is what it held
same_with_none : (held : Result (List KeptBody) OpenFault) → held ≡ ok_map (λ (bodies : List KeptBody). bodies ++ []) held
same_with_none (Ok bodies) = ap Ok (sym (append-nil bodies))
same_with_none (Err fault) = refl

module _ {D : Type 0} (told : D → Option (List ℕ)) (may_leave : D → List ℕ → Type 0) (clock : D → ℕ) (left_since : D → ℕ → List ℕ → Type 0) where
  as_before : (old : D) (file image : List ℕ) → may_leave old image ⊎ (kept image ≡ kept file) → may_leave old image ⊎ HoldsMore file [] image
  as_before old file image (inl before) = inl before
  as_before old file image (inr same) = inr (0, omega arith, same ∙ same_with_none (kept file))

  -- nothing was taken
  nothing_taken : (old new : D) (file : List ℕ) → Survives clock left_since old new (λ image. may_leave old image ⊎ (kept image ≡ kept file))
      → SurvivesRun may_leave clock left_since old new file [] []
  nothing_taken old new file survives = record {
    any_moment = survives_wider told may_leave clock left_since old new (λ (image : List ℕ). may_leave old image ⊎ (kept image ≡ kept file))
        (λ (image : List ℕ). may_leave old image ⊎ HoldsMore file [] image) survives (as_before old file);
    at_end = inl refl;
  }

  pub unlogged : (old new : D) (file : List ℕ) → Survives clock left_since old new (λ image. may_leave old image ⊎ (kept image ≡ kept file))
      → HoldsOfBodies (SurvivesRun may_leave clock left_since old new file) true []
  unlogged old new file survives = record {
    taken = [];
    failed = [];
    taken_are = refl;
    failed_are = refl;
    none_failed = λ _. refl;
    holds = nothing_taken old new file survives;
  }

  -- a disk that wasn't called
  pub uncalled : ((disk : D) (image : List ℕ) → left_since disk (clock disk) image → may_leave disk image)
      → (disk : D) (file : List ℕ) → HoldsOfBodies (SurvivesRun may_leave clock left_since disk disk file) true []
  uncalled only_now disk file =
      unlogged disk disk file (survives_none told may_leave clock left_since only_now disk (λ (image : List ℕ). may_leave disk image ⊎ (kept image ≡ kept file)) (λ image left. inl left))

  -- some were taken after the journal was opened again
  pub logged : (old mid new : D) (setting : Setting) (file : List ℕ) (bodies : List KeptBody) (is_sound : Bool) (entries : List Entry) → kept file ≡ Ok bodies
      → Survives clock left_since old mid (λ image. may_leave old image ⊎ (kept image ≡ kept file))
      → HoldsOfBodies (HasKept told may_leave clock left_since mid new setting bodies) is_sound entries
      → HoldsOfBodies (SurvivesRun may_leave clock left_since old new file) is_sound entries
  logged old mid new setting file bodies is_sound entries held opened all = record {
    taken = all.taken;
    failed = all.failed;
    taken_are = all.taken_are;
    failed_are = all.failed_are;
    none_failed = all.none_failed;
    holds = record {
      any_moment = survives_then told may_leave clock left_since old mid new (λ (image : List ℕ). may_leave old image ⊎ (kept image ≡ kept file))
          (HoldsPrefix setting bodies (all.taken ++ all.failed)) (λ (image : List ℕ). may_leave old image ⊎ HoldsMore file (all.taken ++ all.failed) image)
          opened all.holds.any_moment first next;
      at_end = inr (λ image left.
          let held_more = all.holds.from_now image left in
          (take held_more.0 all.failed, held_more.2 ∙ rw held refl));
    };
  }
    where
      first : (image : List ℕ) → may_leave old image ⊎ (kept image ≡ kept file) → may_leave old image ⊎ HoldsMore file (all.taken ++ all.failed) image
      first image (inl before) = inl before
      first image (inr same) = inr (0, omega arith, same ∙ same_with_none (kept file))

      next : (image : List ℕ) → HoldsPrefix setting bodies (all.taken ++ all.failed) image → may_leave old image ⊎ HoldsMore file (all.taken ++ all.failed) image
      next image (n, few, is, can) = inr (n, few, is ∙ rw held refl)
