-- The headline: what a server shows, in the words of the two standards (SIRI 2.0, EstimatedVehicleJourney; GTFS
-- Realtime 2.0, FeedMessage), over the log of its connections (RFC 9112).
use Rattle.std.specs.Prelude.{◌≡◌, ◌⊎◌, ℕ, ℤ, List, [], ◌∷◌, ◌++◌, Some}
use Rattle.gw_base.specs.Connections.{Beside, Connections}
use Rattle.gw_base.specs.declared.door.Entry.{Entry}
use Rattle.gw_base.specs.declared.door.Mark.TheVariants as mark
use Rattle.http_talk.specs.Request.{IsRequest, Get}
use Rattle.http_talk.specs.declared.answer.Answer.TheVariants as answer
use Rattle.http_talk.specs.declared.target.Resource.TheVariants as resource
use Rattle.gateway_core.specs.Arrivals.{Arrival, moments_of, present, schedule_at}
use Rattle.gateway_core.specs.Gives.{GivesEach}
use Rattle.gateway_core.specs.Recording.{IsRebuiltOf}
use Rattle.gateway_core.specs.Standing.{IsLastSiri}
use Rattle.gateway_core.specs.declared.setting.Setting.{Setting}
use Rattle.gateway_server.specs.Answers.{answer_of}
use Rattle.gateway_server.specs.Log.{IsFront, Leaves}
use Rattle.gateway_top.specs.Published.{IsSetting}
use Rattle.gateway_top.specs.Serving.{HasLogged}
use Rattle.file_commands.specs.Work.{Directory}
use Rattle.command_words.specs.Tables.{Pair}
use Rattle.command_words.specs.Words.{IsJobWith, Serve, serve_job}

-- what arrived of connections, one after the other, after what had arrived before them
abbrev pub HasArrived : Setting → List Arrival → List Entry → List Arrival → Type 0
HasArrived setting before [] now = now ≡ before
HasArrived setting before (entry ∷ later) now =
    (after : List Arrival) × Leaves setting before entry after × HasArrived setting after later now

-- a feed served: its bytes are those rebuilt from all that arrived; read as protobuf and propagated by GTFS Realtime's
-- rules, they give every stop of every dated journey the time and place, skip or absence of the last-recorded SIRI
-- journey taken before it. The output is that answer, or by a fault of the door a prefix of it
pub record ServesFeed (Cause : Type 0) (setting : Setting) (arrivals : List Arrival) (entry : Entry) : Type 0 where
  pub moment : ℤ
  pub at : entry.moment ≡ Some moment
  pub asked : IsRequest entry.input (Get resource.Feed)
  pub feed : List ℕ
  pub output : IsFront Cause entry.output (answer_of answer.Feed feed)
  pub rebuilt : IsRebuiltOf setting moment arrivals feed
  pub gives : GivesEach moment (schedule_at setting (moments_of arrivals)) (present setting arrivals) feed

-- a SIRI text served: it gives every call the propagated time and place of the last accepted feed, or has no journey
-- where there was none
pub record ServesText (Cause : Type 0) (setting : Setting) (arrivals : List Arrival) (entry : Entry) : Type 0 where
  pub asked : IsRequest entry.input (Get resource.Timetable)
  pub text : List ℕ
  pub output : IsFront Cause entry.output (answer_of answer.Json text)
  pub says : IsLastSiri setting arrivals text

-- an entry shows the one or the other, over what had arrived before the log and what arrived of the entries before it
pub record Shows (Cause : Type 0) (setting : Setting) (past : List Arrival) (earlier : List Entry) (entry : Entry)
    : Type 0 where
  pub arrivals : List Arrival
  pub arrived : HasArrived setting past earlier arrivals
  pub served : ServesFeed Cause setting arrivals entry ⊎ ServesText Cause setting arrivals entry

-- what a server of these words shows, over the setting of its files, where `serve` has these optional pairs
pub record ShowsAsTold (optional : List Pair) (Cause : Type 0) (words : List (List ℕ)) (files : Directory)
    (past : List Arrival) (earlier : List Entry) (entry : Entry) : Type 0 where
  pub command : Serve
  pub accepted : IsJobWith optional words (serve_job command)
  pub setting : Setting
  pub has_setting : IsSetting command.scope (Some command.keep) files setting
  pub shows : Shows Cause setting past earlier entry

-- over any connections: the log got entries, and each that is marked Shown shows what it is to, after those before it
pub record HeadlineBy (ShowsThis : List Entry → Entry → Type 0) (told : Connections) (now : Beside) : Type 0 where
  pub entries : List Entry
  pub left : Connections
  pub logged : HasLogged told now entries left
  pub shown : (earlier : List Entry) (entry : Entry) (later : List Entry) → entries ≡ earlier ++ entry ∷ later
      → entry.mark ≡ mark.Shown → ShowsThis earlier entry

-- after what had arrived before them
abbrev pub HeadlineWith : List Pair → Type 0 → List (List ℕ) → Directory → List Arrival → Connections → Beside → Type 0
HeadlineWith optional Cause words files past told now =
    HeadlineBy (ShowsAsTold optional Cause words files past) told now

-- of a server without a journal
abbrev pub Headline : Type 0 → List (List ℕ) → Directory → List Arrival → Connections → Beside → Type 0
Headline Cause words files past told now = HeadlineWith [] Cause words files past told now
