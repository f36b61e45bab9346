-- The board of what a gateway took is that of the files' deliveries.
use Rattle.std.proofs.Common.{◌≡◌, ℕ, List, Result, Ok, Err, Option, Some, None, IfSome, inl, refl, subst, sym}
use Rattle.gw_base.specs.Answers.{UnlessFree}
use Rattle.gw_base.proofs.AnswerLemmas.{unless_free}
use Rattle.timetable.specs.declared.numbers.StopNo.{StopNo}
use Rattle.board_command.specs.Shown.{ShowsBoard}
use Rattle.gateway_core.specs.Arrivals.{Arrival}
use Rattle.gateway_core.specs.Standing.{Kept, Stands}
use Rattle.gateway_core.specs.declared.setting.Setting.{Setting}
use Rattle.file_commands.specs.Done.{Done}
use Rattle.file_commands.specs.Exits.{is_free}
use Rattle.file_commands.specs.Served.{TakesAll}
use Rattle.command_words.specs.Words.{Board}
use Rattle.file_commands.specs.Work.{Arrives, Directory, IsBoardOf, IsBoardOfFiles, nothing}
use Rattle.file_commands.specs.declared.exit.Exit.{Exit}

-- both texts are those of the board
pub board_shown : (command : Board) (setting : Setting) (stop : StopNo) (now : Kept) (reports out : List ℕ) (done : Done) → done ≡ record { out = out; err = reports }
    → ((arrivals : List Arrival) → Stands now arrivals → ShowsBoard setting command.at arrivals stop command.minutes command.most out)
    → (arrivals : List Arrival) → Stands now arrivals → IsBoardOf command setting stop (record { arrivals = arrivals; reports = reports }) (Ok done)
board_shown command setting stop now reports out done is shows arrivals stands =
    subst (λ (d : Done). IsBoardOf command setting stop (record { arrivals = arrivals; reports = reports }) (Ok d)) (sym is) (shows arrivals stands, refl)

-- the board of a gateway that took them all
pub board_found : (told : Option Directory) (command : Board) (setting last : Setting) (stop : StopNo) (now : Kept) (reports : List ℕ) (answer : Result Done Exit) → last ≡ setting
    → IfSome told (λ files. TakesAll (Arrives setting command.at files command.more nothing) now (Ok reports))
    → ((arrivals : List Arrival) → Stands now arrivals
    → UnlessFree is_free answer (IsBoardOf command last stop (record { arrivals = arrivals; reports = reports })))
    → IfSome told (λ files. UnlessFree is_free answer (IsBoardOfFiles command setting files stop))
board_found None command setting last stop now reports answer stays took says = tt
board_found (Some files) command setting last stop now reports (Ok done) stays (arrivals, arrived, stands) says = (
  record { arrivals = arrivals; reports = reports },
  arrived,
  subst (λ (s : Setting). IsBoardOf command s stop (record { arrivals = arrivals; reports = reports }) (Ok done)) stays (says arrivals stands),
)
board_found (Some files) command setting last stop now reports (Err end) stays (arrivals, arrived, stands) says =
    unless_free is_free end (IsBoardOf command last stop (record { arrivals = arrivals; reports = reports })) (IsBoardOfFiles command setting files stop)
    (λ h. absurd h) (says arrivals stands)

-- an end of the deliveries is the end of the board
pub no_board : (told : Option Directory) (command : Board) (setting : Setting) (stop : StopNo) (now : Kept) (end : Exit)
    → IfSome told (λ files. UnlessFree {T = List ℕ} is_free (Err end) (TakesAll (Arrives setting command.at files command.more nothing) now))
    → IfSome told (λ files. UnlessFree {T = Done} is_free (Err end) (IsBoardOfFiles command setting files stop))
no_board None command setting stop now end took = tt
no_board (Some files) command setting stop now end took =
    unless_free is_free end (TakesAll (Arrives setting command.at files command.more nothing) now) (IsBoardOfFiles command setting files stop) (λ h. inl h) took
