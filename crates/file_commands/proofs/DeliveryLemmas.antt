-- What the words left say after what arrived is what all words say.
use Rattle.std.proofs.Common.{◌≡◌, ◌∙◌, ◌<◌, ◌++◌, ◌∷◌, [], ℕ, ℤ, List, length, Result, Ok, Err, Option, Some, None, IfSome, inl, inr, refl, subst, arith}
use Rattle.std.specs.Prelude.{OnOk}
use Rattle.gw_base.specs.Answers.{UnlessFree}
use Rattle.gw_base.proofs.AnswerLemmas.{unless_free}
use Rattle.gw_base.specs.Limits.{body_limit}
use Rattle.journey_model.specs.declared.report.Report.{Report}
use Rattle.gateway_core.specs.Arrivals.{Arrival, Given}
use Rattle.gateway_core.specs.Reports.{feed_report}
use Rattle.gateway_core.specs.Standing.{Kept, Stands}
use Rattle.gateway_core.specs.declared.setting.Setting.{Setting}
use Rattle.file_commands.specs.Done.{Done}
use Rattle.file_commands.specs.Exits.{is_free}
use Rattle.file_commands.specs.Served.{IsStanding, Takes, TakesAll}
use Rattle.file_commands.specs.Work.{Arrived, Arrives, GivesBody, IsConversion, IsConverted, Directory, GivesFile, IsFurtherFile, nothing}
use Rattle.file_commands.specs.declared.exit.Exit.{Exit}

-- the file was read, and its body taken or refused
pub file_read : (told : Option Directory) (setting : Setting) (at : ℤ) (flag name body : List ℕ) (before now : Kept) (answer : Result Report Exit)
    → IfSome told (λ files. IsFurtherFile body_limit name files (Ok body))
    → ((arrivals : List Arrival) → Stands before arrivals → UnlessFree is_free answer (Takes (GivesBody setting at flag name body arrivals) at arrivals now))
    → IfSome told (λ files. (arrivals : List Arrival) → Stands before arrivals → UnlessFree is_free answer (Takes (GivesFile setting at flag name files arrivals) at arrivals now))
file_read None setting at flag name body before now answer read took = tt
file_read (Some files) setting at flag name body before now (Ok report) read took =
    λ arrivals stands. let got = took arrivals stands in (got.0, (body, read, got.1), got.2)
file_read (Some files) setting at flag name body before now (Err end) read took =
    λ arrivals stands.
    unless_free is_free end (Takes (GivesBody setting at flag name body arrivals) at arrivals now) (Takes (GivesFile setting at flag name files arrivals) at arrivals now)
    (λ h. inr (body, read, h)) (took arrivals stands)

-- a gateway that stands for what arrived stands for something after a body more, whatever its file tells
pub still_stands : (Step : List Arrival → Result (Given × Report) Exit → Type 0) (at : ℤ) (before now : Kept) (answer : Result Report Exit)
    → ((arrivals : List Arrival) → Stands before arrivals → UnlessFree is_free answer (Takes (Step arrivals) at arrivals now))
    → IsStanding before → OnOk answer (IsStanding now)
still_stands Step at before now (Ok report) took (arrivals, stands) =
    let got = took arrivals stands in (record { moment = at; gives = got.0 } ∷ arrivals, got.2)
still_stands Step at before now (Err end) took standing = tt

-- what arrived so far stands, and what the words left say after it is what all words say
pub record HasArrived (setting : Setting) (at : ℤ) (files : Directory) (words rest : List (List ℕ)) (now : Kept) (reports : List ℕ) : Type 0 where
  pub arrivals : List Arrival
  pub stands : Stands now arrivals
  pub back : (answer : Result Arrived Exit) → Arrives setting at files rest (record { arrivals = arrivals; reports = reports }) answer → Arrives setting at files words nothing answer

-- an end of the next file is the end of all
pub ends_with : (told : Option Directory) (setting own : Setting) (at : ℤ) (words rest later : List (List ℕ)) (flag name : List ℕ) (before now : Kept) (reports : List ℕ) (end : Exit)
    → own ≡ setting → rest ≡ flag ∷ name ∷ later
    → IfSome told (λ files. HasArrived setting at files words rest before reports)
    → IfSome told (λ files. (arrivals : List Arrival) → Stands before arrivals → UnlessFree {T = Report} is_free (Err end) (Takes (GivesFile own at flag name files arrivals) at arrivals now))
    → IfSome told (λ files. UnlessFree {T = List ℕ} is_free (Err end) (TakesAll (Arrives setting at files words nothing) now))
ends_with None setting own at words rest later flag name before now reports end stays same held took = tt
ends_with (Some files) setting own at words rest later flag name before now reports end stays same held took =
    unless_free is_free end (Takes (GivesFile own at flag name files held.arrivals) at held.arrivals now) (TakesAll (Arrives setting at files words nothing) now)
    (λ h. held.back (Err end) (rw same (inl (subst (λ (s : Setting). GivesFile s at flag name files held.arrivals (Err end)) stays h)))) (took held.arrivals held.stands)

-- the next file was taken
pub goes_on : (told : Option Directory) (setting own : Setting) (at : ℤ) (words rest later : List (List ℕ)) (flag name : List ℕ) (before now : Kept) (reports more : List ℕ) (report : Report)
    → own ≡ setting → rest ≡ flag ∷ name ∷ later → more ≡ reports ++ feed_report name report
    → IfSome told (λ files. HasArrived setting at files words rest before reports)
    → IfSome told (λ files. (arrivals : List Arrival) → Stands before arrivals → Takes (GivesFile own at flag name files arrivals) at arrivals now (Ok report))
    → IfSome told (λ files. HasArrived setting at files words later now more)
goes_on None setting own at words rest later flag name before now reports more report stays same longer held took = tt
goes_on (Some files) setting own at words rest later flag name before now reports more report stays same longer held took =
    record {
      arrivals = record { moment = at; gives = got.0 } ∷ held.arrivals;
      stands = got.2;
      back = by;
    }
  where
    got : Takes (GivesFile own at flag name files held.arrivals) at held.arrivals now (Ok report)
    got = took held.arrivals held.stands

    gives : GivesFile setting at flag name files held.arrivals (Ok (got.0, report))
    gives = subst (λ (s : Setting). GivesFile s at flag name files held.arrivals (Ok (got.0, report))) stays got.1

    after : List ℕ → Arrived
    after lines = record { arrivals = record { moment = at; gives = got.0 } ∷ held.arrivals; reports = lines }

    by : (answer : Result Arrived Exit) → Arrives setting at files later (after more) answer → Arrives setting at files words nothing answer
    by (Ok found) h =
        held.back (Ok found) (rw same ((got.0, report), gives, subst (λ (lines : List ℕ). Arrives setting at files later (after lines) (Ok found)) longer h))
    by (Err end) h =
        held.back (Err end) (rw same (inr ((got.0, report), gives, subst (λ (lines : List ℕ). Arrives setting at files later (after lines) (Err end)) longer h)))

-- no file is left
pub none_left : (told : Option Directory) (setting : Setting) (at : ℤ) (words rest : List (List ℕ)) (now : Kept) (reports : List ℕ) → length rest < 2
    → IfSome told (λ files. HasArrived setting at files words rest now reports)
    → IfSome told (λ files. TakesAll (Arrives setting at files words nothing) now (Ok reports))
none_left None setting at words rest now reports few held = tt
none_left (Some files) setting at words [] now reports few held = (held.arrivals, held.back (Ok (record { arrivals = held.arrivals; reports = reports })) refl, held.stands)
none_left (Some files) setting at words (flag ∷ []) now reports few held = (held.arrivals, held.back (Ok (record { arrivals = held.arrivals; reports = reports })) refl, held.stands)
none_left (Some files) setting at words (flag ∷ name ∷ rest) now reports few held = absurd (omega arith)

-- what a gateway serves that took them all is the conversion
pub converted : (told : Option Directory) (setting first last : Setting) (at : ℤ) (words : List (List ℕ)) (now : Kept) (reports : List ℕ) (done : Done)
    → first ≡ setting → last ≡ first
    → IfSome told (λ files. TakesAll (Arrives first at files words nothing) now (Ok reports))
    → ((arrivals : List Arrival) → Stands now arrivals → IsConverted at last (record { arrivals = arrivals; reports = reports }) (Ok done))
    → IfSome told (λ files. IsConversion at setting words files (Ok done))
converted None setting first last at words now reports done begins stays took serves = tt
converted (Some files) setting first last at words now reports done begins stays (arrivals, arrived, stands) serves = (
  record { arrivals = arrivals; reports = reports },
  subst (λ (s : Setting). Arrives s at files words nothing (Ok (record { arrivals = arrivals; reports = reports }))) begins arrived,
  subst (λ (s : Setting). IsConverted at s (record { arrivals = arrivals; reports = reports }) (Ok done)) (stays ∙ begins) (serves arrivals stands),
)

-- an end of the deliveries is the end of the conversion
pub not_converted : (told : Option Directory) (setting first : Setting) (at : ℤ) (words : List (List ℕ)) (now : Kept) (end : Exit) → first ≡ setting
    → IfSome told (λ files. UnlessFree {T = List ℕ} is_free (Err end) (TakesAll (Arrives first at files words nothing) now))
    → IfSome told (λ files. UnlessFree {T = Done} is_free (Err end) (IsConversion at setting words files))
not_converted None setting first at words now end begins took = tt
not_converted (Some files) setting first at words now end begins took =
    unless_free is_free end (TakesAll (Arrives first at files words nothing) now) (IsConversion at setting words files)
    (λ h. inl (subst (λ (s : Setting). Arrives s at files words nothing (Err end)) begins h)) took
