-- How a connection ends.
use Rattle.std.proofs.Common.{◌≡◌, ◌∙◌, ◌++◌, ◌∷◌, [], ℕ, ℤ, Bool, true, false, List, Option, Some, None, Ok, Err, drop, take, length, ap, sym, refl, subst}
use Rattle.std.proofs.lemmas.Bool.{true≢false}
use Rattle.std.specs.Prelude.{IfSome, MatchOption, not, option_map}
use Rattle.gw_base.specs.Changes.{Change}
use Rattle.gw_base.specs.Connections.{Beside, Connections, IsOutput, Logs}
use Rattle.gw_base.specs.Told.{PutsUnless, with_bytes}
use Rattle.gw_base.specs.declared.door.Entry.{Entry}
use Rattle.gw_base.specs.declared.door.Mark.{Mark}
use Rattle.gw_base.specs.declared.door.Mark.TheVariants as mark
use Rattle.door_talk.specs.Requests.{AsksFor, HasRead}
use Rattle.door_talk.specs.declared.asked.Asked.{Asked}
use Rattle.http_talk.specs.Asked.{action_of}
use Rattle.http_talk.specs.Request.{Get, IsRequest, Post, Refused, ended, headed, request_of, too_long}
use Rattle.http_talk.specs.declared.answer.Answer.TheVariants as answer
use Rattle.http_talk.specs.declared.refusal.Refusal.{Refusal}
use Rattle.http_talk.specs.declared.refusal.Refusal.TheVariants as refusal
use Rattle.http_talk.specs.declared.target.Action.{Action}
use Rattle.http_talk.specs.declared.target.Action.TheVariants as action
use Rattle.http_talk.specs.declared.target.Resource.{Resource}
use Rattle.gw_base.specs.declared.kind.Kind.{Kind}
use Rattle.gateway_core.specs.Arrivals.{Arrival, Given, feed, journeys, situations}
use Rattle.gateway_core.specs.Standing.{Kept, Stands}
use Rattle.gateway_core.specs.Taking.{report_json}
use Rattle.gateway_core.specs.declared.setting.Setting.{Setting}
use Rattle.gateway_server.specs.Answers as answers
use Rattle.http_talk.specs.Statuses.{status_of}
use Rattle.gateway_server.specs.Answers.{answer_of, mark_of, refused_with}
use Rattle.gateway_server.specs.Holding.{Held, Room}
use Rattle.gateway_server.specs.Log.{HasRoom, IsFront, IsLawfulBy, IsPosted, answered, brought, full, is_taken, lost, no_clock, no_memory, nothing, unkept}
use Rattle.gateway_server.specs.Past.{IsLawfulAfter, LeavesPast, Past, StandsFor, behind, is_unkept, stays}
use Rattle.gateway_server.specs.Serving.{AsksClock, IsFresh, IsLogged, ServesAfter}
use Rattle.gateway_server.specs.Steps as steps
use Rattle.gateway_server.specs.Steps.{Answers, PutsShown, PutsTaken, entry_at}

-- what a prefix of an answer is, after nothing
pub front_of : (P : Type 0) (before now : Option (List ℕ)) (text : List ℕ) → before ≡ Some [] → PutsUnless P before now text
    → (written : List ℕ) × (now ≡ Some written) × IsFront P written text
front_of P before now text fresh puts =
    (take puts.0 text, puts.2 ∙ ap (λ told. with_bytes told (take puts.0 text)) fresh, (puts.0, puts.1, refl, puts.3))

-- a body that was read whole was posted
pub is_posted : (input body : List ℕ) (of : Kind) → IsRequest input (Post of body) → IsPosted input
is_posted input body of (ended until is) = absurd (not_refused is)
  where
    not_refused : Post of body ≡ Refused refusal.Head → ⊥
    not_refused is = cc
is_posted input body of (too_long long is) = absurd (not_refused is)
  where
    not_refused : Post of body ≡ Refused refusal.TooManyFields → ⊥
    not_refused is = cc
is_posted input body of (headed count (Err why) is_head is) = absurd (not_refused is)
  where
    not_refused : Post of body ≡ Refused why → ⊥
    not_refused is = cc
is_posted input body of (headed count (Ok head) is_head is) = posted (action_of head.target) refl is
  where
    posted : (a : Action) → action_of head.target ≡ a → Post of body ≡ request_of a head.length (drop count input) → IsPosted input
    posted (action.Get what) e same = absurd (not_got same)
      where
        not_got : Post of body ≡ Get what → ⊥
        not_got is = cc
    posted (action.Post other) e same = (count, head, other, is_head, e)

-- ---- what there is after it

-- the mark of what was given
given_taken : (given : Given) → is_taken (mark_of given) ≡ true
given_taken (journeys records) = refl
given_taken (situations all) = refl
given_taken (feed one) = refl

given_kept : (given : Given) → not (is_unkept (mark_of given)) ≡ true
given_kept (journeys records) = refl
given_kept (situations all) = refl
given_kept (feed one) = refl

-- under a mark under which no body was taken none has to have room
not_taken : (is_full : List ℕ → Bool) (entry : Entry) → is_taken entry.mark ≡ false → HasRoom is_full entry
not_taken is_full entry is taken = absurd (true≢false (sym taken ∙ is))

-- all is as before
leaves_all : (room : Room) (setting : Setting) (past : Past) (entry : Entry) → is_taken entry.mark ≡ false → not (is_unkept entry.mark) ≡ true → past.is_sound ≡ true
    → LeavesPast room setting past entry past
leaves_all room setting past entry is kept sound = record {
  arrived = nothing is refl;
  end = stays is refl;
  sound = sound ∙ sym kept;
}

module _ (P U : Type 0) (room : Room) (held : Held) (past : Past) (stood : StandsFor held past) (sound : held.is_sound ≡ true) (input : List ℕ) (moment : ℤ) (before now : Option (List ℕ)) (fresh : before ≡ Some []) where
  is_sound : past.is_sound ≡ true
  is_sound = stood.sound ∙ sound

  -- an answer under a mark under which no body was taken
  answers_so : (ends : Mark) (text : List ℕ) → PutsUnless P before now text → is_taken ends ≡ false → not (is_unkept ends) ≡ true
      → ((written : List ℕ) → IsFront P written text → IsLawfulBy P U (λ body. room.is_full past.end (length body)) held.gate.setting past.arrivals (entry_at input moment ends written))
      → Answers P U room held.gate.setting past input moment ends now held
  answers_so ends text puts is kept lawful =
      let front : (written : List ℕ) × (now ≡ Some written) × IsFront P written text = front_of P before now text fresh puts in record {
        written = front.0;
        told = front.1;
        lawful = (is_sound, lawful front.0 front.2);
        arrived = past;
        leaves = leaves_all room held.gate.setting past (entry_at input moment ends front.0) is kept is_sound;
        stands = stood;
      }

  -- a GET was answered
  pub answers_shown : (what : Resource) → IsRequest input (Get what) → PutsShown P held.gate.setting past.arrivals moment what before now
      → Answers P U room held.gate.setting past input moment mark.Shown now held
  answers_shown what asks (steps.feed body is shown puts) =
      answers_so mark.Shown (answer_of answer.Feed body) puts refl refl (λ written front.
      answered moment (answer_of answer.Feed body) refl (answers.feed_shown body (subst (λ t. IsRequest input (Get t)) is asks) shown refl refl)
      (not_taken (λ (body : List ℕ). room.is_full past.end (length body)) (entry_at input moment mark.Shown written) refl) front)
  answers_shown what asks (steps.text body is shown puts) =
      answers_so mark.Shown (answer_of answer.Json body) puts refl refl (λ written front.
      answered moment (answer_of answer.Json body) refl (answers.text_shown body (subst (λ t. IsRequest input (Get t)) is asks) shown refl refl)
      (not_taken (λ (body : List ℕ). room.is_full past.end (length body)) (entry_at input moment mark.Shown written) refl) front)

  -- there was no memory for what was posted, and all is as before
  pub answers_no_room : IsPosted input → PutsUnless P before now (refused_with refusal.Memory)
      → Answers P U room held.gate.setting past input moment mark.Memory now held
  answers_no_room posted puts =
      answers_so mark.Memory (refused_with refusal.Memory) puts refl refl (λ written front. no_memory moment refl refl posted front)

  -- a request was refused
  pub answers_refused : (why : Refusal) → IsRequest input (Refused why) → PutsUnless P before now (refused_with why)
      → Answers P U room held.gate.setting past input moment (mark.Refused (status_of why).code) now held
  answers_refused why asks puts =
      answers_so (mark.Refused (status_of why).code) (refused_with why) puts refl refl (λ written front.
      answered moment (refused_with why) refl (answers.refused why asks refl refl)
      (not_taken (λ (body : List ℕ). room.is_full past.end (length body)) (entry_at input moment (mark.Refused (status_of why).code) written) refl) front)

  -- a POST was answered: what is held then is as before, or another
  answered_as : (ends other : Mark) (after : Held) → ends ≡ other → after ≡ held → Answers P U room held.gate.setting past input moment other now held
      → Answers P U room held.gate.setting past input moment ends now after
  answered_as ends other after is same so =
      subst (λ (h : Held). Answers P U room held.gate.setting past input moment ends now h) (sym same)
      (subst (λ (m : Mark). Answers P U room held.gate.setting past input moment m now held) (sym is) so)

  pub answers_taken : (of : Kind) (body : List ℕ) (ends : Mark) (after : Held) → IsRequest input (Post of body)
      → PutsTaken P U room held past.arrivals moment of body ends before now after → Answers P U room held.gate.setting past input moment ends now after
  answers_taken of body ends after asks (steps.taken report given brings fits is puts stands end more) =
      let front : (written : List ℕ) × (now ≡ Some written) × IsFront P written (answer_of answer.Json (report_json report)) = front_of P before now (answer_of answer.Json (report_json report)) fresh puts in record {
        written = front.0;
        told = front.1;
        lawful = (
          is_sound,
          answered moment (answer_of answer.Json (report_json report)) refl (answers.taken of body report given asks brings is refl)
              (λ taken. (of, body, asks, ap (λ (at : ℕ). room.is_full at (length body)) (stood.end sound) ∙ fits)) front.2,
        );
        arrived = record { arrivals = record { moment = moment; gives = given } ∷ past.arrivals; end = room.end_after past.end (length body); is_sound = true };
        leaves = record {
          arrived = brought moment of body report given refl is asks brings refl;
          end = behind of body (ap is_taken is ∙ given_taken given) asks refl;
          sound = sym (ap (λ (m : Mark). not (is_unkept m)) is ∙ given_kept given);
        };
        stands = record {
          stands = stands;
          sound = sym more;
          end = λ _. ap (λ (at : ℕ). room.end_after at (length body)) (stood.end sound) ∙ sym end;
        };
      }
  answers_taken of body ends after asks (steps.refused fault why is puts same) =
      answered_as ends (mark.Refused 400) after is same
      (answers_so (mark.Refused 400) (refused_with (refusal.Body fault)) puts refl refl (λ written front.
      answered moment (refused_with (refusal.Body fault)) refl (answers.body_refused of body fault asks why refl refl)
      (not_taken (λ (body : List ℕ). room.is_full past.end (length body)) (entry_at input moment (mark.Refused 400) written) refl) front))
  answers_taken of body ends after asks (steps.no_memory is puts same) =
      answered_as ends mark.Memory after is same (answers_no_room (is_posted input body of asks) puts)
  answers_taken of body ends after asks (steps.full can is_full is puts same) =
      answered_as ends (mark.Refused 500) after is same
      (answers_so (mark.Refused 500) (refused_with refusal.JournalFull) puts refl refl (λ written front.
      full moment of body refl refl asks can (ap (λ (at : ℕ). room.is_full at (length body)) (stood.end sound) ∙ is_full) front))
  answers_taken of body ends after asks (steps.unkept can cause is puts same over) =
      let front : (written : List ℕ) × (now ≡ Some written) × IsFront P written (refused_with refusal.Journal) = front_of P before now (refused_with refusal.Journal) fresh puts in record {
        written = front.0;
        told = front.1;
        lawful = (is_sound, unkept moment of body is refl asks can cause front.2);
        arrived = record { arrivals = past.arrivals; end = past.end; is_sound = false };
        leaves = record {
          arrived = nothing (ap is_taken is) refl;
          end = stays (ap is_taken is) refl;
          sound = sym (ap (λ (m : Mark). not (is_unkept m)) is);
        };
        stands = record {
          stands = subst (λ (k : Kept). Stands k past.arrivals) (sym same) stood.stands;
          sound = sym over;
          end = λ takes_more. absurd (true≢false (sym takes_more ∙ over));
        };
      }

  -- a read failed
  pub answers_lost : now ≡ Some [] → P → Answers P U room held.gate.setting past input moment mark.Lost now held
  answers_lost is cause = record {
    written = [];
    told = is;
    lawful = (is_sound, lost moment refl refl refl cause);
    arrived = past;
    leaves = leaves_all room held.gate.setting past (entry_at input moment mark.Lost []) refl refl is_sound;
    stands = stood;
  }

-- ---- the end

-- the causes may be wider ones
front_wider : (P Q : Type 0) (output bytes : List ℕ) → (P → Q) → IsFront P output bytes → IsFront Q output bytes
front_wider P Q output bytes wider front = (front.0, front.1, front.2, λ lt. wider (front.3 lt))

pub lawful_wider : (P Q U V : Type 0) (is_full : List ℕ → Bool) (setting : Setting) (arrivals : List Arrival) (entry : Entry) → (P → Q) → (U → V)
    → IsLawfulBy P U is_full setting arrivals entry → IsLawfulBy Q V is_full setting arrivals entry
lawful_wider P Q U V is_full setting arrivals entry wider also (no_clock is none front) = no_clock is none (front_wider P Q entry.output (refused_with refusal.Clock) wider front)
lawful_wider P Q U V is_full setting arrivals entry wider also (lost moment is some empty cause) = lost moment is some empty (wider cause)
lawful_wider P Q U V is_full setting arrivals entry wider also (no_memory moment is some posted front) =
    no_memory moment is some posted (front_wider P Q entry.output (refused_with refusal.Memory) wider front)
lawful_wider P Q U V is_full setting arrivals entry wider also (unkept moment of body is some asks can cause front) =
    unkept moment of body is some asks can (also cause) (front_wider P Q entry.output (refused_with refusal.Journal) wider front)
lawful_wider P Q U V is_full setting arrivals entry wider also (full moment of body is some asks can no_room front) =
    full moment of body is some asks can no_room (front_wider P Q entry.output (refused_with refusal.JournalFull) wider front)
lawful_wider P Q U V is_full setting arrivals entry wider also (answered moment bytes some says room front) =
    answered moment bytes some says room (front_wider P Q entry.output bytes wider front)

pub after_wider : (P Q U V : Type 0) (room : Room) (setting : Setting) (past : Past) (entry : Entry) → (P → Q) → (U → V)
    → IsLawfulAfter P U room setting past entry → IsLawfulAfter Q V room setting past entry
after_wider P Q U V room setting past entry wider also (sound, lawful) =
    (sound, lawful_wider P Q U V (λ (body : List ℕ). room.is_full past.end (length body)) setting past.arrivals entry wider also lawful)

-- what is told of a door after a part of the input was read
pub had_read : (old mid : Beside) (bytes : List ℕ) (told : Connections) → old.told ≡ Some told → HasRead old mid bytes
    → (rest : List ℕ) × (mid.told ≡ Some (record { coming = told.coming; input = told.input; unread = rest; log = told.log }))
had_read old mid bytes told tells read =
    let found : (rest : List ℕ) × (told.unread ≡ bytes ++ rest) × (mid.told ≡ Some (record { coming = told.coming; input = told.input; unread = rest; log = told.log })) =
    subst (λ (t : Option Connections). MatchOption t (mid.told ≡ None) (λ told. (rest : List ℕ) × (told.unread ≡ bytes ++ rest) × (mid.told ≡ Some (record { coming = told.coming; input = told.input; unread = rest; log = told.log })))) tells read.1 in
    (found.0, found.2)

-- and after it was finished: the log has this entry more
has_logged : (mid new : Beside) (output : Option (List ℕ)) (written : List ℕ) (ends : Mark) (moment : Option ℤ) (told : Connections) → mid.told ≡ Some told → output ≡ Some written
    → Logs mid new output ends moment → IsLogged told new (record { input = told.input; mark = ends; moment = moment; output = written })
has_logged mid new output written ends moment told tells is logs =
    let found : (last : List ℕ) × IsOutput output last × (new.told ≡ Some (record { coming = told.coming; input = []; unread = []; log = told.log ++ record { input = told.input; mark = ends; moment = moment; output = last } ∷ [] })) =
    subst (λ (t : Option Connections). MatchOption t (new.told ≡ None) (λ told. (last : List ℕ) × IsOutput output last × (new.told ≡ Some (record { coming = told.coming; input = []; unread = []; log = told.log ++ record { input = told.input; mark = ends; moment = moment; output = last } ∷ [] })))) tells logs.1 in
    let same : found.0 ≡ written = subst (λ (t : Option (List ℕ)). IfSome t (λ written. found.0 ≡ written)) is found.1 in record {
      input = refl;
      log = subst (λ (last : List ℕ). new.told ≡ Some (record { coming = told.coming; input = []; unread = []; log = told.log ++ record { input = told.input; mark = ends; moment = moment; output = last } ∷ [] })) same found.2;
    }

-- a connection at a moment
pub serves_at : (P Q U : Type 0) (room : Room) (before : Held) (past : Past) (told : Connections) (clock : Change (List ℤ)) (old mid new : Beside) (bytes : List ℕ) (output last : Option (List ℕ)) (moment : ℤ) (ends : Mark) (now : Held)
    → (P → Q) → old.told ≡ Some told → HasRead old mid bytes → Answers P U room before.gate.setting past told.input moment ends output now
    → Logs mid new output ends (Some moment) → last ≡ option_map (λ _. []) output → AsksClock clock (Some moment) → ServesAfter Q U room before past told clock last new now
serves_at P Q U room before past told clock old mid new bytes output last moment ends now wider tells read says logs cleared asks =
    let left : (rest : List ℕ) × (mid.told ≡ Some (record { coming = told.coming; input = told.input; unread = rest; log = told.log })) = had_read old mid bytes told tells read in
    let logged : IsLogged (record { coming = told.coming; input = told.input; unread = left.0; log = told.log }) new (entry_at told.input moment ends says.written) =
    has_logged mid new output says.written ends (Some moment) (record { coming = told.coming; input = told.input; unread = left.0; log = told.log }) left.1 says.told logs in record {
      entry = entry_at told.input moment ends says.written;
      logged = record { input = refl; log = logged.log };
      unwritten = cleared ∙ ap (option_map (λ _. [])) says.told;
      asked = asks;
      lawful = after_wider P Q U U room before.gate.setting past (entry_at told.input moment ends says.written) wider (λ cause. cause) says.lawful;
      arrived = says.arrived;
      leaves = says.leaves;
      stands = says.stands;
    }

-- ---- what was asked

pub asked_of : (Stands : Kind → List ℕ → Type 0) (output : Option (List ℕ)) (beside : Beside) (told : Connections) (asked one : Asked) → IsFresh output beside told
    → IfSome beside.told (λ told. AsksFor Stands told.unread asked) → asked ≡ one → AsksFor Stands told.input one
asked_of Stands output beside told asked one fresh asks is =
    subst (AsksFor Stands told.input) is
    (subst (λ (input : List ℕ). AsksFor Stands input asked) fresh.unread
    (subst (λ (t : Option Connections). IfSome t (λ told. AsksFor Stands told.unread asked)) fresh.tells asks))

pub answers_wider : (P Q U : Type 0) (room : Room) (setting : Setting) (past : Past) (input : List ℕ) (moment : ℤ) (ends : Mark) (output : Option (List ℕ)) (now : Held)
    → (P → Q) → Answers P U room setting past input moment ends output now → Answers Q U room setting past input moment ends output now
answers_wider P Q U room setting past input moment ends output now wider is = record {
  written = is.written;
  told = is.told;
  lawful = after_wider P Q U U room setting past (entry_at input moment ends is.written) wider (λ cause. cause) is.lawful;
  arrived = is.arrived;
  leaves = is.leaves;
  stands = is.stands;
}
