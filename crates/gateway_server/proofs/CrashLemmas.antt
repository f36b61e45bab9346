-- The bodies of connections that were kept, or of which keeping failed.
use Rattle.std.proofs.Common.{◌≡◌, ◌∙◌, ◌++◌, ◌∷◌, [], ℕ, ℤ, Bool, true, false, List, Option, Some, None, Err, inl, inr, ap, append-nil, append_assoc, refl, subst, sym}
use Rattle.std.proofs.lemmas.Bool.{true≢false}
use Rattle.std.proofs.lemmas.List.{append_cancel_left}
use Rattle.std.proofs.lemmas.Option.{same_Some}
use Rattle.std.specs.Prelude.{MatchOption, option_map}
use Rattle.gw_base.specs.Changes.{Change}
use Rattle.gw_base.specs.Connections.{Arrives, Beside, Connections, IsOutput, Logs}
use Rattle.gw_base.specs.declared.door.Entry.{Entry}
use Rattle.gw_base.specs.declared.door.Mark.{Mark}
use Rattle.gw_base.specs.declared.door.Mark.TheVariants as mark
use Rattle.gw_base.specs.declared.kind.Kind.{Kind}
use Rattle.gw_base.specs.declared.kind.Kind.TheVariants as kind
use Rattle.http_talk.specs.declared.refusal.BodyFault.{BodyFault}
use Rattle.delivery_journal.specs.Kept.{KeptBody}
use Rattle.gateway_server.specs.Bodies.{fault_of, mark_for, refused_mark, taken_mark}
use Rattle.gateway_server.specs.Crashes.{AreBodies, HoldsOfBodies, IsPostedIn}
use Rattle.gateway_server.specs.Holding.{Held, IsLeft, IsUnkept, Room, failed_of, taken_of}
use Rattle.gateway_server.specs.Log.{is_taken}
use Rattle.gateway_server.specs.Past.{Past, StandsFor, is_unkept}
use Rattle.gateway_server.specs.Serving.{AsksClock, IsFresh, IsLogged, LogsOne, ServesAfter, Tells}
use Rattle.gateway_server.specs.Steps.{body_where}
use Rattle.gateway_server.specs.declared.not_taken.NotTaken.{NotTaken}
use Rattle.gateway_server.specs.declared.not_taken.NotTaken.TheVariants as not_taken
use Rattle.gateway_server.proofs.LoopLemmas.{arrives_fresh}

-- ---- a posted body

module _ (Keeps : List KeptBody → List KeptBody → Type 0) (before : List KeptBody) (new : KeptBody) where
  pub keeps_taken : (of : Kind) (ends : Mark) → ends ≡ taken_mark of → Keeps (before ++ new ∷ []) []
      → Keeps (before ++ body_where (is_taken ends) new) (body_where (is_unkept ends) new)
  keeps_taken of ends is keeps = subst (λ (m : Mark). Keeps (before ++ body_where (is_taken m) new) (body_where (is_unkept m) new)) (sym is) (by of)
    where
      by : (of : Kind) → Keeps (before ++ body_where (is_taken (taken_mark of)) new) (body_where (is_unkept (taken_mark of)) new)
      by kind.Estimated = keeps
      by kind.Situations = keeps
      by kind.Feed = keeps

  keeps_fault : (fault : Option BodyFault) → Keeps (before ++ []) []
      → Keeps (before ++ body_where (is_taken (refused_mark fault)) new) (body_where (is_unkept (refused_mark fault)) new)
  keeps_fault None keeps = keeps
  keeps_fault (Some fault) keeps = keeps

  keeps_not : (why : NotTaken) → Keeps (before ++ taken_of (Err why) new) (failed_of (Err why) new)
      → Keeps (before ++ body_where (is_taken (mark_for why)) new) (body_where (is_unkept (mark_for why)) new)
  keeps_not (not_taken.Refused why) keeps = keeps_fault (fault_of why) keeps
  keeps_not not_taken.Unkept keeps = keeps
  keeps_not not_taken.Full keeps = keeps

  pub keeps_not_taken : (why : NotTaken) (ends : Mark) → ends ≡ mark_for why → Keeps (before ++ taken_of (Err why) new) (failed_of (Err why) new)
      → Keeps (before ++ body_where (is_taken ends) new) (body_where (is_unkept ends) new)
  keeps_not_taken why ends is keeps =
      subst (λ (m : Mark). Keeps (before ++ body_where (is_taken m) new) (body_where (is_unkept m) new)) (sym is) (keeps_not why keeps)

-- where more can be taken keeping it didn't fail
pub kept_taken : (of : Kind) (ends : Mark) → ends ≡ taken_mark of → is_unkept ends ≡ false
kept_taken of ends is = ap is_unkept is ∙ by of
  where
    by : (of : Kind) → is_unkept (taken_mark of) ≡ false
    by kind.Estimated = refl
    by kind.Situations = refl
    by kind.Feed = refl

pub kept_not_taken : (held now : Held) (why : NotTaken) (ends : Mark) → ends ≡ mark_for why → IsLeft held (Err why) now → now.is_sound ≡ true → is_unkept ends ≡ false
kept_not_taken held now why ends is left sound = ap is_unkept is ∙ by why left
  where
    by_fault : (fault : Option BodyFault) → is_unkept (refused_mark fault) ≡ false
    by_fault None = refl
    by_fault (Some fault) = refl

    by : (why : NotTaken) → IsLeft held (Err why) now → is_unkept (mark_for why) ≡ false
    by (not_taken.Refused why) left = by_fault (fault_of why)
    by not_taken.Unkept left = absurd (true≢false (sym sound ∙ left.1))
    by not_taken.Full left = refl

-- more can be taken, unless the count of faults rose
pub failed_so : (held now : Held) (why : NotTaken) (Risen : Type 0) → held.is_sound ≡ true → IsLeft held (Err why) now → (IsUnkept (Err why) → Risen) → now.is_sound ≡ false → Risen
failed_so held now why Risen sound left cause is = by why left cause
  where
    by : (why : NotTaken) → IsLeft held (Err why) now → (IsUnkept (Err why) → Risen) → Risen
    by (not_taken.Refused why) left cause = absurd (true≢false (sym sound ∙ ap (λ (h : Held). h.is_sound) (sym left) ∙ is))
    by not_taken.Unkept left cause = cause tt
    by not_taken.Full left cause = absurd (true≢false (sym sound ∙ ap (λ (h : Held). h.is_sound) (sym left) ∙ is))

-- ---- a connection

are_where : (is_one : Mark → Bool) (entry : Entry) (one : KeptBody) → IsPostedIn entry one → (b : Bool) → is_one entry.mark ≡ b
    → AreBodies is_one (entry ∷ []) (body_where b one)
are_where is_one entry one posted true is = inr (is, one, [], refl, posted, refl)
are_where is_one entry one posted false is = inl (is, refl)

module _ (Keeps : List KeptBody → List KeptBody → Type 0) (before : List KeptBody) (is_sound : Bool) (entry : Entry) where
  -- whose body was kept, or of which keeping failed
  pub one_posted : (one : KeptBody) → IsPostedIn entry one → (is_sound ≡ true → is_unkept entry.mark ≡ false)
      → Keeps (before ++ body_where (is_taken entry.mark) one) (body_where (is_unkept entry.mark) one)
      → HoldsOfBodies (λ (taken failed : List KeptBody). Keeps (before ++ taken) failed) is_sound (entry ∷ [])
  one_posted one posted kept keeps = record {
    taken = body_where (is_taken entry.mark) one;
    failed = body_where (is_unkept entry.mark) one;
    taken_are = are_where is_taken entry one posted (is_taken entry.mark) refl;
    failed_are = are_where is_unkept entry one posted (is_unkept entry.mark) refl;
    none_failed = λ sound. ap (λ (b : Bool). body_where b one) (kept sound);
    holds = keeps;
  }

  -- of which no body was kept
  pub none_posted : is_taken entry.mark ≡ false → is_unkept entry.mark ≡ false → Keeps before []
      → HoldsOfBodies (λ (taken failed : List KeptBody). Keeps (before ++ taken) failed) is_sound (entry ∷ [])
  none_posted is_not kept keeps = record {
    taken = [];
    failed = [];
    taken_are = inl (is_not, refl);
    failed_are = inl (kept, refl);
    none_failed = λ sound. refl;
    holds = subst (λ (taken : List KeptBody). Keeps taken []) (sym (append-nil before)) keeps;
  }

-- its entry in the log is the one with which it was finished
pub logged_one : (mid new : Beside) (output : Option (List ℕ)) (ends : Mark) (moment : Option ℤ) (told left : Connections) (entry : Entry)
    → mid.told ≡ Some left → left.input ≡ told.input → left.log ≡ told.log → Logs mid new output ends moment → IsLogged told new entry
    → (written : List ℕ) × (◌≡◌ {A = List Entry} (record { input = told.input; mark = ends; moment = moment; output = written } ∷ []) (entry ∷ []))
logged_one mid new output ends moment told left entry tells input log logs logged =
    let found : (last : List ℕ) × IsOutput output last × (new.told ≡ Some (record { coming = left.coming; input = []; unread = []; log = left.log ++ record { input = left.input; mark = ends; moment = moment; output = last } ∷ [] })) =
    subst (λ (t : Option Connections). MatchOption t (new.told ≡ None) (λ told. (last : List ℕ) × IsOutput output last × (new.told ≡ Some (record { coming = told.coming; input = []; unread = []; log = told.log ++ record { input = told.input; mark = ends; moment = moment; output = last } ∷ [] })))) tells logs.1 in
    let same : ◌≡◌ {A = Connections} (record { coming = left.coming; input = []; unread = []; log = left.log ++ record { input = left.input; mark = ends; moment = moment; output = found.0 } ∷ [] })
    (record { coming = told.coming; input = []; unread = []; log = told.log ++ entry ∷ [] }) =
    same_Some _ _ (sym found.2 ∙ logged.log) in
    let logs_same : told.log ++ record { input = told.input; mark = ends; moment = moment; output = found.0 } ∷ [] ≡ told.log ++ entry ∷ [] =
    (λ i. sym log i ++ record { input = sym input i; mark = ends; moment = moment; output = found.0 } ∷ []) ∙ ap (λ (c : Connections). c.log) same in
    (found.0, append_cancel_left told.log (record { input = told.input; mark = ends; moment = moment; output = found.0 } ∷ []) (entry ∷ []) logs_same)

pub marked : (one other : Entry) → one ∷ [] ≡ other ∷ [] → one.mark ≡ other.mark
marked one other e = let same : one ≡ other = cc in ap (λ (entry : Entry). entry.mark) same

-- and the log grew by one
pub log_grows : (mid new : Beside) (output : Option (List ℕ)) (ends : Mark) (moment : Option ℤ) (told left : Connections) (clock : Change (List ℤ))
    → mid.told ≡ Some left → left.coming ≡ told.coming → left.input ≡ told.input → left.log ≡ told.log → Logs mid new output ends moment → AsksClock clock moment
    → LogsOne told clock new
log_grows mid new output ends moment told left clock tells coming input log logs asks =
    let found : (last : List ℕ) × IsOutput output last × (new.told ≡ Some (record { coming = left.coming; input = []; unread = []; log = left.log ++ record { input = left.input; mark = ends; moment = moment; output = last } ∷ [] })) =
    subst (λ (t : Option Connections). MatchOption t (new.told ≡ None) (λ told. (last : List ℕ) × IsOutput output last × (new.told ≡ Some (record { coming = told.coming; input = []; unread = []; log = told.log ++ record { input = told.input; mark = ends; moment = moment; output = last } ∷ [] })))) tells logs.1 in (
      record { input = told.input; mark = ends; moment = moment; output = found.0 },
      record {
        input = refl;
        log = found.2 ∙ (λ i. Some (record { coming = coming i; input = []; unread = []; log = log i ++ record { input = input i; mark = ends; moment = moment; output = found.0 } ∷ [] }));
      },
      asks,
    )

-- ---- connections, one after the other

are_joined : (is_one : Mark → Bool) (entries more : List Entry) (bodies others : List KeptBody) → AreBodies is_one entries bodies → AreBodies is_one more others
    → AreBodies is_one (entries ++ more) (bodies ++ others)
are_joined is_one [] more bodies others are rest = subst (λ (all : List KeptBody). AreBodies is_one more (all ++ others)) (sym are) rest
are_joined is_one (entry ∷ later) more bodies others (inl (is, are)) rest = inl (is, are_joined is_one later more bodies others are rest)
are_joined is_one (entry ∷ later) more bodies others (inr (is, first, behind, joined, posted, are)) rest =
    inr (is, first, behind ++ others, ap (λ (all : List KeptBody). all ++ others) joined, posted, are_joined is_one later more behind others are rest)

-- none yet
pub none_kept : (Keeps : List KeptBody → List KeptBody → Type 0) (before : List KeptBody) (is_sound : Bool) → Keeps before []
    → HoldsOfBodies (λ (taken failed : List KeptBody). Keeps (before ++ taken) failed) is_sound []
none_kept Keeps before is_sound keeps = record {
  taken = [];
  failed = [];
  taken_are = refl;
  failed_are = refl;
  none_failed = λ sound. refl;
  holds = subst (λ (taken : List KeptBody). Keeps taken []) (sym (append-nil before)) keeps;
}

-- one more
pub one_more_kept : (Mid Keeps : List KeptBody → List KeptBody → Type 0) (before : List KeptBody) (was_sound is_sound : Bool) (entries : List Entry) (entry : Entry) → was_sound ≡ true
    → HoldsOfBodies (λ (taken failed : List KeptBody). Mid (before ++ taken) failed) was_sound entries
    → ((kept : List KeptBody) → Mid kept [] → HoldsOfBodies (λ (taken failed : List KeptBody). Keeps (kept ++ taken) failed) is_sound (entry ∷ []))
    → HoldsOfBodies (λ (taken failed : List KeptBody). Keeps (before ++ taken) failed) is_sound (entries ++ entry ∷ [])
one_more_kept Mid Keeps before was_sound is_sound entries entry sound so_far next =
    let none : so_far.failed ≡ [] = so_far.none_failed sound in
    let one : HoldsOfBodies (λ (taken failed : List KeptBody). Keeps ((before ++ so_far.taken) ++ taken) failed) is_sound (entry ∷ []) =
    next (before ++ so_far.taken) (subst (λ (failed : List KeptBody). Mid (before ++ so_far.taken) failed) none so_far.holds) in record {
      taken = so_far.taken ++ one.taken;
      failed = one.failed;
      taken_are = are_joined is_taken entries (entry ∷ []) so_far.taken one.taken so_far.taken_are one.taken_are;
      failed_are = are_joined is_unkept entries (entry ∷ []) [] one.failed (subst (AreBodies is_unkept entries) none so_far.failed_are) one.failed_are;
      none_failed = one.none_failed;
      holds = subst (λ (taken : List KeptBody). Keeps taken one.failed) (append_assoc before so_far.taken one.taken) one.holds;
    }

-- the connections so far, and the bodies that were kept of them
pub record KeepsSoFar (Keeps : List KeptBody → List KeptBody → Type 0) (before : List KeptBody) (told : Connections) (output : Option (List ℕ)) (beside : Beside) (now : Held) : Type 0 where
  pub entries : List Entry
  pub left : Connections
  pub tells : Tells output beside left
  pub log : left.log ≡ told.log ++ entries
  pub arrived : Past
  pub stands : StandsFor now arrived
  pub bodies : HoldsOfBodies (λ (taken failed : List KeptBody). Keeps (before ++ taken) failed) now.is_sound entries

pub kept_none : (Keeps : List KeptBody → List KeptBody → Type 0) (before : List KeptBody) (held : Held) (past : Past) (told : Connections) (output : Option (List ℕ)) (beside : Beside)
    → Tells output beside told → StandsFor held past → Keeps before [] → KeepsSoFar Keeps before told output beside held
kept_none Keeps before held past told output beside tells stands keeps = record {
  entries = [];
  left = told;
  tells = tells;
  log = sym (append-nil told.log);
  arrived = past;
  stands = stands;
  bodies = none_kept Keeps before held.is_sound keeps;
}

-- one connection more
pub kept_more : (P U : Type 0) (room : Room) (Mid Keeps : List KeptBody → List KeptBody → Type 0) (before : List KeptBody) (mid now : Held) (told : Connections) (clock : Change (List ℤ))
    (old came new : Beside) (first output last : Option (List ℕ)) → KeepsSoFar Mid before told first old mid → mid.is_sound ≡ true → Arrives old came → output ≡ option_map (λ _. []) first
    → ((one : Connections) → IsFresh output came one → (past : Past) → StandsFor mid past → ServesAfter P U room mid past one clock last new now)
    → ((one : Connections) → IsFresh output came one → (entry : Entry) → IsLogged one new entry → (kept : List KeptBody) → Mid kept []
    → HoldsOfBodies (λ (taken failed : List KeptBody). Keeps (kept ++ taken) failed) now.is_sound (entry ∷ []))
    → KeepsSoFar Keeps before told last new now
kept_more P U room Mid Keeps before mid now told clock old came new first output last so_far sound arrives fresh serves keeps =
    let next : (input : List ℕ) × (rest : List (List ℕ)) × (so_far.left.coming ≡ input ∷ rest) × IsFresh output came (record { coming = rest; input = input; unread = input; log = so_far.left.log }) =
    arrives_fresh old came output so_far.left so_far.tells.tells arrives (fresh ∙ ap (option_map (λ _. [])) so_far.tells.written.1) in
    let one : ServesAfter P U room mid so_far.arrived (record { coming = next.1; input = next.0; unread = next.0; log = so_far.left.log }) clock last new now =
    serves (record { coming = next.1; input = next.0; unread = next.0; log = so_far.left.log }) next.3 so_far.arrived so_far.stands in record {
      entries = so_far.entries ++ one.entry ∷ [];
      left = record { coming = next.1; input = []; unread = []; log = so_far.left.log ++ one.entry ∷ [] };
      tells = record { tells = one.logged.log; written = ([], one.unwritten) };
      log = ap (λ (log : List Entry). log ++ one.entry ∷ []) so_far.log ∙ append_assoc told.log so_far.entries (one.entry ∷ []);
      arrived = one.arrived;
      stands = one.stands;
      bodies = one_more_kept Mid Keeps before mid.is_sound now.is_sound so_far.entries one.entry sound so_far.bodies
          (keeps (record { coming = next.1; input = next.0; unread = next.0; log = so_far.left.log }) next.3 one.entry one.logged);
    }

-- the end
pub kept_end : (Keeps : List KeptBody → List KeptBody → Type 0) (before : List KeptBody) (told left : Connections) (output : Option (List ℕ)) (beside after : Beside) (now : Held) (entries : List Entry)
    → KeepsSoFar Keeps before told output beside now → after ≡ beside → after.told ≡ Some left → left.log ≡ told.log ++ entries
    → HoldsOfBodies (λ (taken failed : List KeptBody). Keeps (before ++ taken) failed) now.is_sound entries
kept_end Keeps before told left output beside after now entries so_far stays tells log =
    subst (λ (all : List Entry). HoldsOfBodies (λ (taken failed : List KeptBody). Keeps (before ++ taken) failed) now.is_sound all) same so_far.bodies
  where
    left_is : so_far.left ≡ left
    left_is = same_Some so_far.left left (sym so_far.tells.tells ∙ ap (λ (b : Beside). b.told) (sym stays) ∙ tells)

    same : so_far.entries ≡ entries
    same = append_cancel_left told.log so_far.entries entries (sym so_far.log ∙ ap (λ (c : Connections). c.log) left_is ∙ log)
