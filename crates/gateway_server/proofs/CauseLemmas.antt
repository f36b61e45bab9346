-- The causes of the connections so far are counted.
use Rattle.std.proofs.Common.{◌≡◌, ◌∙◌, ◌≤◌, ◌<◌, ◌+◌, ◌++◌, ◌∷◌, ◌||◌, [], ℕ, ℤ, Bool, true, false, cond, List, Option, Some, None, length, ap, sym, refl, subst, append_assoc, length-append, append-nil, arith, inl, inr}
use Rattle.std.proofs.lemmas.Bool.{true≢false, or_left, or_right}
use Rattle.std.proofs.lemmas.List.{append_cancel_left}
use Rattle.std.proofs.lemmas.List.Elements.{filter-append}
use Rattle.std.proofs.lemmas.List.Sums.{length-filter}
use Rattle.std.proofs.lemmas.Option.{none-some, same_Some}
use Rattle.std.specs.List.{count_by}
use Rattle.std.specs.Prelude.{filter, nat_le, nat_lt, option_map}
use Rattle.gw_base.specs.Connections.{Arrives, Beside, Connections}
use Rattle.gw_base.specs.Count.{Rose, last_count}
use Rattle.gw_base.specs.declared.door.Entry.{Entry}
use Rattle.gw_base.specs.declared.door.Mark.{Mark}
use Rattle.gateway_core.specs.Arrivals.{Arrival, Given, feed, journeys, situations}
use Rattle.gateway_core.specs.declared.setting.Setting.{Setting}
use Rattle.gateway_server.specs.Answers.{IsAnswered, body_refused, feed_shown, mark_of, refused, taken, text_shown}
use Rattle.gateway_server.specs.Holding.{Held, Room}
use Rattle.gateway_server.specs.Log.{AreCounted, IsCausedLogBy, IsLawfulBy, answered, full, is_clock_fault, lost, no_clock, no_memory, unkept}
use Rattle.gateway_server.specs.Past.{IsLawfulAfter, LeavesPast, Past, StandsFor}
use Rattle.gateway_server.specs.Serving.{AsksClock, CountsCausesAfter, IsFresh, ServesAfter, Tells}
use Rattle.gateway_server.proofs.EndLemmas.{after_wider}
use Rattle.gateway_server.proofs.LoopLemmas.{arrives_fresh}

-- ---- counts

count_more : {X : Type 0} (test : X → Bool) (xs : List X) (x : X) → count_by test (xs ++ x ∷ []) ≡ count_by test xs + cond (test x) 1 0
count_more test xs x =
    sym (length-filter test (xs ++ x ∷ [])) ∙ ap length (filter-append test xs (x ∷ [])) ∙ length-append (filter test xs) (filter test (x ∷ []))
    ∙ (λ i. length-filter test xs i + one (test x) i)
  where
    one : (b : Bool) → length (cond b (x ∷ []) []) ≡ cond b 1 0
    one true = refl
    one false = refl

-- a count at which nothing was counted, and over which it didn't fall
counted_none : (n : ℕ) → AreCounted 0 n n
counted_none n = inl (omega arith)

counted_on : (many a b c : ℕ) → b ≤ c → AreCounted many a b → AreCounted many a c
counted_on many a b c le (inl most) = inl (omega arith)
counted_on many a b c le (inr last) = inr (omega arith)

-- and with one more, where it rose
counted_one : (many a b c : ℕ) → AreCounted many a b → Rose b c → b ≤ c → AreCounted (many + 1) a c
counted_one many a b c (inl most) (inl less) le = inl (omega arith)
counted_one many a b c (inl most) (inr last) le = inr last
counted_one many a b c (inr last) rose le = inr (omega arith)

counted_if : (more : Bool) (many a b c : ℕ) → AreCounted many a b → (more ≡ true → Rose b c) → b ≤ c → AreCounted (many + cond more 1 0) a c
counted_if true many a b c so_far rose le = counted_one many a b c so_far (rose refl) le
counted_if false many a b c so_far rose le = subst (λ (n : ℕ). AreCounted n a c) (none many) (counted_on many a b c le so_far)
  where
    none : (n : ℕ) → n ≡ n + 0
    none n = omega arith

-- whether a count rose
rises : ℕ → ℕ → Bool
rises before now = nat_lt before now || nat_le last_count now

risen : (before now : ℕ) → Rose before now → rises before now ≡ true
unfolding rises
risen before now (inl less) = or_left (nat_lt before now) (nat_le last_count now) (decided before now less)
  where
    decided : (a b : ℕ) → a < b → nat_lt a b ≡ true
    decided a b h = grind arith
risen before now (inr last) = or_right (nat_lt before now) (nat_le last_count now) (decided last_count now last)
  where
    decided : (a b : ℕ) → a ≤ b → nat_le a b ≡ true
    decided a b h = grind arith

rose_where : (before now : ℕ) → rises before now ≡ true → Rose before now
unfolding rises
rose_where before now e = by (nat_lt before now) refl e
  where
    less : (a b : ℕ) → nat_lt a b ≡ true → a < b
    less a b h = grind arith

    most : (a b : ℕ) → nat_le a b ≡ true → a ≤ b
    most a b h = grind arith

    by : (b : Bool) → nat_lt before now ≡ b → (b || nat_le last_count now) ≡ true → Rose before now
    by true is f = inl (less before now is)
    by false is f = inr (most last_count now f)

-- ---- a connection

-- an entry whose clock failed has no moment
no_moment : (P U : Type 0) (is_full : List ℕ → Bool) (setting : Setting) (arrivals : List Arrival) (entry : Entry) → IsLawfulBy P U is_full setting arrivals entry
    → is_clock_fault entry.mark ≡ true → entry.moment ≡ None
no_moment P U is_full setting arrivals entry (no_clock is none front) e = none
no_moment P U is_full setting arrivals entry (lost moment is some empty cause) e = absurd (true≢false (sym e ∙ ap is_clock_fault is))
no_moment P U is_full setting arrivals entry (no_memory moment is some posted front) e = absurd (true≢false (sym e ∙ ap is_clock_fault is))
no_moment P U is_full setting arrivals entry (unkept moment of body is some asks can cause front) e = absurd (true≢false (sym e ∙ ap is_clock_fault is))
no_moment P U is_full setting arrivals entry (full moment of body is some asks can no_room front) e = absurd (true≢false (sym e ∙ ap is_clock_fault is))
no_moment P U is_full setting arrivals entry (answered moment bytes some says room front) e = absurd (true≢false (sym e ∙ other entry.input moment entry.mark bytes says))
  where
    of_given : (given : Given) → is_clock_fault (mark_of given) ≡ false
    of_given (journeys records) = refl
    of_given (situations all) = refl
    of_given (feed one) = refl

    other : (input : List ℕ) (moment : ℤ) (ends : Mark) (bytes : List ℕ) → IsAnswered setting arrivals input moment ends bytes → is_clock_fault ends ≡ false
    other input moment ends bytes (refused why asks is are) = ap is_clock_fault is
    other input moment ends bytes (feed_shown body asks shown is are) = ap is_clock_fault is
    other input moment ends bytes (text_shown body asks shown is are) = ap is_clock_fault is
    other input moment ends bytes (body_refused of body fault asks why is are) = ap is_clock_fault is
    other input moment ends bytes (taken of body report given asks brings is are) = ap is_clock_fault is ∙ of_given given

-- the clock's count rose where it gave no moment
clock_rose : (before now : Option (List ℤ)) (b c : ℕ) (moment : Option ℤ) → AsksClock (record { before = before; now = now; faults_before = b; faults_now = c }) moment → moment ≡ None → Rose b c
clock_rose before now b c None asks is = asks.1
clock_rose before now b c (Some moment) asks is = absurd (none-some moment (sym is))

-- an entry more
log_more : {T : Type 0} (Lawful : Type 0 → T → Entry → Type 0) (LeavesThis : T → Entry → T → Type 0) (before : T) (entries : List Entry) (causes : List Bool) (mid : T) (entry : Entry) (cause : Bool) (now : T)
    → IsCausedLogBy Lawful LeavesThis before entries causes mid → Lawful (cause ≡ true) mid entry → LeavesThis mid entry now
    → IsCausedLogBy Lawful LeavesThis before (entries ++ entry ∷ []) (causes ++ cause ∷ []) now
log_more {T} Lawful LeavesThis before [] [] mid entry cause now is lawful leaves =
    subst (λ (start : T). Lawful (cause ≡ true) start entry × (after : T) × LeavesThis start entry after × (now ≡ after)) is (lawful, now, leaves, refl)
log_more {T} Lawful LeavesThis before [] (first ∷ causes) mid entry cause now is lawful leaves = absurd is
log_more {T} Lawful LeavesThis before (first ∷ later) [] mid entry cause now is lawful leaves = absurd is
log_more {T} Lawful LeavesThis before (first ∷ later) (one ∷ causes) mid entry cause now (law, after, left, rest) lawful leaves =
    (law, after, left, log_more Lawful LeavesThis after later causes mid entry cause now rest lawful leaves)

-- a cause of keeping may be a wider one in all entries
pub caused_wider : (U V : Type 0) (room : Room) (setting : Setting) (before : Past) (entries : List Entry) (causes : List Bool) (now : Past) → (U → V)
    → IsCausedLogBy (λ (P : Type 0). IsLawfulAfter P U room setting) (LeavesPast room setting) before entries causes now
    → IsCausedLogBy (λ (P : Type 0). IsLawfulAfter P V room setting) (LeavesPast room setting) before entries causes now
caused_wider U V room setting before [] [] now also is = is
caused_wider U V room setting before [] (cause ∷ causes) now also is = absurd is
caused_wider U V room setting before (entry ∷ later) [] now also is = absurd is
caused_wider U V room setting before (entry ∷ later) (cause ∷ causes) now also (lawful, after, leaves, rest) =
    (after_wider (cause ≡ true) (cause ≡ true) U V room setting before entry (λ so. so) also lawful, after, leaves, caused_wider U V room setting after later causes now also rest)

-- ---- the loop

-- the connections so far, and their causes
pub record CountsSoFar (U : Type 0) (room : Room) (setting : Setting) (past : Past) (told : Connections) (output : Option (List ℕ)) (beside : Beside) (now : Held) (door_before door_now clock_before clock_now : ℕ) : Type 0 where
  pub entries : List Entry
  pub left : Connections
  pub tells : Tells output beside left
  pub log : left.log ≡ told.log ++ entries
  pub causes : List Bool
  pub arrived : Past
  pub lawful : IsCausedLogBy (λ (P : Type 0). IsLawfulAfter P U room setting) (LeavesPast room setting) past entries causes arrived
  pub door : AreCounted (count_by (λ cause. cause) causes) door_before door_now
  pub clock : AreCounted (count_by (λ entry. is_clock_fault entry.mark) entries) clock_before clock_now
  pub stands : StandsFor now arrived

pub counts_none : (U : Type 0) (room : Room) (held : Held) (past : Past) (told : Connections) (output : Option (List ℕ)) (beside : Beside) (door clock : ℕ)
    → Tells output beside told → StandsFor held past → CountsSoFar U room held.gate.setting past told output beside held door door clock clock
counts_none U room held past told output beside door clock tells stands = record {
  entries = [];
  left = told;
  tells = tells;
  log = sym (append-nil told.log);
  causes = [];
  arrived = past;
  lawful = refl;
  door = counted_none door;
  clock = counted_none clock;
  stands = stands;
}

-- one connection more
pub counts_more : (U V W : Type 0) (room : Room) (setting : Setting) (mid now : Held) (past : Past) (told : Connections) (between later : Option (List ℤ)) (da db dc dd ca cb cc : ℕ) (old came new : Beside) (before output last : Option (List ℕ))
    → (so_far : CountsSoFar U room setting past told before old mid da db ca cb) → (U → W) → (V → W)
    → mid.gate.setting ≡ setting → db ≤ dc → dc ≤ dd → cb ≤ cc → Arrives old came → output ≡ option_map (λ _. []) before
    → ((one : Connections) → IsFresh output came one → (between_past : Past) → StandsFor mid between_past
    → ServesAfter (Rose dc dd) V room mid between_past one (record { before = between; now = later; faults_before = cb; faults_now = cc }) last new now)
    → CountsSoFar W room setting past told last new now da dd ca cc
counts_more U V W room setting mid now past told between later da db dc dd ca cb cc old came new before output last so_far kept_wider kept_also same le more calm arrives fresh serves =
    let next : (input : List ℕ) × (rest : List (List ℕ)) × (so_far.left.coming ≡ input ∷ rest) × IsFresh output came (record { coming = rest; input = input; unread = input; log = so_far.left.log }) =
    arrives_fresh old came output so_far.left so_far.tells.tells arrives (fresh ∙ ap (option_map (λ _. [])) so_far.tells.written.1) in
    let one : ServesAfter (Rose dc dd) V room mid so_far.arrived (record { coming = next.1; input = next.0; unread = next.0; log = so_far.left.log }) (record { before = between; now = later; faults_before = cb; faults_now = cc }) last new now =
    serves (record { coming = next.1; input = next.0; unread = next.0; log = so_far.left.log }) next.3 so_far.arrived so_far.stands in record {
      entries = so_far.entries ++ one.entry ∷ [];
      left = record { coming = next.1; input = []; unread = []; log = so_far.left.log ++ one.entry ∷ [] };
      tells = record { tells = one.logged.log; written = ([], one.unwritten) };
      log = ap (λ (log : List Entry). log ++ one.entry ∷ []) so_far.log ∙ append_assoc told.log so_far.entries (one.entry ∷ []);
      causes = so_far.causes ++ rises dc dd ∷ [];
      arrived = one.arrived;
      lawful = log_more (λ (P : Type 0). IsLawfulAfter P W room setting) (LeavesPast room setting) past so_far.entries so_far.causes so_far.arrived one.entry (rises dc dd) one.arrived
          (caused_wider U W room setting past so_far.entries so_far.causes so_far.arrived kept_wider so_far.lawful)
          (subst (λ (s : Setting). IsLawfulAfter (rises dc dd ≡ true) W room s so_far.arrived one.entry) same (after_wider (Rose dc dd) (rises dc dd ≡ true) V W room mid.gate.setting so_far.arrived one.entry (risen dc dd) kept_also one.lawful))
          (subst (λ (s : Setting). LeavesPast room s so_far.arrived one.entry one.arrived) same one.leaves);
      door = subst (λ (n : ℕ). AreCounted n da dd) (sym (count_more (λ (cause : Bool). cause) so_far.causes (rises dc dd)))
          (counted_if (rises dc dd) (count_by (λ (cause : Bool). cause) so_far.causes) da dc dd (counted_on (count_by (λ (cause : Bool). cause) so_far.causes) da db dc le so_far.door) (rose_where dc dd) more);
      clock = subst (λ (n : ℕ). AreCounted n ca cc) (sym (count_more (λ (entry : Entry). is_clock_fault entry.mark) so_far.entries one.entry))
          (counted_if (is_clock_fault one.entry.mark) (count_by (λ (entry : Entry). is_clock_fault entry.mark) so_far.entries) ca cb cc so_far.clock
          (λ e. clock_rose between later cb cc one.entry.moment one.asked
          (no_moment (Rose dc dd) V (λ (body : List ℕ). room.is_full so_far.arrived.end (length body)) mid.gate.setting so_far.arrived.arrivals one.entry one.lawful.1 e)) calm);
      stands = one.stands;
    }

-- the end, with a fault of the door or without
pub counts_end : (U : Type 0) (room : Room) (setting : Setting) (past : Past) (told left : Connections) (output : Option (List ℕ)) (beside after : Beside) (now : Held) (entries : List Entry) (further da db dc ca cb : ℕ)
    → CountsSoFar U room setting past told output beside now da db ca cb → after ≡ beside → after.told ≡ Some left → left.log ≡ told.log ++ entries
    → ((many : ℕ) → AreCounted many da db → AreCounted (many + further) da dc)
    → CountsCausesAfter U room setting past entries further da dc ca cb
counts_end U room setting past told left output beside after now entries further da db dc ca cb so_far stays tells log counted = record {
  causes = so_far.causes;
  arrived = so_far.arrived;
  lawful = subst (λ (all : List Entry). IsCausedLogBy (λ (P : Type 0). IsLawfulAfter P U room setting) (LeavesPast room setting) past all so_far.causes so_far.arrived) same so_far.lawful;
  door = counted (count_by (λ (cause : Bool). cause) so_far.causes) so_far.door;
  clock = subst (λ (all : List Entry). AreCounted (count_by (λ (entry : Entry). is_clock_fault entry.mark) all) ca cb) same so_far.clock;
}
  where
    left_is : so_far.left ≡ left
    left_is = same_Some so_far.left left (sym so_far.tells.tells ∙ ap (λ (b : Beside). b.told) (sym stays) ∙ tells)

    same : so_far.entries ≡ entries
    same = append_cancel_left told.log so_far.entries entries (sym so_far.log ∙ ap (λ (c : Connections). c.log) left_is ∙ log)

pub no_further : (a b c : ℕ) → b ≤ c → (many : ℕ) → AreCounted many a b → AreCounted (many + 0) a c
no_further a b c le many so_far = subst (λ (n : ℕ). AreCounted n a c) (none many) (counted_on many a b c le so_far)
  where
    none : (n : ℕ) → n ≡ n + 0
    none n = omega arith

pub one_further : (a b c : ℕ) → Rose b c → b ≤ c → (many : ℕ) → AreCounted many a b → AreCounted (many + 1) a c
one_further a b c rose le many so_far = counted_one many a b c so_far rose le
