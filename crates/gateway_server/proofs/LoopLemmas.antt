-- One connection more.
use Rattle.std.proofs.Common.{◌≡◌, ◌∙◌, ◌≤◌, ◌<◌, ◌+◌, ◌++◌, ◌∷◌, ◌⊎◌, [], ℕ, ℤ, Bool, true, false, List, Option, Some, None, Result, Ok, Err, inl, inr, length, map, ap, sym, refl, subst, append_assoc, length-append, append-nil, arith}
use Rattle.std.proofs.lemmas.Bool.{true≢false}
use Rattle.std.proofs.lemmas.Grind.{flat_map-append}
use Rattle.std.proofs.lemmas.List.{map-append}
use Rattle.std.specs.Prelude.{IfSome, MatchOption, OnOk, option_map}
use Rattle.gw_base.specs.Changes.{Change}
use Rattle.gw_base.specs.Connections.{Arrives, Beside, Connections, NoneComes}
use Rattle.gw_base.specs.Count.{Rose}
use Rattle.gw_base.specs.declared.door.Entry.{Entry}
use Rattle.gw_base.specs.declared.sink.Failed.{Failed}
use Rattle.gw_base.proofs.CountLemmas.{rose-after}
use Rattle.gateway_core.specs.Arrivals.{Arrival}
use Rattle.gateway_core.specs.Standing.{Kept, Stands}
use Rattle.gateway_core.specs.declared.setting.Setting.{Setting}
use Rattle.gateway_server.specs.Holding.{Held, Room, bare, keeps_none}
use Rattle.gateway_server.specs.Log.{IsCausedLogBy, IsLawful, IsLawfulLog, IsLogBy, Leaves, moments_given, with_moment}
use Rattle.gateway_server.specs.Past.{IsLawfulAfter, LeavesPast, Past, StandsFor}
use Rattle.gateway_server.specs.Serving.{AsksClock, CountsCauses, CountsCausesAfter, IsEnd, IsFresh, Serves, ServesAfter, ServesAll, ServesAllAfter, Tells}
use Rattle.gateway_server.proofs.EndLemmas.{after_wider, lawful_wider}

-- the causes may be wider ones
pub log_wider : (P Q U V : Type 0) (room : Room) (setting : Setting) (before : Past) (entries : List Entry) (now : Past) → (P → Q) → (U → V)
    → IsLogBy (IsLawfulAfter P U room setting) (LeavesPast room setting) before entries now → IsLogBy (IsLawfulAfter Q V room setting) (LeavesPast room setting) before entries now
log_wider P Q U V room setting before [] now wider also is = is
log_wider P Q U V room setting before (entry ∷ later) now wider also (lawful, after, leaves, rest) =
    (after_wider P Q U V room setting before entry wider also lawful, after, leaves, log_wider P Q U V room setting after later now wider also rest)

-- an entry more
log_more : {T : Type 0} (Lawful : T → Entry → Type 0) (LeavesThis : T → Entry → T → Type 0) (before : T) (entries : List Entry) (mid : T) (entry : Entry) (now : T)
    → IsLogBy Lawful LeavesThis before entries mid → Lawful mid entry → LeavesThis mid entry now
    → IsLogBy Lawful LeavesThis before (entries ++ entry ∷ []) now
log_more {T} Lawful LeavesThis before [] mid entry now is lawful leaves =
    subst (λ (start : T). Lawful start entry × (after : T) × LeavesThis start entry after × (now ≡ after)) is (lawful, now, leaves, refl)
log_more {T} Lawful LeavesThis before (first ∷ later) mid entry now (law, after, left, rest) lawful leaves =
    (law, after, left, log_more Lawful LeavesThis after later mid entry now rest lawful leaves)

-- before the first connection
pub serves_none : (P U : Type 0) (room : Room) (held : Held) (past : Past) (told : Connections) (moments : Option (List ℤ)) (before now : ℕ) (output : Option (List ℕ)) (beside : Beside)
    → Tells output beside told → StandsFor held past
    → ServesAllAfter P U room held past told (record { before = moments; now = moments; faults_before = before; faults_now = now }) output beside held 0
serves_none P U room held past told moments before now output beside tells stands = record {
  entries = [];
  left = told;
  tells = tells;
  log = sym (append-nil told.log);
  inputs = refl;
  count_is = refl;
  moments = same moments;
  timed = λ less. absurd (none less);
  arrived = past;
  lawful = refl;
  stands = stands;
}
  where
    none : 0 < 0 → ⊥
    none less = omega arith

    same : (m : Option (List ℤ)) → m ≡ option_map (λ later. [] ++ later) m
    same None = refl
    same (Some list) = refl

-- a fault or an end that comes after
pub serves_end : (P Q U : Type 0) (room : Room) (held now : Held) (past : Past) (told : Connections) (clock : Change (List ℤ)) (output last : Option (List ℕ)) (beside after : Beside) (count : ℕ)
    → (P → Q) → last ≡ output → after ≡ beside → ServesAllAfter P U room held past told clock output beside now count
    → ServesAllAfter Q U room held past told clock last after now count
serves_end P Q U room held now past told clock output last beside after count wider same stays so_far = record {
  entries = so_far.entries;
  left = so_far.left;
  tells = record { tells = ap (λ (b : Beside). b.told) stays ∙ so_far.tells.tells; written = (so_far.tells.written.0, same ∙ so_far.tells.written.1) };
  log = so_far.log;
  inputs = so_far.inputs;
  count_is = so_far.count_is;
  moments = so_far.moments;
  timed = so_far.timed;
  arrived = so_far.arrived;
  lawful = log_wider P Q U U room held.gate.setting past so_far.entries so_far.arrived wider (λ cause. cause) so_far.lawful;
  stands = so_far.stands;
}

-- no connection is to come after those that were served
pub is_end : (beside after : Beside) → NoneComes beside after → IsEnd after
is_end beside after none =
    subst (λ (b : Beside). IfSome b.told (λ told. told.coming ≡ [])) (sym none.0) none.1

-- the connection that came is fresh
pub arrives_fresh : (old mid : Beside) (output : Option (List ℕ)) (told : Connections) → old.told ≡ Some told → Arrives old mid → output ≡ Some []
    → (input : List ℕ) × (later : List (List ℕ)) × (told.coming ≡ input ∷ later)
    × IsFresh output mid (record { coming = later; input = input; unread = input; log = told.log })
arrives_fresh old mid output told tells arrives fresh =
    let found : (input : List ℕ) × (later : List (List ℕ)) × (told.coming ≡ input ∷ later) × (mid.told ≡ Some (record { coming = later; input = input; unread = input; log = told.log })) =
    subst (λ (t : Option Connections). MatchOption t (mid.told ≡ None) (λ told. (input : List ℕ) × (later : List (List ℕ)) × (told.coming ≡ input ∷ later) × (mid.told ≡ Some (record { coming = later; input = input; unread = input; log = told.log })))) tells arrives.1 in
    (found.0, found.1, found.2, record { tells = found.3; unread = refl; unwritten = fresh })

-- the moments that the clock gave, with that of one connection more
moments_more : (before mid now : Option (List ℤ)) (fb fm fn : ℕ) (given : List ℤ) (moment : Option ℤ)
    → before ≡ option_map (λ later. given ++ later) mid → AsksClock (record { before = mid; now = now; faults_before = fm; faults_now = fn }) moment
    → before ≡ option_map (λ later. (given ++ with_moment moment) ++ later) now
moments_more before mid now fb fm fn given None is asks = is ∙ ap (option_map (λ later. given ++ later)) (sym asks.0) ∙ none now
  where
    none : (m : Option (List ℤ)) → option_map (λ later. given ++ later) m ≡ option_map (λ later. (given ++ []) ++ later) m
    none None = refl
    none (Some list) = ap (λ (front : List ℤ). Some (front ++ list)) (sym (append-nil given))
moments_more before mid now fb fm fn given (Some moment) is asks = is ∙ ap (option_map (λ later. given ++ later)) asks.0 ∙ some now
  where
    some : (m : Option (List ℤ)) → option_map (λ later. given ++ later) (option_map (λ later. moment ∷ later) m) ≡ option_map (λ later. (given ++ moment ∷ []) ++ later) m
    some None = refl
    some (Some list) = ap Some (sym (append_assoc given (moment ∷ []) list))

-- fewer moments than connections only where the clock's count rose
timed_more : (mid now : Option (List ℤ)) (fa fb fc many given : ℕ) (moment : Option ℤ) → fa ≤ fb → (given < many → Rose fa fb)
    → AsksClock (record { before = mid; now = now; faults_before = fb; faults_now = fc }) moment
    → given + length (with_moment moment) < many + 1 → Rose fa fc
timed_more mid now fa fb fc many given None le so_far asks less = rose-after fa fb fc le asks.1
timed_more mid now fa fb fc many given (Some moment) le so_far asks less = subst (Rose fa) (sym asks.1) (so_far (omega arith))

-- one connection more
pub serves_more : (P Q R U V W : Type 0) (room : Room) (held mid now : Held) (past : Past) (told : Connections) (moments between later : Option (List ℤ)) (fa fb fc : ℕ) (old came new : Beside) (count : ℕ) (before output last : Option (List ℕ))
    → (so_far : ServesAllAfter P U room held past told (record { before = moments; now = between; faults_before = fa; faults_now = fb }) before old mid count)
    → (P → R) → (Q → R) → (U → W) → (V → W) → mid.gate.setting ≡ held.gate.setting → fa ≤ fb → Arrives old came → output ≡ option_map (λ _. []) before
    → ((one : Connections) → IsFresh output came one → (between_past : Past) → StandsFor mid between_past
    → ServesAfter Q V room mid between_past one (record { before = between; now = later; faults_before = fb; faults_now = fc }) last new now)
    → ServesAllAfter R W room held past told (record { before = moments; now = later; faults_before = fa; faults_now = fc }) last new now (count + 1)
serves_more P Q R U V W room held mid now past told moments between later fa fb fc old came new count before output last so_far wider also kept_wider kept_also setting calm arrives fresh serves =
    let next : (input : List ℕ) × (rest : List (List ℕ)) × (so_far.left.coming ≡ input ∷ rest) × IsFresh output came (record { coming = rest; input = input; unread = input; log = so_far.left.log }) =
    arrives_fresh old came output so_far.left so_far.tells.tells arrives (fresh ∙ ap (option_map (λ _. [])) so_far.tells.written.1) in
    let one : ServesAfter Q V room mid so_far.arrived (record { coming = next.1; input = next.0; unread = next.0; log = so_far.left.log }) (record { before = between; now = later; faults_before = fb; faults_now = fc }) last new now =
    serves (record { coming = next.1; input = next.0; unread = next.0; log = so_far.left.log }) next.3 so_far.arrived so_far.stands in record {
      entries = so_far.entries ++ one.entry ∷ [];
      left = record { coming = next.1; input = []; unread = []; log = so_far.left.log ++ one.entry ∷ [] };
      tells = record { tells = one.logged.log; written = ([], one.unwritten) };
      log = ap (λ (log : List Entry). log ++ one.entry ∷ []) so_far.log ∙ append_assoc told.log so_far.entries (one.entry ∷ []);
      inputs = so_far.inputs ∙ ap (λ (coming : List (List ℕ)). map (λ (entry : Entry). entry.input) so_far.entries ++ coming) (next.2 ∙ ap (λ (input : List ℕ). input ∷ next.1) (sym one.logged.input))
          ∙ sym (append_assoc (map (λ (entry : Entry). entry.input) so_far.entries) (one.entry.input ∷ []) next.1)
          ∙ ap (λ (inputs : List (List ℕ)). inputs ++ next.1) (sym (map-append (λ (entry : Entry). entry.input) so_far.entries (one.entry ∷ [])));
      count_is = length-append so_far.entries (one.entry ∷ []) ∙ ap (λ (n : ℕ). n + 1) so_far.count_is;
      moments = moments_more moments between later fa fb fc (moments_given so_far.entries) one.entry.moment so_far.moments one.asked
          ∙ ap (λ (given : List ℤ). option_map (λ later. given ++ later) later) (given_more so_far.entries one.entry);
      timed = λ less. timed_more between later fa fb fc (length so_far.entries) (length (moments_given so_far.entries)) one.entry.moment calm so_far.timed one.asked
          (fewer so_far.entries one.entry less);
      arrived = one.arrived;
      lawful = log_more (IsLawfulAfter R W room held.gate.setting) (LeavesPast room held.gate.setting) past so_far.entries so_far.arrived one.entry one.arrived
          (log_wider P R U W room held.gate.setting past so_far.entries so_far.arrived wider kept_wider so_far.lawful)
          (subst (λ (s : Setting). IsLawfulAfter R W room s so_far.arrived one.entry) setting (after_wider Q R V W room mid.gate.setting so_far.arrived one.entry also kept_also one.lawful))
          (subst (λ (s : Setting). LeavesPast room s so_far.arrived one.entry one.arrived) setting one.leaves);
      stands = one.stands;
    }
  where
    given_more : (entries : List Entry) (entry : Entry) → moments_given entries ++ with_moment entry.moment ≡ moments_given (entries ++ entry ∷ [])
    given_more entries entry =
        ap (λ (last : List ℤ). moments_given entries ++ last) (sym (append-nil (with_moment entry.moment)))
        ∙ sym (flat_map-append (λ (entry : Entry). with_moment entry.moment) entries (entry ∷ []))

    fewer : (entries : List Entry) (entry : Entry) → length (moments_given (entries ++ entry ∷ [])) < length (entries ++ entry ∷ [])
        → length (moments_given entries) + length (with_moment entry.moment) < length entries + 1
    fewer entries entry less =
        omega (arith, less, ap length (given_more entries entry), length-append (moments_given entries) (with_moment entry.moment), length-append entries (entry ∷ []))

-- ---- a gateway by itself

-- what a gateway stands for that keeps no bodies
abbrev pub bare_past : List Arrival → Past
bare_past arrivals = record { arrivals = arrivals; end = 0; is_sound = true }

pub stands_bare : (gate : Kept) (arrivals : List Arrival) → Stands gate arrivals → StandsFor (bare gate) (bare_past arrivals)
stands_bare gate arrivals stands = record { stands = stands; sound = refl; end = λ _. refl }

-- nothing is kept, so keeping it never fails
none_rose : Rose 0 0 → ⊥
none_rose (inl less) = omega arith
none_rose (inr last) = omega arith

lawful_bare : (P : Type 0) (setting : Setting) (past : Past) (entry : Entry) → IsLawfulAfter P (Rose 0 0) keeps_none setting past entry → IsLawful P setting past.arrivals entry
lawful_bare P setting past entry (sound, lawful) = lawful_wider P P (Rose 0 0) ⊥ (λ (body : List ℕ). false) setting past.arrivals entry (λ cause. cause) none_rose lawful

log_bare : (P : Type 0) (setting : Setting) (before : Past) (entries : List Entry) (now : Past)
    → IsLogBy (IsLawfulAfter P (Rose 0 0) keeps_none setting) (LeavesPast keeps_none setting) before entries now → IsLawfulLog P setting before.arrivals entries now.arrivals
log_bare P setting before [] now is = ap (λ (p : Past). p.arrivals) is
log_bare P setting before (entry ∷ later) now (lawful, after, leaves, rest) =
    (lawful_bare P setting before entry lawful, after.arrivals, leaves.arrived, log_bare P setting after later now rest)

causes_bare : (setting : Setting) (before : Past) (entries : List Entry) (causes : List Bool) (now : Past)
    → IsCausedLogBy (λ (P : Type 0). IsLawfulAfter P (Rose 0 0) keeps_none setting) (LeavesPast keeps_none setting) before entries causes now
    → IsCausedLogBy (λ (P : Type 0). IsLawful P setting) (Leaves setting) before.arrivals entries causes now.arrivals
causes_bare setting before [] [] now is = ap (λ (p : Past). p.arrivals) is
causes_bare setting before [] (cause ∷ causes) now is = absurd is
causes_bare setting before (entry ∷ later) [] now is = absurd is
causes_bare setting before (entry ∷ later) (cause ∷ causes) now (lawful, after, leaves, rest) =
    (lawful_bare (cause ≡ true) setting before entry lawful, after.arrivals, leaves.arrived, causes_bare setting after later causes now rest)

pub serves_bare : (P : Type 0) (gate now : Kept) (arrivals : List Arrival) (told : Connections) (clock : Change (List ℤ)) (output : Option (List ℕ)) (beside : Beside)
    → ServesAfter P (Rose 0 0) keeps_none (bare gate) (bare_past arrivals) told clock output beside (bare now) → Serves P gate arrivals told clock output beside now
serves_bare P gate now arrivals told clock output beside is = record {
  entry = is.entry;
  logged = is.logged;
  unwritten = is.unwritten;
  asked = is.asked;
  lawful = lawful_bare P gate.setting (bare_past arrivals) is.entry is.lawful;
  arrived = is.arrived.arrivals;
  leaves = is.leaves.arrived;
  stands = is.stands.stands;
}

pub serves_all_bare : (P : Type 0) (gate now : Kept) (arrivals : List Arrival) (told : Connections) (clock : Change (List ℤ)) (output : Option (List ℕ)) (beside : Beside) (count : ℕ)
    → ServesAllAfter P (Rose 0 0) keeps_none (bare gate) (bare_past arrivals) told clock output beside (bare now) count → ServesAll P gate arrivals told clock output beside now count
serves_all_bare P gate now arrivals told clock output beside count is = record {
  entries = is.entries;
  left = is.left;
  tells = is.tells;
  log = is.log;
  inputs = is.inputs;
  count_is = is.count_is;
  moments = is.moments;
  timed = is.timed;
  arrived = is.arrived.arrivals;
  lawful = log_bare P gate.setting (bare_past arrivals) is.entries is.arrived is.lawful;
  stands = is.stands.stands;
}

pub counts_bare : (setting : Setting) (arrivals : List Arrival) (entries : List Entry) (further da db ca cb : ℕ)
    → CountsCausesAfter (Rose 0 0) keeps_none setting (bare_past arrivals) entries further da db ca cb → CountsCauses setting arrivals entries further da db ca cb
counts_bare setting arrivals entries further da db ca cb is = record {
  causes = is.causes;
  arrived = is.arrived.arrivals;
  lawful = causes_bare setting (bare_past arrivals) entries is.causes is.arrived is.lawful;
  door = is.door;
  clock = is.clock;
}

-- where a server over it came to its end
pub end_bare : (result : Result (Unit {0}) Failed) (count most : ℕ) (beside : Beside) → OnOk result ((count ≡ most) ⊎ (IsEnd beside ⊎ (true ≡ false)))
    → OnOk result ((count ≡ most) ⊎ IsEnd beside)
end_bare (Ok done) count most beside (inl is) = inl is
end_bare (Ok done) count most beside (inr (inl is)) = inr is
end_bare (Ok done) count most beside (inr (inr is)) = absurd (true≢false is)
end_bare (Err fault) count most beside is = tt
