-- The places of updates rise, and an update without a fault stands at its position.
use Rattle.std.proofs.Common.{◌≡◌, ◌∙◌, ◌+◌, ◌*◌, ◌<◌, ◌≤◌, ◌==◌, ◌||◌, ◌++◌, ◌∷◌, [], ℕ, suc, ℤ, pos, nat_le, Bool, true, false, List, map, drop, length, get_or, position, Option, Some, None, option_map, Result, Ok, Err, if◌then◌else◌, refl, sym, ap, arith}
use Rattle.std.proofs.lemmas.Bool.{false≢true, leb-true}
use Rattle.std.proofs.lemmas.Bool.Decides.{nat_tests}
use Rattle.std.proofs.lemmas.List.{append-nil, append_assoc, map-append, drop_more, drop_all}
use Rattle.std.proofs.lemmas.List.Quantifiers.{position-Some}
use Rattle.std.specs.Cmp.{signed_Decides}
use Rattle.std.specs.List.{list_any, zip}
use Rattle.std.specs.Option.{ok_or}
use Rattle.std.specs.Ordering.{int_eq}
use Rattle.std.specs.Str.{bytes_eq}
use Rattle.gw_base.specs.declared.messages.StopUpdate.{StopUpdate}
use Rattle.gw_base.specs.Chains.{unless_fault, ◌>>=◌}
use Rattle.timetable.specs.declared.numbers.StopNo.{StopNo}
use Rattle.journey_model.specs.Matching.{first_from, has_sequence, in_order, is_of_stop, position_after, position_by_sequence, position_by_stop, stands_at, agrees, update_position}
use Rattle.journey_model.specs.Names.{filled_text}
use Rattle.journey_model.specs.Places.{places_fault}
use Rattle.journey_model.specs.Runs.{Run, planned_at, stop_at}
use Rattle.journey_model.specs.Times.{delay_fault}
use Rattle.journey_model.specs.Updates.{arrival_time, assigned_stop, departure_time, events_fault, is_no_data, is_read, is_scheduled, is_skipped, keeps_station, known_stop, named_by, named_stop, names_one, place_at, place_by, place_fault, position_of, position_timed, places, places_from, times, update_fault, update_size, updates_size}
use Rattle.journey_model.specs.declared.fault.Fault.{Fault}
use Rattle.journey_model.specs.declared.fault.Fault.TheVariants.{NoTime, OtherRelation}
use Rattle.journey_model.specs.declared.matching.MatchFault.{MatchFault}
use Rattle.journey_model.specs.declared.matching.MatchFault.TheVariants as match
use Rattle.journey_model.specs.declared.matching.NamedStop.{NamedStop}
use Rattle.journey_model.specs.declared.matching.NamedStop.TheVariants.{Missing, Unknown, Known}
use Rattle.timetable.specs.declared.stop_row.StopRow.{StopRow}
use Rattle.propagation.specs.Saying.{IsNamed, IsPlaced, placed_all, placed_at, placed_by, says_at, says_size, says_times}
use Rattle.propagation.specs.Spreading.{are_rising_from}
use Rattle.propagation.specs.declared.placing.MatchedUpdate.{MatchedUpdate}
use Rattle.propagation.specs.declared.placing.Prediction.{Prediction}
use Rattle.propagation.specs.declared.placing.Prediction.TheVariants.{NoData, Skipped}

-- what is said at a position
abbrev pub with_position : ℕ → Result Prediction Fault → Result MatchedUpdate Fault
with_position position (Ok says) = Ok (record { position = position; says = says })
with_position position (Err fault) = Err fault

-- an update of one relation isn't of the two others
skipped-other : (relation : ℤ) → int_eq relation (pos 1) ≡ true → int_eq relation (pos 0) ≡ false
skipped-other relation e = rw ((signed_Decides relation (pos 1)).0 e) refl

no_data-other : (relation : ℤ) → int_eq relation (pos 2) ≡ true → int_eq relation (pos 0) ≡ false
no_data-other relation e = rw ((signed_Decides relation (pos 2)).0 e) refl

scheduled-other : (relation : ℤ) → int_eq relation (pos 0) ≡ true
    → (int_eq relation (pos 1) ≡ false) × (int_eq relation (pos 2) ≡ false)
scheduled-other relation e = rw ((signed_Decides relation (pos 0)).0 e) (refl, refl)

-- the fault of the times of an update at a position
abbrev pub own_fault : Run → ℕ → ℕ → StopUpdate → Option Fault
own_fault run number position update =
    events_fault number
    (delay_fault number (planned_at run position) (arrival_time (planned_at run position) update)
    (departure_time (planned_at run position) update))
    (times (planned_at run position) update)

module _ (run : Run) (number position : ℕ) (update : StopUpdate) where
  pub skipped-says : is_skipped update ≡ true
      → Ok Skipped ≡ unless_fault (update_fault run number position update) (says_at run position update)
  skipped-says e = rw (e, skipped-other update.relation e) refl

  pub no_data-says : is_skipped update ≡ false → is_no_data update ≡ true
      → Ok NoData ≡ unless_fault (update_fault run number position update) (says_at run position update)
  no_data-says kept e = rw (kept, e, no_data-other update.relation e) refl

  -- what a SCHEDULED update says by its events at its place, or that it is assigned to another station
  pub events-say : (scheduled place : StopNo) (said : Result Prediction Fault) → is_scheduled update ≡ true
      → scheduled ≡ stop_at run position
      → Ok place ≡ unless_fault
      (place_fault number (keeps_station run.station_of scheduled (assigned_stop run.ids update)) None)
      (place_by scheduled (assigned_stop run.ids update))
      → said ≡ unless_fault (own_fault run number position update)
      (says_times place (planned_at run position) (times (planned_at run position) update))
      → said ≡ unless_fault (update_fault run number position update) (says_at run position update)
  events-say scheduled place said e at is says =
      let others = scheduled-other update.relation e in
      rw (e, others.0, others.1)
      (by (keeps_station run.station_of (stop_at run position) (assigned_stop run.ids update)) (rw at at is))
    where
      by : (keeps : Bool) → Ok place ≡ unless_fault (place_fault number keeps None) (place_at run position update)
          → said ≡ unless_fault (place_fault number keeps (own_fault run number position update))
          (says_times (place_at run position update) (planned_at run position)
          (times (planned_at run position) update))
      by true here =
          let same : place ≡ place_at run position update = cc in
          says ∙ ap (λ (there : StopNo). unless_fault (own_fault run number position update)
          (says_times there (planned_at run position) (times (planned_at run position) update))) same
      by false here = absurd cc

  pub place-fault : (scheduled : StopNo) (fault : Fault) → is_scheduled update ≡ true
      → scheduled ≡ stop_at run position
      → Err fault ≡ unless_fault
      (place_fault number (keeps_station run.station_of scheduled (assigned_stop run.ids update)) None)
      (place_by scheduled (assigned_stop run.ids update))
      → Err fault ≡ unless_fault (update_fault run number position update) (says_at run position update)
  place-fault scheduled fault e at is =
      rw e (by (keeps_station run.station_of (stop_at run position) (assigned_stop run.ids update)) (rw at at is))
    where
      by : (keeps : Bool) → Err fault ≡ unless_fault (place_fault number keeps None) (place_at run position update)
          → Err fault ≡ unless_fault (place_fault number keeps (own_fault run number position update))
          (says_at run position update)
      by true here = absurd cc
      by false here = cc

-- an update that is read stands at its position, or has a fault there
pub placed_said : (run : Run) (number position : ℕ) (update : StopUpdate) (said : Result Prediction Fault)
    → said ≡ unless_fault (update_fault run number position update) (says_at run position update)
    → with_position position said ≡ placed_by run update (position_timed run number update (Ok position))
placed_said run number position update said same = rw same (by (update_fault run number position update))
  where
    by : (fault : Option Fault)
        → with_position position (unless_fault fault (says_at run position update))
        ≡ placed_by run update (unless_fault fault position)
    by None = refl
    by (Some fault) = refl

-- ---- the place of an update without a fault, and the bytes of its id

pub same-stop : (stop : ℕ) → (stop == stop) ≡ true
same-stop stop = grind (arith, nat_tests)

-- a stop that an id names is known
pub named-in : (ids : List (List ℕ)) (scheduled : StopNo) (id : Option (List ℕ))
    → IsNamed (length ids) scheduled.0 (place_by scheduled (named_by ids id)).0
named-in ids scheduled None other = absurd (false≢true (sym other ∙ same-stop scheduled.0))
named-in ids scheduled (Some id) other = by (position (bytes_eq id) ids) refl other
  where
    by : (found : Option ℕ) → position (bytes_eq id) ids ≡ found
        → ((place_by scheduled (known_stop found)).0 == scheduled.0) ≡ false
        → (place_by scheduled (known_stop found)).0 < length ids
    by None is ne = absurd (false≢true (sym ne ∙ same-stop scheduled.0))
    by (Some at) is ne = (position-Some (bytes_eq id) ids at [] is).0

-- an update that is read has no fault at its position
pub record IsKept (run : Run) (number position : ℕ) (update : StopUpdate) : Type 0 where
  pub keeps : keeps_station run.station_of (stop_at run position) (assigned_stop run.ids update) ≡ true
  pub own : own_fault run number position update ≡ None

pub is_kept : (run : Run) (number position : ℕ) (update : StopUpdate) → is_scheduled update ≡ true
    → update_fault run number position update ≡ None → IsKept run number position update
is_kept run number position update e whole =
    by (keeps_station run.station_of (stop_at run position) (assigned_stop run.ids update)) refl (rw e at whole)
  where
    by : (keeps : Bool) → keeps_station run.station_of (stop_at run position) (assigned_stop run.ids update) ≡ keeps
        → place_fault number keeps (own_fault run number position update) ≡ None → IsKept run number position update
    by true is none = record { keeps = is; own = none }
    by false is none = absurd cc

pub scheduled-else : (update : StopUpdate) → is_read update ≡ true → is_skipped update ≡ false
    → is_no_data update ≡ false → is_scheduled update ≡ true
scheduled-else update read kept known = by (is_scheduled update) (is_skipped update) (is_no_data update) read kept known
  where
    by : (a b c : Bool) → (a || (b || c)) ≡ true → b ≡ false → c ≡ false → a ≡ true
    by true b c e p q = refl
    by false b c e p q = rw (p, q) at e

module _ (run : Run) (number position : ℕ) (update : StopUpdate) where
  -- what it says has a place that is known, and the bytes of its id
  abbrev SaysPlace : Prediction → Type 0
  SaysPlace says =
      IsPlaced (length run.ids) (stop_at run position).0 says
      × (says_size run.ids (stop_at run position).0 says ≡ update_size run position update)

  by-times : is_scheduled update ≡ true → own_fault run number position update ≡ None
      → (both : Option (ℤ × ℤ)) → times (planned_at run position) update ≡ both
      → SaysPlace (says_times (place_at run position update) (planned_at run position) both)
  by-times e none None is = by (rw is at none)
    where
      by : ◌≡◌ {A = Option Fault} (Some (NoTime number)) None
          → SaysPlace (says_times (place_at run position update) (planned_at run position) None)
      by same = absurd cc
  by-times e none (Some both) is = (named-in run.ids (stop_at run position) (filled_text update.assigned), rw e refl)

  pub says-place : is_read update ≡ true → update_fault run number position update ≡ None
      → SaysPlace (says_at run position update)
  says-place read whole = skips (is_skipped update) refl
    where
      known : (b : Bool) → is_no_data update ≡ b → is_skipped update ≡ false
          → SaysPlace (if b then NoData
          else says_times (place_at run position update) (planned_at run position)
          (times (planned_at run position) update))
      known true e kept = (tt, rw (no_data-other update.relation e) refl)
      known false e kept =
          let counts = scheduled-else update read kept e in
          by-times counts (is_kept run number position update counts whole).own
          (times (planned_at run position) update) refl

      skips : (b : Bool) → is_skipped update ≡ b
          → SaysPlace (if b then Skipped else (if is_no_data update then NoData
          else says_times (place_at run position update) (planned_at run position)
          (times (planned_at run position) update)))
      skips true e = (tt, rw (skipped-other update.relation e) refl)
      skips false e = known (is_no_data update) refl e

-- the places of placed updates
abbrev pub places_of : List MatchedUpdate → List ℕ
places_of all = map (λ one. one.position) all

-- an update that was placed has that position, and says what it says there
pub record IsAt (run : Run) (update : StopUpdate) (said : Result ℕ Fault) (one : MatchedUpdate) : Type 0 where
  pub position : said ≡ Ok one.position
  pub says : one ≡ placed_at run (one.position, update)

pub is_at : (run : Run) (update : StopUpdate) (said : Result ℕ Fault) (one : MatchedUpdate)
    → Ok one ≡ placed_by run update said → IsAt run update said one
is_at run update (Ok position) one e =
    let same : one ≡ placed_at run (position, update) = cc in
    rw same (record { position = refl; says = refl })
is_at run update (Err fault) one e = cc

pub is_fault : (run : Run) (update : StopUpdate) (said : Result ℕ Fault) (fault : Fault)
    → Err fault ≡ placed_by run update said → said ≡ Err fault
is_fault run update (Ok position) fault e = cc
is_fault run update (Err other) fault e = cc

-- places after others
abbrev pub prefixed : List ℕ → Result (List ℕ) Fault → Result (List ℕ) Fault
prefixed front (Ok others) = Ok (front ++ others)
prefixed front (Err fault) = Err fault

prefixed-none : (said : Result (List ℕ) Fault) → prefixed [] said ≡ said
prefixed-none (Ok others) = refl
prefixed-none (Err fault) = refl

-- updates up to a number stand at these places, and the ids of their places have so many bytes
pub record PlacedTo (run : Run) (updates : List StopUpdate) (number : ℕ) (after : Option ℕ) (all : List MatchedUpdate)
    (bytes : ℕ) : Type 0 where
  pub so_far : places_from run 0 None updates ≡ prefixed (places_of all) (places_from run number after (drop number updates))
  pub are_at : all ≡ map (placed_at run) (zip (places_of all) updates)
  pub many : length all ≡ number
  pub early : number ≤ position_after after
  pub within : position_after after ≤ length run.stops
  pub size : bytes ≡ updates_size run (places_of all) updates
  pub small : bytes ≤ 200 * number

pub placed_none : (run : Run) (updates : List StopUpdate) → PlacedTo run updates 0 None [] 0
placed_none run updates = record {
  so_far = sym (prefixed-none (places_from run 0 None updates));
  are_at = refl;
  many = refl;
  early = omega arith;
  within = omega arith;
  size = refl;
  small = omega arith;
}

size-push : (run : Run) (at : List ℕ) (updates : List StopUpdate) (position : ℕ) (update : StopUpdate)
    → length at < length updates → update ≡ get_or updates (length at) update
    → updates_size run (at ++ position ∷ []) updates ≡ updates_size run at updates + update_size run position update
size-push run [] [] position update h e = absurd (omega arith)
size-push run [] (first ∷ updates) position update h e =
    let here : update_size run position first ≡ update_size run position update =
    ap (λ (one : StopUpdate). update_size run position one) (sym e) in
    omega (arith, here)
size-push run (a ∷ at) [] position update h e = absurd (omega arith)
size-push run (a ∷ at) (first ∷ updates) position update h e =
    let rest = size-push run at updates position update (omega arith) e in
    omega (arith, rest)

zip-push : (at : List ℕ) (updates : List StopUpdate) (position : ℕ) (update : StopUpdate) → length at < length updates
    → update ≡ get_or updates (length at) update
    → zip (at ++ position ∷ []) updates ≡ zip at updates ++ (position, update) ∷ []
zip-push [] [] position update h e = absurd (omega arith)
zip-push [] (first ∷ updates) position update h e = ap (λ (one : StopUpdate). (position, one) ∷ []) (sym e)
zip-push (a ∷ at) [] position update h e = absurd (omega arith)
zip-push (a ∷ at) (first ∷ updates) position update h e =
    ap (λ rest. (a, first) ∷ rest) (zip-push at updates position update (omega arith) e)

places-step : (run : Run) (number : ℕ) (after : Option ℕ) (update : StopUpdate) (updates : List StopUpdate)
    (front : List ℕ) (position : ℕ)
    → position_of run number after update ≡ Ok position
    → prefixed front (places_from run number after (update ∷ updates))
    ≡ prefixed (front ++ position ∷ []) (places_from run (number + 1) (Some position) updates)
places-step run number after update updates front position e =
    rw e (by (places_from run (number + 1) (Some position) updates))
  where
    by : (said : Result (List ℕ) Fault)
        → prefixed front (said >>= λ others. Ok (position ∷ others)) ≡ prefixed (front ++ position ∷ []) said
    by (Ok others) = ap (λ all. Ok all) (sym (append_assoc front (position ∷ []) others))
    by (Err fault) = refl

-- one update more
pub record IsNext (run : Run) (number : ℕ) (after : Option ℕ) (update : StopUpdate) (next : MatchedUpdate) (bytes : ℕ) : Type
    0 where
  pub at : IsAt run update (position_of run number after update) next
  pub later : nat_le (position_after after) next.position ≡ true
  pub within : next.position < length run.stops
  pub size : bytes ≡ update_size run next.position update
  pub small : bytes ≤ 200

length-places : (all : List MatchedUpdate) → length (places_of all) ≡ length all
length-places [] = refl
length-places (one ∷ all) = ap suc (length-places all)

length-push : (all : List MatchedUpdate) (one : MatchedUpdate) → length (all ++ one ∷ []) ≡ length all + 1
length-push [] one = refl
length-push (first ∷ all) one = omega (arith, length-push all one)

pub placed_more : (run : Run) (updates : List StopUpdate) (number : ℕ) (after : Option ℕ) (all all' : List MatchedUpdate)
    (update : StopUpdate) (next : MatchedUpdate) (bytes size : ℕ)
    → PlacedTo run updates number after all bytes → number < length updates → update ≡ get_or updates number update
    → IsNext run number after update next size → all' ≡ all ++ next ∷ []
    → PlacedTo run updates (number + 1) (Some next.position) all' (bytes + size)
placed_more run updates number after all all' update next bytes size h within is one pushed =
    let left : drop number updates ≡ update ∷ drop (number + 1) updates =
    drop_more updates number update within
    ∙ ap (λ (first : StopUpdate). first ∷ drop (number + 1) updates) (sym is) in
    let grown : places_of (all ++ next ∷ []) ≡ places_of all ++ next.position ∷ [] =
    map-append (λ (one : MatchedUpdate). one.position) all (next ∷ []) in
    let many : length (places_of all) ≡ number = length-places all ∙ h.many in
    let there : update ≡ get_or updates (length (places_of all)) update = rw many is in
    let zipped : zip (places_of all ++ next.position ∷ []) updates ≡ zip (places_of all) updates ++ (next.position, update)
    ∷ [] =
    zip-push (places_of all) updates next.position update (omega arith) there in
    let sized : updates_size run (places_of all ++ next.position ∷ []) updates
    ≡ updates_size run (places_of all) updates + update_size run next.position update =
    size-push run (places_of all) updates next.position update (omega arith) there in
    let low : position_after after ≤ next.position = leb-true (position_after after) next.position one.later in
    let early = h.early in
    let small = h.small in
    let within_stops = one.within in
    let small_one = one.small in
    rw pushed (record {
      so_far = h.so_far ∙ (ap (λ rest. prefixed (places_of all) (places_from run number after rest)) left
          ∙ (places-step run number after update (drop (number + 1) updates) (places_of all) next.position one.at.position
          ∙ ap (λ front. prefixed front (places_from run (number + 1) (Some next.position) (drop (number + 1) updates)))
          (sym grown)));
      are_at = sym (rw (
        grown,
        zipped,
        map-append (placed_at run) (zip (places_of all) updates) ((next.position, update) ∷ []),
        ← h.are_at,
      )
          (ap (λ (one : MatchedUpdate). all ++ one ∷ []) (sym one.at.says)));
      many = length-push all next ∙ ap (λ n. n + 1) h.many;
      early = omega arith;
      within = omega arith;
      size = ap (λ n. n + size) h.size
          ∙ (ap (λ n. updates_size run (places_of all) updates + n) one.size
          ∙ (sym sized ∙ ap (λ at. updates_size run at updates) (sym grown)));
      small = omega arith;
    })

pub placed_all-fault : (run : Run) (updates : List StopUpdate) (number : ℕ) (after : Option ℕ) (all : List MatchedUpdate)
    (bytes : ℕ) (update : StopUpdate) (fault : Fault)
    → PlacedTo run updates number after all bytes → number < length updates → update ≡ get_or updates number update
    → position_of run number after update ≡ Err fault → placed_all run updates (places run updates) ≡ Err fault
placed_all-fault run updates number after all bytes update fault h within is e =
    let left : drop number updates ≡ update ∷ drop (number + 1) updates =
    drop_more updates number update within
    ∙ ap (λ (first : StopUpdate). first ∷ drop (number + 1) updates) (sym is) in
    rw (h.so_far, left, e) refl

-- all updates are placed: then the places may be too long
pub all-placed : (run : Run) (updates : List StopUpdate) (number : ℕ) (after : Option ℕ) (all : List MatchedUpdate)
    (bytes : ℕ)
    → PlacedTo run updates number after all bytes → length updates ≡ number
    → placed_all run updates (places run updates) ≡ unless_fault (places_fault bytes) all
all-placed run updates number after all bytes h e =
    let none : drop number updates ≡ [] = drop_all number updates (omega arith) in
    let from : places_from run 0 None updates ≡ Ok (places_of all) =
    h.so_far ∙ (rw (none, append-nil (places_of all)) refl) in
    rw (from, ← h.size) (by (places_fault bytes))
  where
    by : (fault : Option Fault)
        → placed_all run updates (unless_fault fault (places_of all)) ≡ unless_fault fault all
    by None = ap (λ (l : List MatchedUpdate). Ok l) (sym h.are_at)
    by (Some fault) = refl

-- the position of an update lies after the one before
ordered : (from position found : ℕ) → in_order from position ≡ Ok found → nat_le from found ≡ true
ordered from position found e = by (nat_le from position) refl e
  where
    by : (b : Bool) → nat_le from position ≡ b
        → ◌≡◌ {A = Result ℕ MatchFault} (if b then Ok position else Err match.OutOfOrder) (Ok found)
        → nat_le from found ≡ true
    by true le same = let is : position ≡ found = cc in rw (← is) le
    by false le same = cc

sequence-after : (stops : List StopRow) (from : ℕ) (named : NamedStop) (same : Bool) (at : Option ℕ) (found : ℕ)
    → position_by_sequence stops from named same at ≡ Ok found → nat_le from found ≡ true
sequence-after stops from named same None found e = cc
sequence-after stops from named same (Some position) found e =
    by (same || stands_at (agrees named) position stops) e
  where
    by : (b : Bool) → (if b then in_order from position else Err match.StopMismatch) ≡ Ok found → nat_le from found ≡ true
    by true same = ordered from position found same
    by false same = cc

first-after : (from found : ℕ) (at : Option ℕ)
    → ok_or (option_map (λ position. position + from) at) match.OutOfOrder ≡ Ok found → nat_le from found ≡ true
first-after from found None e = cc
first-after from found (Some position) e =
    let is : position + from ≡ found = cc in
    grind (arith, nat_tests)

stop-after : (stops : List StopRow) (from : ℕ) (named : NamedStop) (found : ℕ)
    → position_by_stop stops from named ≡ Ok found → nat_le from found ≡ true
stop-after stops from Missing found e = cc
stop-after stops from Unknown found e = cc
stop-after stops from (Known stop) found e = by (list_any (is_of_stop stop.0) stops) e
  where
    by : (b : Bool) → (if b then ok_or (first_from (is_of_stop stop.0) from stops) match.OutOfOrder else Err match.UnknownStop)
        ≡ Ok found → nat_le from found ≡ true
    by true same = first-after from found (position (is_of_stop stop.0) (drop from stops)) same
    by false same = cc

position-after : (stops : List StopRow) (after sequence : Option ℕ) (named : NamedStop) (same : Bool) (found : ℕ)
    → update_position stops after sequence named same ≡ Ok found
    → nat_le (position_after after) found ≡ true
position-after stops after None named same found e = stop-after stops (position_after after) named found e
position-after stops after (Some sequence) named same found e =
    sequence-after stops (position_after after) named same (position (has_sequence sequence) stops) found e

-- an update at its position has no fault there, and lies after the one before
pub record Fits (run : Run) (number : ℕ) (after : Option ℕ) (update : StopUpdate) (position : ℕ) : Type 0 where
  pub read : is_read update ≡ true
  pub later : nat_le (position_after after) position ≡ true
  pub whole : update_fault run number position update ≡ None

timed-fits : (run : Run) (number : ℕ) (after : Option ℕ) (update : StopUpdate) (at : Result ℕ MatchFault) (position : ℕ)
    → is_read update ≡ true → ((found : ℕ) → at ≡ Ok found → nat_le (position_after after) found ≡ true)
    → position_timed run number update at ≡ Ok position
    → Fits run number after update position
timed-fits run number after update (Err fault) position read later e = cc
timed-fits run number after update (Ok found) position read later e =
    by (update_fault run number found update) refl e
  where
    by : (fault : Option Fault) → update_fault run number found update ≡ fault
        → unless_fault fault found ≡ Ok position → Fits run number after update position
    by None whole same = let is : found ≡ position =
        cc in rw (← is) (record { read = read; later = later found refl; whole = whole })
    by (Some fault) whole same = cc

-- the position of an update by the stops of its run
abbrev pub found_at : Run → Option ℕ → StopUpdate → Result ℕ MatchFault
found_at run after update =
    update_position run.stops after update.sequence (named_stop run.ids update) (names_one update)

pub position-fits : (run : Run) (number : ℕ) (after : Option ℕ) (update : StopUpdate) (position : ℕ)
    → position_of run number after update ≡ Ok position → Fits run number after update position
position-fits run number after update position e = by (is_read update) refl e
  where
    by : (b : Bool) → is_read update ≡ b
        → (if b then position_timed run number update (found_at run after update)
        else Err (OtherRelation update.relation)) ≡ Ok position
        → Fits run number after update position
    by true read same =
        timed-fits run number after update (found_at run after update) position read
        (λ found is. position-after run.stops after update.sequence (named_stop run.ids update) (names_one update)
        found is) same
    by false read same = cc

-- an update that was placed: its place is known, and the bytes of its id are counted
pub record IsSized (run : Run) (number : ℕ) (after : Option ℕ) (update : StopUpdate) (next : MatchedUpdate) : Type 0 where
  pub later : nat_le (position_after after) next.position ≡ true
  pub placed : IsPlaced (length run.ids) (stop_at run next.position).0 next.says
  pub size : says_size run.ids (stop_at run next.position).0 next.says ≡ update_size run next.position update

pub is_sized : (run : Run) (number : ℕ) (after : Option ℕ) (update : StopUpdate) (next : MatchedUpdate)
    → IsAt run update (position_of run number after update) next → IsSized run number after update next
is_sized run number after update next at =
    let fits = position-fits run number after update next.position at.position in
    let says : next.says ≡ says_at run next.position update = ap (λ (one : MatchedUpdate). one.says) at.says in
    let place = says-place run number next.position update fits.read fits.whole in
    record { later = fits.later; placed = rw says place.0; size = rw says place.1 }

-- the places of updates rise
pub places-rise : (run : Run) (number : ℕ) (after : Option ℕ) (updates : List StopUpdate) (at : List ℕ)
    → places_from run number after updates ≡ Ok at
    → are_rising_from (position_after after) (zip at updates) ≡ true
places-rise run number after [] at e = let none : [] ≡ at = cc in rw (← none) refl
places-rise run number after (update ∷ updates) at e =
    first (λ position others is. places-rise run (number + 1) (Some position) updates others is)
    (position_of run number after update) refl e
  where
    rest : (position : ℕ)
        → ((others : List ℕ) → places_from run (number + 1) (Some position) updates ≡ Ok others
        → are_rising_from (position + 1) (zip others updates) ≡ true)
        → nat_le (position_after after) position ≡ true → (said : Result (List ℕ) Fault)
        → places_from run (number + 1) (Some position) updates ≡ said
        → (said >>= λ others. Ok (position ∷ others)) ≡ Ok at
        → are_rising_from (position_after after) (zip at (update ∷ updates)) ≡ true
    rest position rise low (Ok others) is same =
        let all : position ∷ others ≡ at = cc in
        rw (← all, low) (rise others is)
    rest position rise low (Err fault) is same = cc

    first : ((position : ℕ) (others : List ℕ) → places_from run (number + 1) (Some position) updates ≡ Ok others
        → are_rising_from (position + 1) (zip others updates) ≡ true)
        → (said : Result ℕ Fault) → position_of run number after update ≡ said
        → (said >>= λ position. places_from run (number + 1) (Some position) updates >>= λ others. Ok (position ∷ others))
        ≡ Ok at
        → are_rising_from (position_after after) (zip at (update ∷ updates)) ≡ true
    first rise (Ok position) is same =
        rest position (rise position) (position-fits run number after update position is).later
        (places_from run (number + 1) (Some position) updates) refl same
    first rise (Err fault) is same = cc

-- the places of updates: they were found one by one, and their ids aren't too long
pub places-from : (run : Run) (updates : List StopUpdate) (at : List ℕ) → places run updates ≡ Ok at
    → (places_from run 0 None updates ≡ Ok at) × (places_fault (updates_size run at updates) ≡ None)
places-from run updates at e = by (places_from run 0 None updates) e
  where
    kept : (found : List ℕ) (fault : Option Fault) → places_fault (updates_size run found updates) ≡ fault
        → unless_fault fault found ≡ Ok at
        → ◌≡◌ {A = Result (List ℕ) Fault} (Ok found) (Ok at) × (places_fault (updates_size run at updates) ≡ None)
    kept found None is same =
        let all : found ≡ at = cc in
        (same, ap (λ (positions : List ℕ). places_fault (updates_size run positions updates)) (sym all) ∙ is)
    kept found (Some fault) is same = cc

    by : (said : Result (List ℕ) Fault)
        → (said >>= λ positions. unless_fault (places_fault (updates_size run positions updates)) positions) ≡ Ok at
        → (said ≡ Ok at) × (places_fault (updates_size run at updates) ≡ None)
    by (Ok found) same = kept found (places_fault (updates_size run found updates)) refl same
    by (Err fault) same = cc
