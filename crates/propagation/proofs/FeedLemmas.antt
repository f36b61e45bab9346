-- The entities of a feed are sorted out one by one, and of the readings of one journey the last is kept.
use Rattle.std.proofs.Common.{◌≡◌, ◌∙◌, ◌+◌, ◌<◌, ◌≤◌, ◌==◌, ◌&&◌, ◌||◌, ◌++◌, ◌∷◌, [], ℕ, zero, suc, ℤ, not, Bool, true, false, List, map, take, length, get_or, Option, Some, None, is_some, Result, Ok, Err, if◌then◌else◌, refl, sym, ap, arith}
use Rattle.std.proofs.lemmas.Bool.{eqb-true, false≢true}
use Rattle.std.proofs.lemmas.List.{map-append, take_more, reverse-append}
use Rattle.std.proofs.lemmas.List.Sorted.{list_any-IsPermutation}
use Rattle.std.specs.Cmp.{int_eq_equiv, nat_eq_equiv, signed_Decides}
use Rattle.std.specs.List.{list_any}
use Rattle.std.specs.List.Sorted.{IsPermutation}
use Rattle.std.specs.Option.{option_or}
use Rattle.std.specs.Ordering.{int_eq}
use Rattle.std.proofs.Math.Bool.{and_comm}
use Rattle.timetable.proofs.IdLemmas.{and-left, and-right}
use Rattle.gw_base.specs.declared.messages.Entity.{Entity}
use Rattle.gw_base.specs.declared.messages.Feed.{Feed}
use Rattle.journey_model.specs.FeedReadings.{aside_all, entity_said, fault_said, given, given_all, is_of, last_of_each, last_reading, passed_count, readings}
use Rattle.journey_model.specs.Reports.{aside_at}
use Rattle.journey_model.specs.Schedules.{Schedule}
use Rattle.journey_model.specs.declared.fault.Fault.{Fault}
use Rattle.journey_model.specs.declared.readings.DatedReading.{DatedReading}
use Rattle.journey_model.specs.declared.readings.JourneyReading.{JourneyReading}
use Rattle.journey_model.proofs.AsideLemmas.{aside-all-more}
use Rattle.propagation.specs.SortedOut.{AreLast, key_of, same_key}

-- what an entity says
abbrev pub Said : Type 0
Said = Option (Result DatedReading Fault)

pub given-push : (said : List Said) (last : Said) → given_all (said ++ last ∷ []) ≡ given_all said ++ given_all (last ∷ [])
given-push [] last = refl
given-push (None ∷ said) last = given-push said last
given-push (Some (Ok one) ∷ said) last = ap (λ rest. one ∷ rest) (given-push said last)
given-push (Some (Err fault) ∷ said) last = given-push said last

passed-push : (said : List Said) (last : Said)
    → passed_count (said ++ last ∷ []) ≡ passed_count said + passed_count (last ∷ [])
passed-push [] last = omega arith
passed-push (None ∷ said) last = omega (arith, passed-push said last)
passed-push (Some one ∷ said) last = passed-push said last

pub passed-most : (said : List Said) → passed_count said ≤ length said
passed-most [] = omega arith
passed-most (None ∷ said) = omega (arith, passed-most said)
passed-most (Some one ∷ said) = omega (arith, passed-most said)

-- what the entities up to a number say
abbrev pub said_to : Schedule → Feed → ℕ → List Said
said_to schedule feed number = map (entity_said schedule feed) (take number feed.entities)

pub record SortedTo (schedule : Schedule) (feed : Feed) (number : ℕ) (given : List DatedReading) (passed : ℕ)
    (aside : List (ℕ × Fault)) : Type 0 where
  pub given_is : given ≡ given_all (said_to schedule feed number)
  pub passed_is : passed ≡ passed_count (said_to schedule feed number)
  pub aside_is : aside ≡ aside_all (said_to schedule feed number)
  pub many : length (said_to schedule feed number) ≡ number

pub sorted_none : (schedule : Schedule) (feed : Feed) → SortedTo schedule feed 0 [] 0 []
sorted_none schedule feed = record { given_is = refl; passed_is = refl; aside_is = refl; many = refl }

-- an entity more
said-more : (schedule : Schedule) (feed : Feed) (number : ℕ) (entity : Entity) (said : Said)
    → number < length feed.entities → entity ≡ get_or feed.entities number entity
    → said ≡ entity_said schedule feed entity
    → said_to schedule feed (number + 1) ≡ said_to schedule feed number ++ said ∷ []
said-more schedule feed number entity said within is says =
    let taken : take (number + 1) feed.entities ≡ take number feed.entities ++ entity ∷ [] =
    take_more feed.entities number entity within
    ∙ ap (λ (last : Entity). take number feed.entities ++ last ∷ []) (sym is) in
    ap (map (entity_said schedule feed)) taken
    ∙ (map-append (entity_said schedule feed) (take number feed.entities) (entity ∷ [])
    ∙ ap (λ (last : Said). said_to schedule feed number ++ last ∷ []) (sym says))

pub sorted_more : (schedule : Schedule) (feed : Feed) (number : ℕ) (given given' : List DatedReading)
    (passed passed' : ℕ) (aside aside' : List (ℕ × Fault)) (entity : Entity) (said : Said)
    → SortedTo schedule feed number given passed aside → number < length feed.entities
    → entity ≡ get_or feed.entities number entity → said ≡ entity_said schedule feed entity
    → given' ≡ given ++ given_all (said ∷ []) → passed' ≡ passed + passed_count (said ∷ [])
    → aside' ≡ aside ++ aside_at number (fault_said said)
    → SortedTo schedule feed (number + 1) given' passed' aside'
sorted_more schedule feed number given given' passed passed' aside aside' entity said h within is says more_given
    more_passed more_aside =
    let grown = said-more schedule feed number entity said within is says in
    let before = said_to schedule feed number in
    record {
      given_is = more_given ∙ (rw (h.given_is, grown) (sym (given-push before said)));
      passed_is = more_passed ∙ (rw (h.passed_is, grown) (sym (passed-push before said)));
      aside_is = more_aside
          ∙ (rw (h.aside_is, grown)
          (sym (aside-all-more before said
          ∙ ap (λ (at : ℕ). aside_all before ++ aside_at at (fault_said said)) h.many)));
      many = rw grown (length-push before said ∙ ap (λ n. n + 1) h.many);
    }
  where
    length-push : (all : List Said) (one : Said) → length (all ++ one ∷ []) ≡ length all + 1
    length-push [] one = refl
    length-push (first ∷ all) one = omega (arith, length-push all one)

-- of readings from the end on, the last of each journey
pub record LastTo (given left : List DatedReading) (keys : List (ℤ × ℕ)) (last : List DatedReading) : Type 0 where
  pub after : List DatedReading
  pub split : given ≡ left ++ after
  pub are_last : AreLast after keys last

-- a reading of a trip on a day has its numbers
pub of-trip : (trip : ℕ) (day : ℤ) (one : DatedReading) → is_of trip day one ≡ true → one.trip.0 ≡ trip
of-trip trip day one e = eqb-true one.trip.0 trip (and-left (one.trip.0 == trip) (int_eq one.day day) e)

pub of-day : (trip : ℕ) (day : ℤ) (one : DatedReading) → is_of trip day one ≡ true → one.day ≡ day
of-day trip day one e = (signed_Decides one.day day).0 (and-right (one.trip.0 == trip) (int_eq one.day day) e)

-- so readings of one journey have the same after them
pub same-after : (trip : ℕ) (day : ℤ) (one : DatedReading) (others : List DatedReading) → is_of trip day one ≡ true
    → last_reading trip day others ≡ last_reading one.trip.0 one.day others
same-after trip day one others e = rw (of-trip trip day one e, of-day trip day one e) refl

key_is : (other one : DatedReading) → same_key (key_of other) (key_of one) ≡ is_of other.trip.0 other.day one
key_is other one =
    and_comm (int_eq other.day one.day) (other.trip.0 == one.trip.0)
    ∙ ap (λ (trips : Bool). trips && int_eq other.day one.day) (nat_eq_equiv.symm other.trip.0 one.trip.0)
    ∙ ap (λ (days : Bool). (one.trip.0 == other.trip.0) && days) (int_eq_equiv.symm other.day one.day)

or-some : (own : Bool) (found : Option JourneyReading) (reading : JourneyReading)
    → (own || is_some found) ≡ is_some (option_or found (if own then Some reading else None))
or-some true None reading = refl
or-some true (Some last) reading = refl
or-some false None reading = refl
or-some false (Some last) reading = refl

or-kept : (found other : Option JourneyReading) → is_some found ≡ true → is_some found ≡ is_some (option_or found other)
or-kept None other e = absurd (false≢true e)
or-kept (Some last) other e = refl

not_true : (b : Bool) → true ≡ not b → b ≡ false
not_true true e = e
not_true false e = refl

not_false : (b : Bool) → false ≡ not b → b ≡ true
not_false true e = refl
not_false false e = e

-- a reading whose journey is new is the last of it, and one whose journey was seen isn't
pub last_new : (after : List DatedReading) (keys keys' : List (ℤ × ℕ)) (last last' : List DatedReading)
    (one : DatedReading) (key : ℤ × ℕ)
    → AreLast after keys last → key ≡ key_of one
    → true ≡ not (list_any (same_key key) keys)
    → IsPermutation (key ∷ keys) keys' → last' ≡ last ++ one ∷ [] → AreLast (one ∷ after) keys' last'
last_new after keys keys' last last' one key h same new puts pushed =
    let none : is_some (last_reading one.trip.0 one.day after) ≡ false =
    sym (h.saw one) ∙ (rw (← same) (not_true _ new)) in
    record {
      saw = λ other. sym (list_any-IsPermutation (same_key (key_of other)) (key ∷ keys) keys' puts)
          ∙ (rw same (ap (λ rest. same_key (key_of other) (key_of one) || rest) (h.saw other)))
          ∙ ap (λ own. own || is_some (last_reading other.trip.0 other.day after)) (key_is other one)
          ∙ or-some (is_of other.trip.0 other.day one) (last_reading other.trip.0 other.day after) one.reading;
      last_is = pushed ∙ (rw (h.last_is, none) (sym (reverse-append (one ∷ []) (last_of_each after))));
    }

pub last_seen : (after : List DatedReading) (keys keys' : List (ℤ × ℕ)) (last : List DatedReading)
    (one : DatedReading) (key : ℤ × ℕ)
    → AreLast after keys last → key ≡ key_of one
    → false ≡ not (list_any (same_key key) keys) → keys' ≡ keys → AreLast (one ∷ after) keys' last
last_seen after keys keys' last one key h same old kept =
    let seen : is_some (last_reading one.trip.0 one.day after) ≡ true =
    sym (h.saw one) ∙ (rw (← same) (not_false _ old)) in
    record {
      saw = λ other. rw kept (h.saw other ∙ repeated other (is_of other.trip.0 other.day one) refl seen);
      last_is = h.last_is ∙ (rw seen refl);
    }
  where
    repeated : (other : DatedReading) (own : Bool) → is_of other.trip.0 other.day one ≡ own
        → is_some (last_reading one.trip.0 one.day after) ≡ true
        → is_some (last_reading other.trip.0 other.day after)
        ≡ is_some (option_or (last_reading other.trip.0 other.day after)
        (if is_of other.trip.0 other.day one then Some one.reading else None))
    repeated other true e seen =
        or-kept (last_reading other.trip.0 other.day after) _
        (ap (λ (found : Option JourneyReading). is_some found) (same-after other.trip.0 other.day one after e)
        ∙ seen)
    repeated other false e seen = rw e (or-some false (last_reading other.trip.0 other.day after) one.reading)

-- all entities were sorted out
pub sorted_all : (schedule : Schedule) (feed : Feed) (number : ℕ) → length feed.entities ≤ number
    → said_to schedule feed number ≡ readings schedule feed
sorted_all schedule feed number all = ap (map (entity_said schedule feed)) (take-all number feed.entities all)
  where
    take-all : (n : ℕ) (entities : List Entity) → length entities ≤ n → take n entities ≡ entities
    take-all zero [] h = refl
    take-all (suc n) [] h = refl
    take-all zero (entity ∷ entities) h = absurd (omega arith)
    take-all (suc n) (entity ∷ entities) h = ap (λ rest. entity ∷ rest) (take-all n entities (omega arith))
