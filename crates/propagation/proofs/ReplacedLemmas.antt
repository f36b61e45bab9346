-- A reading in whose place a later one of its journey stands can be left out: of the readings of one journey the last
-- stays the same.
use Rattle.std.proofs.Common.{◌≡◌, ◌∙◌, ◌==◌, ◌&&◌, ◌++◌, ◌∷◌, [], ℕ, suc, ℤ, not, Bool, true, false, List, length, set, take, drop, Option, Some, None, IfSome, is_none, is_some, Result, if◌then◌else◌, refl, sym, ap, subst, arith}
use Rattle.std.specs.Prelude.{cond}
use Rattle.std.proofs.lemmas.Bool.{and_from, and_right, eq-eqb, false≢true, not_from_true}
use Rattle.std.proofs.lemmas.List.{append_assoc, set_split, set-append_left, set-get_or}
use Rattle.std.proofs.lemmas.List.Elements.{filter_map-append}
use Rattle.std.specs.List.{cons_option, filter, filter_map}
use Rattle.std.specs.Cmp.{signed_Decides}
use Rattle.std.specs.Option.{option_or}
use Rattle.std.specs.Ordering.{int_eq}
use Rattle.gw_base.specs.declared.messages.Feed.{Feed}
use Rattle.gw_base.proofs.Elements.{or_none}
use Rattle.journey_model.specs.FeedReadings.{is_last, is_of, last_of_each, last_reading, moment_in}
use Rattle.journey_model.specs.Schedules.{Schedule}
use Rattle.journey_model.specs.declared.fault.Fault.{Fault}
use Rattle.journey_model.specs.declared.readings.DatedReading.{DatedReading}
use Rattle.journey_model.specs.declared.readings.JourneyReading.{JourneyReading}
use Rattle.propagation.specs.Folding.{GivesLate, aside_late, given_late, is_taken_late, taken_late}
use Rattle.propagation.specs.Replacing.{Holds, IsEarlierOf, replaced_at}
use Rattle.propagation.specs.declared.entity_said.EntitySaid.{EntitySaid}
use Rattle.propagation.specs.declared.entity_said.EntitySaid.TheVariants.{Given, Replaced}
use Rattle.propagation.proofs.FeedLemmas.{of-trip, of-day, same-after}

-- ---- the last reading of each journey, with one reading more

-- a reading after others is the last of its journey
none_push : (trip : ℕ) (day : ℤ) (given : List DatedReading) (last : DatedReading)
    → is_none (last_reading trip day (given ++ last ∷ []))
    ≡ (is_none (last_reading trip day given) && not (is_of trip day last))
none_push trip day [] last = by (is_of trip day last)
  where
    by : (own : Bool) → is_none (option_or None (if own then Some last.reading else None)) ≡ (true && not own)
    by true = refl
    by false = refl
none_push trip day (one ∷ others) last =
    by (last_reading trip day (others ++ last ∷ [])) (last_reading trip day others) (is_of trip day one)
    (none_push trip day others last)
  where
    by : (now before : Option JourneyReading) (own : Bool)
        → is_none now ≡ (is_none before && not (is_of trip day last))
        → is_none (option_or now (if own then Some one.reading else None))
        ≡ (is_none (option_or before (if own then Some one.reading else None)) && not (is_of trip day last))
    by None None true e = cc
    by None None false e = e
    by None (Some reading) own e = absurd (false≢true (sym e))
    by (Some later) None true e = refl
    by (Some later) None false e = e
    by (Some later) (Some reading) own e = refl

-- so the last readings are those before whose journey is another one, and then it
last_push : (given : List DatedReading) (last : DatedReading)
    → last_of_each (given ++ last ∷ [])
    ≡ filter (λ one. not (is_of one.trip.0 one.day last)) (last_of_each given) ++ last ∷ []
last_push [] last = refl
last_push (one ∷ others) last =
    rw (none_push one.trip.0 one.day others last, last_push others last)
    (by (is_last one others) (is_of one.trip.0 one.day last) refl)
  where
    by : (now own : Bool) → is_of one.trip.0 one.day last ≡ own
        → (if now && not own
        then one ∷ (filter (λ one. not (is_of one.trip.0 one.day last)) (last_of_each others) ++ last ∷ [])
        else filter (λ one. not (is_of one.trip.0 one.day last)) (last_of_each others) ++ last ∷ [])
        ≡ filter (λ one. not (is_of one.trip.0 one.day last))
        (if now then one ∷ last_of_each others else last_of_each others) ++ last ∷ []
    by true true e = rw e refl
    by true false e = rw e refl
    by false own e = refl

pub same_push : (given others : List DatedReading) (last : DatedReading) → last_of_each given ≡ last_of_each others
    → last_of_each (given ++ last ∷ []) ≡ last_of_each (others ++ last ∷ [])
same_push given others last same =
    last_push given last
    ∙ (ap (λ (each : List DatedReading). filter (λ one. not (is_of one.trip.0 one.day last)) each ++ last ∷ []) same
    ∙ sym (last_push others last))

-- ---- a reading with a later one of its journey is left out

reads_without : (trip : ℕ) (day : ℤ) (given : List DatedReading) (old : DatedReading) (after : List DatedReading)
    → is_some (last_reading old.trip.0 old.day after) ≡ true
    → last_reading trip day (given ++ old ∷ after) ≡ last_reading trip day (given ++ after)
reads_without trip day [] old after later = by (is_of trip day old) refl
  where
    found : (reading : Option JourneyReading) → is_some reading ≡ true
        → option_or reading (Some old.reading) ≡ reading
    found None e = absurd (false≢true e)
    found (Some reading) e = refl

    by : (own : Bool) → is_of trip day old ≡ own
        → option_or (last_reading trip day after) (if own then Some old.reading else None)
        ≡ last_reading trip day after
    by true e =
        found (last_reading trip day after)
        (ap (λ (reading : Option JourneyReading). is_some reading) (same-after trip day old after e) ∙ later)
    by false e = or_none (last_reading trip day after)
reads_without trip day (one ∷ given) old after later =
    ap (λ (reading : Option JourneyReading). option_or reading (if is_of trip day one then Some one.reading else None))
    (reads_without trip day given old after later)

last_without : (given : List DatedReading) (old : DatedReading) (after : List DatedReading)
    → is_some (last_reading old.trip.0 old.day after) ≡ true
    → last_of_each (given ++ old ∷ after) ≡ last_of_each (given ++ after)
last_without [] old after later = by (last_reading old.trip.0 old.day after) later
  where
    by : (reading : Option JourneyReading) → is_some reading ≡ true
        → (if is_none reading then old ∷ last_of_each after else last_of_each after) ≡ last_of_each after
    by None e = absurd (false≢true e)
    by (Some reading) e = refl
last_without (one ∷ given) old after later =
    rw (reads_without one.trip.0 one.day given old after later, last_without given old after later) refl

-- a later reading of the same journey
is_later : (trip : ℕ) (day : ℤ) (given : List DatedReading) (last : DatedReading) → is_of trip day last ≡ true
    → is_some (last_reading trip day (given ++ last ∷ [])) ≡ true
is_later trip day given last e = by (last_reading trip day (given ++ last ∷ [])) (none_push trip day given last ∙ no)
  where
    no : (is_none (last_reading trip day given) && not (is_of trip day last)) ≡ false
    no = and_right (is_none (last_reading trip day given)) (not (is_of trip day last)) (not_from_true _ e)

    by : (reading : Option JourneyReading) → is_none reading ≡ false → is_some reading ≡ true
    by None is = absurd (false≢true (sym is))
    by (Some reading) is = refl

-- ---- what is held, with one replaced

-- it is still taken
same_taken : (schedule : Schedule) (feed : Feed) (before rest : List (ℕ × EntitySaid)) (number : ℕ) (old : DatedReading)
    → taken_late schedule feed (before ++ (number, Replaced) ∷ rest)
    ≡ taken_late schedule feed (before ++ (number, Given old) ∷ rest)
same_taken schedule feed [] rest number old = refl
same_taken schedule feed (one ∷ before) rest number old =
    by (is_taken_late schedule feed one) (same_taken schedule feed before rest number old)
  where
    by : (taken : Bool)
        → taken_late schedule feed (before ++ (number, Replaced) ∷ rest)
        ≡ taken_late schedule feed (before ++ (number, Given old) ∷ rest)
        → length (cond taken (one ∷ filter (is_taken_late schedule feed) (before ++ (number, Replaced) ∷ rest))
        (filter (is_taken_late schedule feed) (before ++ (number, Replaced) ∷ rest)))
        ≡ length (cond taken (one ∷ filter (is_taken_late schedule feed) (before ++ (number, Given old) ∷ rest))
        (filter (is_taken_late schedule feed) (before ++ (number, Given old) ∷ rest)))
    by true e = omega (arith, e)
    by false e = e

-- and what is set aside stays
same_aside : (schedule : Schedule) (feed : Feed) (before rest : List (ℕ × EntitySaid)) (number : ℕ) (old : DatedReading)
    → filter_map (aside_late schedule feed) (before ++ (number, Replaced) ∷ rest)
    ≡ filter_map (aside_late schedule feed) (before ++ (number, Given old) ∷ rest)
same_aside schedule feed [] rest number old = refl
same_aside schedule feed (one ∷ before) rest number old =
    ap (cons_option (aside_late schedule feed one)) (same_aside schedule feed before rest number old)

-- and so do the last readings, where a later one of the journey follows
same_last : (schedule : Schedule) (feed : Feed) (before rest : List (ℕ × EntitySaid)) (number : ℕ) (old : DatedReading)
    → is_some (last_reading old.trip.0 old.day (filter_map (given_late schedule feed) rest)) ≡ true
    → last_of_each (filter_map (given_late schedule feed) (before ++ (number, Replaced) ∷ rest))
    ≡ last_of_each (filter_map (given_late schedule feed) (before ++ (number, Given old) ∷ rest))
same_last schedule feed before rest number old later =
    let late = given_late schedule feed in
    let dated : DatedReading = record {
      trip = old.trip;
      day = old.day;
      recorded = option_or old.recorded (moment_in feed.timestamp);
      reading = old.reading;
    } in
    ap last_of_each (filter_map-append late before ((number, Replaced) ∷ rest))
    ∙ (sym (last_without (filter_map late before) dated (filter_map late rest) later)
    ∙ sym (ap last_of_each (filter_map-append late before ((number, Given old) ∷ rest))))

gives_replaced : (schedule : Schedule) (feed : Feed) (before after : List (ℕ × EntitySaid)) (number last : ℕ)
    (old reading : DatedReading) (said : List (Option (Result DatedReading Fault)))
    → is_of reading.trip.0 reading.day old ≡ true
    → GivesLate schedule feed ((before ++ (number, Given old) ∷ after) ++ (last, Given reading) ∷ []) said
    → GivesLate schedule feed ((before ++ (number, Replaced) ∷ after) ++ (last, Given reading) ∷ []) said
gives_replaced schedule feed before after number last old reading said same h =
    let late = given_late schedule feed in
    let end : List (ℕ × EntitySaid) = (last, Given reading) ∷ [] in
    let rest : List (ℕ × EntitySaid) = after ++ end in
    let was = append_assoc before ((number, Given old) ∷ after) end in
    let is = append_assoc before ((number, Replaced) ∷ after) end in
    let dated : DatedReading = record {
      trip = reading.trip;
      day = reading.day;
      recorded = option_or reading.recorded (moment_in feed.timestamp);
      reading = reading.reading;
    } in
    let later : is_some (last_reading old.trip.0 old.day (filter_map late rest)) ≡ true =
    ap (λ (given : List DatedReading). is_some (last_reading old.trip.0 old.day given))
    (filter_map-append late after end)
    ∙ is_later old.trip.0 old.day (filter_map late after) dated (turned old reading same) in
    record {
      taken = ap (taken_late schedule feed) is
          ∙ (same_taken schedule feed before rest number old ∙ (sym (ap (taken_late schedule feed) was) ∙ h.taken));
      last = ap (λ (held : List (ℕ × EntitySaid)). last_of_each (filter_map late held)) is
          ∙ (same_last schedule feed before rest number old later
          ∙ (sym (ap (λ (held : List (ℕ × EntitySaid)). last_of_each (filter_map late held)) was) ∙ h.last));
      aside = ap (filter_map (aside_late schedule feed)) is
          ∙ (same_aside schedule feed before rest number old
          ∙ (sym (ap (filter_map (aside_late schedule feed)) was) ∙ h.aside));
    }
  where
    turned : (one other : DatedReading) → is_of other.trip.0 other.day one ≡ true
        → is_of one.trip.0 one.day other ≡ true
    turned one other e =
        and_from (other.trip.0 == one.trip.0) (int_eq other.day one.day)
        (eq-eqb other.trip.0 one.trip.0 (sym (of-trip other.trip.0 other.day one e)))
        ((signed_Decides other.day one.day).1 (sym (of-day other.trip.0 other.day one e)))

-- what is held after an entity gives what was held and what it says, whether an earlier reading is replaced or not
pub gives_held : (schedule : Schedule) (feed : Feed) (held now : List (ℕ × EntitySaid)) (number : ℕ) (early : EntitySaid)
    (said : List (Option (Result DatedReading Fault)))
    → Holds held now number early → GivesLate schedule feed (held ++ (number, early) ∷ []) said
    → GivesLate schedule feed now said
gives_held schedule feed held now number early said holds h =
    subst (λ (all : List (ℕ × EntitySaid)). GivesLate schedule feed all said) (sym holds.held_is)
    (by holds.earlier holds.is_earlier)
  where
    by : (earlier : Option (ℕ × ℕ)) → IfSome earlier (IsEarlierOf held early)
        → GivesLate schedule feed (replaced_at earlier (held ++ (number, early) ∷ [])) said
    by None is = h
    by (Some at) is =
        let reading = is.0 in
        let e = is.2 in
        let old = e.one in
        let here : ℕ × EntitySaid = (at.1, Given old) in
        let there : ℕ × EntitySaid = (at.1, Replaced) in
        let last : List (ℕ × EntitySaid) = (number, Given reading) ∷ [] in
        let before = take at.0 held in
        let after = drop (suc at.0) held in
        let was : held ≡ before ++ here ∷ after =
        sym (set-get_or held at.0 here) ∙ (ap (set held at.0) e.is ∙ set_split held at.0 here e.within) in
        let start : GivesLate schedule feed ((before ++ here ∷ after) ++ last) said =
        subst (λ (all : List (ℕ × EntitySaid)). GivesLate schedule feed (all ++ last) said) was
        (subst (λ (one : EntitySaid). GivesLate schedule feed (held ++ (number, one) ∷ []) said) is.1 h) in
        let end = gives_replaced schedule feed before after at.1 number old reading said e.same start in
        let back : (before ++ there ∷ after) ++ last ≡ set (held ++ last) at.0 there =
        ap (λ (all : List (ℕ × EntitySaid)). all ++ last) (sym (set_split held at.0 there e.within))
        ∙ sym (set-append_left held last at.0 there e.within) in
        let replaced = subst (λ (all : List (ℕ × EntitySaid)). GivesLate schedule feed all said) back end in
        subst
        (λ (one : EntitySaid). GivesLate schedule feed (set (held ++ (number, one) ∷ []) at.0 there) said)
        (sym is.1) replaced
