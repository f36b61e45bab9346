-- The trips that are carried, one after the other.
use Rattle.std.proofs.Common.{◌≡◌, ◌∙◌, ◌≤◌, ◌+◌, ◌++◌, ◌∷◌, [], ℕ, zero, suc, true, false, List, Option, Some, None, length, length-append, map, drop, get_or, slice_get, min, refl, sym, ap, subst, cond, arith, ◌<◌, Bool, take, add-one}
use Rattle.std.proofs.Math.Seq.{drop-append_seam, take-length}
use Rattle.std.proofs.lemmas.List.{take_more}
use Rattle.std.proofs.Math.Numerals.{add-one}
use Rattle.std.proofs.lemmas.List.{append-nil, map-append, take-append-le}
use Rattle.std.proofs.lemmas.Option.{none-some, same_Some}
use Rattle.std.specs.List.{AllZip}
use Rattle.indexmap.proofs.SetLemmas.{AllZip-push}
use Rattle.stop_schedule.specs.Carrying.{Candidate, Lists, candidate, carried_to, ids_to, IsOf, Carries, Adds}
use Rattle.stop_schedule.specs.StopTimes.{filled, least, lesser, untimed_end}
use Rattle.stop_schedule.specs.declared.assembling.Assembled.{Assembled}
use Rattle.timetable.specs.declared.carried_trip.CarriedTrip.{CarriedTrip}
use Rattle.stop_schedule.specs.declared.stop_times.LoadedStop.{LoadedStop}
use Rattle.timetable.specs.declared.stop_row.StopRow.{StopRow}

min-assoc : (a b c : ℕ) → min (min a b) c ≡ min a (min b c)
min-assoc a b c = grind arith

lesser-assoc : (a b c : Option ℕ) → lesser (lesser a b) c ≡ lesser a (lesser b c)
lesser-assoc None b c = refl
lesser-assoc (Some a) None c = refl
lesser-assoc (Some a) (Some b) None = refl
lesser-assoc (Some a) (Some b) (Some c) = ap (λ n. Some n) (min-assoc a b c)

lesser-none : (a : Option ℕ) → lesser a None ≡ a
lesser-none None = refl
lesser-none (Some a) = refl

least-push : (rows : List (Option ℕ)) (row : Option ℕ) → least (rows ++ row ∷ []) ≡ lesser (least rows) row
least-push [] row = lesser-none row
least-push (first ∷ rows) row = ap (lesser first) (least-push rows row) ∙ sym (lesser-assoc first (least rows) row)

-- more stops after leave those of a trip
of-more : (rows more : List StopRow) (trips : List CarriedTrip) (ones : List Candidate)
    → AllZip (IsOf rows) trips ones → AllZip (IsOf (rows ++ more)) trips ones
of-more rows more [] [] all = tt
of-more rows more [] (one ∷ ones) all = all
of-more rows more (trip ∷ trips) [] all = all
of-more rows more (trip ∷ trips) (one ∷ ones) all =
    let within : trip.end ≤ length rows = all.0.within in (
      record {
        route_is = all.0.route_is;
        service_is = all.0.service_is;
        ordered = all.0.ordered;
        within = let both : length (rows ++ more) ≡ length rows + length more = length-append rows more in omega arith;
        stops_are = ap (drop trip.first) (take-append-le trip.end rows more within) ∙ all.0.stops_are;
      },
      of-more rows more trips ones all.1,
    )

pub carries_one : (old new : Assembled) (ones : List Candidate) (one : Candidate) → Carries old ones
    → Adds old new one → Carries new (ones ++ one ∷ [])
carries_one old new ones one carries adds = record {
  trips = rw (adds.carried, adds.rows)
      (AllZip-push (IsOf (old.stop_rows.items ++ filled one.stops)) old.carried.items ones _ one
      (of-more old.stop_rows.items (filled one.stops) old.carried.items ones carries.trips) last);
  untimed_is = adds.untimed_is ∙ ap (λ (row : Option ℕ). lesser row (untimed_end one.stops)) carries.untimed_is
      ∙ sym (ap least (map-append (λ (c : Candidate). untimed_end c.stops) ones (one ∷ []))
      ∙ least-push (map (λ (c : Candidate). untimed_end c.stops) ones) (untimed_end one.stops));
}
  where
    rows : List StopRow
    rows = old.stop_rows.items ++ filled one.stops

    last : IsOf (old.stop_rows.items ++ filled one.stops)
        (record {
          route = one.route;
          service = one.service;
          first = length old.stop_rows.items;
          end = length (old.stop_rows.items ++ filled one.stops);
        }) one
    last = record {
      route_is = refl;
      service_is = refl;
      ordered = let both : length (old.stop_rows.items ++ filled one.stops)
          ≡ length old.stop_rows.items + length (filled one.stops) =
          length-append old.stop_rows.items (filled one.stops) in omega arith;
      within = omega arith;
      stops_are = ap (drop (length old.stop_rows.items)) (take-length (old.stop_rows.items ++ filled one.stops))
          ∙ drop-append_seam old.stop_rows.items (filled one.stops);
    }

-- one place more
pub carried_more : (lists : Lists) (place : ℕ)
    → carried_to lists (place + 1) ≡ carried_to lists place
    ++ cond (get_or lists.carried place false) (candidate lists place ∷ []) []
carried_more lists place = ap (carried_to lists) (add-one place)

pub step_carried : (lists : Lists) (place : ℕ) (all : Assembled) → get_or lists.carried place false ≡ true
    → Carries all (carried_to lists place ++ candidate lists place ∷ []) → Carries all (carried_to lists (place + 1))
step_carried lists place all flag carries = rw (carried_more lists place, flag) carries

pub step_other : (lists : Lists) (place : ℕ) (all : Assembled) → get_or lists.carried place false ≡ false
    → Carries all (carried_to lists place) → Carries all (carried_to lists (place + 1))
step_other lists place all flag carries =
    rw (carried_more lists place, flag, append-nil (carried_to lists place)) carries

-- the trip at a place was added
pub adds_candidate : (lists : Lists) (place : ℕ) (old new : Assembled) (route service : ℕ) (stops : List LoadedStop)
    → route ≡ get_or lists.routes place 0 → service ≡ get_or lists.services place 0
    → stops ≡ get_or lists.by_trip place []
    → ((id : List ℕ) → Adds old new (record { id = id; route = route; service = service; stops = stops }))
    → Adds old new (candidate lists place)
adds_candidate lists place old new route service stops route_is service_is stops_is adds =
    let id = get_or lists.ids place [] in
    let same : candidate lists place ≡ record { id = id; route = route; service = service; stops = stops } =
    λ i. record { id = id; route = sym route_is i; service = sym service_is i; stops = sym stops_is i } in
    subst (Adds old new) (sym same) (adds id)

-- ---- the ids of those that are carried

pub carried-ids : (lists : Lists) (n : ℕ)
    → map (λ (one : Candidate). one.id) (carried_to lists n) ≡ ids_to lists.ids lists.carried n
carried-ids lists zero = refl
carried-ids lists (suc n) =
    map-append (λ (one : Candidate). one.id) (carried_to lists n)
    (cond (get_or lists.carried n false) (candidate lists n ∷ []) [])
    ∙ by (get_or lists.carried n false) (carried-ids lists n)
  where
    by : (b : Bool) → map (λ (one : Candidate). one.id) (carried_to lists n) ≡ ids_to lists.ids lists.carried n
        → map (λ (one : Candidate). one.id) (carried_to lists n)
        ++ map (λ (one : Candidate). one.id) (cond b (candidate lists n ∷ []) [])
        ≡ ids_to lists.ids lists.carried n ++ cond b (get_or lists.ids n [] ∷ []) []
    by true so_far = ap (λ (ids : List (List ℕ)). ids ++ get_or lists.ids n [] ∷ []) so_far
    by false so_far = ap (λ (ids : List (List ℕ)). ids ++ []) so_far

ids-first : (ids : List (List ℕ)) (carried : List Bool) (n : ℕ) → n ≤ length ids
    → ((place : ℕ) → place < length ids → get_or carried place false ≡ true)
    → ids_to ids carried n ≡ take n ids
ids-first ids carried zero within all = refl
ids-first ids carried (suc n) within all =
    let here : n < length ids = omega arith in
    rw (all n here)
    (ap (λ (first : List (List ℕ)). first ++ get_or ids n [] ∷ []) (ids-first ids carried n (omega arith) all)
    ∙ sym (ap (λ k. take k ids) (sym (add-one n)) ∙ take_more ids n [] here))

-- where all are carried they are all
pub ids-all : (ids : List (List ℕ)) (carried : List Bool)
    → ((place : ℕ) → place < length ids → get_or carried place false ≡ true)
    → ids_to ids carried (length ids) ≡ ids
ids-all ids carried all = ids-first ids carried (length ids) (omega arith) all ∙ take-length ids

-- one place more
pub ids_more : (ids : List (List ℕ)) (carried : List Bool) (place : ℕ)
    → ids_to ids carried (place + 1) ≡ ids_to ids carried place
    ++ cond (get_or carried place false) (get_or ids place [] ∷ []) []
ids_more ids carried place = ap (ids_to ids carried) (add-one place)

pub found_at : (ids : List (List ℕ)) (place : ℕ) (id : List ℕ) → slice_get ids place ≡ Some id
    → get_or ids place [] ≡ id
found_at [] place id e = absurd (none-some id e)
found_at (first ∷ ids) zero id e = same_Some first id e
found_at (first ∷ ids) (suc place) id e = found_at ids place id e
