-- The references that were read and are known are there, and stand by their kinds. What a reference is made of is a parameter.
use Rattle.std.proofs.Common.{◌≡◌, ℕ, List, [], ◌∷◌, ◌++◌, map, Bool, true, false, if◌then◌else◌, option_map, option_to_list, Option, Some, None, Result, Ok, Err, filter_map, refl, sym, ap, subst, ◌∙◌, ℤ}
use Rattle.std.specs.List.{AllByRecursion, cons_option, list_all}
use Rattle.std.proofs.lemmas.Bool.{and_from}
use Rattle.std.proofs.lemmas.List.Elements.{filter_map-append}
use Rattle.gw_base.specs.declared.member.Member.{Member}
use Rattle.service_day.specs.Days.{IsDay}
use Rattle.timetable.specs.Table.{Table}
use Rattle.gw_base.specs.Chains.{◌>>=◌}
use Rattle.gw_base.proofs.Elements.{all_append}
use Rattle.journey_model.specs.declared.fault.Fault.{Fault}
use Rattle.journey_model.specs.declared.fault.Fault.TheVariants.{BadField}
use Rattle.journey_model.specs.declared.situation.Ref.{Ref}
use Rattle.serde_json.specs.Data.{Data}
use Rattle.siri_json.specs.Fields.{optional_member, required_member}
use Rattle.siri_json.specs.Forms.{day, text}
use Rattle.siri_situations.specs.Affected.{day_in_form}
use Rattle.siri_situations.specs.Steps.{gather}
use Rattle.reverse_alerts.specs.Kept.{is_journey, is_route, is_stop}
use Rattle.reverse_alerts.proofs.FoundForms.{all-append, day-found, parts-of, same-ok}
use Rattle.reverse_alerts.proofs.Grouped.{by_kinds, kinds-of}
use Rattle.reverse_alerts.proofs.ReadAffects.{all_below, journeys_below, journeys_in, journeys_way, lines_below, lines_way, stops_below, stops_way}
use Rattle.reverse_alerts.proofs.ReadForms.{down}
use Rattle.reverse_alerts.proofs.ReadRefs.{journey_in, line_in, stop_in}
use Rattle.reverse_alerts.proofs.Sayable.{CanSay}

-- references that are there, all of a kind
pub record AreOf (table : Table) (kind : Ref → Bool) (refs : List Ref) : Type 0 where
  pub each : AllByRecursion (CanSay table) refs
  pub kinds : list_all kind refs ≡ true

none-of : (table : Table) (kind : Ref → Bool) → AreOf table kind []
none-of table kind = record { each = tt; kinds = refl }

append-of : (table : Table) (kind : Ref → Bool) (a b : List Ref) → AreOf table kind a → AreOf table kind b → AreOf table kind (a ++ b)
append-of table kind a b first second = record {
  each = all_append (CanSay table) a b first.each second.each;
  kinds = all-append kind a b first.kinds second.kinds;
}

-- a reference that is known is there and of that kind
pub record IsOf (table : Table) (kind : Ref → Bool) (ref : Ref) : Type 0 where
  pub there : CanSay table ref
  pub is : kind ref ≡ true

one-of : (table : Table) (kind : Ref → Bool) (ref : Option Ref) → ((one : Ref) → ref ≡ Some one → IsOf table kind one) → AreOf table kind (cons_option ref [])
one-of table kind None each = none-of table kind
one-of table kind (Some one) each = let is = each one refl in record { each = (is.there, tt); kinds = and_from (kind one) true is.is refl }

-- what is read of a tree, and of several
of-answer : {R : Type 0} (seen : R → Option Ref) (table : Table) (kind : Ref → Bool) (made found : List R) → ◌≡◌ {A = Result (List R) Fault} (Ok made) (Ok found)
    → AreOf table kind (filter_map seen made) → AreOf table kind (filter_map seen found)
of-answer seen table kind made found e h = subst (λ all. AreOf table kind (filter_map seen all)) (same-ok made found e) h

of-both : {R : Type 0} (seen : R → Option Ref) (table : Table) (kind : Ref → Bool) (first others : List R)
    → AreOf table kind (filter_map seen first) → AreOf table kind (filter_map seen others) → AreOf table kind (filter_map seen (first ++ others))
of-both seen table kind first others a b =
    subst (AreOf table kind) (sym (filter_map-append seen first others)) (append-of table kind (filter_map seen first) (filter_map seen others) a b)

-- what is gathered of trees
gathered : {R : Type 0} (read : Data → Result (List R) Fault) (seen : R → Option Ref) (table : Table) (kind : Ref → Bool)
    → ((tree : Data) (found : List R) → read tree ≡ Ok found → AreOf table kind (filter_map seen found))
    → (trees : List Data) (all : List R) → gather read trees ≡ Ok all → AreOf table kind (filter_map seen all)
gathered read seen table kind each [] all e = of-answer seen table kind [] all e (none-of table kind)
gathered read seen table kind each (tree ∷ trees) all e =
    let here = parts-of (read tree) all (λ first. gather read trees >>= λ others. Ok (first ++ others)) e in
    let rest = parts-of (gather read trees) all (λ others. Ok (here.0 ++ others)) here.2 in
    of-answer seen table kind (here.0 ++ rest.0) all rest.2
    (of-both seen table kind here.0 rest.0 (each tree here.0 here.1) (gathered read seen table kind each trees rest.0 rest.1))

-- ---- each kind

pub made-is : {A : Type 0} (table : Table) (kind : Ref → Bool) (to : A → Ref) (from : Option A) → ((a : A) → from ≡ Some a → IsOf table kind (to a))
    → (one : Ref) → option_map to from ≡ Some one → IsOf table kind one
made-is table kind to None each one e = cc
made-is table kind to (Some a) each one e = let same : to a ≡ one = cc in subst (IsOf table kind) same (each a refl)

-- an id that may be missing
id-of : {R : Type 0} (make : List ℕ → R) (seen : R → Option Ref) (table : Table) (kind : Ref → Bool)
    → ((id : List ℕ) (one : Ref) → seen (make id) ≡ Some one → IsOf table kind one) → (id : Option (List ℕ))
    → AreOf table kind (filter_map seen (map make (option_to_list id)))
id-of make seen table kind each None = none-of table kind
id-of make seen table kind each (Some id) = one-of table kind (seen (make id)) (each id)

line-of : {R : Type 0} (make : List ℕ → R) (seen : R → Option Ref) (table : Table) (kind : Ref → Bool)
    → ((id : List ℕ) (one : Ref) → seen (make id) ≡ Some one → IsOf table kind one)
    → (tree : Data) (found : List R) → line_in make tree ≡ Ok found → AreOf table kind (filter_map seen found)
line-of make seen table kind each tree found e =
    let id = parts-of (optional_member text Member.LineRef tree) found (λ id. Ok (map make (option_to_list id))) e in
    of-answer seen table kind (map make (option_to_list id.0)) found id.2 (id-of make seen table kind each id.0)

stop-of : {R : Type 0} (make : List ℕ → R) (seen : R → Option Ref) (table : Table) (kind : Ref → Bool)
    → ((id : List ℕ) (one : Ref) → seen (make id) ≡ Some one → IsOf table kind one)
    → (tree : Data) (found : List R) → stop_in make tree ≡ Ok found → AreOf table kind (filter_map seen found)
stop-of make seen table kind each tree found e =
    let id = parts-of (optional_member text Member.StopPointRef tree) found (λ id. Ok (map make (option_to_list id))) e in
    of-answer seen table kind (map make (option_to_list id.0)) found id.2 (id-of make seen table kind each id.0)

journey-of : {R : Type 0} (make : ℤ → List ℕ → R) (seen : R → Option Ref) (table : Table) (kind : Ref → Bool)
    → ((on : ℤ) (id : List ℕ) (one : Ref) → IsDay on → seen (make on id) ≡ Some one → IsOf table kind one)
    → (tree : Data) (found : List R) → journey_in make tree ≡ Ok found → AreOf table kind (filter_map seen found)
journey-of make seen table kind each tree found e =
    let on = parts-of (required_member day Member.DataFrameRef tree) found
    (λ on. required_member text Member.DatedVehicleJourneyRef tree >>= λ id. Ok (make on id ∷ [])) e in
    let id = parts-of (required_member text Member.DatedVehicleJourneyRef tree) found (λ id. Ok (make on.0 id ∷ [])) on.2 in
    of-answer seen table kind (make on.0 id.0 ∷ []) found id.2
    (one-of table kind (seen (make on.0 id.0)) (λ one is. each on.0 id.0 one (day-found Member.DataFrameRef tree on.0 on.1) is))

lines-of : {R : Type 0} (make : List ℕ → R) (seen : R → Option Ref) (table : Table) (kind : Ref → Bool)
    → ((id : List ℕ) (one : Ref) → seen (make id) ≡ Some one → IsOf table kind one)
    → (affects : List Data) (all : List R) → lines_below make affects ≡ Ok all → AreOf table kind (filter_map seen all)
lines-of make seen table kind each affects all e =
    let way = parts-of (down lines_way affects) all (λ trees. gather (line_in make) trees) e in
    gathered (line_in make) seen table kind (line-of make seen table kind each) way.0 all way.2

stops-of : {R : Type 0} (make : List ℕ → R) (seen : R → Option Ref) (table : Table) (kind : Ref → Bool)
    → ((id : List ℕ) (one : Ref) → seen (make id) ≡ Some one → IsOf table kind one)
    → (affects : List Data) (all : List R) → stops_below make affects ≡ Ok all → AreOf table kind (filter_map seen all)
stops-of make seen table kind each affects all e =
    let way = parts-of (down stops_way affects) all (λ trees. gather (stop_in make) trees) e in
    gathered (stop_in make) seen table kind (stop-of make seen table kind each) way.0 all way.2

in-form : {R : Type 0} (make : ℤ → List ℕ → R) (trees : List Data) (all : List R) → journeys_in make trees ≡ Ok all → gather (journey_in make) trees ≡ Ok all
in-form make trees all e = by (list_all day_in_form trees) e
  where
    by : (b : Bool) → (if b then gather (journey_in make) trees else Err (BadField Member.DataFrameRef)) ≡ Ok all → gather (journey_in make) trees ≡ Ok all
    by true e = e
    by false e = cc

journeys-of : {R : Type 0} (make : ℤ → List ℕ → R) (seen : R → Option Ref) (table : Table) (kind : Ref → Bool)
    → ((on : ℤ) (id : List ℕ) (one : Ref) → IsDay on → seen (make on id) ≡ Some one → IsOf table kind one)
    → (affects : List Data) (all : List R) → journeys_below make affects ≡ Ok all → AreOf table kind (filter_map seen all)
journeys-of make seen table kind each affects all e =
    let way = parts-of (down journeys_way affects) all (λ trees. journeys_in make trees) e in
    gathered (journey_in make) seen table kind (journey-of make seen table kind each) way.0 all (in-form make way.0 all way.2)

-- ---- all of them

-- what is known is there, and by its kinds
pub record AreThere (table : Table) (refs : List Ref) : Type 0 where
  pub each : AllByRecursion (CanSay table) refs
  pub kinds : by_kinds refs ≡ refs

three : (table : Table) (r s j : List Ref) → AreOf table is_route r → AreOf table is_stop s → AreOf table is_journey j → AreThere table (r ++ s ++ j)
three table r s j a b c = record {
  each = all_append (CanSay table) (r ++ s) j (all_append (CanSay table) r s a.each b.each) c.each;
  kinds = kinds-of r s j (record { routes = a.kinds; stops = b.kinds; journeys = c.kinds });
}

of-three : {R : Type 0} (seen : R → Option Ref) (table : Table) (a b c all : List R) → ◌≡◌ {A = Result (List R) Fault} (Ok (a ++ b ++ c)) (Ok all)
    → AreOf table is_route (filter_map seen a) → AreOf table is_stop (filter_map seen b) → AreOf table is_journey (filter_map seen c)
    → AreThere table (filter_map seen all)
of-three seen table a b c all e lines stops journeys =
    let first = filter_map-append seen a b in
    let both = filter_map-append seen (a ++ b) c in
    let parts = ap (λ front. front ++ filter_map seen c) (sym first) ∙ sym both in
    let three_kinds = three table (filter_map seen a) (filter_map seen b) (filter_map seen c) lines stops journeys in
    subst (λ refs. AreThere table (filter_map seen refs)) (same-ok (a ++ b ++ c) all e) (subst (AreThere table) parts three_kinds)

-- what makes references of ids, so that those that are known are there
pub record Makes {R : Type 0} (line stop : List ℕ → R) (journey : ℤ → List ℕ → R) (seen : R → Option Ref) (table : Table) : Type 0 where
  pub lines : (id : List ℕ) (one : Ref) → seen (line id) ≡ Some one → IsOf table is_route one
  pub stops : (id : List ℕ) (one : Ref) → seen (stop id) ≡ Some one → IsOf table is_stop one
  pub journeys : (on : ℤ) (id : List ℕ) (one : Ref) → IsDay on → seen (journey on id) ≡ Some one → IsOf table is_journey one

pub all-there : {R : Type 0} (line stop : List ℕ → R) (journey : ℤ → List ℕ → R) (seen : R → Option Ref) (table : Table) → Makes line stop journey seen table
    → (affects : List Data) (all : List R) → all_below line stop journey affects ≡ Ok all → AreThere table (filter_map seen all)
all-there line stop journey seen table h affects all e =
    let a = parts-of (lines_below line affects) all
    (λ lines. stops_below stop affects >>= λ stops. (journeys_below journey affects >>= λ journeys. Ok (lines ++ stops ++ journeys))) e in
    let b = parts-of (stops_below stop affects) all (λ stops. journeys_below journey affects >>= λ journeys. Ok (a.0 ++ stops ++ journeys)) a.2 in
    let c = parts-of (journeys_below journey affects) all (λ journeys. Ok (a.0 ++ b.0 ++ journeys)) b.2 in
    of-three seen table a.0 b.0 c.0 all c.2 (lines-of line seen table is_route h.lines affects a.0 a.1)
    (stops-of stop seen table is_stop h.stops affects b.0 b.1) (journeys-of journey seen table is_journey h.journeys affects c.0 c.1)
