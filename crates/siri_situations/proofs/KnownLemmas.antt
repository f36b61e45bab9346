-- What a situation affects is known.
use Rattle.std.proofs.Common.{◌≡◌, ◌∙◌, ℕ, refl, ap, subst, Bool, true, false, ◌&&◌, List, [], ◌∷◌, ◌++◌, length, map, Option, Some, None, option_map, Result, Ok, Err, if◌then◌else◌}
use Rattle.std.proofs.lemmas.Bool.{and_parts}
use Rattle.std.specs.Prelude.{⊤, IfOk, cond, nat_lt, option_to_list, position}
use Rattle.std.specs.List.{cons_option, list_all, position_or_len}
use Rattle.std.specs.Str.{bytes_eq}
use Rattle.std.proofs.lemmas.List.Folds.{list_all-append}
use Rattle.gw_base.specs.declared.member.Member.{Member}
use Rattle.gw_base.specs.Chains.{◌>>=◌}
use Rattle.gw_base.proofs.Elements.{all_more}
use Rattle.journey_model.specs.Schedules.{Schedule}
use Rattle.journey_model.specs.Situations.{AreKnown, is_known}
use Rattle.journey_model.specs.declared.fault.Fault.{Fault}
use Rattle.journey_model.specs.declared.situation.Ref.{Ref}
use Rattle.journey_model.specs.declared.situation.Situation.{Situation}
use Rattle.serde_json.specs.Data.{Data}
use Rattle.siri_json.specs.Fields.{optional_member, required_member}
use Rattle.siri_json.specs.Forms.{day, is_object, text}
use Rattle.siri_json.specs.Deliveries.{IsAdded, shown}
use Rattle.siri_json.specs.declared.delivery.Delivery.{Delivery}
use Rattle.siri_json.specs.declared.delivery.Item.TheVariants.{Taken, Aside}
use Rattle.timetable.specs.Table.{Table}
use Rattle.siri_situations.specs.Affected as spec
use Rattle.siri_situations.specs.Deliveries.{HasTaken, ReferToKnown, RefersToKnown, same}
use Rattle.siri_situations.specs.Situations.{content, effect, situation, touched, verdict}
use Rattle.siri_situations.specs.Steps.{gather, trees_at, walk}
use Rattle.siri_situations.specs.declared.affected.AffectedKind.{AffectedKind}
use Rattle.siri_situations.specs.declared.affected.AffectedKind.TheVariants as kinds
use Rattle.siri_situations.specs.declared.affected.Reference.{Reference}
use Rattle.siri_situations.specs.declared.steps.Step.TheVariants.{Object}

-- what holds of what is found, where it is found
abbrev OnFound : {A E : Type 0} → (A → Type 0) → Result A E → Type 0
OnFound P (Ok value) = P value
OnFound P (Err fault) = ⊤

after : {A B E : Type 0} (P : B → Type 0) (first : Result A E) (next : A → Result B E) → ((value : A) → first ≡ Ok value → OnFound P (next value))
    → OnFound P (first >>= next)
after P (Ok value) next each = each value refl
after P (Err fault) next each = tt

-- a reference refers to what is there, if it is known
abbrev is_there : Table → Option Ref → Bool
is_there table None = true
is_there table (Some ref) = is_known table ref

abbrev are_there : Table → List Reference → Bool
are_there table all = list_all (λ one. is_there table one.known) all

abbrev AreThere : Table → List Reference → Type 0
AreThere table all = are_there table all ≡ true

placed : (table : Table) (to : ℕ → Ref) (k n : ℕ) → ((m : ℕ) → is_known table (to m) ≡ nat_lt m n)
    → is_there table (option_map to (cond (nat_lt k n) (Some k) None)) ≡ true
placed table to k n same = by (nat_lt k n) refl
  where
    by : (t : Bool) → nat_lt k n ≡ t → is_there table (option_map to (cond (nat_lt k n) (Some k) None)) ≡ true
    by true e = rw e (same k ∙ e)
    by false e = rw e refl

named : (table : Table) (to : ℕ → Ref) (id : List ℕ) (ids : List (List ℕ)) → ((m : ℕ) → is_known table (to m) ≡ nat_lt m (length ids))
    → (is_there table (option_map to (position (bytes_eq id) ids)) && true) ≡ true
named table to id ids same = ap (λ t. t && true) (placed table to (position_or_len (bytes_eq id) ids) (length ids) same)

reference : (kind : AffectedKind) (table : Table) (tree : Data) → OnFound (AreThere table) (spec.reference kind table tree)
reference kinds.Line table tree = after (AreThere table) (optional_member text Member.LineRef tree) _ (λ id is. by id)
  where
    by : (id : Option (List ℕ)) → AreThere table (map (spec.line_reference table) (option_to_list id))
    by None = refl
    by (Some id) = named table (λ n. Ref.Route (record { 0 = n })) id table.routes (λ m. refl)
reference kinds.StopPoint table tree = after (AreThere table) (optional_member text Member.StopPointRef tree) _ (λ id is. by id)
  where
    by : (id : Option (List ℕ)) → AreThere table (map (spec.stop_reference table) (option_to_list id))
    by None = refl
    by (Some id) = named table (λ n. Ref.Stop (record { 0 = n })) id table.stops (λ m. refl)
reference kinds.VehicleJourney table tree =
    after (AreThere table) (required_member day Member.DataFrameRef tree) _ (λ on is.
    after (AreThere table) (required_member text Member.DatedVehicleJourneyRef tree) _ (λ id same.
    named table (λ n. Ref.Journey (record { 0 = n }) on) id table.trips (λ m. refl)))

-- two lists of what is there
joined : (table : Table) (a b : List Reference) → AreThere table a → AreThere table b → AreThere table (a ++ b)
joined table a b first second = list_all-append (λ one. is_there table one.known) a b ∙ (rw (first, second) refl)

found : {A E : Type 0} (P : A → Type 0) (answer : Result A E) (value : A) → OnFound P answer → answer ≡ Ok value → P value
found P answer value holds is = subst (OnFound P) is holds

gathered : (kind : AffectedKind) (table : Table) (trees : List Data) → OnFound (AreThere table) (gather (spec.reference kind table) trees)
gathered kind table [] = refl
gathered kind table (tree ∷ trees) =
    after (AreThere table) (spec.reference kind table tree) _ (λ first is.
    after (AreThere table) (gather (spec.reference kind table) trees) _ (λ others same.
    joined table first others (found (AreThere table) _ first (reference kind table tree) is) (found (AreThere table) _ others (gathered kind table trees) same)))

references_in : (kind : AffectedKind) (table : Table) (trees : List Data) → OnFound (AreThere table) (spec.references_in kind table trees)
references_in kind table trees = by (spec.days_in_form kind trees)
  where
    by : (in_form : Bool) → OnFound (AreThere table) (if in_form then gather (spec.reference kind table) trees else Err (Fault.BadField Member.DataFrameRef))
    by true = gathered kind table trees
    by false = tt

references_by : (kind : AffectedKind) (table : Table) (affects : List Data) → OnFound (AreThere table) (spec.references_by kind table affects)
references_by kind table affects = after (AreThere table) (walk (spec.steps kind) affects) _ (λ trees is. references_in kind table trees)

by_kind : (kind : AffectedKind) (table : Table) (affects : List Data) (value : List Reference) → spec.references_by kind table affects ≡ Ok value
    → AreThere table value
by_kind kind table affects value is = found (AreThere table) (spec.references_by kind table affects) value (references_by kind table affects) is

references_below : (table : Table) (affects : List Data) → OnFound (AreThere table) (spec.references_below table affects)
references_below table affects =
    after (AreThere table) (spec.references_by kinds.Line table affects) _ (λ lines is.
    after (AreThere table) (spec.references_by kinds.StopPoint table affects) _ (λ stops same.
    after (AreThere table) (spec.references_by kinds.VehicleJourney table affects) _ (λ journeys last.
    joined table (lines ++ stops) journeys (joined table lines stops (by_kind kinds.Line table affects lines is) (by_kind kinds.StopPoint table affects stops same))
    (by_kind kinds.VehicleJourney table affects journeys last))))

references : (table : Table) (tree : Data) → OnFound (AreThere table) (spec.references table tree)
references table tree = after (AreThere table) (trees_at (Object Member.Affects) tree) _ (λ affects is. references_below table affects)

-- what is known of references

known : (table : Table) (all : List Reference) → AreThere table all → list_all (is_known table) (spec.known all) ≡ true
known table [] h = refl
known table (one ∷ others) h = by one.known (and_parts (is_there table one.known) (are_there table others) h).0 (known table others (and_parts (is_there table one.known) (are_there table others) h).1)
  where
    by : (place : Option Ref) → is_there table place ≡ true → list_all (is_known table) (spec.known others) ≡ true
        → list_all (is_known table) (cons_option place (spec.known others)) ≡ true
    by None first rest = rest
    by (Some ref) first rest = rw (first, rest) refl

-- the references of what is found are all known
abbrev Knows : Table → List Ref × ℕ → Type 0
Knows table found = list_all (is_known table) found.0 ≡ true

affected : (table : Table) (all : List Reference) → AreThere table all → OnFound (Knows table) (spec.affected all)
affected table [] h = tt
affected table (first ∷ others) h = by (spec.known (first ∷ others)) _ (known table (first ∷ others) h)
  where
    by : (refs : List Ref) (unknown : ℕ) → list_all (is_known table) refs ≡ true → OnFound (Knows table) (spec.unless_none first.member unknown refs)
    by [] unknown e = tt
    by (ref ∷ refs) unknown e = e

abbrev KnowsAll : Table → Situation × ℕ → Type 0
KnowsAll table found = list_all (is_known table) found.0.refs ≡ true

touches : (table : Table) (tree : Data) → OnFound (λ all. AreThere table all.0) (touched table tree)
touches table tree =
    after (λ all. AreThere table all.0) (spec.references table tree) _ (λ all is.
    after (λ one. AreThere table one.0) (effect tree) _ (λ number same. found (AreThere table) _ all (references table tree) is))

of_situation : (schedule : Schedule) (tree : Data) → OnFound (KnowsAll schedule.table) (situation schedule tree)
of_situation schedule tree =
    after (KnowsAll schedule.table) (content schedule.zone tree) _ (λ all is.
    after (KnowsAll schedule.table) (touched schedule.table tree) _ (λ touched_by same.
    after (KnowsAll schedule.table) (spec.affected touched_by.0) _ (λ affects last.
    found (Knows schedule.table) _ affects (affected schedule.table touched_by.0 (found (λ all. AreThere schedule.table all.0) _ touched_by (touches schedule.table tree) same)) last)))

of_verdict : (schedule : Schedule) (tree : Data) → OnFound (KnowsAll schedule.table) (verdict schedule tree)
of_verdict schedule tree = by (is_object tree)
  where
    by : (object : Bool) → OnFound (KnowsAll schedule.table) (if object then situation schedule tree else Err (Fault.BadField Member.PtSituationElement))
    by true = of_situation schedule tree
    by false = tt

-- a situation that is taken refers to what is there
pub knows_verdict : (schedule : Schedule) (tree : Data) (one : Situation × ℕ) → verdict schedule tree ≡ Ok one → AreKnown schedule.table one.0.refs
knows_verdict schedule tree one is = found (KnowsAll schedule.table) _ one (of_verdict schedule tree) is

pub knows_more : (table : Table) (old new : Delivery Situation) (answer : Result (Situation × ℕ) Fault) → IfOk answer (λ one. AreKnown table one.0.refs)
    → IsAdded answer old new → ReferToKnown table old.items → ReferToKnown table new.items
knows_more table old new (Ok one) known added all = rw added.0 (all_more (RefersToKnown table) old.items (Taken one.0) all known)
knows_more table old new (Err fault) known added all = rw added.0 (all_more (RefersToKnown table) old.items (Aside fault) all tt)

-- a delivery without an item took none
pub takes_none : (schedule : Schedule) (delivery : Delivery Situation) → delivery.items ≡ [] → delivery.passed ≡ 0 → HasTaken schedule delivery []
takes_none schedule delivery none zero_passed = record {
  verdicts = record { items_are = ap (map (shown same)) none; passed_is = zero_passed };
  known = rw none tt;
}
