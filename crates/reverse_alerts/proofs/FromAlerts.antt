-- The situation that an alert is can be said.
use Rattle.std.proofs.Common.{◌≡◌, ℕ, ◌<◌, List, [], ◌∷◌, ◌++◌, length, map, Bool, true, false, ◌&&◌, ◌||◌, if◌then◌else◌, filter, is_some, is_none, option_map, Option, Some, None, Result, Ok, Err, refl, sym, subst, pos, arith}
use Rattle.std.specs.List.{AllByRecursion, cons_option, list_all, list_any}
use Rattle.std.specs.Option.{option_or}
use Rattle.std.proofs.lemmas.Bool.{and_from, or_parts}
use Rattle.std.proofs.lemmas.Option.{same_Some}
use Rattle.gw_base.specs.Moments.{is_moment}
use Rattle.gw_base.specs.declared.member.Member.{Member}
use Rattle.gw_base.specs.declared.messages.Alert.{Alert}
use Rattle.gw_base.specs.declared.messages.Entity.{Entity}
use Rattle.gw_base.specs.declared.messages.Period.{Period}
use Rattle.gw_base.specs.declared.messages.Translation.{Translation}
use Rattle.gw_base.proofs.Elements.{all_append, all_filter}
use Rattle.gw_base.specs.Chains.{unless_fault}
use Rattle.timetable.specs.Table.{Table}
use Rattle.journey_model.specs.Names.{filled_text}
use Rattle.journey_model.specs.declared.fault.Fault.{Fault}
use Rattle.journey_model.specs.declared.fault.Fault.TheVariants.{BadField}
use Rattle.journey_model.specs.declared.situation.Ref.{Ref}
use Rattle.journey_model.specs.declared.situation.Situation.{Situation}
use Rattle.journey_model.specs.FeedReadings.{given}
use Rattle.reverse_alerts.specs.Kept.{all_named, is_journey, is_route, is_stop}
use Rattle.reverse_alerts.specs.Senses.{first_text, holding, is_open, sense, valid_period}
use Rattle.reverse_alerts.specs.Taken.{affects_fault, alert_in, bound_fault, entity_verdict, fault_of, number_fault, period_fault, periods_fault, situation_of, situations, verdict}
use Rattle.reverse_alerts.proofs.Grouped.{by_kinds, kinds-of, length-kinds, of-kinds}
use Rattle.reverse_alerts.proofs.Names.{can-say-named}
use Rattle.reverse_alerts.proofs.Sayable.{CanSay, IsCause-cause_of, IsEffect-effect_of, IsSayable, is_bound, is_filled, is_period}

-- ---- an alert without a fault

none-or : {A : Type 0} (a b : Option A) → option_or a b ≡ None → (a ≡ None) × (b ≡ None)
none-or None b e = (refl, e)
none-or (Some value) b e = cc

-- its number isn't empty
pub some-number : (id : List ℕ) → number_fault id ≡ None → 0 < length id
some-number [] e = cc
some-number (byte ∷ bytes) e = omega arith

-- its periods
bound-kept : (member : Member) (bound : Option ℕ) → bound_fault member bound ≡ None → is_bound bound ≡ true
bound-kept member None e = refl
bound-kept member (Some secs) e = by (is_moment (pos secs)) e
  where
    by : (b : Bool) → (if b then None else Some (BadField member)) ≡ None → b ≡ true
    by true e = refl
    by false e = cc

open-not : (start end : Option ℕ) → (is_none start && is_none end) ≡ false → (is_some start || is_some end) ≡ true
open-not None None e = cc
open-not None (Some end) e = refl
open-not (Some start) end e = refl

period-kept : (one : Period) → period_fault one ≡ None → is_open one ≡ false → is_period (valid_period one) ≡ true
period-kept one e open_not =
    let faults = none-or (bound_fault Member.StartTime one.start) (bound_fault Member.EndTime one.end) e in
    and_from (is_some one.start || is_some one.end) (is_bound one.start && is_bound one.end) (open-not one.start one.end open_not)
    (and_from (is_bound one.start) (is_bound one.end) (bound-kept Member.StartTime one.start faults.0) (bound-kept Member.EndTime one.end faults.1))

periods-kept : (periods : List Period) → periods_fault periods ≡ None → list_any is_open periods ≡ false → list_all is_period (map valid_period periods) ≡ true
periods-kept [] e open_none = refl
periods-kept (one ∷ others) e open_none =
    let faults = none-or (period_fault one) (periods_fault others) e in
    let opens = or_parts (is_open one) (list_any is_open others) open_none in
    and_from (is_period (valid_period one)) (list_all is_period (map valid_period others)) (period-kept one faults.0 opens.0) (periods-kept others faults.1 opens.1)

holding-kept : (periods : List Period) → periods_fault periods ≡ None → list_all is_period (holding periods) ≡ true
holding-kept periods e = by (list_any is_open periods) refl
  where
    by : (b : Bool) → list_any is_open periods ≡ b → list_all is_period (if b then [] else map valid_period periods) ≡ true
    by true opens = refl
    by false opens = periods-kept periods e opens

-- what it affects
some-affected : (refs : List Ref) → affects_fault refs ≡ None → 0 < length (by_kinds refs)
some-affected [] e = cc
some-affected (ref ∷ refs) e = omega (arith, length-kinds (ref ∷ refs))

kinds-each : (table : Table) (refs : List Ref) → AllByRecursion (CanSay table) refs → AllByRecursion (CanSay table) (by_kinds refs)
kinds-each table refs h =
    all_append (CanSay table) (filter is_route refs ++ filter is_stop refs) (filter is_journey refs)
    (all_append (CanSay table) (filter is_route refs) (filter is_stop refs) (all_filter (CanSay table) is_route refs h) (all_filter (CanSay table) is_stop refs h))
    (all_filter (CanSay table) is_journey refs h)

-- its texts
filled-filled : (text : List ℕ) → is_filled (filled_text (Some text)) ≡ true
filled-filled [] = refl
filled-filled (byte ∷ bytes) = refl

filled-first : (texts : List Translation) → is_filled (first_text texts) ≡ true
filled-first [] = refl
filled-first (first ∷ others) = filled-filled first.text

pub sayable-alert : (table : Table) (id : List ℕ) (source : Alert) → fault_of table id source ≡ None → IsSayable table (situation_of id (sense table source))
sayable-alert table id source e =
    let numbered = none-or (number_fault id) (option_or (periods_fault source.periods) (affects_fault (all_named table source.selectors))) e in
    let others = none-or (periods_fault source.periods) (affects_fault (all_named table source.selectors)) numbered.1 in
    let refs = all_named table source.selectors in
    record {
      periods = holding-kept source.periods others.0;
      refs = kinds-each table refs (can-say-named table source.selectors);
      some = some-affected refs others.1;
      kinds = kinds-of (filter is_route refs) (filter is_stop refs) (filter is_journey refs) (of-kinds refs);
      cause = IsCause-cause_of source.cause;
      effect = IsEffect-effect_of source.effect;
      summary = filled-first source.header;
      description = filled-first source.description;
    }

pub alert-number : (table : Table) (id : List ℕ) (source : Alert) → fault_of table id source ≡ None → 0 < length id
alert-number table id source e =
    some-number id (none-or (number_fault id) (option_or (periods_fault source.periods) (affects_fault (all_named table source.selectors))) e).0

-- ---- the situation of an entity

-- it comes from an alert without a fault
pub record IsOfAlert (table : Table) (entity : Entity) (one : Situation) : Type 0 where
  pub source : Alert
  pub is_source : alert_in entity ≡ Some source
  pub no_fault : fault_of table entity.id source ≡ None
  pub is : one ≡ situation_of entity.id (sense table source)

unless-none : (fault : Option Fault) (said one : Situation) → unless_fault fault said ≡ Ok one → (fault ≡ None) × (one ≡ said)
unless-none None said one e = (refl, cc)
unless-none (Some fault) said one e = cc

pub of-alert : (table : Table) (entity : Entity) (one : Situation) → entity_verdict table entity ≡ Some (Ok one) → IsOfAlert table entity one
of-alert table entity one e = by (alert_in entity) refl e
  where
    by : (source : Option Alert) → alert_in entity ≡ source → option_map (verdict table entity.id) source ≡ Some (Ok one) → IsOfAlert table entity one
    by None is e = cc
    by (Some source) is e =
        let told : verdict table entity.id source ≡ Ok one = same_Some (verdict table entity.id source) (Ok one) e in
        let parts = unless-none (fault_of table entity.id source) (situation_of entity.id (sense table source)) one told in
        record { source = source; is_source = is; no_fault = parts.0; is = parts.1 }

-- a situation that can be said, by a number that isn't empty, and as one that is served
pub record IsSaid (table : Table) (one : Situation) : Type 0 where
  pub sayable : IsSayable table one
  pub number : 0 < length one.number
  pub version : one.version ≡ 0
  pub served : one.served ≡ true

said-one : (table : Table) (entity : Entity) (one : Situation) → entity_verdict table entity ≡ Some (Ok one) → IsSaid table one
said-one table entity one e =
    let from = of-alert table entity one e in
    let said : IsSaid table (situation_of entity.id (sense table from.source)) = record {
      sayable = sayable-alert table entity.id from.source from.no_fault;
      number = alert-number table entity.id from.source from.no_fault;
      version = refl;
      served = refl;
    } in
    subst (IsSaid table) (sym from.is) said

-- and so are all that are taken
pub all-said : (table : Table) (entities : List Entity) → AllByRecursion (IsSaid table) (situations table entities)
all-said table [] = tt
all-said table (entity ∷ entities) = by (entity_verdict table entity) refl (all-said table entities)
  where
    by : (verdict : Option (Result Situation Fault)) → entity_verdict table entity ≡ verdict → AllByRecursion (IsSaid table) (situations table entities)
        → AllByRecursion (IsSaid table) (cons_option (given verdict) (situations table entities))
    by None e rest = rest
    by (Some (Err fault)) e rest = rest
    by (Some (Ok one)) e rest = (said-one table entity one e, rest)
