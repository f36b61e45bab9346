-- The verdicts of items, one after the other.
use Rattle.std.proofs.Common.{◌≡◌, ◌∙◌, ℕ, ◌+◌, ◌<◌, ◌≤◌, refl, sym, ap, subst, Bool, true, false, List, [], ◌∷◌, ◌++◌, length, get_or, map, take, Option, Some, None, Result, Ok, Err, arith}
use Rattle.std.specs.Prelude.{min, sum_by}
use Rattle.std.proofs.lemmas.Grind.{flat_map-append}
use Rattle.std.proofs.lemmas.List.{append_assoc, append-nil, map-append, take_all, take_more}
use Rattle.std.proofs.lemmas.List.Sums.{sum_by_push}
use Rattle.std.proofs.lemmas.Str.{is_utf8-from_IsUtf8, IsUtf8-from_is_utf8}
use Rattle.std.specs.List.{flat_map}
use Rattle.std.specs.Str.{is_utf8, IsUtf8}
use Rattle.gw_base.specs.Count.{last_count}
use Rattle.gw_base.specs.declared.member.Member.{Member}
use Rattle.journey_model.specs.declared.fault.Fault.{Fault}
use Rattle.json_tree.specs.Faults.{Says}
use Rattle.json_tree.specs.declared.reading.TreeFault.{TreeFault}
use Rattle.json_tree.specs.declared.reading.TreeFault.TheVariants as tree
use Rattle.serde_json.specs.Data.{Data}
use Rattle.serde_json.specs.Read as json
use Rattle.siri_json.specs.Deliveries.{HasVerdicts, IsAdded, Reads, ReadsTree, passed_in, shown, tree_of, verdict_seen, without_count}
use Rattle.siri_json.specs.Refusals.{refusal}
use Rattle.siri_json.specs.Shown.{IsFrameFault}
use Rattle.siri_json.specs.declared.delivery.Delivery.{Delivery}
use Rattle.siri_json.specs.declared.delivery.DeliveryFault as declared
use Rattle.siri_json.specs.declared.delivery.DeliveryFault.TheVariants as DeliveryFault
use Rattle.siri_json.specs.declared.delivery.Item.TheVariants.{Taken, Aside}

abbrev Verdict : Type 0 → Type 0
Verdict B = Result (B × ℕ) Fault

-- one element more of those that are mapped
pub map-take_more : {A B : Type 0} (shown_as : A → B) (all : List A) (i : ℕ) (one : A) → i < length all → one ≡ get_or all i one
    → map shown_as (take (i + 1) all) ≡ map shown_as (take i all) ++ shown_as one ∷ []
map-take_more shown_as all i one within at =
    ap (map shown_as) (take_more all i one within) ∙ map-append shown_as (take i all) (get_or all i one ∷ [])
    ∙ ap (λ last. map shown_as (take i all) ++ shown_as last ∷ []) (sym at)

rises : (before sum passed : ℕ) → before ≡ min sum last_count → min (before + passed) last_count ≡ min (sum + passed) last_count
rises before sum passed e = omega (arith, e)

stays : (before sum : ℕ) → before ≡ min sum last_count → before ≡ min (sum + 0) last_count
stays before sum e = omega (arith, e)

-- one item more
pub one_added : {A B : Type 0} (seen : A → B) (old new : Delivery A) (earlier : List (Verdict B)) (answer : Verdict A)
    → IsAdded answer old new → HasVerdicts seen old earlier → HasVerdicts seen new (earlier ++ verdict_seen seen answer ∷ [])
one_added seen old new earlier (Ok one) added has = record {
  items_are = ap (map (shown seen)) added.0 ∙ map-append (shown seen) old.items (Taken one.0 ∷ [])
      ∙ ap (λ rest. rest ++ Ok (seen one.0) ∷ []) has.items_are ∙ sym (map-append without_count earlier (Ok (seen one.0, one.1) ∷ []));
  passed_is = added.1 ∙ rises old.passed (sum_by passed_in earlier) one.1 has.passed_is
      ∙ ap (λ sum. min sum last_count) (sym (sum_by_push passed_in earlier (Ok (seen one.0, one.1))));
}
one_added seen old new earlier (Err fault) added has = record {
  items_are = ap (map (shown seen)) added.0 ∙ map-append (shown seen) old.items (Aside fault ∷ [])
      ∙ ap (λ rest. rest ++ Err fault ∷ []) has.items_are ∙ sym (map-append without_count earlier (Err fault ∷ []));
  passed_is = added.1 ∙ stays old.passed (sum_by passed_in earlier) has.passed_is
      ∙ ap (λ sum. min sum last_count) (sym (sum_by_push passed_in earlier (Err fault)));
}

-- what something stands for: the items of one place, one more, and then all
pub items_step : {V C : Type 0} (Stands : List V → Type 0) (verdict_of : C → V) (earlier : List V) (all : List C) (i : ℕ) (one : C) (found : V)
    → i < length all → one ≡ get_or all i one → found ≡ verdict_of one → Stands ((earlier ++ map verdict_of (take i all)) ++ found ∷ [])
    → Stands (earlier ++ map verdict_of (take (i + 1) all))
items_step Stands verdict_of earlier all i one found within at is has =
    let same : (earlier ++ map verdict_of (take i all)) ++ found ∷ [] ≡ earlier ++ map verdict_of (take (i + 1) all) =
    append_assoc earlier (map verdict_of (take i all)) (found ∷ [])
    ∙ ap (λ rest. earlier ++ rest) (ap (λ last. map verdict_of (take i all) ++ last ∷ []) is ∙ sym (map-take_more verdict_of all i one within at)) in
    subst Stands same has

-- what is shown twice
pub mapped : {A B C : Type 0} (second : B → C) (first : A → B) (all : List A) → map (λ one. second (first one)) all ≡ map second (map first all)
mapped second first [] = refl
mapped second first (one ∷ others) = ap (λ rest. second (first one) ∷ rest) (mapped second first others)

pub items_end : {V C D : Type 0} (Stands : List V → Type 0) (verdict_of : D → V) (place : C → D) (all : List C) (below : List D) (earlier : List V) (i : ℕ)
    → length all ≤ i → map place all ≡ below → Stands (earlier ++ map (λ one. verdict_of (place one)) (take i all))
    → Stands (earlier ++ map verdict_of below)
items_end Stands verdict_of place all below earlier i past same has =
    let whole : map (λ one. verdict_of (place one)) (take i all) ≡ map verdict_of below =
    ap (map (λ one. verdict_of (place one))) (take_all i all past) ∙ mapped verdict_of place all ∙ ap (map verdict_of) same in
    subst (λ rest. Stands (earlier ++ rest)) whole has

-- one place more
pub places_step : {V C D E : Type 0} (Stands : List V → Type 0) (verdict_of : E → V) (below : D → List E) (place : C → D) (earlier : List V) (all : List C) (i : ℕ) (one : C)
    → i < length all → one ≡ get_or all i one
    → Stands ((earlier ++ map verdict_of (flat_map below (map place (take i all)))) ++ map verdict_of (below (place one)))
    → Stands (earlier ++ map verdict_of (flat_map below (map place (take (i + 1) all))))
places_step Stands verdict_of below place earlier all i one within at has =
    let before = map place (take i all) in
    let joined : flat_map below before ++ below (place one) ≡ flat_map below (map place (take (i + 1) all)) =
    ap (λ rest. flat_map below before ++ rest) (sym (append-nil (below (place one))))
    ∙ sym (flat_map-append below before (place one ∷ [])) ∙ ap (flat_map below) (sym (map-take_more place all i one within at)) in
    subst Stands
    (append_assoc earlier (map verdict_of (flat_map below before)) (map verdict_of (below (place one)))
    ∙ ap (λ rest. earlier ++ rest) (sym (map-append verdict_of (flat_map below before) (below (place one))) ∙ ap (map verdict_of) joined)) has

-- a body that was read, and one that can't be
pub body_read : (body : List ℕ) (tree : Data) → IsUtf8 body → json.read body ≡ Some tree → tree_of body ≡ Some tree
body_read body tree text e = rw (is_utf8-from_IsUtf8 body text) e

not_read : (body : List ℕ) → (IsUtf8 body → json.read body ≡ None) → tree_of body ≡ None
not_read body none = by (is_utf8 body) refl
  where
    by : (b : Bool) → is_utf8 body ≡ b → tree_of body ≡ None
    by true e = rw e (none (IsUtf8-from_is_utf8 body e))
    by false e = rw e refl

module _ {D V : Type 0} (StandsFor : D → List V → Type 0) where
  pub want_of_memory : (answer : Result (List V) Member) → ReadsTree StandsFor answer (Err DeliveryFault.Memory)
  want_of_memory (Ok all) = refl
  want_of_memory (Err member) = tt

  memory_for_any : (verdicts : Data → Result (List V) Member) (found : Option Data) → Reads StandsFor verdicts found (Err DeliveryFault.Memory)
  memory_for_any verdicts None = tt
  memory_for_any verdicts (Some root) = want_of_memory (verdicts root)

  pub body_refused : (verdicts : Data → Result (List V) Member) (body : List ℕ) (fault : TreeFault)
      → Says (IsUtf8 body → json.read body ≡ None) fault → Reads StandsFor verdicts (tree_of body) (Err (refusal fault))
  body_refused verdicts body tree.NotJson none = rw (not_read body none) tt
  body_refused verdicts body tree.Memory said = memory_for_any verdicts (tree_of body)

  -- the answer over a body that was read is that over its tree
  pub body_delivery : (verdicts : Data → Result (List V) Member) (body : List ℕ) (root : Data) (answer : Result D declared.DeliveryFault)
      → tree_of body ≡ Some root → ReadsTree StandsFor (verdicts root) answer → Reads StandsFor verdicts (tree_of body) answer
  body_delivery verdicts body root answer e reads = rw e reads

  -- the way down is broken where the verdicts are those of what is at its end
  pub frame_fault : {P : Type 0} (places : Result P Member) (verdicts : Result (List V) Member) (fault : declared.DeliveryFault)
      → ((member : Member) → places ≡ Err member → verdicts ≡ Err member) → IsFrameFault places fault → ReadsTree StandsFor verdicts (Err fault)
  frame_fault places verdicts DeliveryFault.NotJson broken h = absurd h
  frame_fault places verdicts (DeliveryFault.NotDelivery member) broken h = rw (broken member h) refl
  frame_fault places verdicts DeliveryFault.Memory broken h = want_of_memory verdicts

-- what is read of a body, when it stands for something else too
module _ {D E V : Type 0} (StandsFor : D → List V → Type 0) (Other : E → List V → Type 0) (verdicts : Data → Result (List V) Member) where
  pub reads_given : (tree : Option Data) (given : D) (other : E) → ((all : List V) → StandsFor given all → Other other all) → Reads StandsFor verdicts tree (Ok given)
      → Reads Other verdicts tree (Ok other)
  reads_given None given other stands reads = absurd reads
  reads_given (Some root) given other stands reads = by (verdicts root) reads
    where
      by : (answer : Result (List V) Member) → ReadsTree StandsFor answer (Ok given) → ReadsTree Other answer (Ok other)
      by (Ok all) has = stands all has
      by (Err member) has = absurd has

  pub reads_refused : (tree : Option Data) (fault : declared.DeliveryFault) → Reads StandsFor verdicts tree (Err fault) → Reads Other verdicts tree (Err fault)
  reads_refused None DeliveryFault.NotJson reads = tt
  reads_refused None (DeliveryFault.NotDelivery member) reads = absurd reads
  reads_refused None DeliveryFault.Memory reads = tt
  reads_refused (Some root) fault reads = by (verdicts root) fault reads
    where
      by : (answer : Result (List V) Member) (fault : declared.DeliveryFault) → ReadsTree StandsFor answer (Err fault) → ReadsTree Other answer (Err fault)
      by (Ok all) fault has = has
      by (Err member) DeliveryFault.NotJson has = absurd has
      by (Err member) (DeliveryFault.NotDelivery told) has = has
      by (Err member) DeliveryFault.Memory has = tt

-- what follows of each list of verdicts follows of what is read
pub from_read : {D V : Type 0} (StandsFor : D → List V → Type 0) (verdicts : Data → Result (List V) Member) (tree : Option Data) (given : D) (P : Type 0)
    → ((all : List V) → StandsFor given all → P) → Reads StandsFor verdicts tree (Ok given) → P
from_read StandsFor verdicts None given P follows reads = absurd reads
from_read {V = V} StandsFor verdicts (Some root) given P follows reads = by (verdicts root) reads
  where
    by : (answer : Result (List V) Member) → ReadsTree StandsFor answer (Ok given) → P
    by (Ok all) has = follows all has
    by (Err member) has = absurd has
