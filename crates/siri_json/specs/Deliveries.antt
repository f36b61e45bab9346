-- What the answer of reading a delivery says, whatever its items are.
use Rattle.std.specs.Prelude.{◌≡◌, ◌+◌, ◌++◌, ◌∷◌, ℕ, List, [], map, min, sum_by, Option, Some, None, Result, Ok, Err, ⊤, if◌then◌else◌}
use Rattle.std.specs.Str.{is_utf8}
use Rattle.gw_base.specs.Count.{last_count}
use Rattle.gw_base.specs.declared.member.Member.{Member}
use Rattle.journey_model.specs.declared.fault.Fault.{Fault}
use Rattle.serde_json.specs.Data.{Data}
use Rattle.serde_json.specs.Read as json
use Rattle.siri_json.specs.declared.delivery.Delivery.{Delivery}
use Rattle.siri_json.specs.declared.delivery.DeliveryFault.{DeliveryFault}
use Rattle.siri_json.specs.declared.delivery.DeliveryFault.TheVariants.{NotJson, NotDelivery, Memory}
use Rattle.siri_json.specs.declared.delivery.Item.{Item}
use Rattle.siri_json.specs.declared.delivery.Item.TheVariants.{Taken, Aside}

-- the tree that a body is, where it is UTF-8 and JSON
abbrev pub tree_of : List ℕ → Option Data
tree_of body = if is_utf8 body then json.read body else None

-- the verdict on an item: what it says, with how many of its parts were passed over, or its first fault; this is it
-- without that number
abbrev pub without_count : {B : Type 0} → Result (B × ℕ) Fault → Result B Fault
without_count (Ok one) = Ok one.0
without_count (Err fault) = Err fault

-- how many parts of the items that are taken were passed over; a count of 64 bits stays at its last value
abbrev pub passed_in : {B : Type 0} → Result (B × ℕ) Fault → ℕ
passed_in (Ok one) = one.1
passed_in (Err fault) = 0

abbrev pub passed_count : {B : Type 0} → List (Result (B × ℕ) Fault) → ℕ
passed_count all = min (sum_by passed_in all) last_count

-- what an item shows of its verdict
abbrev pub shown : {A B : Type 0} → (A → B) → Item A → Result B Fault
shown seen (Taken one) = Ok (seen one)
shown seen (Aside fault) = Err fault

-- the verdict as it is seen where what the item says is
abbrev pub verdict_seen : {A B : Type 0} → (A → B) → Result (A × ℕ) Fault → Result (B × ℕ) Fault
verdict_seen seen (Ok one) = Ok (seen one.0, one.1)
verdict_seen seen (Err fault) = Err fault

-- a delivery has these verdicts
pub record HasVerdicts {A B : Type 0} (seen : A → B) (delivery : Delivery A)
    (all : List (Result (B × ℕ) Fault)) : Type 0 where
  pub items_are : map (shown seen) delivery.items ≡ map without_count all
  pub passed_is : delivery.passed ≡ passed_count all

-- the answer over a tree: something that stands for its verdicts, or the member that is wrong
abbrev pub ReadsTree : {D V : Type 0} → (D → List V → Type 0) → Result (List V) Member → Result D DeliveryFault → Type 0
ReadsTree StandsFor (Ok all) (Ok given) = StandsFor given all
ReadsTree StandsFor (Ok all) (Err fault) = fault ≡ Memory
ReadsTree StandsFor (Err member) (Ok given) = ⊥
ReadsTree StandsFor (Err member) (Err Memory) = ⊤
ReadsTree StandsFor (Err member) (Err NotJson) = ⊥
ReadsTree StandsFor (Err member) (Err (NotDelivery told)) = told ≡ member

-- the answer over a body, of whose tree the verdicts are these: it isn't JSON, or as its tree says; want of memory may
-- come in the place of any
abbrev pub Reads : {D V : Type 0} → (D → List V → Type 0) → (Data → Result (List V) Member) → Option Data
    → Result D DeliveryFault → Type 0
Reads StandsFor verdicts None (Ok given) = ⊥
Reads StandsFor verdicts None (Err NotJson) = ⊤
Reads StandsFor verdicts None (Err (NotDelivery member)) = ⊥
Reads StandsFor verdicts None (Err Memory) = ⊤
Reads StandsFor verdicts (Some root) answer = ReadsTree StandsFor (verdicts root) answer

-- a delivery has one item more than another one, with this verdict on it
abbrev pub IsAdded : {A : Type 0} → Result (A × ℕ) Fault → Delivery A → Delivery A → Type 0
IsAdded (Ok one) old new =
    (new.items ≡ old.items ++ Taken one.0 ∷ []) × (new.passed ≡ min (old.passed + one.1) last_count)
IsAdded (Err fault) old new = (new.items ≡ old.items ++ Aside fault ∷ []) × (new.passed ≡ old.passed)
