-- What the values of the reading show.
use Rattle.std.specs.Prelude.{ℕ, ℤ, List, map, Option, option_map, Result, Err, ⊤, ◌≡◌}
use Rattle.gw_base.specs.declared.member.Member.{Member}
use Rattle.gw_base.specs.Chains.{ok_map}
use Rattle.journey_model.specs.declared.fault.Fault.{Fault}
use Rattle.json_tree.specs.Trees.{Tree, view}
use Rattle.serde_json.specs.Data.{Data}
use Rattle.service_day.specs.declared.moments.Instant.{Instant}
use Rattle.siri_json.specs.declared.delivery.DeliveryFault.{DeliveryFault}
use Rattle.siri_json.specs.declared.delivery.DeliveryFault.TheVariants as delivery
use Rattle.siri_json.specs.declared.forms.Form.{Form}
use Rattle.siri_json.specs.declared.forms.Form.TheVariants.{Missing, Wrong, Found}
use Rattle.siri_json.specs.declared.read_fault.ReadFault.{ReadFault}
use Rattle.siri_json.specs.declared.read_fault.ReadFault.TheVariants.{Aside, Memory}
use denote.Ref.{Bor}

-- an instant
abbrev pub instant_of : Instant → ℤ × ℕ
instant_of instant = (instant.secs, instant.nanos)

-- a form of what is shown
abbrev pub form_map : {A B : Type 0} → (A → B) → Form A → Form B
form_map shown Missing = Missing
form_map shown Wrong = Wrong
form_map shown (Found value) = Found (shown value)

-- the form of a text, of a moment and of a tree
abbrev pub text_form : Form (Bor (List ℕ)) → Form (List ℕ)
text_form form = form_map (λ text. text.now) form

abbrev pub moment_form : Form Instant → Form (ℤ × ℕ)
moment_form form = form_map instant_of form

abbrev pub tree_form : Form (Bor Tree) → Form Data
tree_form form = form_map (λ tree. view tree.now) form

-- the trees of a slice
abbrev pub trees_of : Bor (List Tree) → List Data
trees_of trees = map view trees.now

abbrev pub trees_form : Form (Bor (List Tree)) → Form (List Data)
trees_form form = form_map trees_of form

-- a text, a moment and a tree that may be missing, and ones that are required
abbrev pub optional_text : Result (Option (Bor (List ℕ))) Fault → Result (Option (List ℕ)) Fault
optional_text answer = ok_map (option_map (λ text. text.now)) answer

abbrev pub optional_moment : Result (Option Instant) Fault → Result (Option (ℤ × ℕ)) Fault
optional_moment answer = ok_map (option_map instant_of) answer

abbrev pub optional_tree : Result (Option (Bor Tree)) Fault → Result (Option Data) Fault
optional_tree answer = ok_map (option_map (λ tree. view tree.now)) answer

abbrev pub optional_trees : Result (Option (Bor (List Tree))) Fault → Result (Option (List Data)) Fault
optional_trees answer = ok_map (option_map trees_of) answer

abbrev pub required_text : Result (Bor (List ℕ)) Fault → Result (List ℕ) Fault
required_text answer = ok_map (λ text. text.now) answer

abbrev pub required_tree : Result (Bor Tree) Fault → Result Data Fault
required_tree answer = ok_map (λ tree. view tree.now) answer

-- a fault is that of an answer, unless it is want of memory
abbrev pub IsFaultOf : {A : Type 0} → Result A Fault → ReadFault → Type 0
IsFaultOf answer (Aside fault) = answer ≡ Err fault
IsFaultOf answer Memory = ⊤

-- a fault is that of the way down to the items, unless it is want of memory
abbrev pub IsFrameFault : {A : Type 0} → Result A Member → DeliveryFault → Type 0
IsFrameFault answer delivery.NotJson = ⊥
IsFrameFault answer (delivery.NotDelivery member) = answer ≡ Err member
IsFrameFault answer delivery.Memory = ⊤
