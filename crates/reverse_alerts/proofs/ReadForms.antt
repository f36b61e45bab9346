-- What stands in a tree is read in its form: texts, moments, objects and repeated objects.
use Rattle.std.proofs.Common.{◌≡◌, ℕ, ◌<◌, List, [], ◌∷◌, ◌++◌, length, true, option_map, option_to_list, unwrap_or, Option, Some, None, Result, Ok, append-nil, refl, ap, ◌∙◌, ℤ, pos, arith}
use Rattle.std.specs.List.{list_all}
use Rattle.std.proofs.lemmas.Int.{ints}
use Rattle.gw_base.specs.Member.{member_name}
use Rattle.gw_base.specs.Moments.{IsMoment, is_moment}
use Rattle.gw_base.specs.declared.member.Member.{Member}
use Rattle.service_day.specs.Utc.{moment_text}
use Rattle.service_day.specs.declared.zones.Rules.{Rules}
use Rattle.service_day.proofs.MomentTextLemmas.{moment_of-moment_text, some-moment_text}
use Rattle.gw_base.specs.Chains.{◌>>=◌}
use Rattle.journey_model.specs.declared.fault.Fault.{Fault}
use Rattle.serde_json.specs.Data.{Data, Members, object, string}
use Rattle.serde_json.specs.Find.{get}
use Rattle.siri_json.specs.Trees.{array_of, items_of, moment_tree}
use Rattle.siri_json.specs.Fields.{form_at, optional, optional_member, required, required_member}
use Rattle.siri_json.specs.Forms.{is_object, listed, moment, object_form, objects, text}
use Rattle.siri_json.proofs.FormLemmas.{filled-some}
use Rattle.siri_situations.specs.Steps.{gather}
use Rattle.reverse_alerts.proofs.Sayable.{is_bound, is_filled}

-- ---- texts and moments

required-text : (member : Member) (t : List ℕ) → 0 < length t → required member (form_at text (Some (string t))) ≡ Ok t
required-text member [] some = absurd (omega arith)
required-text member (byte ∷ bytes) some = refl

optional-text : (member : Member) (t : Option (List ℕ)) → is_filled t ≡ true → optional member (form_at text (option_map string t)) ≡ Ok t
optional-text member None h = refl
optional-text member (Some []) h = cc
optional-text member (Some (byte ∷ bytes)) h = refl

-- a text under a member
pub text-read : (member : Member) (tree : Data) (t : List ℕ) → get (member_name member) tree ≡ Some (string t) → 0 < length t
    → required_member text member tree ≡ Ok t
text-read member tree t e some = ap (λ found. required member (form_at text found)) e ∙ required-text member t some

pub text-if-any-read : (member : Member) (tree : Data) (t : Option (List ℕ)) → get (member_name member) tree ≡ option_map string t → is_filled t ≡ true
    → optional_member text member tree ≡ Ok t
text-if-any-read member tree t e h = ap (λ found. optional member (form_at text found)) e ∙ optional-text member t h

-- a moment under a member
pub IsMoment-is_moment : (secs : ℤ) → is_moment secs ≡ true → IsMoment secs
IsMoment-is_moment secs e = grind (arith, ints)

abbrev pub bound_tree : Option ℕ → Option Data
bound_tree bound = option_map (λ secs. moment_tree (pos secs)) bound

abbrev pub bound_instant : Option ℕ → Option (ℤ × ℕ)
bound_instant bound = option_map (λ secs. (pos secs, 0)) bound

optional-moment : (zone : Rules) (member : Member) (bound : Option ℕ) → is_bound bound ≡ true
    → optional member (form_at (moment zone) (bound_tree bound)) ≡ Ok (bound_instant bound)
optional-moment zone member None h = refl
optional-moment zone member (Some secs) h =
    rw (filled-some (moment_text (pos secs)) (some-moment_text (pos secs)), moment_of-moment_text zone (pos secs) (IsMoment-is_moment (pos secs) h)) refl

pub moment-read : (zone : Rules) (member : Member) (tree : Data) (bound : Option ℕ) → get (member_name member) tree ≡ bound_tree bound
    → is_bound bound ≡ true → optional_member (moment zone) member tree ≡ Ok (bound_instant bound)
moment-read zone member tree bound e h = ap (λ found. optional member (form_at (moment zone) found)) e ∙ optional-moment zone member bound h

-- ---- objects, one by one and repeated

-- what stands under a member: an object, and repeated objects
abbrev pub object_in : Member → Data → Result (List Data) Fault
object_in member tree = optional_member object_form member tree >>= λ found. Ok (option_to_list found)

abbrev pub objects_in : Member → Data → Result (List Data) Fault
objects_in member tree = optional_member objects member tree >>= λ found. Ok (unwrap_or found [])

-- an array of what there is, where there is any
abbrev pub array_if_any : List Data → Option Data
array_if_any [] = None
array_if_any (first ∷ others) = Some (array_of (first ∷ others))

-- an array made of a list has the list's items
pub listed-items : (trees : List Data) → listed (items_of trees) ≡ trees
listed-items [] = refl
listed-items (tree ∷ trees) = ap (λ rest. tree ∷ rest) (listed-items trees)

pub repeated-read : (member : Member) (tree : Data) (trees : List Data) → get (member_name member) tree ≡ array_if_any trees → list_all is_object trees ≡ true
    → objects_in member tree ≡ Ok trees
repeated-read member tree [] e all = rw e refl
repeated-read member tree (first ∷ others) e all = rw (e, listed-items others, all) refl

pub object-read : (member : Member) (tree : Data) (parts : Members) → get (member_name member) tree ≡ Some (object parts)
    → object_in member tree ≡ Ok (object parts ∷ [])
object-read member tree parts e = rw e refl

pub none-read : (member : Member) (tree : Data) → get (member_name member) tree ≡ None → object_in member tree ≡ Ok []
none-read member tree e = rw e refl

-- ---- one after the other

-- what follows a value that is found
pub bound : {A B E : Type 0} (answer : Result A E) (value : A) (next : A → Result B E) → answer ≡ Ok value → (answer >>= next) ≡ next value
bound answer value next e = ap (λ found. found >>= next) e

pub gather-more : {A E : Type 0} (read : Data → Result (List A) E) (tree : Data) (trees : List Data) (first others : List A)
    → read tree ≡ Ok first → gather read trees ≡ Ok others → gather read (tree ∷ trees) ≡ Ok (first ++ others)
gather-more read tree trees first others here there =
    bound (read tree) first (λ one. gather read trees >>= λ rest. Ok (one ++ rest)) here ∙ bound (gather read trees) others (λ rest. Ok (first ++ rest)) there

pub gather-one : {A E : Type 0} (read : Data → Result (List A) E) (tree : Data) (found : List A) → read tree ≡ Ok found → gather read (tree ∷ []) ≡ Ok found
gather-one read tree found e = gather-more read tree [] found [] e refl ∙ ap Ok (append-nil found)

-- the way down by steps
abbrev pub down : List (Data → Result (List Data) Fault) → List Data → Result (List Data) Fault
down [] trees = Ok trees
down (step ∷ steps) trees = gather step trees >>= λ found. down steps found

pub step-on : (step : Data → Result (List Data) Fault) (steps : List (Data → Result (List Data) Fault)) (trees found : List Data)
    → gather step trees ≡ Ok found → down (step ∷ steps) trees ≡ down steps found
step-on step steps trees found e = bound (gather step trees) found (down steps) e

pub step-from : (step : Data → Result (List Data) Fault) (steps : List (Data → Result (List Data) Fault)) (tree : Data) (found : List Data)
    → step tree ≡ Ok found → down (step ∷ steps) (tree ∷ []) ≡ down steps found
step-from step steps tree found e = step-on step steps (tree ∷ []) found (gather-one step tree found e)
