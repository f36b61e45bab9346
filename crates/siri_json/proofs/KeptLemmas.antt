-- The forms of members, and the way down from the root, in two trees that differ in members alone whose names nobody asks for.
use Rattle.std.proofs.Common.{◌≡◌, ℕ, List, [], ◌∷◌, codes, Bool, true, false, if◌then◌else◌, Option, Result, Err, refl, ap}
use Rattle.std.specs.List.{list_all}
use Rattle.gw_base.specs.Chains.{◌>>=◌}
use Rattle.gw_base.specs.Member.{member_name}
use Rattle.gw_base.specs.declared.member.Member.{Member}
use Rattle.journey_model.specs.declared.fault.Fault.TheVariants.{BadField}
use Rattle.json.specs.Json as json
use Rattle.serde_json.specs.Data.{Data}
use Rattle.service_day.specs.DayTexts.{day_of}
use Rattle.service_day.specs.Moments as moments
use Rattle.service_day.specs.declared.days.DayForm.TheVariants.{Either}
use Rattle.service_day.specs.declared.zones.Rules.{Rules}
use Rattle.siri_json.specs.Fields.{form_at, member_form, optional, optional_member, required, required_member}
use Rattle.siri_json.specs.Forms.{day, flag, flag_named, found_or_wrong, is_object, listed, moment, object_form, objects, plain_text, repeated, text, text_under_value, then_form, whole, whole_named}
use Rattle.siri_json.specs.Frame.{deliveries_in, each_object, needed, repeated_at, repeated_under, service_in, siri, there, under_siri}
use Rattle.siri_json.specs.declared.forms.Form.{Form}
use Rattle.siri_json.specs.declared.forms.Form.TheVariants.{Missing, Wrong, Found}
use Rattle.json_tree.specs.Kept.{kept_items}
use Rattle.json_tree.specs.Trees.{items_data}
use Rattle.json_tree.proofs.KeptLemmas.{Alike, alike, AlikeOption, neither, both, AlikeList, empty, more, AlikeResult, fine, fault, get-alike, list_all-same}

-- ---- steps after each other

-- two steps, of which the second is over what the first one found
pub then-alike : {A B C D E : Type 0} {Before : A → B → Type 0} {After : C → D → Type 0} (next : A → Result C E) (next' : B → Result D E) {x : Result A E} {y : Result B E}
    → AlikeResult Before x y → ((a : A) (b : B) → Before a b → AlikeResult After (next a) (next' b)) → AlikeResult After (x >>= next) (y >>= next')
then-alike next next' (fine one) each = each _ _ one
then-alike next next' (fault e) each = fault e

-- the same, where the second step comes out the same
pub then-same : {A B C E : Type 0} {Before : A → B → Type 0} (next : A → Result C E) (next' : B → Result C E) {x : Result A E} {y : Result B E}
    → AlikeResult Before x y → ((a : A) (b : B) → Before a b → next a ≡ next' b) → (x >>= next) ≡ (y >>= next')
then-same next next' (fine one) each = each _ _ one
then-same next next' (fault e) each = refl

-- the same, where both steps do
pub then-each : {A C E : Type 0} (next next' : A → Result C E) {x y : Result A E} → x ≡ y → ((a : A) → next a ≡ next' a) → (x >>= next) ≡ (y >>= next')
then-each next next' same each = λ i. same i >>= (λ a. each a i)

-- what a test that comes out the same lets through, or else the fault
pub unless_fault : {A B E : Type 0} {Related : A → B → Type 0} {x : Result A E} {y : Result B E} (t u : Bool) (e : E) → t ≡ u → AlikeResult Related x y
    → AlikeResult Related (if t then x else Err e) (if u then y else Err e)
unless_fault t true e same h = rw same h
unless_fault t false e same h = rw same (fault e)

-- ---- forms

-- a member's form is the same but for what is found, and that is related
pub data AlikeForm {A B : Type 0} (Related : A → B → Type 0) : Form A → Form B → Type 0 where
  missing : AlikeForm Related Missing Missing
  wrong : AlikeForm Related Wrong Wrong
  there_is : {a : A} {b : B} → Related a b → AlikeForm Related (Found a) (Found b)

-- a text, and what is said by one, is the same where `value` is kept
under_value-same : {has : List ℕ → Bool} {x y : Option Data} → AlikeOption (Alike has) x y → text_under_value x ≡ text_under_value y
under_value-same neither = refl
under_value-same (both (alike json.null)) = refl
under_value-same (both (alike (json.boolean b))) = refl
under_value-same (both (alike (json.number n))) = refl
under_value-same (both (alike (json.string s))) = refl
under_value-same (both (alike (json.array json.no_items))) = refl
under_value-same (both (alike (json.array (json.item first others)))) = refl
under_value-same (both (alike (json.object _))) = refl

plain_text-same : {has : List ℕ → Bool} {a b : Data} → has (codes "value") ≡ true → Alike has a b → plain_text a ≡ plain_text b
plain_text-same value (alike json.null) = refl
plain_text-same value (alike (json.boolean b)) = refl
plain_text-same value (alike (json.number n)) = refl
plain_text-same value (alike (json.string s)) = refl
plain_text-same value (alike (json.array items)) = refl
plain_text-same value (alike (json.object members)) = under_value-same (get-alike (codes "value") value (alike (json.object members)))

pub text-same : {has : List ℕ → Bool} {a b : Data} → has (codes "value") ≡ true → Alike has a b → text a ≡ text b
text-same value (alike json.null) = refl
text-same value (alike (json.boolean b)) = refl
text-same value (alike (json.number n)) = refl
text-same value (alike (json.string s)) = refl
text-same value (alike (json.array json.no_items)) = refl
text-same value (alike (json.array (json.item first others))) = plain_text-same value (alike first)
text-same value (alike (json.object members)) = plain_text-same value (alike (json.object members))

pub flag-same : {has : List ℕ → Bool} {a b : Data} → has (codes "value") ≡ true → Alike has a b → flag a ≡ flag b
flag-same value (alike json.null) = refl
flag-same value (alike (json.boolean b)) = refl
flag-same value (alike (json.number n)) = refl
flag-same value (alike (json.string s)) = refl
flag-same value (alike (json.array items)) = ap (λ said. then_form said flag_named) (text-same value (alike (json.array items)))
flag-same value (alike (json.object members)) = ap (λ said. then_form said flag_named) (text-same value (alike (json.object members)))

pub whole-same : {has : List ℕ → Bool} {a b : Data} → has (codes "value") ≡ true → Alike has a b → whole a ≡ whole b
whole-same value (alike json.null) = refl
whole-same value (alike (json.boolean b)) = refl
whole-same value (alike (json.number n)) = refl
whole-same value (alike (json.string s)) = refl
whole-same value (alike (json.array items)) = ap (λ said. then_form said whole_named) (text-same value (alike (json.array items)))
whole-same value (alike (json.object members)) = ap (λ said. then_form said whole_named) (text-same value (alike (json.object members)))

pub moment-same : {has : List ℕ → Bool} {a b : Data} (zone : Rules) → has (codes "value") ≡ true → Alike has a b → moment zone a ≡ moment zone b
moment-same zone value h = ap (λ said. then_form said (λ t. found_or_wrong (moments.moment_of zone t))) (text-same value h)

pub day-same : {has : List ℕ → Bool} {a b : Data} → has (codes "value") ≡ true → Alike has a b → day a ≡ day b
day-same value h = ap (λ said. then_form said (λ t. found_or_wrong (day_of Either t))) (text-same value h)

-- objects stay objects, and the items of a repeated element stay in order
pub is_object-same : {has : List ℕ → Bool} {a b : Data} → Alike has a b → is_object a ≡ is_object b
is_object-same (alike json.null) = refl
is_object-same (alike (json.boolean b)) = refl
is_object-same (alike (json.number n)) = refl
is_object-same (alike (json.string s)) = refl
is_object-same (alike (json.array items)) = refl
is_object-same (alike (json.object _)) = refl

pub object_form-alike : {has : List ℕ → Bool} {a b : Data} → Alike has a b → AlikeForm (Alike has) (object_form a) (object_form b)
object_form-alike (alike json.null) = missing
object_form-alike (alike (json.boolean b)) = wrong
object_form-alike (alike (json.number n)) = wrong
object_form-alike (alike (json.string [])) = missing
object_form-alike (alike (json.string (byte ∷ bytes))) = wrong
object_form-alike (alike (json.array json.no_items)) = missing
object_form-alike (alike (json.array (json.item first others))) = wrong
object_form-alike (alike (json.object members)) = there_is (alike (json.object members))

listed-alike : (has : List ℕ → Bool) (items : json.Items) → AlikeList (Alike has) (listed (items_data (kept_items has items))) (listed (items_data items))
listed-alike has json.no_items = empty
listed-alike has (json.item first others) = more (alike first) (listed-alike has others)

pub repeated-alike : {has : List ℕ → Bool} {a b : Data} → Alike has a b → AlikeList (Alike has) (repeated a) (repeated b)
repeated-alike (alike json.null) = empty
repeated-alike (alike (json.boolean b)) = more (alike (json.boolean b)) empty
repeated-alike (alike (json.number n)) = more (alike (json.number n)) empty
repeated-alike (alike (json.string [])) = empty
repeated-alike (alike (json.string (byte ∷ bytes))) = more (alike (json.string (byte ∷ bytes))) empty
repeated-alike {has} (alike (json.array items)) = listed-alike has items
repeated-alike (alike (json.object members)) = more (alike (json.object members)) empty

all_objects-same : {has : List ℕ → Bool} {xs ys : List Data} → AlikeList (Alike has) xs ys → list_all is_object xs ≡ list_all is_object ys
all_objects-same h = list_all-same is_object is_object (λ a b one. is_object-same one) h

-- what a test that comes out the same lets through, or else a wrong form
unless_wrong : {A B : Type 0} {Related : A → B → Type 0} (a : A) (b : B) (t u : Bool) → t ≡ u → Related a b
    → AlikeForm Related (if t then Found a else Wrong) (if u then Found b else Wrong)
unless_wrong a b t true same h = rw same (there_is h)
unless_wrong a b t false same h = rw same wrong

pub objects-alike : {has : List ℕ → Bool} {a b : Data} → Alike has a b → AlikeForm (AlikeList (Alike has)) (objects a) (objects b)
objects-alike {a = a} {b = b} h =
    unless_wrong (repeated a) (repeated b) (list_all is_object (repeated a)) (list_all is_object (repeated b)) (all_objects-same (repeated-alike h)) (repeated-alike h)

-- ---- members of an item

-- a form in which nothing of the tree is left
pub form_at-same : {A : Type 0} {has : List ℕ → Bool} {x y : Option Data} (read : Data → Form A) → ((a b : Data) → Alike has a b → read a ≡ read b) → AlikeOption (Alike has) x y
    → form_at read x ≡ form_at read y
form_at-same read each neither = refl
form_at-same read each (both one) = each _ _ one

-- a form in which something of the tree is found
form_at-alike : {A : Type 0} {Related : A → A → Type 0} {has : List ℕ → Bool} {x y : Option Data} (read : Data → Form A)
    → ((a b : Data) → Alike has a b → AlikeForm Related (read a) (read b)) → AlikeOption (Alike has) x y → AlikeForm Related (form_at read x) (form_at read y)
form_at-alike read each neither = missing
form_at-alike read each (both one) = each _ _ one

-- the members with a kept name
pub member_form-alike : {A : Type 0} {Related : A → A → Type 0} {has : List ℕ → Bool} {a b : Data} (read : Data → Form A) (member : Member)
    → ((a b : Data) → Alike has a b → AlikeForm Related (read a) (read b)) → has (member_name member) ≡ true → Alike has a b
    → AlikeForm Related (member_form read member a) (member_form read member b)
member_form-alike read member each asked h = form_at-alike read each (get-alike (member_name member) asked h)

pub optional_member-same : {A : Type 0} {has : List ℕ → Bool} {a b : Data} (read : Data → Form A) (member : Member) → ((a b : Data) → Alike has a b → read a ≡ read b)
    → has (member_name member) ≡ true → Alike has a b → optional_member read member a ≡ optional_member read member b
optional_member-same read member each asked h = ap (optional member) (form_at-same read each (get-alike (member_name member) asked h))

pub required_member-same : {A : Type 0} {has : List ℕ → Bool} {a b : Data} (read : Data → Form A) (member : Member) → ((a b : Data) → Alike has a b → read a ≡ read b)
    → has (member_name member) ≡ true → Alike has a b → required_member read member a ≡ required_member read member b
required_member-same read member each asked h = ap (required member) (form_at-same read each (get-alike (member_name member) asked h))

optional-alike : {A : Type 0} {Related : A → A → Type 0} {x y : Form A} (member : Member) → AlikeForm Related x y
    → AlikeResult (AlikeOption Related) (optional member x) (optional member y)
optional-alike member missing = fine neither
optional-alike member wrong = fault (BadField member)
optional-alike member (there_is one) = fine (both one)

required-alike : {A : Type 0} {Related : A → A → Type 0} {x y : Form A} (member : Member) → AlikeForm Related x y
    → AlikeResult Related (required member x) (required member y)
required-alike member missing = fault (BadField member)
required-alike member wrong = fault (BadField member)
required-alike member (there_is one) = fine one

pub optional_member-alike : {A : Type 0} {Related : A → A → Type 0} {has : List ℕ → Bool} {a b : Data} (read : Data → Form A) (member : Member)
    → ((a b : Data) → Alike has a b → AlikeForm Related (read a) (read b)) → has (member_name member) ≡ true → Alike has a b
    → AlikeResult (AlikeOption Related) (optional_member read member a) (optional_member read member b)
optional_member-alike read member each asked h = optional-alike member (member_form-alike read member each asked h)

pub required_member-alike : {A : Type 0} {Related : A → A → Type 0} {has : List ℕ → Bool} {a b : Data} (read : Data → Form A) (member : Member)
    → ((a b : Data) → Alike has a b → AlikeForm Related (read a) (read b)) → has (member_name member) ≡ true → Alike has a b
    → AlikeResult Related (required_member read member a) (required_member read member b)
required_member-alike read member each asked h = required-alike member (member_form-alike read member each asked h)

-- ---- the way down from the root

-- the root, or what stands under `Siri` in it
under_siri-alike : {has : List ℕ → Bool} {a b : Data} {x y : Form Data} → Alike has a b → AlikeForm (Alike has) x y → AlikeResult (Alike has) (under_siri a x) (under_siri b y)
under_siri-alike h missing = fine h
under_siri-alike h wrong = fault Member.Siri
under_siri-alike h (there_is one) = fine one

siri-alike : {has : List ℕ → Bool} {a b : Data} → has (member_name Member.Siri) ≡ true → Alike has a b → AlikeResult (Alike has) (siri a) (siri b)
siri-alike {a = a} {b = b} asked h =
    unless_fault (is_object a) (is_object b) Member.Siri (is_object-same h)
    (under_siri-alike h (member_form-alike object_form Member.Siri (λ c d one. object_form-alike one) asked h))

-- an object that has to be there
needed-alike : {has : List ℕ → Bool} {x y : Form Data} (member : Member) → AlikeForm (Alike has) x y → AlikeResult (Alike has) (needed member x) (needed member y)
needed-alike member missing = fault member
needed-alike member wrong = fault member
needed-alike member (there_is one) = fine one

-- the service delivery
pub service_in-alike : {has : List ℕ → Bool} {a b : Data} → has (member_name Member.Siri) ≡ true → has (member_name Member.ServiceDelivery) ≡ true → Alike has a b
    → AlikeResult (Alike has) (service_in a) (service_in b)
service_in-alike root asked h =
    then-alike _ _ (siri-alike root h)
    (λ a b one. needed-alike Member.ServiceDelivery (member_form-alike object_form Member.ServiceDelivery (λ c d it. object_form-alike it) asked one))

-- the deliveries under a kept name
each_object-alike : {has : List ℕ → Bool} {xs ys : List Data} (member : Member) → AlikeList (Alike has) xs ys
    → AlikeResult (AlikeList (Alike has)) (each_object member xs) (each_object member ys)
each_object-alike {xs = xs} {ys = ys} member h = unless_fault (list_all is_object xs) (list_all is_object ys) member (all_objects-same h) (fine h)

there-alike : {has : List ℕ → Bool} {x y : Option Data} (member : Member) → AlikeOption (Alike has) x y → AlikeResult (AlikeList (Alike has)) (there member x) (there member y)
there-alike member neither = fault member
there-alike member (both (alike json.null)) = fault member
there-alike member (both (alike (json.boolean b))) = fault member
there-alike member (both (alike (json.number n))) = fault member
there-alike member (both (alike (json.string s))) = fault member
there-alike member (both (alike (json.array items))) = each_object-alike member (repeated-alike (alike (json.array items)))
there-alike member (both (alike (json.object members))) = fine (more (alike (json.object members)) empty)

pub deliveries_in-alike : {has : List ℕ → Bool} {a b : Data} (member : Member) → has (member_name member) ≡ true → Alike has a b
    → AlikeResult (AlikeList (Alike has)) (deliveries_in member a) (deliveries_in member b)
deliveries_in-alike member asked h = there-alike member (get-alike (member_name member) asked h)

-- the items of an element that may be missing
repeated_at-alike : {has : List ℕ → Bool} {x y : Option Data} → AlikeOption (Alike has) x y → AlikeList (Alike has) (repeated_at x) (repeated_at y)
repeated_at-alike neither = empty
repeated_at-alike (both one) = repeated-alike one

pub repeated_under-alike : {has : List ℕ → Bool} {a b : Data} (member : Member) → has (member_name member) ≡ true → Alike has a b
    → AlikeList (Alike has) (repeated_under member a) (repeated_under member b)
repeated_under-alike member asked h = repeated_at-alike (get-alike (member_name member) asked h)
