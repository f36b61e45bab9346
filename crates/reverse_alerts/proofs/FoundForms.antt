-- What was read of a tree is in form: texts aren't empty, days and moments are in range.
use Rattle.std.proofs.Common.{◌≡◌, ℕ, List, [], ◌∷◌, ◌++◌, Bool, true, false, ◌&&◌, ◌||◌, if◌then◌else◌, is_some, unsigned_abs, Option, Some, None, Result, Ok, Err, codes, refl, subst, ℤ, pos, negsuc}
use Rattle.std.specs.List.{list_all}
use Rattle.std.proofs.lemmas.Bool.{and_from, and_parts}
use Rattle.gw_base.specs.Member.{member_name}
use Rattle.gw_base.specs.Moments.{is_moment}
use Rattle.gw_base.specs.declared.member.Member.{Member}
use Rattle.service_day.specs.Days.{IsDay}
use Rattle.service_day.specs.DayTexts.{day_of}
use Rattle.service_day.specs.Moments.{moment_of}
use Rattle.service_day.specs.declared.days.DayForm.TheVariants.{Either}
use Rattle.service_day.specs.declared.zones.Rules.{Rules}
use Rattle.gw_base.specs.Chains.{◌>>=◌}
use Rattle.journey_model.specs.declared.fault.Fault.{Fault}
use Rattle.journey_model.specs.declared.fault.Fault.TheVariants.{BadField}
use Rattle.journey_model.specs.declared.situation.ValidPeriod.{ValidPeriod}
use Rattle.serde_json.specs.Data.{Data, null, boolean, number, string, array, object, no_items, item}
use Rattle.serde_json.specs.Find.{get, get_member}
use Rattle.siri_json.specs.Fields.{form_at, optional, optional_member, required, required_member}
use Rattle.siri_json.specs.Forms.{day, filled, found_or_wrong, moment, plain_text, text, text_under_value, then_form}
use Rattle.siri_json.specs.declared.forms.Form.{Form}
use Rattle.siri_json.specs.declared.forms.Form.TheVariants.{Missing, Wrong, Found}
use Rattle.siri_situations.specs.Periods.{kept, period, periods, periods_in, seconds, start_in_form}
use Rattle.siri_situations.specs.Steps.{gather}
use Rattle.reverse_alerts.proofs.DayRange.{IsDay-day_of, is_moment-moment_of}
use Rattle.reverse_alerts.proofs.ReadForms.{objects_in}
use Rattle.reverse_alerts.proofs.Sayable.{is_bound, is_filled, is_period}

-- ---- values that were found one after the other

pub same-ok : {A E : Type 0} (a b : A) → ◌≡◌ {A = Result A E} (Ok a) (Ok b) → a ≡ b
same-ok a b e = cc

pub parts-of : {A B E : Type 0} (answer : Result A E) (last : B) (next : A → Result B E) → (answer >>= next) ≡ Ok last
    → (a : A) × (answer ≡ Ok a) × (next a ≡ Ok last)
parts-of (Ok a) last next e = (a, refl, e)
parts-of (Err fault) last next e = cc

-- ---- forms

optional-found : {A : Type 0} (member : Member) (form : Form A) (value : A) → optional member form ≡ Ok (Some value) → form ≡ Found value
optional-found member Missing value e = cc
optional-found member Wrong value e = cc
optional-found member (Found other) value e = cc

required-found : {A : Type 0} (member : Member) (form : Form A) (value : A) → required member form ≡ Ok value → form ≡ Found value
required-found member Missing value e = cc
required-found member Wrong value e = cc
required-found member (Found other) value e = cc

tree-found : {A : Type 0} (read : Data → Form A) (at : Option Data) (value : A) → form_at read at ≡ Found value → (tree : Data) × (read tree ≡ Found value)
tree-found read None value e = cc
tree-found read (Some tree) value e = (tree, e)

then-found : {A B : Type 0} (form : Form A) (next : A → Form B) (value : B) → then_form form next ≡ Found value → (a : A) × (next a ≡ Found value)
then-found Missing next value e = cc
then-found Wrong next value e = cc
then-found (Found a) next value e = (a, e)

some-found : {A : Type 0} (o : Option A) (value : A) → found_or_wrong o ≡ Found value → o ≡ Some value
some-found None value e = cc
some-found (Some other) value e = cc

-- ---- texts

filled-is : (s t : List ℕ) → filled s ≡ Found t → is_filled (Some t) ≡ true
filled-is [] t e = cc
filled-is (byte ∷ bytes) t e = let same : byte ∷ bytes ≡ t = cc in subst (λ t. is_filled (Some t) ≡ true) same refl

under-is : (at : Option Data) (t : List ℕ) → text_under_value at ≡ Found t → is_filled (Some t) ≡ true
under-is None t e = cc
under-is (Some null) t e = cc
under-is (Some (boolean b)) t e = cc
under-is (Some (number n)) t e = cc
under-is (Some (string s)) t e = filled-is s t e
under-is (Some (array no_items)) t e = cc
under-is (Some (array (item first others))) t e = cc
under-is (Some (object parts)) t e = cc

plain-is : (tree : Data) (t : List ℕ) → plain_text tree ≡ Found t → is_filled (Some t) ≡ true
plain-is null t e = cc
plain-is (boolean b) t e = cc
plain-is (number n) t e = cc
plain-is (string s) t e = filled-is s t e
plain-is (array items) t e = cc
plain-is (object parts) t e = under-is (get_member (codes "value") parts) t e

text-is : (tree : Data) (t : List ℕ) → text tree ≡ Found t → is_filled (Some t) ≡ true
text-is null t e = cc
text-is (boolean b) t e = cc
text-is (number n) t e = cc
text-is (string s) t e = filled-is s t e
text-is (array no_items) t e = cc
text-is (array (item first others)) t e = plain-is first t e
text-is (object parts) t e = plain-is (object parts) t e

pub text-filled : (member : Member) (tree : Data) (t : Option (List ℕ)) → optional_member text member tree ≡ Ok t → is_filled t ≡ true
text-filled member tree None e = refl
text-filled member tree (Some t) e =
    let at = get (member_name member) tree in
    let one = tree-found text at t (optional-found member (form_at text at) t e) in
    text-is one.0 t one.1

-- ---- days and moments

pub day-found : (member : Member) (tree : Data) (on : ℤ) → required_member day member tree ≡ Ok on → IsDay on
day-found member tree on e =
    let at = get (member_name member) tree in
    let one = tree-found day at on (required-found member (form_at day at) on e) in
    let named = then-found (text one.0) (λ t. found_or_wrong (day_of Either t)) on one.1 in
    IsDay-day_of Either named.0 on (some-found (day_of Either named.0) on named.1)

abs-moment : (secs : ℤ) → is_moment secs ≡ true → is_moment (pos (unsigned_abs secs)) ≡ true
abs-moment (pos k) h = h
abs-moment (negsuc k) h = cc

moment-found : (zone : Rules) (member : Member) (tree : Data) (instant : Option (ℤ × ℕ)) → optional_member (moment zone) member tree ≡ Ok instant
    → is_bound (seconds instant) ≡ true
moment-found zone member tree None e = refl
moment-found zone member tree (Some instant) e =
    let at = get (member_name member) tree in
    let one = tree-found (moment zone) at instant (optional-found member (form_at (moment zone) at) instant e) in
    let named = then-found (text one.0) (λ t. found_or_wrong (moment_of zone t)) instant one.1 in
    abs-moment instant.0 (is_moment-moment_of zone named.0 instant (some-found (moment_of zone named.0) instant named.1))

-- ---- periods

one-period : (start end : Option ℕ) → (is_some start || is_some end) ≡ true → is_bound start ≡ true → is_bound end ≡ true
    → list_all is_period (record { start = start; end = end } ∷ []) ≡ true
one-period start end some first last =
    and_from (is_period (record { start = start; end = end })) true
    (and_from (is_some start || is_some end) (is_bound start && is_bound end) some (and_from (is_bound start) (is_bound end) first last)) refl

kept-found : (start end : Option ℕ) → is_bound start ≡ true → is_bound end ≡ true → list_all is_period (kept start end) ≡ true
kept-found None None first last = refl
kept-found None (Some end) first last = one-period None (Some end) refl first last
kept-found (Some start) end first last = one-period (Some start) end refl first last

-- periods that are had from an answer
of-answer : (made found : List ValidPeriod) → ◌≡◌ {A = Result (List ValidPeriod) Fault} (Ok made) (Ok found) → list_all is_period made ≡ true
    → list_all is_period found ≡ true
of-answer made found e h = subst (λ all. list_all is_period all ≡ true) (same-ok made found e) h

period-found : (zone : Rules) (tree : Data) (all : List ValidPeriod) → period zone tree ≡ Ok all → list_all is_period all ≡ true
period-found zone tree all e =
    let first = parts-of (optional_member (moment zone) Member.StartTime tree) all
    (λ start. optional_member (moment zone) Member.EndTime tree >>= λ end. Ok (kept (seconds start) (seconds end))) e in
    let last = parts-of (optional_member (moment zone) Member.EndTime tree) all (λ end. Ok (kept (seconds first.0) (seconds end))) first.2 in
    of-answer (kept (seconds first.0) (seconds last.0)) all last.2
    (kept-found (seconds first.0) (seconds last.0) (moment-found zone Member.StartTime tree first.0 first.1) (moment-found zone Member.EndTime tree last.0 last.1))

pub all-append : {A : Type 0} (test : A → Bool) (xs ys : List A) → list_all test xs ≡ true → list_all test ys ≡ true → list_all test (xs ++ ys) ≡ true
all-append test [] ys first second = second
all-append test (x ∷ xs) ys first second =
    let here = and_parts (test x) (list_all test xs) first in
    and_from (test x) (list_all test (xs ++ ys)) here.0 (all-append test xs ys here.1 second)

gathered-periods : (zone : Rules) (trees : List Data) (all : List ValidPeriod) → gather (period zone) trees ≡ Ok all → list_all is_period all ≡ true
gathered-periods zone [] all e = of-answer [] all e refl
gathered-periods zone (tree ∷ trees) all e =
    let here = parts-of (period zone tree) all (λ first. gather (period zone) trees >>= λ others. Ok (first ++ others)) e in
    let rest = parts-of (gather (period zone) trees) all (λ others. Ok (here.0 ++ others)) here.2 in
    of-answer (here.0 ++ rest.0) all rest.2
    (all-append is_period here.0 rest.0 (period-found zone tree here.0 here.1) (gathered-periods zone trees rest.0 rest.1))

in-found : (zone : Rules) (trees : List Data) (all : List ValidPeriod) → periods_in zone trees ≡ Ok all → list_all is_period all ≡ true
in-found zone trees all e = by (list_all (start_in_form zone) trees) e
  where
    by : (b : Bool) → (if b then gather (period zone) trees else Err (BadField Member.StartTime)) ≡ Ok all → list_all is_period all ≡ true
    by true e = gathered-periods zone trees all e
    by false e = cc

pub periods-found : (zone : Rules) (tree : Data) (all : List ValidPeriod) → periods zone tree ≡ Ok all → list_all is_period all ≡ true
periods-found zone tree all e =
    let way = parts-of (objects_in Member.ValidityPeriod tree) all (periods_in zone) e in
    in-found zone way.0 all way.2
