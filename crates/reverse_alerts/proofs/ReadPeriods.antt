-- The periods that a situation's tree says are read as they are.
use Rattle.std.proofs.Common.{◌≡◌, ℕ, List, [], ◌∷◌, ◌++◌, map, true, ◌&&◌, ◌||◌, is_some, is_ok, Option, Some, None, Ok, codes, refl, ap, ◌∙◌, ℤ}
use Rattle.std.specs.List.{list_all}
use Rattle.std.proofs.lemmas.Bool.{and_from, and_parts}
use Rattle.gw_base.specs.declared.member.Member.{Member}
use Rattle.service_day.specs.declared.zones.Rules.{Rules}
use Rattle.journey_model.specs.declared.situation.ValidPeriod.{ValidPeriod}
use Rattle.serde_json.specs.Data.{Data}
use Rattle.serde_json.specs.Find.{get}
use Rattle.siri_json.specs.Trees.{object_of}
use Rattle.siri_json.specs.Fields.{optional_member}
use Rattle.siri_json.specs.Forms.{is_object, moment}
use Rattle.siri_situations.specs.Periods.{kept, period, periods, periods_in, seconds, start_in_form}
use Rattle.siri_situations.specs.Steps.{gather}
use Rattle.reverse_alerts.specs.SituationTree.{bound_member, period_tree}
use Rattle.reverse_alerts.proofs.ReadForms.{array_if_any, bound, bound_instant, bound_tree, gather-more, moment-read, objects_in, repeated-read}
use Rattle.reverse_alerts.proofs.Sayable.{is_bound, is_period}

-- the tree of a period
abbrev tree_of : Option ℕ → Option ℕ → Data
tree_of start end = object_of (bound_member (codes "EndTime") end ++ bound_member (codes "StartTime") start)

start-found : (start end : Option ℕ) → get (codes "StartTime") (tree_of start end) ≡ bound_tree start
start-found None None = refl
start-found None (Some end) = refl
start-found (Some start) None = refl
start-found (Some start) (Some end) = refl

end-found : (start end : Option ℕ) → get (codes "EndTime") (tree_of start end) ≡ bound_tree end
end-found None None = refl
end-found None (Some end) = refl
end-found (Some start) None = refl
end-found (Some start) (Some end) = refl

-- it is read as it is
seconds-said : (bound : Option ℕ) → seconds (bound_instant bound) ≡ bound
seconds-said None = refl
seconds-said (Some secs) = refl

kept-said : (start end : Option ℕ) → (is_some start || is_some end) ≡ true → kept start end ≡ record { start = start; end = end } ∷ []
kept-said None None h = cc
kept-said None (Some end) h = refl
kept-said (Some start) end h = refl

period-by : (zone : Rules) (tree : Data) (start end : Option (ℤ × ℕ)) → optional_member (moment zone) Member.StartTime tree ≡ Ok start
    → optional_member (moment zone) Member.EndTime tree ≡ Ok end → period zone tree ≡ Ok (kept (seconds start) (seconds end))
period-by zone tree start end first last = rw (first, last) refl

start-read : (zone : Rules) (one : ValidPeriod) → is_period one ≡ true → optional_member (moment zone) Member.StartTime (period_tree one) ≡ Ok (bound_instant one.start)
start-read zone one h =
    let bounds = and_parts (is_bound one.start) (is_bound one.end) (and_parts (is_some one.start || is_some one.end) (is_bound one.start && is_bound one.end) h).1 in
    moment-read zone Member.StartTime (period_tree one) one.start (start-found one.start one.end) bounds.0

end-read : (zone : Rules) (one : ValidPeriod) → is_period one ≡ true → optional_member (moment zone) Member.EndTime (period_tree one) ≡ Ok (bound_instant one.end)
end-read zone one h =
    let bounds = and_parts (is_bound one.start) (is_bound one.end) (and_parts (is_some one.start || is_some one.end) (is_bound one.start && is_bound one.end) h).1 in
    moment-read zone Member.EndTime (period_tree one) one.end (end-found one.start one.end) bounds.1

period-read : (zone : Rules) (one : ValidPeriod) → is_period one ≡ true → period zone (period_tree one) ≡ Ok (one ∷ [])
period-read zone one h =
    let some = (and_parts (is_some one.start || is_some one.end) (is_bound one.start && is_bound one.end) h).0 in
    let start = seconds-said one.start in
    let end = seconds-said one.end in
    period-by zone (period_tree one) (bound_instant one.start) (bound_instant one.end) (start-read zone one h) (end-read zone one h)
    ∙ (λ i. Ok (kept (start i) (end i)))
    ∙ ap Ok (kept-said one.start one.end some)

all-read : (zone : Rules) (all : List ValidPeriod) → list_all is_period all ≡ true → gather (period zone) (map period_tree all) ≡ Ok all
all-read zone [] h = refl
all-read zone (one ∷ others) h =
    let parts = and_parts (is_period one) (list_all is_period others) h in
    gather-more (period zone) (period_tree one) (map period_tree others) (one ∷ []) others (period-read zone one parts.0) (all-read zone others parts.1)

all-objects : (all : List ValidPeriod) → list_all is_object (map period_tree all) ≡ true
all-objects [] = refl
all-objects (one ∷ others) = all-objects others

all-starts : (zone : Rules) (all : List ValidPeriod) → list_all is_period all ≡ true → list_all (start_in_form zone) (map period_tree all) ≡ true
all-starts zone [] h = refl
all-starts zone (one ∷ others) h =
    let parts = and_parts (is_period one) (list_all is_period others) h in
    and_from (start_in_form zone (period_tree one)) (list_all (start_in_form zone) (map period_tree others))
    (ap is_ok (start-read zone one parts.0)) (all-starts zone others parts.1)

periods-by : (zone : Rules) (tree : Data) (trees : List Data) (all : List ValidPeriod) → objects_in Member.ValidityPeriod tree ≡ Ok trees
    → list_all (start_in_form zone) trees ≡ true → gather (period zone) trees ≡ Ok all → periods zone tree ≡ Ok all
periods-by zone tree trees all found starts read = bound (objects_in Member.ValidityPeriod tree) trees (periods_in zone) found ∙ rw (starts, read) refl

pub periods-read : (zone : Rules) (tree : Data) (all : List ValidPeriod) → get (codes "ValidityPeriod") tree ≡ array_if_any (map period_tree all)
    → list_all is_period all ≡ true → periods zone tree ≡ Ok all
periods-read zone tree all e h =
    periods-by zone tree (map period_tree all) all (repeated-read Member.ValidityPeriod tree (map period_tree all) e (all-objects all))
    (all-starts zone all h) (all-read zone all h)
