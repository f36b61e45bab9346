-- A delivery of situations that was written says them when it is read again.
use Rattle.std.proofs.Common.{◌≡◌, List, [], ◌++◌, map, All, append-nil, Ok, refl, ap, ◌∙◌, ℤ, arith}
use Rattle.std.specs.List.{AllByRecursion}
use Rattle.std.proofs.lemmas.List.Elements.{recursion_from_All}
use Rattle.gw_base.specs.Moments.{IsMoment}
use Rattle.gw_base.specs.declared.messages.Entity.{Entity}
use Rattle.timetable.specs.Sound.{IsSound}
use Rattle.timetable.specs.Table.{Table}
use Rattle.gw_base.specs.Chains.{◌>>=◌}
use Rattle.journey_model.specs.Schedules.{Schedule}
use Rattle.journey_model.specs.declared.situation.Situation.{Situation}
use Rattle.siri_json.specs.Trees.{items_of}
use Rattle.siri_json.specs.Forms.{listed}
use Rattle.siri_json.proofs.TreesReadAgain.{is_utf8-compact_text, read-compact_text}
use Rattle.siri_situations.specs.Frame.{items}
use Rattle.siri_situations.specs.Situations.{verdict, verdicts}
use Rattle.reverse_alerts.specs.Again.{SaysAgain, taken_again}
use Rattle.reverse_alerts.specs.Sayable.{HasUtf8}
use Rattle.reverse_alerts.specs.SituationTree.{delivery_text, delivery_tree, situation_tree}
use Rattle.reverse_alerts.specs.Taken.{situations}
use Rattle.reverse_alerts.proofs.FromAlerts.{IsSaid, all-said}
use Rattle.reverse_alerts.proofs.PlainTree.{plain-delivery}
use Rattle.reverse_alerts.proofs.ReadForms.{listed-items}
use Rattle.reverse_alerts.proofs.ReadSituation.{all-read}

-- the way down to the situations
items-said : (table : Table) (moment : ℤ) (all : List Situation) → items (delivery_tree table moment all) ≡ Ok (map (situation_tree table moment) all)
items-said table moment all =
    let trees = map (situation_tree table moment) all in
    let way : items (delivery_tree table moment all) ≡ Ok (listed (items_of trees) ++ []) = refl in
    way ∙ ap Ok (append-nil (listed (items_of trees)) ∙ listed-items trees)

verdicts-said : (schedule : Schedule) (moment : ℤ) (all : List Situation) → IsSound schedule.table → AllByRecursion (IsSaid schedule.table) all
    → verdicts schedule (delivery_tree schedule.table moment all) ≡ Ok (map taken_again all)
verdicts-said schedule moment all sound h =
    ap (λ found. found >>= λ trees. Ok (map (verdict schedule) trees)) (items-said schedule.table moment all)
    ∙ ap Ok (all-read schedule moment all sound h)

-- situations that can be said
said : (schedule : Schedule) (moment : ℤ) (all : List Situation) → IsSound schedule.table → IsMoment moment → AllByRecursion (IsSaid schedule.table) all
    → AllByRecursion HasUtf8 all → SaysAgain schedule all (delivery_text schedule.table moment all)
said schedule moment all sound at h utf8 =
    let tree = delivery_tree schedule.table moment all in
    let plain = plain-delivery schedule.table moment all sound at h utf8 in
    record {
      tree = tree;
      is_tree = rw (is_utf8-compact_text 14 tree plain) (read-compact_text 14 tree (omega arith) plain);
      again = verdicts-said schedule moment all sound h;
    }

-- those that the alerts of a feed become, where their texts are UTF-8
pub says_again : (schedule : Schedule) (moment : ℤ) (entities : List Entity) → IsSound schedule.table → IsMoment moment
    → All HasUtf8 (situations schedule.table entities)
    → SaysAgain schedule (situations schedule.table entities) (delivery_text schedule.table moment (situations schedule.table entities))
says_again schedule moment entities sound at utf8 =
    let all = situations schedule.table entities in
    said schedule moment all sound at (all-said schedule.table entities) (recursion_from_All HasUtf8 all utf8)
