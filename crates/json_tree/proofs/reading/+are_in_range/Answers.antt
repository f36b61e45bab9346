use Rattle.std.proofs.Common.{◌≡◌, ◌∙◌, ◌+◌, ◌∷◌, ◌&&◌, is_some, drop, true, sym, ap}
use Rattle.std.proofs.lemmas.List.{drop_more}
use Rattle.json.specs.Value.{value_view}
use Rattle.serde_json.specs.Read.{of_json}
use Rattle.json_tree.proofs.RangeLemmas.{members_fit, members_fit-more}
use Rattle.json_tree.proofs.reading.+are_in_range.Goals as goal

pub loop-member-preserved : goal.loop-member-preserved
loop-member-preserved t c =
    let i = c.loop-member.member-index in
    let all = c.as_slice-member-items.result.now in
    let one = c.member-item.result in
    let left : drop i all ≡ one ∷ drop (i + 1) all = drop_more all i one c.loop-member-test.true ∙ ap (λ y. y ∷ drop (i + 1) all) (sym c.member-item.is) in
    let fits : is_some (of_json (value_view one.1)) ≡ true = sym c.are_in_range-in-loop-member.ensures ∙ c.if-not-are_in_range-2.false in
    sym (ap members_fit left ∙ members_fit-more one (drop (i + 1) all) ∙ ap (λ b. b && members_fit (drop (i + 1) all)) fits) ∙ c.loop-member.invariant
