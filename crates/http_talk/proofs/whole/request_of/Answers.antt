-- The head is the input's, and what follows it is the rest.
use Rattle.std.proofs.Common.{◌≡◌, ℕ, ◌≤◌, List, take, drop, Result, Ok, Err, refl, ap, ◌∙◌, subst}
use Rattle.http_talk.specs.declared.target.Head.{Head}
use Rattle.http_talk.specs.declared.refusal.Refusal.{Refusal}
use Rattle.http_talk.specs.Asked.{IsAnswer}
use Rattle.http_talk.specs.Ends.{IsHeadLength}
use Rattle.http_talk.specs.Request.{Request, IsRequest, headed, with_body}
use Rattle.http_talk.proofs.whole.request_of.Goals as goal

headed_by : (input front rest : List ℕ) (count : ℕ) (answer : Result Head Refusal) (request : Request)
    → IsHeadLength input count × (count ≤ 16384) → IsAnswer front answer → front ≡ take count input → rest ≡ drop count input
    → request ≡ with_body answer rest → IsRequest input request
headed_by input front rest count answer request is answers fronts rests same =
    headed count answer
    (record { shortest = is.0; most = is.1; answers = subst (λ v. IsAnswer v answer) fronts answers })
    (same ∙ ap (with_body answer) rests)

pub returns-in-Ok : goal.returns-in-Ok
returns-in-Ok c =
    headed_by c.args.input.now c.split_at.result.0.now c.split_at.result.1.now c.in-Some.count (Ok c.in-Ok.head) _ c.in-Some.ensures c.in-Ok.ensures
    c.split_at.ensures.front c.split_at.ensures.back c.with_rest.ensures

pub returns-in-Err : goal.returns-in-Err
returns-in-Err c =
    headed_by c.args.input.now c.split_at.result.0.now c.split_at.result.1.now c.in-Some.count (Err c.in-Err.why) _ c.in-Some.ensures
    c.in-Err.ensures c.split_at.ensures.front c.split_at.ensures.back refl
