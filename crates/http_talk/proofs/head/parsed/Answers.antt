-- The parser finds each head of the grammar that has at most 64 fields, and a head with few enough lines has no more.
use Rattle.std.proofs.Common.{◌≡◌, ℕ, ◌≤◌, List, [], length, take, drop, map, Result, refl, sym, ◌∙◌, subst, arith, append-nil}
use Rattle.httparse.specs.Grammar.{ReadsRequest}
use Rattle.httparse.specs.Spans.{RequestOverflows, IsRequestOf, span_bytes, header_bytes}
use Rattle.httparse.specs.declared.spans.HeaderSpan.{HeaderSpan}
use Rattle.httparse.specs.declared.spans.RequestSpans.{RequestSpans}
use Rattle.http_talk.specs.declared.target.Head.{Head}
use Rattle.http_talk.specs.declared.refusal.Refusal.{Refusal}
use Rattle.http_talk.specs.Asked as asked
use Rattle.http_talk.specs.Ends.{IsHeadLength, line_count}
use Rattle.http_talk.proofs.Heads.{lines_of_head, nothing_follows}
use Rattle.http_talk.proofs.head.parsed.Goals as goal

no_head : (bytes : List ℕ) → line_count bytes ≤ 66 → RequestOverflows 64 bytes → asked.IsNoHead bytes
no_head bytes few over h reads =
    omega (arith, over [] h [] (subst (λ v. ReadsRequest v h []) (sym (append-nil bytes)) reads), lines_of_head bytes h [] reads)

same : {a b c d : List ℕ} {x y : List (List ℕ × List ℕ)} → a ≡ b → c ≡ d → x ≡ y → asked.asked a c x ≡ asked.asked b d y
same p q r = λ i. asked.asked (p i) (q i) (r i)

answered : (bytes : List ℕ) (headers : List HeaderSpan) (spans : RequestSpans) (method target : List ℕ) (answer : Result Head Refusal)
    → line_count bytes ≤ 66 → IsHeadLength bytes (length bytes) → IsRequestOf bytes headers spans
    → method ≡ span_bytes bytes spans.method → target ≡ span_bytes bytes spans.path
    → answer ≡ asked.asked method target (map (header_bytes bytes) (take spans.headers headers))
    → asked.IsAnswer bytes answer
answered bytes headers spans method target answer few whole found methods targets is =
    let h = found.0 in
    let at = found.1 in
    asked.asks few h
    (subst (λ v. ReadsRequest bytes h v) (nothing_follows bytes h (drop spans.len bytes) whole at.reads) at.reads)
    (is ∙ same (methods ∙ at.method) (targets ∙ at.path) at.fields)

pub returns-in-Err : goal.returns-in-Err
returns-in-Err c = λ few. asked.no_head few (no_head c.args.bytes.now few c.in-Err.ensures.no_room) refl

pub returns-in-Ok-Complete : goal.returns-in-Ok-Complete
returns-in-Ok-Complete c = λ few.
    answered c.args.bytes.now c.parse_request.new.headers c.in-Ok-Complete.spans c.of.result.now c.of-in-Ok-Complete.result.now c.asked.result
    few c.requires (rw c.in-Ok-Complete.field-0-is at c.in-Ok-Complete.ensures.complete) c.of.ensures
    c.of-in-Ok-Complete.ensures c.asked.ensures
