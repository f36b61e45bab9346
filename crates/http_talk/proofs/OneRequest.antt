-- An input has one head, which asks for one thing.
use Rattle.std.proofs.Common.{◌≡◌, ℕ, true, false, List, [], take, drop, Result, ap, sym, ◌∙◌, subst, arith, inl, inr}
use Rattle.std.proofs.lemmas.Bool.{cases_lt}
use Rattle.httparse.proofs.GrammarLemmas.{request_unique}
use Rattle.http_talk.specs.declared.target.Head.{Head}
use Rattle.http_talk.specs.declared.refusal.Refusal.{Refusal}
use Rattle.http_talk.specs.Asked.{asked_by, IsAnswer, many_lines, no_head, asks}
use Rattle.http_talk.specs.Ends.{ends_head, IsHeadLength, HasNoEnd}
use Rattle.http_talk.specs.Request.{Request, IsHead, with_body, IsRequest, ended, too_long, headed}

not_both : (bytes : List ℕ) → ends_head bytes ≡ true → ends_head bytes ≡ false → ⊥
not_both bytes holds fails = cc (holds, fails)

one_length : (input : List ℕ) (a b : ℕ) → IsHeadLength input a → IsHeadLength input b → a ≡ b
one_length input a b p q =
    elim (cases_lt a b) as (λ _. a ≡ b) [
      | inl less ↦ absurd (not_both (take a input) p.ends (q.shortest a less))
      | inr more ↦ elim (cases_lt b a) as (λ _. a ≡ b) [
        | inl less ↦ absurd (not_both (take b input) q.ends (p.shortest b less))
        | inr same ↦ omega arith
      ]
    ]

one_answer : (bytes : List ℕ) (a b : Result Head Refusal) → IsAnswer bytes a → IsAnswer bytes b → a ≡ b
one_answer bytes a b (many_lines m p) (many_lines n q) = p ∙ sym q
one_answer bytes a b (many_lines m p) (no_head n none q) = absurd (omega arith)
one_answer bytes a b (many_lines m p) (asks n h reads q) = absurd (omega arith)
one_answer bytes a b (no_head m none p) (many_lines n q) = absurd (omega arith)
one_answer bytes a b (no_head m none p) (no_head n others q) = p ∙ sym q
one_answer bytes a b (no_head m none p) (asks n h reads q) = absurd (none h reads)
one_answer bytes a b (asks m h reads p) (many_lines n q) = absurd (omega arith)
one_answer bytes a b (asks m h reads p) (no_head n none q) = absurd (none h reads)
one_answer bytes a b (asks m h reads p) (asks n k others q) =
    p ∙ ap asked_by (request_unique bytes h k [] [] reads others).0 ∙ sym q

no_head_and_none : (input : List ℕ) (count : ℕ) (answer : Result Head Refusal) → IsHead input count answer → HasNoEnd input → ⊥
no_head_and_none input count answer head none = not_both (take count input) head.shortest.ends (none count head.most)

pub one_request : (input : List ℕ) (a b : Request) → IsRequest input a → IsRequest input b → a ≡ b
one_request input a b (ended o p) (ended q r) = p ∙ sym r
one_request input a b (ended o p) (too_long q r) = absurd (omega (arith, o.short, q.long))
one_request input a b (ended o p) (headed count answer head r) = absurd (no_head_and_none input count answer head o.none)
one_request input a b (too_long o p) (ended q r) = absurd (omega (arith, o.long, q.short))
one_request input a b (too_long o p) (too_long q r) = p ∙ sym r
one_request input a b (too_long o p) (headed count answer head r) = absurd (no_head_and_none input count answer head o.none)
one_request input a b (headed count answer head p) (ended q r) = absurd (no_head_and_none input count answer head q.none)
one_request input a b (headed count answer head p) (too_long q r) = absurd (no_head_and_none input count answer head q.none)
one_request input a b (headed count answer head p) (headed other told tail r) =
    let same : count ≡ other = one_length input count other head.shortest tail.shortest in
    let answers : answer ≡ told =
    one_answer (take other input) answer told (subst (λ n. IsAnswer (take n input) answer) same head.answers) tail.answers in
    p ∙ (λ i. with_body (answers i) (drop (same i) input)) ∙ sym r
