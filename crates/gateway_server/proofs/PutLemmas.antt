-- An answer is its head and then its body.
use Rattle.std.proofs.Common.{◌≡◌, ◌∙◌, ◌≤◌, ℕ, List, Option, length, ap, subst}
use Rattle.gw_base.specs.Count.{Rose}
use Rattle.gw_base.specs.Told.{PutsUnless, with_bytes}
use Rattle.gw_base.proofs.CountLemmas.{rose-after}
use Rattle.gw_base.proofs.ToldLemmas.{puts_front, puts_more, puts_wider}
use Rattle.http_talk.specs.Answers.{answer_head}
use Rattle.http_talk.specs.declared.answer.Answer.{Answer}
use Rattle.http_talk.specs.Texts.{refusal_text}
use Rattle.http_talk.specs.declared.answer.Answer.TheVariants as answer
use Rattle.http_talk.specs.declared.refusal.Refusal.{Refusal}
use Rattle.gateway_server.specs.Answers.{answer_of, refused_with}

-- the head failed
pub puts_head : (P : Type 0) (before now : Option (List ℕ)) (kind : Answer) (head body : List ℕ) (size : ℕ)
    → head ≡ answer_head kind size → size ≡ length body
    → P → PutsUnless P before now head → PutsUnless P before now (answer_of kind body)
unfolding answer_of
puts_head P before now kind head body size is_head is_size cause puts =
    puts_front P before now (answer_head kind (length body)) body cause
    (subst (PutsUnless P before now) (is_head ∙ ap (answer_head kind) is_size) puts)

-- the head was put, and the body or a prefix of it
pub puts_both : (f g h : ℕ) (before mid now : Option (List ℕ)) (kind : Answer) (head body : List ℕ) (size : ℕ)
    → head ≡ answer_head kind size → size ≡ length body → mid ≡ with_bytes before head → f ≤ g
    → PutsUnless (Rose g h) mid now body → PutsUnless (Rose f h) before now (answer_of kind body)
unfolding answer_of
puts_both f g h before mid now kind head body size is_head is_size whole le puts =
    puts_more (Rose f h) before mid now (answer_head kind (length body)) body
    (whole ∙ ap (with_bytes before) (is_head ∙ ap (answer_head kind) is_size))
    (puts_wider (Rose g h) (Rose f h) mid now body (rose-after f g h le) puts)

-- a refusal is an answer
pub puts_refusal : (P : Type 0) (before now : Option (List ℕ)) (why : Refusal) (text : List ℕ) → text ≡ refusal_text why
    → PutsUnless P before now (answer_of (answer.Refused why) text) → PutsUnless P before now (refused_with why)
unfolding refused_with
puts_refusal P before now why text is puts = subst (λ (t : List ℕ). PutsUnless P before now (answer_of (answer.Refused why) t)) is puts
