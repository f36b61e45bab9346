-- What a connection asks for, by what was read of its input.
use Rattle.std.proofs.Common.{◌≡◌, ◌∙◌, ◌++◌, ◌≤◌, ◌<◌, [], ℕ, Bool, true, false, List, Option, Some, None, Ok, length, drop, take, ap, sym, refl, subst, arith, length-append, append-nil}
use Rattle.std.specs.Prelude.{IfSome, MatchOption, min, nat_le}
use Rattle.std.proofs.Math.Seq.{take-length}
use Rattle.std.proofs.lemmas.List.{append_assoc, drop-append-le, length-take-le, nil_from_length, take-append-drop}
use Rattle.gw_base.specs.Connections.{Beside, Connections}
use Rattle.gw_base.specs.declared.kind.Kind.{Kind}
use Rattle.http_talk.specs.Asked.{action_of}
use Rattle.http_talk.specs.declared.target.Action.TheVariants as action
use Rattle.http_talk.specs.declared.target.Resource.{Resource}
use Rattle.http_talk.specs.Request.{Get, IsHead, IsRequest, Post, Refused}
use Rattle.http_talk.specs.declared.refusal.Refusal.{Refusal}
use Rattle.http_talk.specs.declared.refusal.Refusal.TheVariants as refusal
use Rattle.http_talk.specs.declared.target.Head.{Head}
use Rattle.door_talk.specs.Requests.{AsksFor, HasRead, IsEnded}
use Rattle.door_talk.specs.declared.asked.Asked.{Asked}
use Rattle.door_talk.specs.declared.asked.Asked.TheVariants as asked
use Rattle.door_talk.proofs.ReadLemmas.{cut, gets, posts}

abbrev Read : Option Connections → Beside → List ℕ → Type 0
Read told now bytes =
    MatchOption told (now.told ≡ None) (λ told. (rest : List ℕ) × (told.unread ≡ bytes ++ rest)
    × (now.told ≡ Some (record { coming = told.coming; input = told.input; unread = rest; log = told.log })))

-- a GET
pub asks_get : (before now : Beside) (bytes : List ℕ) (count : ℕ) (head : Head) (resource : Resource) → HasRead before now bytes
    → ((more : List ℕ) → IsHead (bytes ++ more) count (Ok head)) → action_of head.target ≡ action.Get resource
    → IfSome before.told (λ told. IsRequest told.unread (Get resource))
asks_get before now bytes count head resource h is_head get = by before.told h.1
  where
    by : (t : Option Connections) → Read t now bytes → IfSome t (λ told. IsRequest told.unread (Get resource))
    by None e = tt
    by (Some k) (rest, unread, told) = subst (λ (z : List ℕ). IsRequest z (Get resource)) (sym unread) (gets (bytes ++ rest) count head resource (is_head rest) get)

-- a refusal by the head
pub asks_refused : (before now : Beside) (bytes : List ℕ) (why : Refusal) → HasRead before now bytes
    → ((more : List ℕ) → IsRequest (bytes ++ more) (Refused why)) → IfSome before.told (λ told. IsRequest told.unread (Refused why))
asks_refused before now bytes why h is = by before.told h.1
  where
    by : (t : Option Connections) → Read t now bytes → IfSome t (λ told. IsRequest told.unread (Refused why))
    by None e = tt
    by (Some k) (rest, unread, told) = subst (λ (z : List ℕ). IsRequest z (Refused why)) (sym unread) (is rest)

-- a refusal where the input ended
pub asks_cut : (before now : Beside) (bytes : List ℕ) (why : Refusal) → HasRead before now bytes → IsEnded now
    → IsRequest bytes (Refused why) → IfSome before.told (λ told. IsRequest told.unread (Refused why))
asks_cut before now bytes why h end is = by before.told h.1
  where
    by : (t : Option Connections) → Read t now bytes → IfSome t (λ told. IsRequest told.unread (Refused why))
    by None e = tt
    by (Some k) (rest, unread, told) =
        let none : rest ≡ [] = subst (λ (s : Option Connections). IfSome s (λ t. t.unread ≡ [])) told end in
        subst (λ (z : List ℕ). IsRequest z (Refused why)) (sym (unread ∙ ap (λ (z : List ℕ). bytes ++ z) none ∙ append-nil bytes)) is

-- what is asked for after a head
pub asks_after : (Stands : Kind → List ℕ → Type 0) (before now : Beside) (bytes part : List ℕ) (count : ℕ) (head : Head) (asked : Asked) → HasRead before now bytes
    → ((more : List ℕ) → IsHead (bytes ++ more) count (Ok head)) → drop count bytes ≡ part → count ≤ length bytes
    → IfSome now.told (λ told. (input : List ℕ) (count : ℕ) → IsHead input count (Ok head) → drop count input ≡ part ++ told.unread → AsksFor Stands input asked)
    → IfSome before.told (λ told. AsksFor Stands told.unread asked)
asks_after Stands before now bytes part count head asked h is_head after within asks = by before.told h.1
  where
    by : (t : Option Connections) → Read t now bytes → IfSome t (λ told. AsksFor Stands told.unread asked)
    by None e = tt
    by (Some k) (rest, unread, told) =
        subst (λ (z : List ℕ). AsksFor Stands z asked) (sym unread)
        (subst (λ (s : Option Connections). IfSome s (λ told. (input : List ℕ) (count : ℕ) → IsHead input count (Ok head) → drop count input ≡ part ++ told.unread → AsksFor Stands input asked)) told asks
        (bytes ++ rest) count (is_head rest) (drop-append-le count bytes rest within ∙ ap (λ (z : List ℕ). z ++ rest) after))

-- a body of which a prefix came with the head
pub asks_post : (before now : Beside) (bytes part front body : List ℕ) (head : Head) (kind : Kind) → HasRead before now bytes → action_of head.target ≡ action.Post kind
    → front ≡ take (min head.length (length part)) part → body ≡ front ++ bytes → length body ≡ head.length
    → IfSome before.told (λ told. (input : List ℕ) (count : ℕ) → IsHead input count (Ok head) → drop count input ≡ part ++ told.unread → IsRequest input (Post kind body))
asks_post before now bytes part front body head kind h post front_is body_is size = by before.told h.1
  where
    short : (a b : ℕ) → nat_le a b ≡ true → min a b ≡ a
    short a b e = grind arith

    long : (a b : ℕ) → nat_le a b ≡ false → min a b ≡ b
    long a b e = grind arith

    le : (a b : ℕ) → nat_le a b ≡ true → a ≤ b
    le a b e = grind arith

    more : (unread rest : List ℕ) → unread ≡ bytes ++ rest → (c : Bool) → nat_le head.length (length part) ≡ c → (left : List ℕ) × (part ++ unread ≡ body ++ left)
    more unread rest is true e =
        let all : front ≡ take head.length part = front_is ∙ ap (λ (n : ℕ). take n part) (short head.length (length part) e) in
        let none : bytes ≡ [] = nil_from_length bytes (omega (arith, size, ap length body_is, length-append front bytes, ap length all, length-take-le head.length part (le head.length (length part) e))) in
        let is_front : body ≡ take head.length part = body_is ∙ ap (λ (z : List ℕ). front ++ z) none ∙ append-nil front ∙ all in (
          drop head.length part ++ unread,
          ap (λ (z : List ℕ). z ++ unread) (sym (take-append-drop head.length part)) ∙ append_assoc (take head.length part) (drop head.length part) unread ∙ ap (λ (z : List ℕ). z ++ (drop head.length part ++ unread)) (sym is_front),
        )
    more unread rest is false e =
        let all : front ≡ part = front_is ∙ ap (λ (n : ℕ). take n part) (long head.length (length part) e) ∙ take-length part in (
          rest,
          ap (λ (z : List ℕ). part ++ z) is ∙ sym (append_assoc part bytes rest) ∙ ap (λ (z : List ℕ). z ++ rest) (ap (λ (z : List ℕ). z ++ bytes) (sym all) ∙ sym body_is),
        )

    by : (t : Option Connections) → Read t now bytes
        → IfSome t (λ told. (input : List ℕ) (count : ℕ) → IsHead input count (Ok head) → drop count input ≡ part ++ told.unread → IsRequest input (Post kind body))
    by None e = tt
    by (Some k) (rest, unread, told) =
        λ input count is_head after.
        let left : (left : List ℕ) × (part ++ k.unread ≡ body ++ left) = more k.unread rest unread (nat_le head.length (length part)) refl in
        posts input body left.0 count head kind is_head post (after ∙ left.1) size

-- a body that isn't whole
pub asks_less : (before now : Beside) (bytes part front : List ℕ) (head : Head) (kind : Kind) → HasRead before now bytes → action_of head.target ≡ action.Post kind
    → front ≡ take (min head.length (length part)) part → IsEnded now → length (front ++ bytes) < head.length
    → IfSome before.told (λ told. (input : List ℕ) (count : ℕ) → IsHead input count (Ok head) → drop count input ≡ part ++ told.unread → IsRequest input (Refused refusal.Cut))
asks_less before now bytes part front head kind h post front_is end less = by before.told h.1
  where
    cases : (c : Bool) → nat_le head.length (length part) ≡ c → front ≡ part
    cases true e =
        let all : front ≡ take head.length part = front_is ∙ ap (λ (n : ℕ). take n part) (short head.length (length part) e) in
        absurd (none (omega (arith, less, length-append front bytes, ap length all, length-take-le head.length part (le head.length (length part) e))))
      where
        short : (a b : ℕ) → nat_le a b ≡ true → min a b ≡ a
        short a b e = grind arith

        le : (a b : ℕ) → nat_le a b ≡ true → a ≤ b
        le a b e = grind arith

        none : head.length < head.length → ⊥
        none h = omega arith
    cases false e = front_is ∙ ap (λ (n : ℕ). take n part) (long head.length (length part) e) ∙ take-length part
      where
        long : (a b : ℕ) → nat_le a b ≡ false → min a b ≡ b
        long a b e = grind arith

    by : (t : Option Connections) → Read t now bytes
        → IfSome t (λ told. (input : List ℕ) (count : ℕ) → IsHead input count (Ok head) → drop count input ≡ part ++ told.unread → IsRequest input (Refused refusal.Cut))
    by None e = tt
    by (Some k) (rest, unread, told) =
        λ input count is_head after.
        let none : rest ≡ [] = subst (λ (s : Option Connections). IfSome s (λ t. t.unread ≡ [])) told end in
        cut input (front ++ bytes) count head kind is_head post
        (after ∙ ap (λ (z : List ℕ). part ++ z) (unread ∙ ap (λ (z : List ℕ). bytes ++ z) none ∙ append-nil bytes) ∙ ap (λ (z : List ℕ). z ++ bytes) (sym (cases (nat_le head.length (length part)) refl))) less

-- what took the body of a POST stands for it
pub asks_taken : (Stands : Kind → List ℕ → Type 0) (told : Option Connections) (part body : List ℕ) (head : Head) (kind : Kind) → Stands kind body
    → IfSome told (λ told. (input : List ℕ) (count : ℕ) → IsHead input count (Ok head) → drop count input ≡ part ++ told.unread → IsRequest input (Post kind body))
    → IfSome told (λ told. (input : List ℕ) (count : ℕ) → IsHead input count (Ok head) → drop count input ≡ part ++ told.unread → AsksFor Stands input (asked.Post kind))
asks_taken Stands None part body head kind stands h = tt
asks_taken Stands (Some told) part body head kind stands h = λ input count is_head after. (body, h input count is_head after, stands)
