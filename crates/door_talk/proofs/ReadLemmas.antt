-- What was read of a connection's input, piece by piece.
use Rattle.std.proofs.Common.{◌≡◌, ◌∙◌, ◌++◌, ◌≤◌, ◌<◌, [], ℕ, ℤ, true, false, inl, inr, Ok, Err, List, Option, Some, None, length, drop, take, ap, sym, refl, subst, arith, length-append}
use Rattle.std.specs.Prelude.{MatchOption, ◌↔◌, nat_le, if◌then◌else◌}
use Rattle.std.proofs.Math.Seq.{take-append_seam}
use Rattle.std.proofs.lemmas.List.{append_assoc}
use Rattle.gw_base.specs.Connections.{Beside, Connections, Takes}
use Rattle.gw_base.specs.declared.kind.Kind.{Kind}
use Rattle.http_talk.specs.Asked.{action_of}
use Rattle.http_talk.specs.declared.target.Action.TheVariants as action
use Rattle.http_talk.specs.declared.target.Resource.{Resource}
use Rattle.http_talk.specs.Request.{Get, IsHead, IsRefused, IsRequest, Post, Refused, headed, too_long}
use Rattle.http_talk.specs.declared.refusal.Refusal.{Refusal}
use Rattle.http_talk.specs.declared.refusal.Refusal.TheVariants as refusal
use Rattle.http_talk.specs.declared.target.Head.{Head}
use Rattle.door_talk.specs.Bodies.{StandsOn}
use Rattle.door_talk.specs.Requests.{HasRead}

-- before the first piece
pub read_nothing : (before : Beside) → HasRead before before []
read_nothing before = (refl, by before.told refl)
  where
    by : (t : Option Connections) → before.told ≡ t → MatchOption t (before.told ≡ None) (λ told. (rest : List ℕ) × (told.unread ≡ [] ++ rest) × (before.told ≡ Some (record { coming = told.coming; input = told.input; unread = rest; log = told.log })))
    by None e = e
    by (Some c) e = (c.unread, refl, e)

-- one piece more
pub takes_on : (a b c : Beside) (x y : List ℕ) → HasRead a b x → Takes b c y → HasRead a c (x ++ y)
takes_on a b c x y h t = (t.0 ∙ h.0, by a.told h.1)
  where
    by : (s : Option Connections)
        → MatchOption s (b.told ≡ None) (λ told. (rest : List ℕ) × (told.unread ≡ x ++ rest) × (b.told ≡ Some (record { coming = told.coming; input = told.input; unread = rest; log = told.log })))
        → MatchOption s (c.told ≡ None) (λ told. (rest : List ℕ) × (told.unread ≡ x ++ y ++ rest) × (c.told ≡ Some (record { coming = told.coming; input = told.input; unread = rest; log = told.log })))
    by None none =
        subst (λ (s : Option Connections). MatchOption s (c.told ≡ None) (λ told. (rest : List ℕ) × (told.unread ≡ y ++ rest) × ((y ≡ []) ↔ (told.unread ≡ [])) × (c.told ≡ Some (record { coming = told.coming; input = told.input; unread = rest; log = told.log })))) none t.1
    by (Some k) (rest, unread, told) =
        let next : (rest' : List ℕ) × (rest ≡ y ++ rest') × ((y ≡ []) ↔ (rest ≡ [])) × (c.told ≡ Some (record { coming = k.coming; input = k.input; unread = rest'; log = k.log })) =
        subst (λ (s : Option Connections). MatchOption s (c.told ≡ None) (λ told. (rest : List ℕ) × (told.unread ≡ y ++ rest) × ((y ≡ []) ↔ (told.unread ≡ [])) × (c.told ≡ Some (record { coming = told.coming; input = told.input; unread = rest; log = told.log })))) told t.1 in
        (next.0, unread ∙ ap (λ (z : List ℕ). x ++ z) next.1 ∙ sym (append_assoc x y next.0), next.3)

-- one piece more, read by a function of its own
pub reads_on : (a b c : Beside) (x y : List ℕ) → HasRead a b x → HasRead b c y → HasRead a c (x ++ y)
reads_on a b c x y h t = (t.0 ∙ h.0, by a.told h.1)
  where
    by : (s : Option Connections)
        → MatchOption s (b.told ≡ None) (λ told. (rest : List ℕ) × (told.unread ≡ x ++ rest) × (b.told ≡ Some (record { coming = told.coming; input = told.input; unread = rest; log = told.log })))
        → MatchOption s (c.told ≡ None) (λ told. (rest : List ℕ) × (told.unread ≡ x ++ y ++ rest) × (c.told ≡ Some (record { coming = told.coming; input = told.input; unread = rest; log = told.log })))
    by None none =
        subst (λ (s : Option Connections). MatchOption s (c.told ≡ None) (λ told. (rest : List ℕ) × (told.unread ≡ y ++ rest) × (c.told ≡ Some (record { coming = told.coming; input = told.input; unread = rest; log = told.log })))) none t.1
    by (Some k) (rest, unread, told) =
        let next : (rest' : List ℕ) × (rest ≡ y ++ rest') × (c.told ≡ Some (record { coming = k.coming; input = k.input; unread = rest'; log = k.log })) =
        subst (λ (s : Option Connections). MatchOption s (c.told ≡ None) (λ told. (rest : List ℕ) × (told.unread ≡ y ++ rest) × (c.told ≡ Some (record { coming = told.coming; input = told.input; unread = rest; log = told.log })))) told t.1 in
        (next.0, unread ∙ ap (λ (z : List ℕ). x ++ z) next.1 ∙ sym (append_assoc x y next.0), next.2)

-- ---- what is asked for

-- a head that is refused
pub refused : (input : List ℕ) (why : Refusal) → IsRefused input why → IsRequest input (Refused why)
refused input why (inl (long, is)) = too_long long (ap Refused is)
refused input why (inr (count, is_head)) = headed count (Err why) is_head refl

-- a GET
pub gets : (input : List ℕ) (count : ℕ) (head : Head) (resource : Resource) → IsHead input count (Ok head) → action_of head.target ≡ action.Get resource
    → IsRequest input (Get resource)
gets input count head resource is_head get = headed count (Ok head) is_head (rw get refl)

whole : (kind : Kind) (size : ℕ) (body rest : List ℕ) → length body ≡ size
    → (if nat_le size (length (body ++ rest)) then Post kind (take size (body ++ rest)) else Refused refusal.Cut) ≡ Post kind body
whole kind size body rest long =
    rw (at size (length (body ++ rest)) (omega (arith, length-append body rest))) (ap (Post kind) (ap (λ (n : ℕ). take n (body ++ rest)) (sym long) ∙ take-append_seam body rest))
  where
    at : (a b : ℕ) → a ≤ b → nat_le a b ≡ true
    at a b h = grind arith

ends : (kind : Kind) (size : ℕ) (body : List ℕ) → length body < size
    → (if nat_le size (length body) then Post kind (take size body) else Refused refusal.Cut) ≡ Refused refusal.Cut
ends kind size body short = rw (at size (length body) short) refl
  where
    at : (a b : ℕ) → b < a → nat_le a b ≡ false
    at a b h = grind arith

-- a POST, whose body is whole, and one whose input ends before
pub posts : (input body rest : List ℕ) (count : ℕ) (head : Head) (kind : Kind) → IsHead input count (Ok head) → action_of head.target ≡ action.Post kind
    → drop count input ≡ body ++ rest → length body ≡ head.length → IsRequest input (Post kind body)
posts input body rest count head kind is_head post after size = headed count (Ok head) is_head (rw (post, after) (sym (whole kind head.length body rest size)))

pub cut : (input body : List ℕ) (count : ℕ) (head : Head) (kind : Kind) → IsHead input count (Ok head) → action_of head.target ≡ action.Post kind
    → drop count input ≡ body → length body < head.length → IsRequest input (Refused refusal.Cut)
cut input body count head kind is_head post after short = headed count (Ok head) is_head (rw (post, after) (sym (ends kind head.length body short)))

-- ---- the end of the input

-- ---- a body that is taken as it arrives

-- one piece more stands with what stood before
pub stands_on : (Before Mid Now : ℤ → Kind → List ℕ → Type 0) (x y : List ℕ) → StandsOn Before Mid x → StandsOn Mid Now y → StandsOn Before Now (x ++ y)
stands_on Before Mid Now x y h t moment kind front before = subst (Now moment kind) (append_assoc front x y) (t moment kind (front ++ x) (h moment kind front before))
