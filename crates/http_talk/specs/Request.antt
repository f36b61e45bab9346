-- What a connection's whole input asks for (RFC 9112). It looks at the prefixes of the input, and knows nothing of the
-- pieces in which it comes.
use Rattle.std.specs.Prelude.{◌≡◌, ℕ, ◌≤◌, nat_le, if◌then◌else◌, List, length, take, drop, Result, Ok, Err, ◌⊎◌}
use Rattle.gw_base.specs.declared.kind.Kind.{Kind}
use Rattle.http_talk.specs.declared.target.Action.{Action}
use Rattle.http_talk.specs.declared.target.Action.TheVariants as action
use Rattle.http_talk.specs.declared.target.Resource.{Resource}
use Rattle.http_talk.specs.declared.target.Head.{Head}
use Rattle.http_talk.specs.declared.refusal.Refusal.{Refusal}
use Rattle.http_talk.specs.declared.refusal.Refusal.TheVariants as refusal
use Rattle.http_talk.specs.Ends.{IsHeadLength, IsOpen, IsTooLong, head_limit}
use Rattle.http_talk.specs.Asked.{action_of, IsAnswer}

-- a GET of what is served, a POST of a body of a kind, or a refusal
pub data Request : Type 0 where
  Get : Resource → Request
  Post : Kind → List ℕ → Request
  Refused : Refusal → Request

-- the first so many bytes of the input are its head, which asks for this
pub record IsHead (input : List ℕ) (count : ℕ) (answer : Result Head Refusal) : Type 0 where
  pub shortest : IsHeadLength input count
  pub most : count ≤ head_limit
  pub answers : IsAnswer (take count input) answer

-- the request of an action with what follows its head: the body of a POST is so many bytes, and no more is read
abbrev pub request_of : Action → ℕ → List ℕ → Request
request_of (action.Get resource) size rest = Get resource
request_of (action.Post kind) size rest =
    if nat_le size (length rest) then Post kind (take size rest) else Refused refusal.Cut

-- the request of a head with what follows it
abbrev pub with_body : Result Head Refusal → List ℕ → Request
with_body (Err why) rest = Refused why
with_body (Ok head) rest = request_of (action_of head.target) head.length rest

-- the input asks for this
pub data IsRequest (input : List ℕ) (request : Request) : Type 0 where
  ended : IsOpen input → request ≡ Refused refusal.Head → IsRequest input request
  too_long : IsTooLong input → request ≡ Refused refusal.TooManyFields → IsRequest input request
  headed : (count : ℕ) (answer : Result Head Refusal) → IsHead input count answer
      → request ≡ with_body answer (drop count input) → IsRequest input request

-- the head of the input is refused, whatever follows it
abbrev pub IsRefused : List ℕ → Refusal → Type 0
IsRefused input why = (IsTooLong input × (why ≡ refusal.TooManyFields)) ⊎ ((count : ℕ) × IsHead input count (Err why))
