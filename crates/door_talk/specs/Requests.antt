-- What a connection asks for, as far as its input was read (RFC 9112).
use Rattle.std.specs.Prelude.{◌≡◌, ◌≤◌, ◌+◌, ◌++◌, ◌⊎◌, ℕ, ⊤, List, [], drop, take, length, Some, None, IfSome, MatchOption, Ok}
use Rattle.gw_base.specs.Connections.{Beside}
use Rattle.gw_base.specs.Limits.{body_limit}
use Rattle.gw_base.specs.declared.kind.Kind.{Kind}
use Rattle.http_talk.specs.Asked.{action_of}
use Rattle.http_talk.specs.Ends.{head_limit}
use Rattle.http_talk.specs.Request.{IsHead, IsRequest}
use Rattle.http_talk.specs.Request as request
use Rattle.http_talk.specs.declared.target.Head.{Head}
use Rattle.http_talk.specs.declared.target.Action.TheVariants as action
use Rattle.door_talk.specs.declared.asked.Asked.{Asked}
use Rattle.door_talk.specs.declared.asked.Asked.TheVariants as asked
use Rattle.door_talk.specs.declared.heads.HeadRead.{HeadRead}
use Rattle.door_talk.specs.declared.heads.HeadRead.TheVariants as heads

-- these bytes of the present connection's input were read, and nothing else changed
abbrev pub HasRead : Beside → Beside → List ℕ → Type 0
HasRead before now bytes =
    (now.present ≡ before.present)
    × MatchOption before.told (now.told ≡ None) (λ told. (rest : List ℕ) × (told.unread ≡ bytes ++ rest)
    × (now.told ≡ Some (record { coming = told.coming; input = told.input; unread = rest; log = told.log })))

-- these bytes are the head of a POST and no more after it than its body, which has at most 16,777,216 bytes
abbrev pub IsWithinPost : List ℕ → Type 0
IsWithinPost bytes =
    (count : ℕ) × (head : Head) × (kind : Kind) × IsHead bytes count (Ok head)
    × (action_of head.target ≡ action.Post kind) × (length bytes ≤ count + head.length) × (head.length ≤ body_limit)

-- so much may be read for a request: what a head may have, or the head of a POST and its body
abbrev pub IsWithin : List ℕ → Type 0
IsWithin bytes = (length bytes ≤ head_limit) ⊎ IsWithinPost bytes

-- the present connection's input is at its end
abbrev pub IsEnded : Beside → Type 0
IsEnded now = IfSome now.told (λ told. told.unread ≡ [])

-- the head of an input, of which these bytes were read, ends at `from` of the piece that came last; or the request is
-- refused by its head
abbrev pub ReadsHead : Beside → List ℕ → List ℕ → HeadRead → Type 0
ReadsHead now bytes piece (heads.Ended head from to) =
    (from ≤ to) × (to ≤ length piece)
    × (count : ℕ) × ((more : List ℕ) → IsHead (bytes ++ more) count (Ok head))
    × (drop count bytes ≡ drop from (take to piece)) × (count ≤ length bytes)
ReadsHead now bytes piece (heads.Refused why) = (more : List ℕ) → IsRequest (bytes ++ more) (request.Refused why)
ReadsHead now bytes piece (heads.Cut why) = IsEnded now × IsRequest bytes (request.Refused why)

-- an input asks for this; what took the body of a POST stands for it
abbrev pub AsksFor : (Kind → List ℕ → Type 0) → List ℕ → Asked → Type 0
AsksFor Stands input (asked.Get resource) = IsRequest input (request.Get resource)
AsksFor Stands input (asked.Post kind) =
    (body : List ℕ) × IsRequest input (request.Post kind body) × Stands kind body
AsksFor Stands input (asked.Refused why) = IsRequest input (request.Refused why)
AsksFor Stands input asked.NoRoom =
    (count : ℕ) × (head : Head) × (kind : Kind) × IsHead input count (Ok head)
    × (action_of head.target ≡ action.Post kind)
AsksFor Stands input asked.Lost = ⊤

-- of a POST, what took its body stands for some
abbrev pub IsPosted : (Kind → List ℕ → Type 0) → Asked → Type 0
IsPosted Stands (asked.Get resource) = ⊤
IsPosted Stands (asked.Post kind) = (body : List ℕ) × Stands kind body
IsPosted Stands (asked.Refused why) = ⊤
IsPosted Stands asked.NoRoom = ⊤
IsPosted Stands asked.Lost = ⊤
