-- What a read takes from a door in memory.
use Rattle.std.proofs.Common.{◌≡◌, ◌<◌, ◌++◌, ◌∙◌, ℕ, List, [], min, Some, length, take, drop, ap, sym, arith}
use Rattle.std.proofs.lemmas.List.{take-append-drop, length-take-le, nil_from_length}
use Rattle.std.proofs.Math.Seq.{take-nil}
use Rattle.gw_base.specs.Connections.{Takes}
use Rattle.gw_base.specs.DoorInMemory.{DoorInMemory, shown_beside}

-- a prefix of some of the bytes that are left is empty only where none are left
pub empty-front : (unread : List ℕ) (limit n : ℕ) → 0 < limit → n ≡ min limit (length unread) →
    take n unread ≡ [] → unread ≡ []
empty-front unread limit n pos is none =
    let all : length (take n unread) ≡ n = length-take-le n unread (omega arith) in
    let zero_long : length (take n unread) ≡ 0 = ap (λ (front : List ℕ). length front) none in
    nil_from_length unread (omega arith)

-- a read of some bytes takes a prefix of what is left, which is empty exactly at the end
pub takes-front : (old new : DoorInMemory) (limit n : ℕ) (piece : List ℕ)
    → new.present ≡ old.present
    → new.connections ≡ record old.connections { unread = drop n old.connections.unread }
    → 0 < limit
    → n ≡ min limit (length old.connections.unread)
    → piece ≡ take n old.connections.unread
    → Takes (shown_beside old) (shown_beside new) piece
takes-front old new limit n piece present left pos is same =
    let unread = old.connections.unread in
    let whole : unread ≡ piece ++ drop n unread =
    sym (take-append-drop n unread) ∙ ap (λ (front : List ℕ). front ++ drop n unread) (sym same) in
    let to : piece ≡ [] → unread ≡ [] = λ none. empty-front unread limit n pos is (sym same ∙ none) in
    let from : unread ≡ [] → piece ≡ [] =
    λ none. same ∙ ap (λ (bytes : List ℕ). take n bytes) none ∙ take-nil n in
    (present, (drop n unread, whole, (to, from), ap Some left))
