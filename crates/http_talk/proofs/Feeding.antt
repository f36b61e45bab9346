-- What the scan over a piece says of each input that begins with the bytes so far.
use Rattle.std.proofs.Common.{◌≡◌, ◌≢◌, ℕ, ◌+◌, ◌-◌, ◌<◌, ◌≤◌, min, true, false, List, [], ◌++◌, length, take, drop, Result, Ok, Err, refl, ap, sym, ◌∙◌, subst, arith, append_assoc, inl, inr}
use Rattle.std.proofs.Math.Seq.{take-length}
use Rattle.std.proofs.lemmas.List.{take-append-drop, length-take}
use Rattle.http_talk.specs.declared.place.Place.{Place}
use Rattle.http_talk.specs.declared.place.Scan.TheVariants.{Open, Ended}
use Rattle.http_talk.specs.declared.refusal.Refusal.{Refusal}
use Rattle.http_talk.specs.declared.refusal.Refusal.TheVariants.{TooManyFields}
use Rattle.http_talk.specs.declared.target.Head.{Head}
use Rattle.http_talk.specs.Asked.{IsAnswer}
use Rattle.http_talk.specs.Ends.{ends_head, IsHeadLength, IsOpen, IsTooLong}
use Rattle.http_talk.specs.Places.{ScanMeans}
use Rattle.http_talk.specs.Request.{IsHead, IsRefused}
use Rattle.http_talk.specs.Reading.{IsReader, Feeds, held_after, fed_of}
use Rattle.http_talk.proofs.Fronts.{front_is, is_head_length, head_alone, still_open, too_long}

-- bytes that may become a head end none
pub calm : (held : List ℕ) → IsOpen held → ends_head held ≡ false
calm held opens = subst (λ v. ends_head v ≡ false) (take-length held) (opens.none (length held) (omega (arith, opens.short)))

-- the bytes seen are those of the piece for which a head has room
pub record IsSeen (held piece seen : List ℕ) (room : ℕ) : Type 0 where
  pub room_is : room ≡ 16384 - length held
  pub seen_is : seen ≡ take (min room (length piece)) piece

seen_length : (held piece seen : List ℕ) (room : ℕ) → IsSeen held piece seen room → length seen ≡ min room (length piece)
seen_length held piece seen room is =
    let e : length seen ≡ length (take (min room (length piece)) piece) = ap length is.seen_is in
    omega (arith, e, length-take (min room (length piece)) piece)

whole_piece : (held piece seen : List ℕ) (room : ℕ) → IsSeen held piece seen room → length seen ≢ room → seen ≡ piece
whole_piece held piece seen room is fewer =
    is.seen_is ∙ ap (λ n. take n piece) (all (seen_length held piece seen room is)) ∙ take-length piece
  where
    all : length seen ≡ min room (length piece) → min room (length piece) ≡ length piece
    all e = omega arith

-- the piece is the bytes seen and those after them
seen_first : (held piece seen : List ℕ) (room : ℕ) → IsSeen held piece seen room
    → piece ≡ seen ++ drop (min room (length piece)) piece
seen_first held piece seen room is =
    sym (take-append-drop (min room (length piece)) piece) ∙ ap (λ v. v ++ drop (min room (length piece)) piece) (sym is.seen_is)

input_is : (held piece seen : List ℕ) (room : ℕ) → IsSeen held piece seen room → (more : List ℕ)
    → held ++ (seen ++ (drop (min room (length piece)) piece ++ more)) ≡ held ++ piece ++ more
input_is held piece seen room is more =
    let later = drop (min room (length piece)) piece in
    ap (λ v. held ++ v) (sym (append_assoc seen later more) ∙ ap (λ v. v ++ more) (sym (seen_first held piece seen room is)))
    ∙ sym (append_assoc held piece more)

pub more_says : (held piece seen : List ℕ) (room : ℕ) (place : Place) → IsOpen held → IsSeen held piece seen room
    → length seen ≢ room → ScanMeans held 0 seen (Open place) → IsOpen (held ++ piece)
more_says held piece seen room place opens is fewer means =
    subst (λ v. IsOpen (held ++ v)) (whole_piece held piece seen room is fewer)
    (still_open held seen opens.none means.0 (omega (arith, opens.short, is.room_is, seen_length held piece seen room is)))

pub reader_is : (held piece seen : List ℕ) (room capacity : ℕ) (place : Place) → IsOpen held → IsSeen held piece seen room
    → length seen ≢ room → ScanMeans held 0 seen (Open place) → 16384 ≤ capacity → IsReader (held ++ seen) capacity place
reader_is held piece seen room capacity place opens is fewer means enough = record {
  opens = still_open held seen opens.none means.0 (omega (arith, opens.short, is.room_is, seen_length held piece seen room is));
  place_is = means.1;
  room_is = enough;
}

pub long_says : (held piece seen : List ℕ) (room : ℕ) (place : Place) → IsOpen held → IsSeen held piece seen room
    → length seen ≡ room → ScanMeans held 0 seen (Open place) → (more : List ℕ) → IsRefused (held ++ piece ++ more) TooManyFields
long_says held piece seen room place opens is full means more =
    inl (
      subst IsTooLong (input_is held piece seen room is more)
          (too_long held seen (drop (min room (length piece)) piece ++ more) opens.none means.0 (omega (arith, opens.short, is.room_is))),
      refl,
    )

-- where the head ends among the bytes seen
pub record EndsAt (held seen : List ℕ) (used : ℕ) : Type 0 where
  pub some : 0 < used
  pub within : used ≤ length seen
  pub ends : ends_head (held ++ take used seen) ≡ true
  pub first : (front : ℕ) → front < used → ends_head (held ++ take front seen) ≡ false

pub ends_at : (held seen : List ℕ) (used : ℕ) → ScanMeans held 0 seen (Ended used) → EndsAt held seen used
ends_at held seen used means =
    let same : used ≡ means.0 = omega (arith, means.1) in
    subst (λ n. EndsAt held seen n) (sym same) (record { some = means.2; within = means.3; ends = means.4; first = means.5 })

shortest_in : (held piece seen : List ℕ) (room used : ℕ) → IsOpen held → IsSeen held piece seen room → EndsAt held seen used
    → (rest : List ℕ) → IsHeadLength (held ++ (seen ++ rest)) (length held + used)
shortest_in held piece seen room used opens is at rest =
    is_head_length held seen rest used opens.none at.within
    (omega (arith, at.within, opens.short, is.room_is, seen_length held piece seen room is)) at.ends at.first

pub front_whole : (held piece seen : List ℕ) (room used : ℕ) → IsOpen held → IsSeen held piece seen room → EndsAt held seen used
    → IsHeadLength (held ++ take used seen) (length (held ++ take used seen))
front_whole held piece seen room used opens is at =
    subst (λ v. IsHeadLength v (length v)) (front_is held seen [] used at.within)
    (head_alone (held ++ (seen ++ [])) (length held + used) (shortest_in held piece seen room used opens is at []))

pub whole_says : (held piece seen : List ℕ) (room used : ℕ) (answer : Result Head Refusal) → IsOpen held
    → IsSeen held piece seen room → EndsAt held seen used → IsAnswer (held ++ take used seen) answer
    → (more : List ℕ) → IsHead (held ++ piece ++ more) (length held + used) answer
whole_says held piece seen room used answer opens is at answers more =
    let rest = drop (min room (length piece)) piece ++ more in
    subst (λ v. IsHead v (length held + used) answer) (input_is held piece seen room is more) (record {
      shortest = shortest_in held piece seen room used opens is at rest;
      most = omega (arith, at.within, opens.short, is.room_is, seen_length held piece seen room is);
      answers = subst (λ v. IsAnswer v answer) (sym (front_is held seen rest used at.within)) answers;
    })

used_within : (held piece seen : List ℕ) (room used : ℕ) → IsSeen held piece seen room → EndsAt held seen used → used ≤ length piece
used_within held piece seen room used is at = omega (arith, at.within, seen_length held piece seen room is)

pub ended_says : (held piece seen : List ℕ) (room used : ℕ) (answer : Result Head Refusal) → IsOpen held
    → IsSeen held piece seen room → EndsAt held seen used → IsAnswer (held ++ take used seen) answer
    → Feeds held piece (fed_of used answer)
ended_says held piece seen room used (Ok head) opens is at answers =
    (used_within held piece seen room used is at, whole_says held piece seen room used (Ok head) opens is at answers)
ended_says held piece seen room used (Err why) opens is at answers =
    λ more. inr (length held + used, whole_says held piece seen room used (Err why) opens is at answers more)

pub ended_holds : (held piece : List ℕ) (used : ℕ) (answer : Result Head Refusal) → held_after held piece (fed_of used answer) ≡ []
ended_holds held piece used (Ok head) = refl
ended_holds held piece used (Err why) = refl
