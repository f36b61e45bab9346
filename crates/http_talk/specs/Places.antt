-- Where in a head its last byte stands, as said of all bytes so far, and how a byte more moves it.
use Rattle.std.specs.Prelude.{◌≡◌, ℕ, ◌+◌, ◌<◌, ◌≤◌, true, false, ◌==◌, if◌then◌else◌, List, [], ◌∷◌, ◌++◌, length, take, reverse, Option, Some, None}
use Rattle.http_talk.specs.declared.place.Place.{Place}
use Rattle.http_talk.specs.declared.place.Place.TheVariants.{Blank, BlankReturn, Inside, Start, StartReturn}
use Rattle.http_talk.specs.declared.place.Scan.{Scan}
use Rattle.http_talk.specs.declared.place.Scan.TheVariants.{Open, Ended}
use Rattle.http_talk.specs.Ends.{skip_empty, ends_head}

-- the place after a CR, before which stand these bytes, read from the last one back
abbrev pub return_place : List ℕ → Place
return_place [] = BlankReturn
return_place (byte ∷ bytes) = if byte == 10 then StartReturn else Inside

-- the place after these bytes, read from the last one back
abbrev pub place_after : List ℕ → Place
place_after [] = Blank
place_after (byte ∷ bytes) = if byte == 10 then Start else (if byte == 13 then return_place bytes else Inside)

-- the place after all bytes so far: empty lines at the front say nothing
abbrev pub place_of : List ℕ → Place
place_of bytes = place_after (reverse (skip_empty bytes))

-- the place after LF, where the head goes on
abbrev pub after_feed : Place → Option Place
after_feed Blank = Some Blank
after_feed BlankReturn = Some Blank
after_feed Inside = Some Start
after_feed Start = None
after_feed StartReturn = None

-- the place after CR
abbrev pub after_return : Place → Place
after_return Blank = BlankReturn
after_return BlankReturn = Inside
after_return Inside = Inside
after_return Start = StartReturn
after_return StartReturn = Inside

-- the place after a byte, where the head goes on
abbrev pub after : Place → ℕ → Option Place
after place byte =
    if byte == 10 then after_feed place else (if byte == 13 then Some (after_return place) else Some Inside)

-- what bytes come to after a place and so many bytes
abbrev pub scanned : Place → ℕ → List ℕ → Scan
scanned place count [] = Open place
scanned place count (byte ∷ bytes) =
    elim (after place byte) as (λ _. Scan) [ None ↦ Ended (count + 1) | Some next ↦ scanned next (count + 1) bytes ]

-- what that means: no prefix of the bytes, after those before, ends a head but the one that is told
abbrev pub ScanMeans : List ℕ → ℕ → List ℕ → Scan → Type 0
ScanMeans before count bytes (Open place) =
    ((front : ℕ) → ends_head (before ++ take front bytes) ≡ false) × (place_of (before ++ bytes) ≡ place)
ScanMeans before count bytes (Ended end) =
    (more : ℕ) × (end ≡ count + more) × (0 < more) × (more ≤ length bytes)
    × (ends_head (before ++ take more bytes) ≡ true)
    × ((front : ℕ) → front < more → ends_head (before ++ take front bytes) ≡ false)
