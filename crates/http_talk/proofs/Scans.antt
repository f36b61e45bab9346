-- What `scanned` comes to means what it says of all bytes so far.
use Rattle.std.proofs.Common.{◌≡◌, ℕ, zero, suc, ◌+◌, ◌<◌, true, false, List, [], ◌∷◌, ◌++◌, take, reverse, Option, Some, None, refl, ap, sym, ◌∙◌, subst, arith, append_assoc, append-nil}
use Rattle.std.proofs.Math.Seq.{take-nil}
use Rattle.http_talk.specs.declared.place.Place.{Place}
use Rattle.http_talk.specs.declared.place.Scan.{Scan}
use Rattle.http_talk.specs.declared.place.Scan.TheVariants.{Open, Ended}
use Rattle.http_talk.specs.Ends.{skip_empty, ends_head}
use Rattle.http_talk.specs.Places.{place_of, after, scanned, ScanMeans}
use Rattle.http_talk.proofs.Places.{GoesOn, next_means}

-- nothing after the bytes
at_none : (before : List ℕ) → ends_head before ≡ false → ends_head (before ++ []) ≡ false
at_none before calm = subst (λ v. ends_head v ≡ false) (sym (append-nil before)) calm

at_front : (before : List ℕ) → ends_head before ≡ false → (front : ℕ) → ends_head (before ++ take front []) ≡ false
at_front before calm front = subst (λ v. ends_head (before ++ v) ≡ false) (sym (take-nil front)) (at_none before calm)

-- the first byte
first_ends : (before : List ℕ) (byte : ℕ) (bytes : List ℕ) → ends_head (before ++ byte ∷ []) ≡ true → ends_head (before ++ take 1 (byte ∷ bytes)) ≡ true
first_ends before byte bytes ends = ends

none_before : (before bytes : List ℕ) → ends_head before ≡ false → (front : ℕ) → front < 1 → ends_head (before ++ take front bytes) ≡ false
none_before before bytes calm zero below = at_none before calm
none_before before bytes calm (suc front) below = absurd (omega arith)

-- the first byte stands before the others or after those before it
moved : (before : List ℕ) (byte : ℕ) (bytes : List ℕ) → (before ++ byte ∷ []) ++ bytes ≡ before ++ byte ∷ bytes
moved before byte bytes = append_assoc before (byte ∷ []) bytes

along : (before : List ℕ) (byte : ℕ) (bytes : List ℕ) → ends_head before ≡ false
    → ((front : ℕ) → ends_head ((before ++ byte ∷ []) ++ take front bytes) ≡ false)
    → (front : ℕ) → ends_head (before ++ take front (byte ∷ bytes)) ≡ false
along before byte bytes calm rest zero = at_none before calm
along before byte bytes calm rest (suc front) =
    subst (λ v. ends_head v ≡ false) (moved before byte (take front bytes)) (rest front)

along_below : (before : List ℕ) (byte : ℕ) (bytes : List ℕ) (more : ℕ) → ends_head before ≡ false
    → ((front : ℕ) → front < more → ends_head ((before ++ byte ∷ []) ++ take front bytes) ≡ false)
    → (front : ℕ) → front < suc more → ends_head (before ++ take front (byte ∷ bytes)) ≡ false
along_below before byte bytes more calm rest zero below = at_none before calm
along_below before byte bytes more calm rest (suc front) below =
    subst (λ v. ends_head v ≡ false) (moved before byte (take front bytes)) (rest front (omega arith))

lift : (before : List ℕ) (count byte : ℕ) (bytes : List ℕ) → ends_head before ≡ false → (result : Scan)
    → ScanMeans (before ++ byte ∷ []) (count + 1) bytes result → ScanMeans before count (byte ∷ bytes) result
lift before count byte bytes calm (Open place) means =
    (along before byte bytes calm means.0, ap place_of (sym (moved before byte bytes)) ∙ means.1)
lift before count byte bytes calm (Ended end) means = (
  suc means.0,
  omega (arith, means.1),
  omega arith,
  omega (arith, means.3),
  subst (λ v. ends_head v ≡ true) (moved before byte (take means.0 bytes)) means.4,
  along_below before byte bytes means.0 calm means.5,
)

step : (before : List ℕ) (count byte : ℕ) (bytes : List ℕ) → ends_head before ≡ false → (next : Option Place)
    → GoesOn (reverse (skip_empty (before ++ byte ∷ []))) next
    → (ends_head (before ++ byte ∷ []) ≡ false → ScanMeans (before ++ byte ∷ []) (count + 1) bytes (scanned (place_of (before ++ byte ∷ [])) (count + 1) bytes))
    → ScanMeans before count (byte ∷ bytes) (elim next as (λ _. Scan) [ None ↦ Ended (count + 1) | Some place ↦ scanned place (count + 1) bytes ])
step before count byte bytes calm None goes rest =
    (1, refl, omega arith, omega arith, first_ends before byte bytes goes, none_before before (byte ∷ bytes) calm)
step before count byte bytes calm (Some place) goes rest =
    lift before count byte bytes calm (scanned place (count + 1) bytes)
    (subst (λ p. ScanMeans (before ++ byte ∷ []) (count + 1) bytes (scanned p (count + 1) bytes)) goes.1 (rest goes.0))

pub scan_means : (before : List ℕ) (count : ℕ) (bytes : List ℕ) → ends_head before ≡ false
    → ScanMeans before count bytes (scanned (place_of before) count bytes)
scan_means before count [] calm = (at_front before calm, ap place_of (append-nil before))
scan_means before count (byte ∷ bytes) calm =
    step before count byte bytes calm (after (place_of before) byte) (next_means before byte)
    (scan_means (before ++ byte ∷ []) (count + 1) bytes)
