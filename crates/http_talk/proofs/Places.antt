-- A byte more moves the place as `after` says, and the head ends exactly where there is no place.
use Rattle.std.proofs.Common.{◌≡◌, ℕ, Bool, true, false, ◌&&◌, ◌==◌, if◌then◌else◌, List, [], ◌∷◌, ◌++◌, reverse, Option, Some, None, refl, ap, sym, ◌∙◌, subst, arith}
use Rattle.std.proofs.lemmas.List.{reverse-append}
use Rattle.http_talk.specs.declared.place.Place.{Place}
use Rattle.http_talk.specs.Ends.{skip_empty, is_end}
use Rattle.http_talk.specs.Places.{place_after, place_of, after}

-- the bytes are none, or a CR alone
abbrev pub is_blank : List ℕ → Bool
is_blank [] = true
is_blank (byte ∷ []) = if byte == 10 then false else byte == 13
is_blank (byte ∷ next ∷ bytes) = false

-- bytes without empty lines at their front, with a byte after them, without what is then an empty line
abbrev pub with_byte : List ℕ → ℕ → List ℕ
with_byte bytes byte = if byte == 10 && is_blank bytes then [] else bytes ++ byte ∷ []

-- the same, read from the last byte back
abbrev pub with_last : List ℕ → ℕ → List ℕ
with_last bytes byte = if byte == 10 && is_blank bytes then [] else byte ∷ bytes

pub skip_more : (bytes : List ℕ) (byte : ℕ) → skip_empty (bytes ++ byte ∷ []) ≡ with_byte (skip_empty bytes) byte
skip_more [] byte = grind arith
skip_more (first ∷ []) byte = grind arith
skip_more (first ∷ second ∷ bytes) byte = grind (arith, skip_more (second ∷ bytes) byte)

blank_two : (bytes : List ℕ) (one two : ℕ) → is_blank (bytes ++ one ∷ two ∷ []) ≡ false
blank_two [] one two = refl
blank_two (a ∷ []) one two = refl
blank_two (a ∷ b ∷ bytes) one two = refl

blank_reverse : (bytes : List ℕ) → is_blank (reverse bytes) ≡ is_blank bytes
blank_reverse [] = refl
blank_reverse (a ∷ []) = refl
blank_reverse (a ∷ b ∷ bytes) =
    subst (λ v. is_blank v ≡ false) (sym (reverse-append (a ∷ b ∷ []) bytes)) (blank_two (reverse bytes) b a)

reverse_if : (b : Bool) (bytes : List ℕ) (byte : ℕ)
    → reverse (if b then [] else bytes ++ byte ∷ []) ≡ (if b then [] else byte ∷ reverse bytes)
reverse_if true bytes byte = refl
reverse_if false bytes byte = reverse-append bytes (byte ∷ [])

pub reverse_more : (bytes : List ℕ) (byte : ℕ)
    → reverse (skip_empty (bytes ++ byte ∷ [])) ≡ with_last (reverse (skip_empty bytes)) byte
reverse_more bytes byte =
    ap reverse (skip_more bytes byte) ∙ reverse_if (byte == 10 && is_blank (skip_empty bytes)) (skip_empty bytes) byte
    ∙ ap (λ v. if byte == 10 && v then [] else byte ∷ reverse (skip_empty bytes)) (sym (blank_reverse (skip_empty bytes)))

-- with a byte more the head ends, or goes on at a place
abbrev pub GoesOn : List ℕ → Option Place → Type 0
GoesOn bytes None = is_end bytes ≡ true
GoesOn bytes (Some place) = (is_end bytes ≡ false) × (place_after bytes ≡ place)

goes_on : (bytes : List ℕ) (byte : ℕ) → GoesOn (with_last bytes byte) (after (place_after bytes) byte)
goes_on [] byte = grind arith
goes_on (a ∷ []) byte = grind arith
goes_on (a ∷ b ∷ bytes) byte = grind arith

pub next_means : (before : List ℕ) (byte : ℕ) → GoesOn (reverse (skip_empty (before ++ byte ∷ []))) (after (place_of before) byte)
next_means before byte =
    subst (λ v. GoesOn v (after (place_of before) byte)) (sym (reverse_more before byte)) (goes_on (reverse (skip_empty before)) byte)
