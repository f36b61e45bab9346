-- What a told sink holds after several pieces.
use Rattle.std.proofs.Common.{◌≡◌, ◌≤◌, ℕ, ◌+◌, List, ◌++◌, Option, Some, None, take, drop, length, length-append, sym, refl, ap, ◌∙◌, append_assoc, arith}
use Rattle.std.proofs.lemmas.List.{take-append-le}
use Rattle.std.proofs.Math.Seq.{take-add, take-append-add}
use Rattle.gw_base.specs.Told.{with_bytes, PutsUnless}

-- one piece after another is the two joined
pub with_bytes-with_bytes : (told : Option (List ℕ)) (a b : List ℕ) → with_bytes (with_bytes told a) b ≡ with_bytes told (a ++ b)
with_bytes-with_bytes None a b = refl
with_bytes-with_bytes (Some written) a b = ap Some (append_assoc written a b)

-- the next n bytes after the first i are the first i + n
pub with_bytes-take : (told : Option (List ℕ)) (bytes : List ℕ) (i n : ℕ) →
    with_bytes (with_bytes told (take i bytes)) (take n (drop i bytes)) ≡ with_bytes told (take (i + n) bytes)
with_bytes-take told bytes i n =
    with_bytes-with_bytes told (take i bytes) (take n (drop i bytes)) ∙ ap (with_bytes told) (sym (take-add i n bytes))

-- a text after one that was written whole
pub puts_more : (P : Type 0) (before mid now : Option (List ℕ)) (first second : List ℕ) →
    mid ≡ with_bytes before first → PutsUnless P mid now second → PutsUnless P before now (first ++ second)
puts_more P before mid now first second whole puts =
    let both : length (first ++ second) ≡ length first + length second = length-append first second in
    let bound : puts.0 ≤ length second = puts.1 in (
      length first + puts.0,
      omega arith,
      puts.2 ∙ ap (λ told. with_bytes told (take puts.0 second)) whole
          ∙ with_bytes-with_bytes before first (take puts.0 second)
          ∙ ap (with_bytes before) (sym (take-append-add first second puts.0)),
      λ lt. puts.3 (omega arith),
    )

-- the first of two texts failed
pub puts_front : (P : Type 0) (before now : Option (List ℕ)) (first second : List ℕ) →
    P → PutsUnless P before now first → PutsUnless P before now (first ++ second)
puts_front P before now first second cause puts =
    let both : length (first ++ second) ≡ length first + length second = length-append first second in
    let bound : puts.0 ≤ length first = puts.1 in
    (puts.0, omega arith, puts.2 ∙ ap (with_bytes before) (sym (take-append-le puts.0 first second bound)), λ lt. cause)

-- the cause may be a wider one
pub puts_wider : (P Q : Type 0) (before now : Option (List ℕ)) (text : List ℕ) →
    (P → Q) → PutsUnless P before now text → PutsUnless Q before now text
puts_wider P Q before now text wider puts = (puts.0, puts.1, puts.2, λ lt. wider (puts.3 lt))
