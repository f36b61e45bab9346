-- What the look-up of a slot and the live bytes are after a put and after a span is given back.
use Rattle.std.proofs.Common.{Some, ◌≡◌, ◌+◌, ◌++◌, ◌∷◌, [], ℕ, List, None, length, eqb, arith, refl, ◌∙◌, Bool, true, false, cond, unwrap_or, not}
use Rattle.std.proofs.lemmas.Bool.{eq-eqb}
use Rattle.std.proofs.lemmas.Bool.Decides.{nat_tests}
use Rattle.std.proofs.lemmas.List.Sums.{sum_by-append, sum_by-cons}
use Rattle.span_pool.specs.Spans.{bytes_of, live_bytes, without, AreApart}

-- a slot that holds no span holds what is put after it
pub bytes_of-append_new : (xs ys : List (ℕ × List ℕ)) (slot : ℕ) → bytes_of xs slot ≡ None → bytes_of (xs ++ ys) slot ≡ bytes_of ys slot
bytes_of-append_new [] ys slot none = refl
bytes_of-append_new (x ∷ xs) ys slot none = grind (arith, nat_tests, bytes_of-append_new xs ys slot)

-- what is put last under a new slot is found there
pub bytes_of_put : (xs : List (ℕ × List ℕ)) (slot : ℕ) (bytes : List ℕ) → bytes_of xs slot ≡ None → bytes_of (xs ++ (slot, bytes) ∷ []) slot ≡ Some bytes
bytes_of_put [] slot bytes none = rw (eq-eqb slot slot refl) refl
bytes_of_put (x ∷ xs) slot bytes none = grind (arith, nat_tests, bytes_of_put xs slot bytes)

-- the live bytes of two lists of spans, one after the other
pub live_bytes-append : (xs ys : List (ℕ × List ℕ)) → live_bytes (xs ++ ys) ≡ live_bytes xs + live_bytes ys
live_bytes-append xs ys = sum_by-append (λ span. length span.1) xs ys

-- a slot that holds nothing leaves all
pub without-none : (xs : List (ℕ × List ℕ)) (slot : ℕ) → bytes_of xs slot ≡ None → without xs slot ≡ xs
without-none [] slot none = refl
without-none (x ∷ xs) slot none = grind (arith, nat_tests, without-none xs slot)

-- a span before others
pub live_bytes-cons : (x : ℕ × List ℕ) (xs : List (ℕ × List ℕ)) → live_bytes (x ∷ xs) ≡ length x.1 + live_bytes xs
live_bytes-cons x xs = sum_by-cons (λ span. length span.1) x xs

-- the live bytes fall by those of the span that is given back
pub live_bytes-without : (xs : List (ℕ × List ℕ)) (slot : ℕ) → AreApart xs → live_bytes xs ≡ live_bytes (without xs slot) + length (unwrap_or (bytes_of xs slot) [])
live_bytes-without [] slot apart = grind arith
live_bytes-without (x ∷ xs) slot apart = grind (arith, nat_tests, live_bytes-cons, live_bytes-without xs slot apart.1, without-none xs slot)

-- where nothing was held, nothing is held after a span was given back
pub bytes_of-without_none : (xs : List (ℕ × List ℕ)) (slot other : ℕ) → bytes_of xs other ≡ None → bytes_of (without xs slot) other ≡ None
bytes_of-without_none [] slot other none = refl
bytes_of-without_none (x ∷ xs) slot other none = grind (arith, nat_tests, bytes_of-without_none xs slot other)

-- spans stay apart
pub AreApart-append : (xs : List (ℕ × List ℕ)) (slot : ℕ) (bytes : List ℕ) → AreApart xs → bytes_of xs slot ≡ None → AreApart (xs ++ (slot, bytes) ∷ [])
AreApart-append [] slot bytes apart none = (refl, tt)
AreApart-append (x ∷ xs) slot bytes apart none = (
  bytes_of-append_new xs ((slot, bytes) ∷ []) x.0 apart.0 ∙ (let h : bytes_of (x ∷ xs) slot ≡ None = none in grind (arith, nat_tests)),
  AreApart-append xs slot bytes apart.1 (grind (arith, nat_tests)),
)

AreApart-cond : (b : Bool) (x : ℕ × List ℕ) (xs : List (ℕ × List ℕ)) → bytes_of xs x.0 ≡ None → AreApart xs → AreApart (cond b (x ∷ xs) xs)
AreApart-cond true x xs none apart = (none, apart)
AreApart-cond false x xs none apart = apart

pub AreApart-without : (xs : List (ℕ × List ℕ)) (slot : ℕ) → AreApart xs → AreApart (without xs slot)
AreApart-without [] slot apart = tt
AreApart-without (x ∷ xs) slot apart =
    AreApart-cond (not (eqb x.0 slot)) x (without xs slot) (bytes_of-without_none xs slot x.0 apart.0) (AreApart-without xs slot apart.1)
