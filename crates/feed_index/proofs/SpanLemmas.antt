-- The spans of a pool when one more is put and when one is given back.
use Rattle.std.proofs.Common.{◌≡◌, ◌++◌, ◌∷◌, [], ◌+◌, ℕ, Bool, true, false, cond, not, List, Option, Some, None, IsSome, sym, ap, refl, arith, eq-eqb}
use Rattle.std.proofs.lemmas.Bool.{true≢false}
use Rattle.std.specs.Prelude.{◌==◌}
use Rattle.span_pool.specs.Spans.{bytes_of, without}
use Rattle.span_pool.proofs.SpanLemmas.{bytes_of_put}
use Rattle.feed_index.specs.Rows.{lives}
use borrow.Author.Tests.{eqb-true}

pub same_number : (s : ℕ) → (s == s) ≡ true
same_number s = eq-eqb s s refl

pub added_other : (spans : List (ℕ × List ℕ)) (s : ℕ) (b : List ℕ) (t : ℕ) (x : List ℕ) → bytes_of spans t ≡ Some x → bytes_of (spans ++ (s, b) ∷ []) t ≡ Some x
added_other [] s b t x h = cc
added_other (one ∷ spans) s b t x h = by (one.0 == t) h (λ e. added_other spans s b t x e)
  where
    by : (c : Bool) → cond c (Some one.1) (bytes_of spans t) ≡ Some x → (bytes_of spans t ≡ Some x → bytes_of (spans ++ (s, b) ∷ []) t ≡ Some x) → cond c (Some one.1) (bytes_of (spans ++ (s, b) ∷ []) t) ≡ Some x
    by true e more = e
    by false e more = more e

added_none : (spans : List (ℕ × List ℕ)) (s : ℕ) (b : List ℕ) (t : ℕ) → bytes_of spans t ≡ None → (s == t) ≡ false → bytes_of (spans ++ (s, b) ∷ []) t ≡ None
added_none [] s b t h e = rw e refl
added_none (one ∷ spans) s b t h e = by (one.0 == t) h (λ g. added_none spans s b t g e)
  where
    by : (c : Bool) → cond c (Some one.1) (bytes_of spans t) ≡ None → (bytes_of spans t ≡ None → bytes_of (spans ++ (s, b) ∷ []) t ≡ None) → cond c (Some one.1) (bytes_of (spans ++ (s, b) ∷ []) t) ≡ None
    by true g more = cc
    by false g more = more g

pub lives-added : (spans : List (ℕ × List ℕ)) (s : ℕ) (b : List ℕ) → bytes_of spans s ≡ None → (t : ℕ) → lives (spans ++ (s, b) ∷ []) t ≡ lives spans t + cond (s == t) 1 0
lives-added spans s b h t = by (s == t) refl
  where
    by_found : (o : Option (List ℕ)) → bytes_of spans t ≡ o → (s == t) ≡ false → lives (spans ++ (s, b) ∷ []) t ≡ lives spans t + 0
    by_found None e g = rw (added_none spans s b t e g, e) refl
    by_found (Some x) e g = rw (added_other spans s b t x e, e) refl

    by : (c : Bool) → (s == t) ≡ c → lives (spans ++ (s, b) ∷ []) t ≡ lives spans t + cond c 1 0
    by true e = let same : s ≡ t = eqb-true s t e in rw (← same, bytes_of_put spans s b h, h) refl
    by false e = by_found (bytes_of spans t) refl e

-- one given back, at its slot and at another
pub without_gone : (spans : List (ℕ × List ℕ)) (s : ℕ) → bytes_of (without spans s) s ≡ None
without_gone [] s = refl
without_gone (one ∷ spans) s = by (one.0 == s) refl (without_gone spans s)
  where
    by : (c : Bool) → (one.0 == s) ≡ c → bytes_of (without spans s) s ≡ None → bytes_of (cond (not c) (one ∷ without spans s) (without spans s)) s ≡ None
    by true e h = h
    by false e h = rw e h

pub without_other : (spans : List (ℕ × List ℕ)) (s t : ℕ) → (s == t) ≡ false → bytes_of (without spans s) t ≡ bytes_of spans t
without_other [] s t e = refl
without_other (one ∷ spans) s t e = by (one.0 == s) refl (without_other spans s t e)
  where
    by : (c : Bool) → (one.0 == s) ≡ c → bytes_of (without spans s) t ≡ bytes_of spans t → bytes_of (cond (not c) (one ∷ without spans s) (without spans s)) t ≡ cond (one.0 == t) (Some one.1) (bytes_of spans t)
    by true g h = let same : one.0 ≡ s = eqb-true one.0 s g in rw (same, e) h
    by false g h = ap (cond (one.0 == t) (Some one.1)) h

pub lives-without : (spans : List (ℕ × List ℕ)) (s : ℕ) → IsSome (bytes_of spans s) → (t : ℕ) → lives spans t ≡ lives (without spans s) t + cond (s == t) 1 0
lives-without spans s h t = by (s == t) refl
  where
    by_found : (o : Option (List ℕ)) → bytes_of spans s ≡ o → IsSome o → lives spans s ≡ 1
    by_found None e g = absurd (true≢false (sym g))
    by_found (Some x) e g = rw e refl

    by : (c : Bool) → (s == t) ≡ c → lives spans t ≡ lives (without spans s) t + cond c 1 0
    by true e = let same : s ≡ t = eqb-true s t e in rw (← same, without_gone spans s) (by_found (bytes_of spans s) refl h)
    by false e = let same : lives (without spans s) t ≡ lives spans t = rw (without_other spans s t e) refl in omega arith
