-- Reading a varint from the front of bytes is finding its spelling there.
use Rattle.std.proofs.Common.{◌≡◌, ℕ, zero, suc, ◌+◌, ◌*◌, ◌%◌, ◌^◌, ◌<◌, ◌≤◌, Bool, true, false, cond, List, [], ◌∷◌, ◌++◌, length, Result, Ok, Err, refl, sym, ap, ◌∙◌, arith, inl, inr}
use Rattle.std.specs.Prelude.{◌⊎◌}
use Rattle.std.specs.List.{AllByRecursion}
use Rattle.std.proofs.lemmas.Bool.{cases_lt, le-ltb, lt-ltb}
use Rattle.gw_base.specs.declared.wire_kind.WireKind.{WireKind}
use Rattle.gw_base.specs.declared.wire_kind.WireKind.TheVariants.{Truncated, LongVarint}
use Rattle.wire_fields.specs.Grammar.{IsChain, number_of, IsVarint}
use Rattle.wire_fields.specs.Breaks.{BeginsLong}
use Rattle.gw_base.specs.Chains.{◌>>=◌}
use Rattle.wire_fields.specs.Reading.{chain_at, varint_at}

-- the value of a step that did not fail
pub bind_ok : {A B : Type 0} (r : Result A WireKind) (f : A → Result B WireKind) (y : B) → (r >>= f) ≡ Ok y → (x : A) × (r ≡ Ok x) × (f x ≡ Ok y)
bind_ok (Ok x) f y e = (x, refl, e)
bind_ok (Err k) f y e = absurd cc

-- where two steps fail, one of them does
pub bind_err : {A B : Type 0} (r : Result A WireKind) (f : A → Result B WireKind) (k : WireKind) → (r >>= f) ≡ Err k → (r ≡ Err k) ⊎ ((x : A) × (r ≡ Ok x) × (f x ≡ Err k))
bind_err (Ok x) f k e = inr (x, refl, e)
bind_err (Err j) f k e = inl cc

pub ok_is : {A : Type 0} (x y : A) → ◌≡◌ {A = Result A WireKind} (Ok x) (Ok y) → x ≡ y
ok_is x y e = cc

pub err_is : {A : Type 0} (x y : WireKind) → ◌≡◌ {A = Result A WireKind} (Err x) (Err y) → x ≡ y
err_is x y e = cc

-- which way a test went
pub chosen : {X : Type 0} (b : Bool) (x y z : X) → cond b x y ≡ z → ((b ≡ true) × (x ≡ z)) ⊎ ((b ≡ false) × (y ≡ z))
chosen true x y z e = inl (refl, e)
chosen false x y z e = inr (refl, e)

-- ---- chains

pub chain_last : (most byte : ℕ) (bytes : List ℕ) → byte < 128 → chain_at (suc most) (byte ∷ bytes) ≡ Ok (byte % 128, bytes)
unfolding chain_at
chain_last most byte bytes lt = rw (lt-ltb byte 128 lt) refl

pub chain_more : (most byte : ℕ) (bytes : List ℕ) → 128 ≤ byte → chain_at (suc most) (byte ∷ bytes) ≡ (chain_at most bytes >>= λ rest. Ok (byte % 128 + 128 * rest.0, rest.1))
unfolding chain_at
chain_more most byte bytes le = rw (le-ltb byte 128 le) refl

-- a chain is read, whatever follows it
pub chain_again : (most : ℕ) (chain rest : List ℕ) → IsChain chain → length chain ≤ most → chain_at most (chain ++ rest) ≡ Ok (number_of chain, rest)
chain_again most [] rest h fits = absurd h
chain_again zero (byte ∷ bytes) rest h fits = absurd (omega arith)
chain_again (suc most) (byte ∷ []) rest h fits = chain_last most byte rest h ∙ ap (λ (n : ℕ). Ok (n, rest)) (omega arith)
chain_again (suc most) (byte ∷ next ∷ bytes) rest h fits =
    chain_more most byte (next ∷ bytes ++ rest) h.0 ∙ rw (chain_again most (next ∷ bytes) rest h.1 (omega arith)) refl

pub IsChain-cons : (byte : ℕ) (bytes : List ℕ) → 128 ≤ byte → IsChain bytes → IsChain (byte ∷ bytes)
IsChain-cons byte [] le h = absurd h
IsChain-cons byte (next ∷ bytes) le h = (le, h)

-- what is read is a chain
abbrev FindsChain : ℕ → List ℕ → Type 0
FindsChain most bytes =
    (value : ℕ) (rest : List ℕ) → chain_at most bytes ≡ Ok (value, rest)
    → (chain : List ℕ) × (bytes ≡ chain ++ rest) × IsChain chain × (length chain ≤ most) × (value ≡ number_of chain)

found_by : (most byte : ℕ) (bytes : List ℕ) → FindsChain most bytes → (byte < 128) ⊎ (128 ≤ byte) → FindsChain (suc most) (byte ∷ bytes)
found_by most byte bytes shorter (inl lt) value rest e =
    let p = ok_is (byte % 128, bytes) (value, rest) (sym (chain_last most byte bytes lt) ∙ e) in
    (byte ∷ [], ap (λ (l : List ℕ). byte ∷ l) (ap (λ (q : ℕ × List ℕ). q.1) p), lt, omega arith, omega (arith, ap (λ (q : ℕ × List ℕ). q.0) p))
found_by most byte bytes shorter (inr le) value rest e =
    let b = bind_ok (chain_at most bytes) (λ rest. Ok (byte % 128 + 128 * rest.0, rest.1)) (value, rest) (sym (chain_more most byte bytes le) ∙ e) in
    let p = ok_is (byte % 128 + 128 * b.0.0, b.0.1) (value, rest) b.2 in
    let c = shorter b.0.0 b.0.1 b.1 in
    let same_rest : b.0.1 ≡ rest = ap (λ (q : ℕ × List ℕ). q.1) p in
    (byte ∷ c.0, ap (λ (l : List ℕ). byte ∷ l) (c.1 ∙ ap (λ (l : List ℕ). c.0 ++ l) same_rest), IsChain-cons byte c.0 le c.2, omega (arith, c.3), sym (ap (λ (q : ℕ × List ℕ). q.0) p) ∙ ap (λ (n : ℕ). byte % 128 + 128 * n) c.4)

pub chain_found : (most : ℕ) (bytes : List ℕ) → FindsChain most bytes
unfolding chain_at
chain_found zero bytes value rest e = absurd cc
chain_found (suc most) [] value rest e = absurd cc
chain_found (suc most) (byte ∷ bytes) value rest e = found_by most byte bytes (chain_found most bytes) (cases_lt byte 128) value rest e

abbrev pub AreHigh : List ℕ → Type 0
AreHigh bytes = AllByRecursion (λ byte. 128 ≤ byte) bytes

-- so many bytes with the high bit set are too long a chain
pub chain_long : (front rest : List ℕ) → AreHigh front → chain_at (length front) (front ++ rest) ≡ Err LongVarint
unfolding chain_at
chain_long [] rest h = refl
chain_long (byte ∷ front) rest h = chain_more (length front) byte (front ++ rest) h.0 ∙ rw (chain_long front rest h.1) refl

-- and what is too long a chain begins with them; else the bytes end in the chain
abbrev FailsAtChain : ℕ → List ℕ → Type 0
FailsAtChain most bytes =
    (k : WireKind) → chain_at most bytes ≡ Err k
    → ((k ≡ LongVarint) × ((front : List ℕ) × (rest : List ℕ) × (bytes ≡ front ++ rest) × (length front ≡ most) × AreHigh front)) ⊎ (k ≡ Truncated)

fault_by : (most byte : ℕ) (bytes : List ℕ) → FailsAtChain most bytes → (byte < 128) ⊎ (128 ≤ byte) → FailsAtChain (suc most) (byte ∷ bytes)
fault_by most byte bytes shorter (inl lt) k e = let d = sym (chain_last most byte bytes lt) ∙ e in absurd cc
fault_by most byte bytes shorter (inr le) k e =
    elim (bind_err (chain_at most bytes) (λ rest. Ok (byte % 128 + 128 * rest.0, rest.1)) k (sym (chain_more most byte bytes le) ∙ e)) [
      | inr x ↦ let d = x.2 in absurd cc
      | inl f ↦ elim (shorter k f) [
        | inr t ↦ inr t
        | inl l ↦ inl (l.0, (byte ∷ l.1.0, l.1.1, ap (λ (q : List ℕ). byte ∷ q) l.1.2, ap suc l.1.3, (le, l.1.4)))
      ]
    ]

pub chain_fault : (most : ℕ) (bytes : List ℕ) → FailsAtChain most bytes
unfolding chain_at
chain_fault zero bytes k e = inl (sym (err_is LongVarint k e), ([], bytes, refl, refl, tt))
chain_fault (suc most) [] k e = inr (sym (err_is Truncated k e))
chain_fault (suc most) (byte ∷ bytes) k e = fault_by most byte bytes (chain_fault most bytes) (cases_lt byte 128) k e

-- ---- varints

pub varint_again : (bytes rest : List ℕ) (value : ℕ) → IsVarint bytes value → varint_at (bytes ++ rest) ≡ Ok (value, rest)
unfolding varint_at
varint_again bytes rest value v = rw (chain_again 10 bytes rest v.chain v.short, v.value_is) refl

pub varint_found : (bytes : List ℕ) (value : ℕ) (rest : List ℕ) → varint_at bytes ≡ Ok (value, rest) → (front : List ℕ) × (bytes ≡ front ++ rest) × IsVarint front value
unfolding varint_at
varint_found bytes value rest e =
    let b = bind_ok (chain_at 10 bytes) (λ chain. Ok (chain.0 % 2 ^ 64, chain.1)) (value, rest) e in
    let p = ok_is (b.0.0 % 2 ^ 64, b.0.1) (value, rest) b.2 in
    let c = chain_found 10 bytes b.0.0 b.0.1 b.1 in
    let same_rest : b.0.1 ≡ rest = ap (λ (q : ℕ × List ℕ). q.1) p in
    let same_value : b.0.0 % 2 ^ 64 ≡ value = ap (λ (q : ℕ × List ℕ). q.0) p in
    (c.0, c.1 ∙ ap (λ (l : List ℕ). c.0 ++ l) same_rest, record { chain = c.2; short = c.3; value_is = sym same_value ∙ ap (λ (n : ℕ). n % 2 ^ 64) c.4 })

pub varint_long : (bytes : List ℕ) → BeginsLong bytes → varint_at bytes ≡ Err LongVarint
unfolding varint_at
varint_long bytes l =
    let long : chain_at 10 bytes ≡ Err LongVarint = rw (l.2, ← l.3) (chain_long l.0 l.1 l.4) in
    rw long refl

pub varint_fault : (bytes : List ℕ) (k : WireKind) → varint_at bytes ≡ Err k → ((k ≡ LongVarint) × BeginsLong bytes) ⊎ (k ≡ Truncated)
unfolding varint_at
varint_fault bytes k e =
    elim (bind_err (chain_at 10 bytes) (λ chain. Ok (chain.0 % 2 ^ 64, chain.1)) k e) [
      | inl f ↦ chain_fault 10 bytes k f
      | inr x ↦ let d = x.2 in absurd cc
    ]
