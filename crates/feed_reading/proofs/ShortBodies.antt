-- No body is longer than the message in which it stands.
use Rattle.std.proofs.Common.{ℕ, ◌-◌, ◌^◌, ◌<◌, ◌≤◌, Bool, true, false, List, [], ◌∷◌, length, ap, ◌∙◌, ◌==◌, arith, length-append}
use Rattle.std.specs.Prelude.{Option, Some, None, IfSome, if◌then◌else◌}
use Rattle.std.specs.List.{cons_option, AllByRecursion}
use Rattle.wire_fields.specs.Grammar.{Payload, Varint, Fixed64, Bytes, Group, Fixed32, WireField, IsSpelling, AreFields}
use Rattle.feed_reading.specs.Meaning.{body_in, bodies}

pub short_body : (n : ℕ) (number : ℕ) (payload : Payload) (spelling : List ℕ)
    → IsSpelling 64 (record { number = number; payload = payload }) spelling → length spelling ≤ n
    → IfSome (body_in payload) (λ body. length body ≤ n)
short_body n number (Varint value) spelling h le = tt
short_body n number (Fixed64 value) spelling h le = tt
short_body n number (Bytes body) spelling h le =
    omega (arith, ap length h.joined, length-append h.tag h.payload, ap length h.paid.2, length-append h.paid.0 body)
short_body n number Group spelling h le = tt
short_body n number (Fixed32 value) spelling h le = tt

all_cons : {X : Type 0} (P : X → Type 0) (b : Bool) (x : Option X) (xs : List X) → IfSome x P → AllByRecursion P xs
    → AllByRecursion P (cons_option (if b then x else None) xs)
all_cons P true None xs h k = k
all_cons P true (Some x) xs h k = (h, k)
all_cons P false x xs h k = k

short_bodies : (n number : ℕ) (fields : List WireField) (bytes : List ℕ) → AreFields bytes fields → length bytes ≤ n
    → AllByRecursion (λ body. length body ≤ n) (bodies number fields)
short_bodies n number [] bytes h le = tt
short_bodies n number (field ∷ fields) bytes h le =
    let parts = ap length h.2 ∙ length-append h.0 h.1 in
    all_cons (λ body. length body ≤ n) (field.number == number) (body_in field.payload) (bodies number fields)
    (short_body n field.number field.payload h.0 h.3 (omega (arith, parts)))
    (short_bodies n number fields h.1 h.4 (omega (arith, parts)))

all_weaker : {X : Type 0} (P Q : X → Type 0) (xs : List X) → ((x : X) → P x → Q x) → AllByRecursion P xs
    → AllByRecursion Q xs
all_weaker P Q [] along h = tt
all_weaker P Q (x ∷ xs) along h = (along x h.0, all_weaker P Q xs along h.1)

pub countable_bodies : (number : ℕ) (fields : List WireField) (bytes : List ℕ) → AreFields bytes fields
    → length bytes < 2 ^ 64 → AllByRecursion (λ body. length body < 2 ^ 64) (bodies number fields)
countable_bodies number fields bytes h short =
    all_weaker (λ body. length body ≤ 2 ^ 64 - 1) (λ body. length body < 2 ^ 64) (bodies number fields)
    (λ body le. omega arith) (short_bodies (2 ^ 64 - 1) number fields bytes h (omega arith))
