-- What is found in a file is what it holds, and the places of gates.
use Rattle.std.proofs.Common.{◌≡◌, ℕ, ◌+◌, ◌≤◌, Bool, true, false, nat_le, List, [], ◌∷◌, ◌++◌, length, take, drop, Option, Some, None, Result, Ok, Err, refl, sym, ap, arith, length-drop}
use Rattle.std.proofs.lemmas.Bool.{leb-true}
use Rattle.std.specs.Prelude.{◌==◌, if◌then◌else◌}
use Rattle.std.specs.Option.{option_map_or}
use Rattle.std.specs.Str.{bytes_eq}
use Rattle.gw_base.specs.Chains.{ok_map}
use Rattle.delivery_journal.specs.declared.open_fault.OpenFault.TheVariants.{Damaged, NotJournal}
use Rattle.delivery_journal.specs.Kept.{Found, KeptBody, found, found_from, kept, magic, record_of, size_of, with_first}

same_ok : {A E : Type 0} (a b : A) → ◌≡◌ {A = Result A E} (Ok a) (Ok b) → a ≡ b
same_ok a b e = cc

-- of at most one byte behind the first eight no body is found
one_byte : (bytes : List ℕ) → length bytes ≤ 1 → (all : Found) → found_from 0 8 bytes ≡ Ok all → all.bodies ≡ []
one_byte [] short all is = absurd (cc)
one_byte (gate ∷ byte ∷ bytes) short all is = absurd (omega (arith, short))
one_byte (gate ∷ []) short all is = by (gate == 0) (record_of []) is
  where
    by : (shut : Bool) (one : Option KeptBody)
        → (if shut then Ok (record { bodies = []; end = 8 })
        else option_map_or (λ (k : KeptBody). with_first k (found_from (13 + length k.body) (8 + 14 + length k.body) [])) one (Err (Damaged 8))) ≡ Ok all
        → all.bodies ≡ []
    by true one e = ap (λ (f : Found). f.bodies) (same_ok all (record { bodies = []; end = 8 }) (sym e))
    by false None e = absurd (cc)
    by false (Some k) e = absurd (cc)

short_found : (file : List ℕ) → length file ≤ 9 → (all : Found) → found file ≡ Ok all → all.bodies ≡ []
short_found file short all is = by (bytes_eq (take 8 file) magic) is
  where
    by : (begins : Bool) → (if begins then found_from 0 8 (drop 8 file) else Err NotJournal) ≡ Ok all → all.bodies ≡ []
    by true e = one_byte (drop 8 file) (omega (arith, short, length-drop 8 file)) all e
    by false e = absurd (cc)

-- the bodies that are found in a file are those that it holds
pub found_kept : (file : List ℕ) (all : Found) → found file ≡ Ok all → kept file ≡ Ok all.bodies
found_kept file all is = by (nat_le (length file) 9) refl
  where
    by : (short : Bool) → nat_le (length file) 9 ≡ short
        → (if short then Ok [] else ok_map (λ (f : Found). f.bodies) (found file)) ≡ Ok all.bodies
    by true le = ap Ok (sym (short_found file (leb-true (length file) 9 le) all is))
    by false le = ap (ok_map (λ (f : Found). f.bodies)) is

pub size_of-append : (front back : List KeptBody) → size_of (front ++ back) ≡ size_of front + size_of back
size_of-append [] back = omega arith
size_of-append (one ∷ front) back = omega (arith, size_of-append front back)
