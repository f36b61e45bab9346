-- A part of what a plain reader looks for decides whether there is the whole.
use Rattle.std.proofs.Common.{◌≡◌, ℕ, zero, suc, ◌+◌, ◌<◌, List, [], ◌∷◌, ◌++◌, map, take, get_or, length, arith}
use Rattle.std.proofs.lemmas.List.{map-append, take_more}
use Rattle.std.proofs.lemmas.Slice.Zip.{all_zipped_more}
use Rattle.std.specs.Prelude.{Option, Some, None, option_map, Result, Ok, Err, IsErr, IsErrAnd, MatchResult}
use Rattle.std.specs.List.{AllByRecursion, AllZip}
use Rattle.wire_fields.specs.declared.fault.ListFault.{ListFault}
use Rattle.wire_fields.specs.declared.fault.ListFault.TheVariants as lists
use Rattle.wire_fields.specs.Grammar.{WireField, AreFields}
use Rattle.feed_reading.specs.declared.plain_fault.PlainFault.{PlainFault}
use Rattle.feed_reading.specs.declared.plain_fault.PlainFault.TheVariants.{Meaningless, Memory}
use Rattle.feed_reading.specs.Meaning.{IsJoined}
use Rattle.feed_reading.specs.Plain.{Finds, fault_of}

-- where there is no part, there is no whole
no_whole : {A B : Type 0} (Part : A → Type 0) (Whole : B → Type 0) (fault : PlainFault) → Finds Part (Err fault)
    → ((b : B) → Whole b → (a : A) × Part a) → Finds Whole (Err fault)
no_whole Part Whole Meaningless none part = λ b whole. let p = part b whole in none p.0 p.1
no_whole Part Whole Memory none part = tt

-- and a reader that passes the part's fault on answers so
pub passed_on : {A B : Type 0} (Part : A → Type 0) (Whole : B → Type 0) (answer : Result B PlainFault)
    (fault : PlainFault)
    → IsErrAnd answer (λ e. e ≡ fault) → Finds Part (Err fault) → ((b : B) → Whole b → (a : A) × Part a)
    → Finds Whole answer
passed_on Part Whole (Ok b) fault is none part = absurd is
passed_on Part Whole (Err e) fault is none part = rw is (no_whole Part Whole fault none part)

-- a fault answers what it has to
pub failed : {A E : Type 0} (Found : A → Type 0) (Lost : Type 0) (answer : Result A E) → IsErr answer → Lost
    → MatchResult answer Found (λ _. Lost)
failed Found Lost (Ok a) is lost = absurd cc
failed Found Lost (Err e) is lost = lost

-- why bytes were not listed says whether they are a list
pub unlisted : (bytes : List ℕ) (fault : ListFault)
    → ((fields : List WireField) → AreFields bytes fields → fault ≡ lists.Memory)
    → Finds (AreFields bytes) (Err (fault_of fault))
unlisted bytes (lists.Wire fault) reads = λ fields h. let e = reads fields h in absurd cc
unlisted bytes lists.Memory reads = tt

-- a fact about each element holds at a place
pub all_at : {A B : Type 0} (f : A → B) (P : B → Type 0) (xs : List A) (i : ℕ) (d : A) → i < length xs
    → AllByRecursion P (map f xs) → P (f (get_or xs i d))
all_at f P [] i d within h = absurd (omega arith)
all_at f P (x ∷ xs) zero d within h = h.0
all_at f P (x ∷ xs) (suc i) d within h = all_at f P xs i d (omega arith) h.1

-- and so does one about the elements of two lists
pub zip_at : {A B C : Type 0} (f : A → B) (R : B → C → Type 0) (xs : List A) (ys : List C) (i : ℕ) (d : A)
    → i < length xs → AllZip R (map f xs) ys → (y : C) × R (f (get_or xs i d)) y
zip_at f R [] ys i d within h = absurd (omega arith)
zip_at f R (x ∷ xs) [] i d within h = absurd h
zip_at f R (x ∷ xs) (y ∷ ys) zero d within h = (y, h.0)
zip_at f R (x ∷ xs) (y ∷ ys) (suc i) d within h = zip_at f R xs ys i d (omega arith) h.1

-- which goes on by one
pub zip_more : {A B C : Type 0} (f : A → B) (R : B → C → Type 0) (xs : List A) (ys : List C) (i : ℕ) (d : A) (y : C)
    → i < length xs → AllZip R (map f (take i xs)) ys → R (f (get_or xs i d)) y
    → AllZip R (map f (take (i + 1) xs)) (ys ++ y ∷ [])
zip_more f R xs ys i d y within h r =
    rw (take_more xs i d within, map-append f (take i xs) (get_or xs i d ∷ []))
    (all_zipped_more R (map f (take i xs)) ys (f (get_or xs i d)) y h r)

-- what all bodies mean by one table, they mean by a table that says the same of another form of the message
pub joined_along : {M N : Type 0} (Table : List WireField → M → Type 0) (Other : List WireField → N → Type 0)
    (f : M → N) → ((fields : List WireField) (m : M) → Table fields m → Other fields (f m))
    → (bodies : List (List ℕ)) (found : Option M) → IsJoined Table bodies found
    → IsJoined Other bodies (option_map f found)
joined_along Table Other f along [] None h = tt
joined_along Table Other f along [] (Some m) h = absurd h
joined_along Table Other f along (body ∷ others) None h = absurd h
joined_along Table Other f along (body ∷ others) (Some m) h =
    record { fields = h.fields; read = h.read; table = along h.fields m h.table }
