-- Which of the records of a journey counts (SIRI 2.0, RecordedAtTime), and which of the situations of a number (SIRI
-- 2.0, SituationNumber, Version).
use Rattle.std.specs.Prelude.{◌≡◌, ◌==◌, ◌&&◌, ◌||◌, ℕ, ℤ, int_lt, nat_lt, Bool, false, true, List, ◌∷◌, ◌++◌, Option, Some, None}
use Rattle.std.specs.List.{AllByRecursion, list_any}
use Rattle.std.specs.Ordering.{int_eq}
use Rattle.std.specs.Str.{bytes_eq}
use Rattle.journey_model.specs.Records.{Recorded}
use Rattle.journey_model.specs.declared.situation.Situation.{Situation}

-- of those that pass a test one counts: none that stands before it is later, and each that stands after it is earlier
pub record IsLatestOf {A : Type 0} (is_its : A → Bool) (is_later : A → A → Bool) (all : List A) (one : A) : Type 0 where
  pub before : List A
  pub after : List A
  pub among : all ≡ before ++ one ∷ after
  pub its : is_its one ≡ true
  pub none_later : AllByRecursion (λ other. is_its other ≡ true → is_later other one ≡ false) before
  pub all_earlier : AllByRecursion (λ other. is_its other ≡ true → is_later one other ≡ true) after

-- the one that counts, or that none passes the test
abbrev pub HasLatestOf : {A : Type 0} → (A → Bool) → (A → A → Bool) → List A → Option A → Type 0
HasLatestOf is_its is_later all None = list_any is_its all ≡ false
HasLatestOf is_its is_later all (Some one) = IsLatestOf is_its is_later all one

-- an instant is later than another, both in seconds since 1970 and nanoseconds
abbrev pub is_later : ℤ × ℕ → ℤ × ℕ → Bool
is_later a b = int_lt b.0 a.0 || (int_eq a.0 b.0 && nat_lt b.1 a.1)

-- a record is of a trip on a day, and was recorded later than another
abbrev pub is_of : ℕ → ℤ → Recorded → Bool
is_of trip day one = (one.trip == trip) && int_eq one.day day

abbrev pub was_later : Recorded → Recorded → Bool
was_later a b = is_later a.at b.at

-- the record that counts for a trip on a day, or that there is none of that journey
abbrev pub HasLatest : List Recorded → ℕ → ℤ → Option Recorded → Type 0
HasLatest records trip day found = HasLatestOf (is_of trip day) was_later records found

-- a situation has a number, and a greater version than another
abbrev pub has_number : List ℕ → Situation → Bool
has_number number one = bytes_eq one.number number

abbrev pub is_newer : Situation → Situation → Bool
is_newer a b = nat_lt b.version a.version

-- the situation that counts for a number, or that there is none of it
abbrev pub HasNewest : List Situation → List ℕ → Option Situation → Type 0
HasNewest situations number found = HasLatestOf (has_number number) is_newer situations found
