-- Which of two of one key counts, and the keys of journeys.
use Rattle.std.specs.Prelude.{◌≡◌, ℕ, ℤ, Bool, true, false, not, List, Option, Some, None}
use Rattle.std.specs.Cmp.{IsTotalOrder}
use Rattle.std.specs.List.{AllByRecursion}
use Rattle.std.specs.Ordering.{int_cmp, is_eq, nat_cmp, ordering_then}
use Rattle.std.specs.declared.cmp.Ordering.{Ordering}
use Rattle.std.specs.declared.cmp.Ordering.TheVariants.{Equal}
use Rattle.journey_model.specs.Records.{Recorded}
use Rattle.journey_model.specs.Schedules.{IsServable, Schedule}
use Rattle.latest_store.specs.Latest.{is_of}

-- ---- which counts of each key

-- one that arrives counts where the one of its key before it isn't later
abbrev pub counts_by : {A : Type 0} → (A → A → Bool) → Option A → A → Bool
counts_by is_later None arriving = true
counts_by is_later (Some one) arriving = not (is_later one arriving)

-- what is a key, and when one is later than another
pub record IsKeyed {A Q : Type 0} (cmp : Q → Q → Ordering) (key_of : A → Q) (is_its : Q → A → Bool)
    (is_later : A → A → Bool) : Type 0 where
  pub total : IsTotalOrder cmp
  pub same : (p q : Q) → cmp p q ≡ Equal → p ≡ q
  pub its : (q : Q) (a : A) → is_its q a ≡ is_eq (cmp q (key_of a))
  pub gap : (a b c : A) → is_later a b ≡ false → is_later b c ≡ false → is_later a c ≡ false
  pub after : (a b c : A) → is_later a b ≡ true → is_later a c ≡ false → is_later b c ≡ false

-- ---- journeys

-- by service day, then trip number
abbrev pub Key : Type 0
Key = ℤ × ℕ

abbrev pub key_cmp : Key → Key → Ordering
key_cmp a b = ordering_then (int_cmp a.0 b.0) (nat_cmp a.1 b.1)

abbrev pub key_of : Recorded → Key
key_of one = (one.day, one.trip)

abbrev pub has_key : Key → Recorded → Bool
has_key key one = is_of key.1 key.0 one

-- each of the records can be served
abbrev pub AreServable : Schedule → List Recorded → Type 0
AreServable schedule records = AllByRecursion (λ one. IsServable schedule one.trip one.day one.reading) records
