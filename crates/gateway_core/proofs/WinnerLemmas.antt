-- The keys of records and of situations, and their orders.
use Rattle.std.proofs.Common.{◌≡◌, ◌∙◌, ℕ, ℤ, true, false, ◌&&◌, ap, refl, arith}
use Rattle.std.proofs.lemmas.Cmp.{on_total, then_total, nat_cmp_total, int_cmp_total, eq_by_cmp_equiv}
use Rattle.std.proofs.lemmas.Int.{ints}
use Rattle.std.specs.Prelude.{nat_lt}
use Rattle.std.specs.Cmp.{IsTotalOrder, unsigned_ties, tied_then}
use Rattle.std.specs.Cmp.Lexicographic.{nat_list_cmp_total, slice_cmp, texts_ties}
use Rattle.std.specs.FinMap.{int_cmp-IsAntisymmetric, nat_cmp-IsAntisymmetric, slice_cmp-IsAntisymmetric}
use Rattle.std.specs.Ordering.{int_cmp, int_eq, is_eq, nat_cmp, on, ordering_then, then_cmp}
use Rattle.std.specs.declared.cmp.Ordering.{Ordering}
use Rattle.std.specs.declared.cmp.Ordering.TheVariants.{Less, Equal, Greater}
use Rattle.std.proofs.Math.Bool.{and_comm}
use Rattle.journey_model.specs.Records.{Recorded}
use Rattle.journey_model.specs.declared.situation.Situation.{Situation}
use Rattle.latest_store.specs.Latest.{has_number, is_later, is_newer, was_later}
use Rattle.gateway_core.specs.Winners.{IsKeyed, Key, has_key, key_cmp, key_of}

-- ---- journeys by service day and trip number

pub key_total : IsTotalOrder key_cmp
key_total = record { antisymm = pairs.antisymm; trans = pairs.trans; congr = pairs.congr }
  where
    pairs : IsTotalOrder (then_cmp (on (λ (key : ℤ × ℕ). key.0) int_cmp) (on (λ (key : ℤ × ℕ). key.1) nat_cmp))
    pairs = then_total (on_total (λ (key : ℤ × ℕ). key.0) int_cmp_total) (on_total (λ (key : ℤ × ℕ). key.1) nat_cmp_total)

same_key : (p q : Key) → key_cmp p q ≡ Equal → p ≡ q
same_key p q e =
    let both = parts (int_cmp p.0 q.0) (nat_cmp p.1 q.1) e in
    ap (λ (day : ℤ). (day, p.1)) (int_cmp-IsAntisymmetric p.0 q.0 both.0) ∙ ap (λ (trip : ℕ). (q.0, trip)) (nat_cmp-IsAntisymmetric p.1 q.1 both.1)
  where
    parts : (a b : Ordering) → ordering_then a b ≡ Equal → (a ≡ Equal) × (b ≡ Equal)
    parts Less b e = absurd cc
    parts Equal b e = (refl, e)
    parts Greater b e = absurd cc

-- a record is of the trip and day of its key
has_own_key : (key : Key) (one : Recorded) → has_key key one ≡ is_eq (key_cmp (key_of one) key)
has_own_key key one =
    ap (λ same. same && int_eq one.day key.0) (unsigned_ties one.trip key.1)
    ∙ and_comm (is_eq (nat_cmp one.trip key.1)) (int_eq one.day key.0)
    ∙ tied_then (int_cmp one.day key.0) (nat_cmp one.trip key.1)

pub journeys : IsKeyed key_cmp key_of has_key was_later
journeys = record {
  total = key_total;
  same = same_key;
  its = λ key one. has_own_key key one ∙ (eq_by_cmp_equiv key_total).symm (key_of one) key;
  gap = λ a b c. later_gap a.at b.at c.at;
  after = λ a b c. later_after a.at b.at c.at;
}
  where
    later_gap : (a b c : ℤ × ℕ) → is_later a b ≡ false → is_later b c ≡ false → is_later a c ≡ false
    later_gap a b c h k = grind (arith, ints)

    later_after : (a b c : ℤ × ℕ) → is_later a b ≡ true → is_later a c ≡ false → is_later b c ≡ false
    later_after a b c h k = grind (arith, ints)

-- ---- situations by number

pub numbers : IsKeyed (slice_cmp nat_cmp) (λ (one : Situation). one.number) has_number is_newer
numbers = record {
  total = nat_list_cmp_total;
  same = slice_cmp-IsAntisymmetric nat_cmp-IsAntisymmetric;
  its = λ number one. texts_ties one.number number ∙ (eq_by_cmp_equiv nat_list_cmp_total).symm one.number number;
  gap = λ a b c. version_gap a.version b.version c.version;
  after = λ a b c. version_after a.version b.version c.version;
}
  where
    version_gap : (a b c : ℕ) → nat_lt b a ≡ false → nat_lt c b ≡ false → nat_lt c a ≡ false
    version_gap a b c h k = grind arith

    version_after : (a b c : ℕ) → nat_lt b a ≡ true → nat_lt c a ≡ false → nat_lt c b ≡ false
    version_after a b c h k = grind arith
