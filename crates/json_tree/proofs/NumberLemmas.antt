-- The texts of numbers, with and without a minus.
use Rattle.std.proofs.Common.{◌≡◌, ◌==◌, ◌&&◌, ◌^◌, ℕ, List, Bool, true, false, drop, get_or, nat_lt, nat_le, Option, Some, None, option_and_then, pos, unwrap_or, refl, if◌then◌else◌}
use Rattle.std.specs.Float.{binary64, float_is_finite}
use Rattle.fast_float.specs.Text.{Parts, scan, digits_of, nearest, with_sign}
use Rattle.serde_json.specs.Data.{Num, negative, float}
use Rattle.serde_json.specs.Find.{as_u64}
use Rattle.serde_json.specs.Read.{number_of, number_from, float_of, is_integer}

pub with_minus : (text : List ℕ) → (get_or text 0 0 == 45) ≡ true → number_of text ≡ number_from true (scan (drop 1 text))
unfolding number_of
with_minus text e = rw e

pub without_minus : (text : List ℕ) → (get_or text 0 0 == 45) ≡ false → number_of text ≡ number_from false (scan text)
unfolding number_of
without_minus text e = rw e

no_float : (finite : Bool) (x : _) → option_and_then as_u64 (if finite then Some (float x) else None) ≡ None
no_float true x = refl
no_float false x = refl

pub never_unsigned : (p : Parts) → option_and_then as_u64 (number_from true p) ≡ None
never_unsigned p = by (is_integer p && nat_lt 0 (digits_of p) && nat_le (digits_of p) (2 ^ 63))
  where
    by : (b : Bool) → option_and_then as_u64 (if b then Some (negative (with_sign true (digits_of p))) else float_of true p) ≡ None
    by true = refl
    by false = no_float (float_is_finite (nearest binary64 true p)) (nearest binary64 true p)

pub as_whole : (found : Option Num) → option_and_then as_u64 found ≡ as_u64 (unwrap_or found (negative (pos 0)))
as_whole None = refl
as_whole (Some n) = refl
