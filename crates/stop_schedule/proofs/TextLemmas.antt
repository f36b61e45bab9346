-- Bytes that are no text.
use Rattle.std.proofs.Common.{◌≡◌, ℕ, Bool, true, false, List, refl}
use Rattle.std.specs.Prelude.{IsUtf8}
use Rattle.std.specs.Str.{is_utf8}
use Rattle.std.proofs.lemmas.Str.{is_utf8-from_IsUtf8, IsUtf8-from_is_utf8}

pub no-text : (bytes : List ℕ) → (IsUtf8 bytes → ⊥) → is_utf8 bytes ≡ false
no-text bytes none = by (is_utf8 bytes) refl
  where
    by : (b : Bool) → is_utf8 bytes ≡ b → b ≡ false
    by false e = refl
    by true e = absurd (none (IsUtf8-from_is_utf8 bytes e))

pub a-text : (bytes : List ℕ) → IsUtf8 bytes → is_utf8 bytes ≡ true
a-text bytes text = is_utf8-from_IsUtf8 bytes text
