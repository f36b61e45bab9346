-- Strings, moments and numbers of JSON as they are written (RFC 8259).
use Rattle.std.specs.Prelude.{ℕ, ℤ, List, ◌++◌, decimal}
use Rattle.json.specs.Print.{quoted}
use Rattle.service_day.specs.Utc.{moment_text}

-- a text as a string, after what leads to it; a moment; and a number in decimal
unfoldable pub led : List ℕ → List ℕ → List ℕ
led lead text = lead ++ quoted text

abbrev pub led_moment : List ℕ → ℤ → List ℕ
led_moment lead secs = led lead (moment_text secs)

unfoldable pub led_number : List ℕ → ℕ → List ℕ
led_number lead number = lead ++ decimal number
