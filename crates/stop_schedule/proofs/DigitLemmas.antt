-- A field that has its form by its digits is a text.
use Rattle.std.proofs.Common.{◌≡◌, ◌<◌, ◌≤◌, ◌==◌, ◌||◌, ℕ, zero, suc, Bool, true, false, cond, not, nat_lt, List, [], ◌∷◌, length, drop, slice_index, Option, Some, None, is_some, refl, arith}
use Rattle.std.specs.Str.{IsAscii, is_utf8}
use Rattle.std.proofs.lemmas.Bool.{leb-true, false≢true}
use Rattle.std.proofs.lemmas.Bool.Decides.{nat_tests}
use Rattle.std.proofs.lemmas.Str.{IsUtf8-from_ascii, is_utf8-from_IsUtf8}
use Rattle.std.specs.Char.{is_ascii_digit}
use Rattle.stop_schedule.specs.Forms.{are_digits, clock, is_clock, is_sixty, seconds, sequence}
use Rattle.timetable.proofs.IdLemmas.{and-left, and-right}

ascii-text : (text : List ℕ) → IsAscii text → is_utf8 text ≡ true
ascii-text text ascii = is_utf8-from_IsUtf8 text (IsUtf8-from_ascii text ascii)

digit-is-low : (byte : ℕ) → is_ascii_digit byte ≡ true → byte < 128
digit-is-low byte digit = let low : byte ≤ 57 = leb-true byte 57 (and-right _ _ digit) in omega (arith, low)

digits-are-ascii : (text : List ℕ) → are_digits text ≡ true → IsAscii text
digits-are-ascii [] digits i = omega arith
digits-are-ascii (byte ∷ text) digits zero = digit-is-low byte (and-left (is_ascii_digit byte) _ digits)
digits-are-ascii (byte ∷ text) digits (suc i) = digits-are-ascii text (and-right (is_ascii_digit byte) _ digits) i

by-digits : (a b digits : Bool) (value : Option ℕ) → is_some (cond (a || b || not digits) None value) ≡ true
    → digits ≡ true
by-digits a b true value some = refl
by-digits true b false value some = absurd (false≢true some)
by-digits false true false value some = absurd (false≢true some)
by-digits false false false value some = absurd (false≢true some)

pub sequence-is-text : (text : List ℕ) → is_some (sequence text) ≡ true → is_utf8 text ≡ true
unfolding sequence
sequence-is-text text some =
    ascii-text text
    (digits-are-ascii text (by-digits (length text == 0) (nat_lt 10 (length text)) (are_digits text) _ some))

-- ---- times

by-clock : (clock : Bool) (value : ℕ) → is_some (cond clock (Some value) None) ≡ true → clock ≡ true
by-clock true value some = refl
by-clock false value some = absurd (false≢true some)

colon-is-low : (byte : ℕ) → (byte == 58) ≡ true → byte < 128
colon-is-low byte colon = grind (arith, nat_tests, colon)

sixty-is-low : (tens ones : ℕ) → is_sixty tens ones ≡ true → (tens < 128) × (ones < 128)
sixty-is-low tens ones sixty = (
  digit-is-low tens (and-left (is_ascii_digit tens) _ sixty),
  digit-is-low ones (and-left (is_ascii_digit ones) _ (and-right (is_ascii_digit tens) _ sixty)),
)

clock-is-ascii : (tens : ℕ) (rest : List ℕ) → length rest ≡ 7 → is_clock tens rest ≡ true → IsAscii rest
clock-is-ascii tens (h ∷ c ∷ m ∷ n ∷ d ∷ s ∷ t ∷ []) seven all =
    let hours = and-right (is_ascii_digit tens) _ all in
    let colon = and-right (is_ascii_digit h) _ hours in
    let minutes = and-right (c == 58) _ colon in
    let second = and-right (is_sixty m n) _ minutes in
    let seconds = sixty-is-low s t (and-right (d == 58) _ second) in
    let minute = sixty-is-low m n (and-left (is_sixty m n) _ minutes) in
    at (digit-is-low h (and-left (is_ascii_digit h) _ hours)) (colon-is-low c (and-left (c == 58) _ colon)) minute.0 minute.1
    (colon-is-low d (and-left (d == 58) _ second)) seconds.0 seconds.1
  where
    at : h < 128 → c < 128 → m < 128 → n < 128 → d < 128 → s < 128 → t < 128 → IsAscii (h ∷ c ∷ m ∷ n ∷ d ∷ s ∷ t ∷ [])
    at p0 p1 p2 p3 p4 p5 p6 zero = p0
    at p0 p1 p2 p3 p4 p5 p6 (suc zero) = p1
    at p0 p1 p2 p3 p4 p5 p6 (suc (suc zero)) = p2
    at p0 p1 p2 p3 p4 p5 p6 (suc (suc (suc zero))) = p3
    at p0 p1 p2 p3 p4 p5 p6 (suc (suc (suc (suc zero)))) = p4
    at p0 p1 p2 p3 p4 p5 p6 (suc (suc (suc (suc (suc zero))))) = p5
    at p0 p1 p2 p3 p4 p5 p6 (suc (suc (suc (suc (suc (suc zero)))))) = p6
    at p0 p1 p2 p3 p4 p5 p6 (suc (suc (suc (suc (suc (suc (suc i))))))) = omega arith
clock-is-ascii tens [] seven all = absurd (omega (arith, seven))
clock-is-ascii tens (h ∷ []) seven all = absurd (omega (arith, seven))
clock-is-ascii tens (h ∷ c ∷ []) seven all = absurd (omega (arith, seven))
clock-is-ascii tens (h ∷ c ∷ m ∷ []) seven all = absurd (omega (arith, seven))
clock-is-ascii tens (h ∷ c ∷ m ∷ n ∷ []) seven all = absurd (omega (arith, seven))
clock-is-ascii tens (h ∷ c ∷ m ∷ n ∷ d ∷ []) seven all = absurd (omega (arith, seven))
clock-is-ascii tens (h ∷ c ∷ m ∷ n ∷ d ∷ s ∷ []) seven all = absurd (omega (arith, seven))
clock-is-ascii tens (h ∷ c ∷ m ∷ n ∷ d ∷ s ∷ t ∷ u ∷ more) seven all = absurd (omega (arith, seven))

first-is-ascii : (first : ℕ) (rest : List ℕ) → first < 128 → IsAscii rest → IsAscii (first ∷ rest)
first-is-ascii first rest low ascii zero = low
first-is-ascii first rest low ascii (suc i) = ascii i

-- eight bytes of which the first is the tens of the hours
long-clock : (text : List ℕ) → length text ≡ 8 → is_clock (slice_index text 0) (drop 1 text) ≡ true → IsAscii text
long-clock [] eight all = absurd (omega (arith, eight))
long-clock (tens ∷ rest) eight all =
    let seven : length rest ≡ 7 = omega (arith, eight) in
    first-is-ascii tens rest (digit-is-low tens (and-left (is_ascii_digit tens) _ all)) (clock-is-ascii tens rest seven all)

by-length : (text : List ℕ) (seven eight : Bool) → (length text == 7) ≡ seven → (length text == 8) ≡ eight
    → is_some (cond seven (clock 48 text) (cond eight (clock (slice_index text 0) (drop 1 text)) None)) ≡ true
    → IsAscii text
by-length text true eight is one some =
    let seven : length text ≡ 7 = grind (arith, nat_tests, is) in
    clock-is-ascii 48 text seven (by-clock (is_clock 48 text) _ some)
by-length text false true is one some =
    let eight : length text ≡ 8 = grind (arith, nat_tests, one) in
    long-clock text eight (by-clock (is_clock (slice_index text 0) (drop 1 text)) _ some)
by-length text false false is one some = absurd (false≢true some)

pub seconds-is-text : (text : List ℕ) → is_some (seconds text) ≡ true → is_utf8 text ≡ true
unfolding seconds
seconds-is-text text some = ascii-text text (by-length text (length text == 7) (length text == 8) refl refl some)
