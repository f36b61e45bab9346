-- Digits are text.
use Rattle.std.proofs.Common.{ℕ, List, length, arith, inl, inr}
use Rattle.std.proofs.lemmas.Bool.{cases_lt}
use Rattle.std.proofs.lemmas.List.{get_or_past}
use Rattle.std.proofs.lemmas.Str.{IsUtf8-from_ascii}
use Rattle.std.specs.Char.{IsAsciiDigit}
use Rattle.std.specs.Prelude.{All, IsUtf8}
use Rattle.journey_model.proofs.dates.date_text.Goals as goal

digits_are_text : (date : List ℕ) → All IsAsciiDigit date → IsUtf8 date
digits_are_text date digits = IsUtf8-from_ascii date (λ i. elim (cases_lt i (length date)) [
  | inl within ↦ let digit = digits i 0 within in omega arith
  | inr past ↦ rw (get_or_past date i 0 past) (omega arith)
])

pub unreachable-requires : goal.unreachable-requires
unreachable-requires c = absurd (c.in-Err.ensures.cases.0 (digits_are_text c.args.date.now c.requires))
