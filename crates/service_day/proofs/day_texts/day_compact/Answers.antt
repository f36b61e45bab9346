use Rattle.std.proofs.Common.{refl}
use Rattle.service_day.specs.DayTexts.{compact_text}
use Rattle.service_day.proofs.DayTextLemmas.{All-compact_text, compact_day-compact_text, length-compact_text}
use Rattle.service_day.proofs.day_texts.day_compact.Goals as goal

pub returns-clause-value : goal.returns-clause-value
unfolding compact_text
returns-clause-value c =
    rw (c.two_digits.ensures, c.two_digits-2.ensures, c.two_digits-3.ensures, c.two_digits-4.ensures, c.parts-year.ensures.year, c.parts-year.ensures.month, c.parts-year.ensures.day) refl

pub returns-clause-length : goal.returns-clause-length
returns-clause-length c = length-compact_text c.args.day

pub returns-clause-digits : goal.returns-clause-digits
returns-clause-digits c = All-compact_text c.args.day c.parts-year.ensures.within

pub returns-clause-reads : goal.returns-clause-reads
returns-clause-reads c = compact_day-compact_text c.args.day c.parts-year.ensures.within
