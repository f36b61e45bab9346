use Rattle.std.proofs.Common.{refl}
use Rattle.service_day.specs.DayTexts.{dashed_text}
use Rattle.service_day.proofs.DayTextLemmas.{dashed_day-dashed_text, length-dashed_text}
use Rattle.service_day.proofs.day_texts.day_text.Goals as goal

pub returns-clause-value : goal.returns-clause-value
unfolding dashed_text
returns-clause-value c =
    rw (c.two_digits.ensures, c.two_digits-2.ensures, c.two_digits-3.ensures, c.two_digits-4.ensures, c.parts-year.ensures.year, c.parts-year.ensures.month, c.parts-year.ensures.day) refl

pub returns-clause-length : goal.returns-clause-length
returns-clause-length c = length-dashed_text c.args.day

pub returns-clause-reads : goal.returns-clause-reads
returns-clause-reads c = dashed_day-dashed_text c.args.day c.parts-year.ensures.within
