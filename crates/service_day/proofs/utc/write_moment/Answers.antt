use Rattle.std.proofs.Common.{FitsSigned, w64, to_z-of_z}
use Rattle.service_day.specs.DayTexts.{dashed_text}
use Rattle.service_day.specs.Utc.{moment_text}
use Rattle.service_day.proofs.UtcLemmas.{utc_of-moment_text, length-moment_text}
use Rattle.service_day.proofs.utc.write_moment.Goals as goal

pub returns-clause-value : goal.returns-clause-value
unfolding moment_text dashed_text
returns-clause-value c =
    let fits : FitsSigned w64 c.args.secs = c.ranges.secs in
    rw (c.day_text.ensures.value, c.at_moment.ensures, c.two_digits.ensures, c.two_digits-2.ensures, c.two_digits-3.ensures, c.clock_of-hour.ensures.hour, c.clock_of-hour.ensures.minute, c.clock_of-hour.ensures.second) (simp to_z-of_z)

pub returns-clause-length : goal.returns-clause-length
returns-clause-length c = length-moment_text c.args.secs

pub returns-clause-reads : goal.returns-clause-reads
returns-clause-reads c = utc_of-moment_text c.args.secs c.requires
