use Rattle.std.proofs.Common.{◌∙◌, refl, inr}
use Rattle.stop_schedule.proofs.rows.Rows.open.Goals as goal

pub invariant_of-result : goal.invariant_of-result
invariant_of-result c =
    let made = c.from_reader-reader.ensures in
    let rows = c.has_headers.ensures in
    let lengths = c.flexible.ensures in
    λ _. record {
      config = rw (lengths, rows) at made.config ∙ c.new.ensures.config;
      trim = rw (lengths, rows) at made.trim ∙ c.new.ensures.trim;
      flexible = rw lengths at made.flexible;
      ready = inr (inr (rw (lengths, rows) at made.has_headers, made.headers));
    }

pub returns : goal.returns
returns c = let made = c.from_reader-reader.ensures in record { left = rw (made.state, made.source) refl }
