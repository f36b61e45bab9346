-- Bodies that mean a message are lists of fields.
use Rattle.feed_reading.proofs.Finding.{passed_on}
use Rattle.feed_reading.proofs.plain.nested.embedded.Goals as goal

pub returns-in_err-each_listed : goal.returns-in_err-each_listed
returns-in_err-each_listed g c =
    passed_on _ _ _ _ c.from_residual-in_err-each_listed.ensures.1 c.in_err-each_listed.ensures
    (λ _ meant. (tt, rw (c.as_slice.ensures.same, c.in_ok-bodies.ensures) meant.0))
