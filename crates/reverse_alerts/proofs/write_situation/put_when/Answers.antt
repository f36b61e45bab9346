-- The periods that are told are those of the alert.
use Rattle.reverse_alerts.proofs.write_situation.put_when.Goals as goal

pub put_valid-requires : goal.put_valid-requires
put_valid-requires c = c.holding.ensures.told c.requires
