use Rattle.gateway_core.proofs.OneTextLemmas.{brings_one}
use Rattle.gateway_core.proofs.laws.what_a_body_brings_is_one_law.Goals as goal

pub returns : goal.returns
returns c = λ setting arrivals moment of bytes report other given another. brings_one setting arrivals moment bytes report other of given another
