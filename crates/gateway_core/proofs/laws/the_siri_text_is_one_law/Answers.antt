use Rattle.gateway_core.proofs.OneTextLemmas.{one_text}
use Rattle.gateway_core.proofs.laws.the_siri_text_is_one_law.Goals as goal

pub returns : goal.returns
returns c = one_text
