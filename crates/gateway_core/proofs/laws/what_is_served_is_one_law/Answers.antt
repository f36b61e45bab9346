use Rattle.gateway_core.proofs.OneTextLemmas.{kept_text_one}
use Rattle.gateway_core.proofs.StateLemmas.{kept_journeys_one, kept_situations_one, served_alike, served_one, window_one}
use Rattle.gateway_core.proofs.laws.what_is_served_is_one_law.Goals as goal

pub returns-clause-window : goal.returns-clause-window
returns-clause-window c = window_one

pub returns-clause-journeys : goal.returns-clause-journeys
returns-clause-journeys c = kept_journeys_one

pub returns-clause-situations : goal.returns-clause-situations
returns-clause-situations c = kept_situations_one

pub returns-clause-served : goal.returns-clause-served
returns-clause-served c = λ kept other arrivals at same h k. served_one kept other arrivals same h k at

pub returns-clause-alike : goal.returns-clause-alike
returns-clause-alike c = served_alike

pub returns-clause-text : goal.returns-clause-text
returns-clause-text c = kept_text_one
