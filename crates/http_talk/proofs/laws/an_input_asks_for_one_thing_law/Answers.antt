-- The lemma of that.
use Rattle.http_talk.proofs.OneRequest.{one_request}
use Rattle.http_talk.proofs.laws.an_input_asks_for_one_thing_law.Goals as goal

pub returns : goal.returns
returns c = one_request
