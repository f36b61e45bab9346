-- The bytes that were written, and their counts.
use Rattle.file_commands.specs.Samples.{IsCountsOf, IsRebuiltBytes}
use Rattle.file_commands.proofs.SampleLemmas.{then_found}
use Rattle.file_commands.proofs.samples.counted.Goals as goal

pub returns-clause-told : goal.returns-clause-told
returns-clause-told c = λ arrivals stands.
    let setting = c.args.gate.now.setting in
    let counts = rw c.written-2.ensures.same at c.counts_in.ensures.told in
    then_found (IsRebuiltBytes setting arrivals) (IsCountsOf setting arrivals) c.in_ok-sink.sink.written c.counts_in.result
    (c.in_ok-sink.ensures.rebuilt arrivals stands) (counts arrivals stands)

pub counts_in-requires-clause-faultless : goal.counts_in-requires-clause-faultless
counts_in-requires-clause-faultless c =
    rw c.written-2.ensures.same (c.in_ok-sink.ensures.gives c.requires.stands.0 c.requires.stands.1).faultless
