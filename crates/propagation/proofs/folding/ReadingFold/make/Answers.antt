use Rattle.propagation.proofs.FoldLemmas.{stands_none}
use Rattle.propagation.proofs.folding.ReadingFold.make.Goals as goal

pub returns : goal.returns
returns c = record { stands = λ schedule. stands_none schedule c.new.result.items c.new.ensures.items }
