use Rattle.grammars.proofs.Reading.{whole_read}
use Rattle.grammars.proofs.laws.texts_are_read.Goals as goal

pub returns : goal.returns
returns c _ = λ L checked gs whole s t ts. whole_read L checked gs whole s t ts
