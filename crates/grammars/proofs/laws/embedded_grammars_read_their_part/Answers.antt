use Rattle.grammars.proofs.Lifted.{lifted_read}
use Rattle.grammars.proofs.laws.embedded_grammars_read_their_part.Goals as goal

pub returns : goal.returns
returns c _ = λ E S L is g s ts. lifted_read E S L is g s ts
