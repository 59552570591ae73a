use Rattle.grammars.proofs.Parts.{part_read, part_refused}
use Rattle.grammars.proofs.laws.parts_are_read.Goals as goal

pub returns : goal.returns
returns c _ = λ L checked exact gs fit s tokens spelled ts x. (
  part_read L checked exact gs fit s tokens spelled ts x,
  part_refused L checked exact gs fit s
      tokens spelled ts x,
)
