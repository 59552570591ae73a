use Rattle.std.proofs.Common.{rules, ◌∙◌, arith}
use Rattle.command_parts.proofs.NumeralLaws.{letter_is}
use Rattle.command_parts.proofs.numerals.letter.Goals as goal

pub returns : goal.returns
returns c = c.ok.ensures.value
    ∙ letter_is _ c.in_ok-read_numeral.field-0 _ (omega arith) (search rules) (search rules)
