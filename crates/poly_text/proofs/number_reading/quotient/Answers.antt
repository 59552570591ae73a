use Rattle.std.proofs.Common.{rules, ap, ◌∙◌}
use Rattle.std.specs.Prelude.{option_map}
use Rattle.frac128.specs.FracMeaning.{fraction_of}
use Rattle.poly_text.proofs.Numerals.{fraction_is}
use Rattle.poly_text.proofs.number_reading.quotient.Goals as goal

pub returns : goal.returns
returns c = ap (option_map fraction_of) c.ok.ensures.value
    ∙ fraction_is c.args.num.now c.args.den.now
    c.in_ok-read_numeral.field-0 c.in_ok-read_numeral-2.field-0
    c.new.result (search rules) (search rules) (search rules) (search rules) (search rules)
