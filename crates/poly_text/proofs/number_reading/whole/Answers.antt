use Rattle.std.proofs.Common.{rules, ap, ◌∙◌}
use Rattle.std.specs.Prelude.{option_map}
use Rattle.frac128.specs.FracMeaning.{fraction_of}
use Rattle.poly_text.proofs.Numerals.{whole_is_made}
use Rattle.poly_text.proofs.number_reading.whole.Goals as goal

pub returns : goal.returns
returns c = ap (option_map fraction_of) c.ok.ensures.value
    ∙ whole_is_made c.args.digits.now c.in_ok-read_numeral.field-0 c.new.result (search rules)
    (search rules) (search rules) (search rules)
