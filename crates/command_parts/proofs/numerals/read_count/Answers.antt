use Rattle.std.proofs.Common.{◌≡◌, rules, arith, ◌∙◌, None}
use Rattle.command_parts.proofs.NumeralLaws.{count_missing, count_found}
use Rattle.command_parts.proofs.numerals.read_count.Goals as goal

pub returns-in_err-letter : goal.returns-in_err-letter
returns-in_err-letter c =
    let none : c.from_residual.result ≡ None = search rules in
    none ∙ count_missing c.args.argument.now (omega arith) (search rules)

pub returns : goal.returns
returns c = count_found c.args.argument.now c.in_ok-letter.field-0 _ (omega arith) (search rules)
    (search rules)
