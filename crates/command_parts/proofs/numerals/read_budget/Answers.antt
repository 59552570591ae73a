use Rattle.std.proofs.Common.{◌≡◌, rules, arith, ap, ◌∙◌, None}
use Rattle.std.specs.Prelude.{option_map}
use Rattle.command_parts.specs.Budgets.{units_of}
use Rattle.command_parts.proofs.NumeralLaws.{budget_missing, budget_found}
use Rattle.command_parts.proofs.numerals.read_budget.Goals as goal

pub returns-in_err-letter : goal.returns-in_err-letter
returns-in_err-letter c =
    let none : c.from_residual.result ≡ None = search rules in
    ap (λ b. option_map units_of b) none
    ∙ budget_missing c.args.argument.now (omega arith) (search rules)

pub returns : goal.returns
returns c = budget_found c.args.argument.now c.in_ok-letter.field-0 _ (omega arith) (search rules)
    (search rules)
