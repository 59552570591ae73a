use Rattle.std.proofs.Common.{sym}
use Rattle.poly_text.proofs.ItemSteps.{minus_some, minus_none}
use Rattle.poly_text.proofs.flat_text.behind_minus.Goals as goal

pub returns-then-is_sign : goal.returns-then-is_sign
returns-then-is_sign c = λ names. minus_some names c.args.cursor (sym c.if-is_sign.ensures)
    c.next.result c.next.ensures.tokens

pub returns-else-is_sign : goal.returns-else-is_sign
returns-else-is_sign c = λ names. minus_none names c.args.cursor (sym c.if-is_sign.ensures)
