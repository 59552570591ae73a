use Rattle.std.proofs.Common.{sym, ◌∙◌, arith}
use Rattle.poly_text.specs.FlatReads.{divided_by}
use Rattle.poly_text.proofs.FlatSteps.{number_barred, denominator_goes, denominator_zero, division_some, division_none}
use Rattle.poly_text.proofs.item_text.read_division.Goals as goal

pub returns-then-not-is_sign-clause-reads : goal.returns-then-not-is_sign-clause-reads
returns-then-not-is_sign-clause-reads c =
    λ fc. division_none c.args.cursor (divided_by fc 1).context (sym c.if-not-is_sign.ensures)

pub returns-then-value-eq0-clause-reads : goal.returns-then-value-eq0-clause-reads
returns-then-value-eq0-clause-reads c = λ fc.
    denominator_zero c.next-next.result c.in-Number.value c.in-Number.is _ (omega arith)
    ∙ division_some c.args.cursor (divided_by fc 1).context (sym c.if-not-is_sign.ensures)
    c.next-next.result c.next-next.ensures.tokens

pub returns-else-value-eq0-clause-reads : goal.returns-else-value-eq0-clause-reads
returns-else-value-eq0-clause-reads c = λ fc.
    denominator_goes c.next-next.result c.in-Number.value c.in-Number.is c.next.result
    c.next.ensures.tokens _ (omega arith)
    ∙ division_some c.args.cursor (divided_by fc 1).context (sym c.if-not-is_sign.ensures)
    c.next-next.result c.next-next.ensures.tokens

pub returns-in_default-clause-reads : goal.returns-in_default-clause-reads
returns-in_default-clause-reads c = λ fc.
    number_barred c.next-next.result _ _ (divided_by fc 1) c.in_default.not-Number
    ∙ division_some c.args.cursor (divided_by fc 1).context (sym c.if-not-is_sign.ensures)
    c.next-next.result c.next-next.ensures.tokens
