use Rattle.std.proofs.Common.{rules, arith}
use Rattle.poly_text.specs.NextToken.{seen_lexeme}
use Rattle.poly_text.proofs.Lexing.{guard_from-at, guard_from-end}
use Rattle.poly_text.proofs.lexemes.next_item.Goals as goal

pub returns-then-at-text-clause-items : goal.returns-then-at-text-clause-items
returns-then-at-text-clause-items c = guard_from-at c.args.text.now c.args.from
    c.skip_blanks-at.result (seen_lexeme c.item_lexeme.result) (search rules) (omega arith)
    c.item_lexeme.ensures.lexeme

pub returns-else-at-text-clause-items : goal.returns-else-at-text-clause-items
returns-else-at-text-clause-items c = guard_from-end c.args.text.now c.args.from
    c.skip_blanks-at.result (search rules) (omega arith)
