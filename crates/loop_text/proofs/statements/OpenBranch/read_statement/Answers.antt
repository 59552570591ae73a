use Rattle.std.proofs.Common.{sym}
use Rattle.loop_text.specs.OpenBranch.{within}
use Rattle.loop_text.proofs.StatementReads.{list_here, no_list_here}
use Rattle.loop_text.proofs.Answering.{continued_going, single, several, statement, loop_language}
use Rattle.loop_text.proofs.statements.OpenBranch.read_statement.Goals as goal

pub returns-then-is_sign-clause-goes : goal.returns-then-is_sign-clause-goes
returns-then-is_sign-clause-goes c = λ b.
    let s = within c.args.self.now c.args.begun.now b in
    continued_going loop_language statement several s s _ c.args.cursor c.args.cursor
    c.read_list.result (list_here s c.args.cursor (sym c.if-is_sign.ensures))
    (c.read_list.ensures.goes b)

pub returns-else-is_sign-clause-goes : goal.returns-else-is_sign-clause-goes
returns-else-is_sign-clause-goes c = λ b.
    let s = within c.args.self.now c.args.begun.now b in
    continued_going loop_language statement single s s _ c.args.cursor c.args.cursor
    c.read_single.result (no_list_here s c.args.cursor (sym c.if-is_sign.ensures))
    (c.read_single.ensures.goes b)
