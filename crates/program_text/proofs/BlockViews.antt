-- Statements behind a block.
--   block_push                       one more
--   set_statement, any_statement, assume_statement, assert_statement, branch_statement, loop_statement     what a statement of the code is seen as
use Rattle.std.proofs.Common.{◌≡◌, ℕ, List, [], ◌∷◌, ◌++◌, map, refl, ap, sym, ◌∙◌}
use Rattle.std.specs.Global.{Vec}
use Rattle.std.proofs.lemmas.List.{map_push}
use Rattle.loops.specs.Program.{Expr}
use Rattle.loop_model.specs.ExpressionView.{expr_of}
use Rattle.program_model.specs.Program.{Block, Statement, empty, behind, step, choose, assume, assert, branch, loop}
use Rattle.program_model.specs.SyntaxView.{divisor_of, comparison_of, guard_of, step_of}
use Rattle.program_model.specs.StatementView.{Syntax, block_behind, block_of, statement_step, statement_of}
use Rattle.program_model.specs.declared.statement.Statement as code
use Rattle.program_model.specs.declared.statement.Statement.TheVariants.{Do, Assert, If, While, rolls-Do, rolls-Assert, rolls-If, rolls-While}
use Rattle.program_model.specs.declared.statement.Statement.TheOpen.{Statement-F}
use Rattle.program_model.specs.declared.statement.Statement.TheFolds.{fold-roll-Statement}
use Rattle.program_model.specs.declared.syntax.Assignment.{Assignment}
use Rattle.program_model.specs.declared.syntax.Comparison.{Comparison}
use Rattle.program_model.specs.declared.syntax.Guard.{Guard}
use Rattle.program_model.specs.declared.syntax.Step.TheVariants.{Assign, Any, Assume}
use Rattle.program_text.specs.Programs.{set}

behind_push : (b : Block (Expr ℕ)) (ss : List (Statement (Expr ℕ))) (s : Statement (Expr ℕ))
    → block_behind b (ss ++ s ∷ []) ≡ behind (block_behind b ss) s
unfolding block_behind
behind_push b [] s = refl
behind_push b (t ∷ ss) s = behind_push (behind b t) ss s

pub block_push : (ss : List code.Statement) (s : code.Statement)
    → block_of (ss ++ s ∷ []) ≡ behind (block_of ss) (statement_of s)
block_push ss s = ap (block_behind empty) (map_push statement_of ss s)
    ∙ behind_push empty (map statement_of ss) (statement_of s)

pub set_statement : (a : Assignment) → statement_of (Do (Assign a))
    ≡ set (map divisor_of a.divisors.items) a.statement.targets.items
    (map expr_of a.statement.values.items)
unfolding statement_of step_of
set_statement a = ap statement_of (sym (rolls-Do (Assign a)))
    ∙ fold-roll-Statement Syntax statement_step (Statement-F.Do (Assign a))

pub any_statement : (at target : ℕ) → statement_of (Do (Any at target)) ≡ step (choose at target)
unfolding statement_of step_of
any_statement at target = ap statement_of (sym (rolls-Do (Any at target)))
    ∙ fold-roll-Statement Syntax statement_step (Statement-F.Do (Any at target))

pub assume_statement : (k : Comparison) → statement_of (Do (Assume k))
    ≡ step (assume (comparison_of k))
unfolding statement_of step_of
assume_statement k = ap statement_of (sym (rolls-Do (Assume k)))
    ∙ fold-roll-Statement Syntax statement_step (Statement-F.Do (Assume k))

pub assert_statement : (at : ℕ) (k : Comparison) → statement_of (Assert at k)
    ≡ assert at (comparison_of k)
unfolding statement_of
assert_statement at k = ap statement_of (sym (rolls-Assert at k))
    ∙ fold-roll-Statement Syntax statement_step (Statement-F.Assert at k)

pub loop_statement : (at : ℕ) (g : Guard) (ss : Vec code.Statement) → statement_of (While at g ss)
    ≡ loop at (guard_of g) (block_of ss.items)
unfolding statement_of
loop_statement at g ss = ap statement_of (sym (rolls-While at g ss))
    ∙ fold-roll-Statement Syntax statement_step (Statement-F.While at g ss)

pub branch_statement : (at : ℕ) (g : Guard) (ss ts : Vec code.Statement)
    → statement_of (If at g ss ts)
    ≡ branch at (guard_of g) (block_of ss.items) (block_of ts.items)
unfolding statement_of
branch_statement at g ss ts = ap statement_of (sym (rolls-If at g ss ts))
    ∙ fold-roll-Statement Syntax statement_step (Statement-F.If at g ss ts)
