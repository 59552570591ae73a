-- What a statement of the code is seen as, by cases.
--   seen_do, seen_assert, seen_if, seen_while
use Rattle.std.proofs.Common.{◌≡◌, ℕ, sym, ap, ◌∙◌, Vec, Global}
use Rattle.program_model.specs.Program as program
use Rattle.program_model.specs.SyntaxView.{comparison_of, step_of, guard_of}
use Rattle.program_model.specs.StatementView.{Syntax, statement_step, statement_of, block_of}
use Rattle.program_model.specs.declared.syntax.Comparison.{Comparison}
use Rattle.program_model.specs.declared.syntax.Guard.{Guard}
use Rattle.program_model.specs.declared.syntax.Step.{Step}
use Rattle.program_model.specs.declared.statement.Statement.{Statement}
use Rattle.program_model.specs.declared.statement.Statement.TheVariants as variants
use Rattle.program_model.specs.declared.statement.Statement.TheVariants.{rolls-Do, rolls-Assert, rolls-If, rolls-While}
use Rattle.program_model.specs.declared.statement.Statement.TheFolds.{fold-roll-Statement}

pub seen_do : (x : Statement) (c : Step) → x ≡ variants.Do c
    → statement_of x ≡ program.step (step_of c)
unfolding statement_of
seen_do x c h = ap statement_of h ∙ ap statement_of (sym (rolls-Do c))
    ∙ fold-roll-Statement Syntax statement_step _

pub seen_assert : (x : Statement) (at : ℕ) (k : Comparison) → x ≡ variants.Assert at k
    → statement_of x ≡ program.assert at (comparison_of k)
unfolding statement_of
seen_assert x at k h = ap statement_of h ∙ ap statement_of (sym (rolls-Assert at k))
    ∙ fold-roll-Statement Syntax statement_step _

pub seen_if : (x : Statement) (at : ℕ) (g : Guard) (a b : Vec Statement Global)
    → x ≡ variants.If at g a b
    → statement_of x ≡ program.branch at (guard_of g) (block_of a.items) (block_of b.items)
unfolding statement_of
seen_if x at g a b h = ap statement_of h ∙ ap statement_of (sym (rolls-If at g a b))
    ∙ fold-roll-Statement Syntax statement_step _

pub seen_while : (x : Statement) (at : ℕ) (g : Guard) (a : Vec Statement Global)
    → x ≡ variants.While at g a
    → statement_of x ≡ program.loop at (guard_of g) (block_of a.items)
unfolding statement_of
seen_while x at g a h = ap statement_of h ∙ ap statement_of (sym (rolls-While at g a))
    ∙ fold-roll-Statement Syntax statement_step _
