-- What the parts of programs in the code are seen as.
--   comparison_of k, divisor_of d, assignment_of a, step_of c, guard_of g
use Rattle.std.specs.Prelude.{ℕ, map}
use Rattle.loops.specs.Program.{Expr}
use Rattle.loop_model.specs.ExpressionView.{expr_of}
use Rattle.program_model.specs.Program as program
use Rattle.program_model.specs.declared.syntax.Comparison.{Comparison}
use Rattle.program_model.specs.declared.syntax.Divisor.{Divisor}
use Rattle.program_model.specs.declared.syntax.Assignment.{Assignment}
use Rattle.program_model.specs.declared.syntax.Guard.{Guard}
use Rattle.program_model.specs.declared.syntax.Step.{Step}
use Rattle.program_model.specs.declared.syntax.Step.TheVariants.{Assign, Any, Assume}

abbrev pub comparison_of : Comparison → program.Comparison (Expr ℕ)
comparison_of k = record {
  at = k.at;
  equal = k.equal;
  left = expr_of k.left;
  right = expr_of k.right;
}

abbrev pub divisor_of : Divisor → program.Divisor (Expr ℕ)
divisor_of d = record { at = d.at; value = expr_of d.value }

abbrev pub assignment_of : Assignment → program.Assignment (Expr ℕ)
assignment_of a = record {
  divisors = map divisor_of a.divisors.items;
  targets = a.statement.targets.items;
  values = map expr_of a.statement.values.items;
}

unfoldable pub step_of : Step → program.Step (Expr ℕ)
step_of (Assign a) = program.assign (assignment_of a)
step_of (Any at target) = program.choose at target
step_of (Assume k) = program.assume (comparison_of k)

abbrev pub guard_of : Guard → program.Guard (Expr ℕ)
guard_of g = record { says = map comparison_of g.says.items; alone = g.alone }
