-- What an operator's operands say of it.
--   uses_of_parts      the variables that stand in it
--   operands_of_parts  its first operand
use Rattle.std.proofs.Common.{◌≡◌, ℕ, ◌||◌, Some, refl}
use Rattle.loops.specs.Program.{Expr}
use Rattle.loop_model.specs.Spine.{first_operand}
use Rattle.loop_model.specs.Uses.{uses}
use Rattle.loop_model.specs.ExpressionView.{unary_of, binary_of}
use Rattle.loop_model.specs.declared.expr.UnaryOperator.TheVariants as operators
use Rattle.loop_model.specs.declared.expr.UnaryOperator.{UnaryOperator}
use Rattle.loop_model.specs.declared.expr.BinaryOperator.TheVariants as pairs
use Rattle.loop_model.specs.declared.expr.BinaryOperator.{BinaryOperator}

pub unary-uses : (o : UnaryOperator) (at : ℕ) (e : Expr ℕ) (i : ℕ)
    → uses (unary_of o at e) i ≡ uses e i
unfolding uses
unary-uses operators.Neg at e i = refl
unary-uses (operators.Div by) at e i = refl
unary-uses (operators.Power n) at e i = refl

pub binary-uses : (o : BinaryOperator) (at : ℕ) (e f : Expr ℕ) (i : ℕ)
    → uses (binary_of o at e f) i ≡ uses e i || uses f i
unfolding uses
binary-uses pairs.Add at e f i = refl
binary-uses pairs.Sub at e f i = refl
binary-uses pairs.Mul at e f i = refl

pub ruleset uses_of_parts = (unary-uses, binary-uses)

pub unary-first : (o : UnaryOperator) (at : ℕ) (e : Expr ℕ)
    → first_operand (unary_of o at e) ≡ Some e
unary-first operators.Neg at e = refl
unary-first (operators.Div by) at e = refl
unary-first (operators.Power n) at e = refl

pub binary-first : (o : BinaryOperator) (at : ℕ) (e f : Expr ℕ)
    → first_operand (binary_of o at e f) ≡ Some e
binary-first pairs.Add at e f = refl
binary-first pairs.Sub at e f = refl
binary-first pairs.Mul at e f = refl

pub ruleset operands_of_parts = (unary-first, binary-first)
