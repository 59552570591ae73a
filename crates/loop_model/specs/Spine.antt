-- The left spine of an expression.
--   first_operand e     the operand of its operator that stands first; none of a number or a variable
--   spine e             the expression e, its first operand, the first operand of that, and so on down to a number or a variable
use Rattle.std.specs.Prelude.{List, [], ◌∷◌, Option, Some, None}
use Rattle.loops.specs.Program.{Expr, number, variable, neg, add, sub, mul, divide, power}

abbrev pub first_operand : {At : Type 0} → Expr At → Option (Expr At)
first_operand (number n) = None
first_operand (variable i) = None
first_operand (neg at e) = Some e
first_operand (add at e f) = Some e
first_operand (sub at e f) = Some e
first_operand (mul at e f) = Some e
first_operand (divide at e n) = Some e
first_operand (power at e n) = Some e

unfoldable pub spine : {At : Type 0} → Expr At → List (Expr At)
spine (number n) = number n ∷ []
spine (variable i) = variable i ∷ []
spine (neg at e) = neg at e ∷ spine e
spine (add at e f) = add at e f ∷ spine e
spine (sub at e f) = sub at e f ∷ spine e
spine (mul at e f) = mul at e f ∷ spine e
spine (divide at e n) = divide at e n ∷ spine e
spine (power at e n) = power at e n ∷ spine e
