-- An expression of the code and its operands.
--   seen_number, seen_unary, seen_binary, ..     what it is seen as
--   size_of e                      the number of its operators
--   IsOperand P l e                an operand is smaller, and has what the expression has
--   of_unary, of_binary            the operands;  variable_of: the variable
use Rattle.std.proofs.Common.{◌≡◌, ℕ, suc, ◌+◌, ◌<◌, arith, refl, sym, ap, ap₂, subst, ◌∙◌, Box, Global}
use Rattle.loops.specs.WellFormed.{Uses}
use Rattle.frac128.specs.declared.Whole.{Whole}
use Rattle.loops.specs.Program as program
use Rattle.loops.specs.Program.{number, variable, neg, add, sub, mul, divide, power}
use Rattle.loop_model.specs.ExpressionView.{expr_of, unary_of, binary_of, IsDefined}
use Rattle.loop_model.specs.declared.expr.UnaryOperator.TheVariants as operators
use Rattle.loop_model.specs.declared.expr.UnaryOperator.{UnaryOperator}
use Rattle.loop_model.specs.declared.expr.BinaryOperator.TheVariants as pairs
use Rattle.loop_model.specs.declared.expr.BinaryOperator.{BinaryOperator}
use Rattle.loop_model.specs.declared.expr.Expr as code
use Rattle.loop_model.specs.declared.expr.Expr.{Expr}

-- ---- what is seen
pub seen_number : (x : Expr) (v : Whole) → x ≡ code.Number v → expr_of x ≡ number v.value
unfolding expr_of
seen_number x v h = ap expr_of h

pub seen_variable : (x : Expr) (i : ℕ) → x ≡ code.Variable i → expr_of x ≡ variable i
unfolding expr_of
seen_variable x i h = ap expr_of h

module _ (x : Expr) (at : ℕ) (l : Box Expr Global) (y : Expr) (left : y ≡ l.value) where
  pub seen_unary : (o : UnaryOperator) → x ≡ code.Unary at o l
      → expr_of x ≡ unary_of o at (expr_of y)
  unfolding expr_of
  seen_unary o h = ap expr_of h ∙ ap (λ z. unary_of o at (expr_of z)) (sym left)

  pub seen_binary : (r : Box Expr Global) (z : Expr) → z ≡ r.value → (o : BinaryOperator)
      → x ≡ code.Binary at o l r → expr_of x ≡ binary_of o at (expr_of y) (expr_of z)
  unfolding expr_of
  seen_binary r z right o h =
      ap expr_of h ∙ ap₂ (λ u v. binary_of o at (expr_of u) (expr_of v)) (sym left) (sym right)

-- ---- sizes
unfoldable pub size_of : program.Expr ℕ → ℕ
size_of (number n) = 0
size_of (variable i) = 0
size_of (neg at e) = suc (size_of e)
size_of (add at e f) = suc (size_of e + size_of f)
size_of (sub at e f) = suc (size_of e + size_of f)
size_of (mul at e f) = suc (size_of e + size_of f)
size_of (divide at e n) = suc (size_of e)
size_of (power at e n) = suc (size_of e)

-- e is smaller than l, and P holds of its variables
pub record IsOperand (P : ℕ → Type 0) (l e : program.Expr ℕ) : Type 0 where
  pub smaller : size_of e < size_of l
  pub uses : Uses P e

-- an operator has operands, which are smaller
module _ (P : ℕ → Type 0) (at : ℕ) (e : program.Expr ℕ) where
  one_operand : (o : UnaryOperator) → Uses P (unary_of o at e)
      → (size_of (unary_of o at e) ≡ suc (size_of e)) × Uses P e × IsDefined o
  unfolding size_of Uses
  one_operand operators.Neg u = (refl, u, tt)
  one_operand (operators.Div by) u = (refl, u.0, u.1)
  one_operand (operators.Power n) u = (refl, u, tt)

  two_operands : (f : program.Expr ℕ) (o : BinaryOperator) → Uses P (binary_of o at e f)
      → (size_of (binary_of o at e f) ≡ suc (size_of e + size_of f)) × Uses P e × Uses P f
  unfolding size_of Uses
  two_operands f pairs.Add u = (refl, u.0, u.1)
  two_operands f pairs.Sub u = (refl, u.0, u.1)
  two_operands f pairs.Mul u = (refl, u.0, u.1)

-- P holds of the variables of l
module _ (l : program.Expr ℕ) (P : ℕ → Type 0) (u : Uses P l) where
  pub of_unary : (o : UnaryOperator) (at : ℕ) (e : program.Expr ℕ) → l ≡ unary_of o at e
      → IsOperand P l e × IsDefined o
  of_unary o at e h =
      let k = one_operand P at e o (subst (λ x. Uses P x) h u) in
      let s : size_of l ≡ suc (size_of e) = ap size_of h ∙ k.0 in
      (record { smaller = omega arith; uses = k.1 }, k.2)

  pub of_binary : (o : BinaryOperator) (at : ℕ) (e f : program.Expr ℕ) → l ≡ binary_of o at e f
      → IsOperand P l e × IsOperand P l f
  of_binary o at e f h =
      let k = two_operands P at e f o (subst (λ x. Uses P x) h u) in
      let s : size_of l ≡ suc (size_of e + size_of f) = ap size_of h ∙ k.0 in (
        record { smaller = omega arith; uses = k.1 },
        record { smaller = omega arith; uses = k.2 },
      )

  pub variable_of : (i : ℕ) → l ≡ variable i → P i
  unfolding Uses
  variable_of i h = subst (λ x. Uses P x) h u
