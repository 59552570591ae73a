-- What the types of the code are seen as.
--   expr_of e             an expression; at each operator its offset is noted
--   unary_of o at e, binary_of o at e f     the operator o of e, or of e and f
--   IsDefined o           it is no quotient by 0
--   parts_of ps           expressions that a list refers to
--   seen_keyword k        a keyword
use Rattle.std.specs.Borrow.{Bor}
use Rattle.std.specs.Prelude.{ℕ, ◌≢◌, pos, ⊤, List, map}
use Rattle.loops.specs.Program as program
use Rattle.loop_model.specs.Words as words
use Rattle.loop_model.specs.Words.{vars_word, init_word, branch_word, when_word}
use Rattle.loop_model.specs.declared.expr.Expr.{Expr}
use Rattle.loop_model.specs.declared.expr.Expr.TheVariants.{Number, Variable, Unary', Binary'}
use Rattle.loop_model.specs.declared.expr.UnaryOperator.{UnaryOperator}
use Rattle.loop_model.specs.declared.expr.UnaryOperator.TheVariants.{Neg, Div, Power}
use Rattle.loop_model.specs.declared.expr.BinaryOperator.{BinaryOperator}
use Rattle.loop_model.specs.declared.expr.BinaryOperator.TheVariants.{Add, Sub, Mul}
use Rattle.loop_model.specs.declared.words.Keyword.{Keyword}
use Rattle.loop_model.specs.declared.words.Keyword.TheVariants.{Vars, Init, Branch, When}

abbrev pub unary_of : UnaryOperator → {At : Type 0} → At → program.Expr At → program.Expr At
unary_of Neg at e = program.neg at e
unary_of (Div by) at e = program.divide at e by.value
unary_of (Power exponent) at e = program.power at e exponent

abbrev pub binary_of : BinaryOperator → {At : Type 0} → At → program.Expr At → program.Expr At
    → program.Expr At
binary_of Add at e f = program.add at e f
binary_of Sub at e f = program.sub at e f
binary_of Mul at e f = program.mul at e f

abbrev pub IsDefined : UnaryOperator → Type 0
IsDefined Neg = ⊤
IsDefined (Div by) = by.value ≢ pos 0
IsDefined (Power exponent) = ⊤

unfoldable pub expr_of : Expr → program.Expr ℕ
expr_of (Number value) = program.number value.value
expr_of (Variable index) = program.variable index
expr_of (Unary' at operator p e) = unary_of operator at (expr_of e)
expr_of (Binary' at operator p e q f) = binary_of operator at (expr_of e) (expr_of f)

abbrev pub parts_of : List (Bor Expr) → List (program.Expr ℕ)
parts_of ps = map (λ p. expr_of p.now) ps

abbrev pub seen_keyword : Keyword → words.Keyword
seen_keyword Vars = vars_word
seen_keyword Init = init_word
seen_keyword Branch = branch_word
seen_keyword When = when_word
