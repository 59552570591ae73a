-- What expressions, statements and branches do at a state, computed with N, where `number` takes a fraction to where the state lies.
-- At numbers these are the effects of a program. At polynomials, with the variables as the state, they are its maps.
--   value_of N number s e     the value of the expression e at the state s; x^0 is 1
--   store targets values s    s with each value at its target
--   after_statement N number c s     all right sides are computed at s, and then stored
--   after_branch N number cs s       the statements in order
--   after_iteration N number program cs s     the variables after the branch cs; before it the local names are 0, and after it they are dropped
--   start_from N number program s    s with the value of each equation of init at its variable
use Rattle.std.specs.Prelude.{ℕ, List, [], ◌∷◌, ◌++◌, map, get_or, set, take, replicate, length}
use Rattle.algebra.specs.Arithmetic as numeral
use Rattle.algebra.specs.Arithmetic.{Arithmetic}
use Rattle.algebra.specs.Fraction.{Fraction, whole, inverse}
use Rattle.loops.specs.Program.{Expr, number, variable, neg, add, sub, mul, divide, power, Statement, Equation, Program}

unfoldable pub store : {A : Type 0} → List ℕ → List A → List A → List A
store [] values s = s
store (i ∷ targets) [] s = s
store (i ∷ targets) (x ∷ values) s = store targets values (set s i x)

unfoldable pub init_statement : {E : Type 0} → Program E → Statement E
init_statement {E = E} program = record {
  targets = map (λ (e : Equation E). e.name) program.init;
  values = map (λ (e : Equation E). e.value) program.init;
}

module _ {A At : Type 0} (N : Arithmetic A) (of : Fraction → A) where
  unfoldable pub value_of : List A → Expr At → A
  value_of s (number n) = of (whole n)
  value_of s (variable i) = get_or s i N.zero
  value_of s (neg at e) = N.neg (value_of s e)
  value_of s (add at e f) = N.add (value_of s e) (value_of s f)
  value_of s (sub at e f) = N.add (value_of s e) (N.neg (value_of s f))
  value_of s (mul at e f) = N.mul (value_of s e) (value_of s f)
  value_of s (divide at e n) = N.mul (value_of s e) (of (inverse (whole n)))
  value_of s (power at e n) = numeral.power N (value_of s e) n

  unfoldable pub after_statement : Statement (Expr At) → List A → List A
  after_statement c s = store c.targets (map (value_of s) c.values) s

  unfoldable pub after_branch : List (Statement (Expr At)) → List A → List A
  after_branch [] s = s
  after_branch (c ∷ cs) s = after_branch cs (after_statement c s)

  abbrev pub after_iteration : Program (Expr At) → List (Statement (Expr At)) → List A → List A
  after_iteration program cs s =
      take (length program.names)
      (after_branch cs (s ++ replicate (length program.locals) N.zero))

  unfoldable pub start_from : Program (Expr At) → List A → List A
  start_from program s = after_statement (init_statement program) s
