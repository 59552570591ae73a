-- Invariants: the polynomials over the program's variables that are zero at the end of every run.
--   Inv program p       p is one: it has the program's variables, and is `zero` at each end
use Rattle.std.specs.Prelude.{◌≡◌, length}
use Rattle.algebra.specs.Fraction.{Fraction, ℚ}
use Rattle.polynomials.specs.Terms.{Terms, value_at}
use Rattle.polynomials.specs.Polynomial.{Arity}
use Rattle.loops.specs.Program.{Expr, Program}
use Rattle.loops.specs.Run.{Run}

pub record Inv {At : Type 0} (program : Program (Expr At)) (p : Terms Fraction) : Type 0 where
  pub arity : Arity (length program.names) p
  pub zero : (r : Run program) → value_at ℚ p r.end ≡ ℚ.zero
