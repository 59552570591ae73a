-- The invariants of a program along some of its runs.
--   IsZeroAfter program W p     p, over the program's variables, is zero at the end of each run whose word is one of W
--   InvAt program k p           so for the words of level k, those of at most k constant pieces
--   InvThen program k i p       so for the words of level k followed by any number of letters i
--   InvUpTo program k j p       so for all of these with a letter i from 1 to j
use Rattle.std.specs.Prelude.{◌≡◌, ℕ, List, length}
use Rattle.algebra.specs.Fraction.{Fraction, ℚ}
use Rattle.polynomials.specs.Terms.{Terms, value_at}
use Rattle.polynomials.specs.Polynomial.{Arity}
use Rattle.loops.specs.Program.{Expr, Program}
use Rattle.loops.specs.Run.{Run}
use Rattle.rounds.specs.Word.{AtMost, Then, UpTo}

pub record IsZeroAfter {At : Type 0} (program : Program (Expr At)) (W : List ℕ → Type 0)
    (p : Terms Fraction) : Type 0 where
  pub arity : Arity (length program.names) p
  pub zero : (r : Run program) → W r.word → value_at ℚ p r.end ≡ ℚ.zero

abbrev pub InvAt : {At : Type 0} → Program (Expr At) → ℕ → Terms Fraction → Type 0
InvAt program k p = IsZeroAfter program (AtMost k) p

abbrev pub InvThen : {At : Type 0} → Program (Expr At) → ℕ → ℕ → Terms Fraction → Type 0
InvThen program k i p = IsZeroAfter program (Then k i) p

abbrev pub InvUpTo : {At : Type 0} → Program (Expr At) → ℕ → ℕ → Terms Fraction → Type 0
InvUpTo program k j p = IsZeroAfter program (UpTo k j) p
