-- Relations.
--   IsRelation qs p            of the sequences qs: the polynomial p over them, in their order, is zero at f(n) for all sequences f, for every n
--   values_at_places is s                the values of the state s at the places is
--   IsShown program is p       of a loop: the polynomial p over the variables at the places is, in their order, is zero at the end of every run
use Rattle.std.specs.Prelude.{◌≡◌, ℕ, List, map, get_or, length}
use Rattle.algebra.specs.Fraction.{Fraction, ℚ}
use Rattle.polynomials.specs.Terms.{Terms, value_at}
use Rattle.polynomials.specs.Polynomial.{Arity}
use Rattle.loops.specs.Program.{Expr, Program}
use Rattle.loops.specs.Run.{Run}
use Rattle.loops.specs.Sequences.{Sequence}
use Rattle.loops.specs.Solutions.{at_index, IsSolution}

pub record IsRelation {At : Type 0} (qs : List (Sequence (Expr At)))
    (p : Terms Fraction) : Type 0 where
  pub arity : Arity (length qs) p
  pub zero : (fs : ℕ → ℕ → Fraction) → IsSolution qs fs → (n : ℕ)
      → value_at ℚ p (at_index fs n qs) ≡ ℚ.zero

abbrev pub values_at_places : List ℕ → List Fraction → List Fraction
values_at_places is s = map (λ i. get_or s i ℚ.zero) is

pub record IsShown {At : Type 0} (program : Program (Expr At)) (is : List ℕ)
    (p : Terms Fraction) : Type 0 where
  pub arity : Arity (length is) p
  pub zero : (r : Run program) → value_at ℚ p (values_at_places is r.end) ≡ ℚ.zero
