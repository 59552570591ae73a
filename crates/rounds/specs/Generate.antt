-- Lists that generate a set of polynomials.
--   Generates m gs P      gs are polynomials in m variables over fractions, and the polynomials in m variables that are members of their ideal are those of P
--   IsMeet m hs ks gs     gs generate the polynomials that are members of both ideals
use Rattle.std.specs.Prelude.{ℕ, List}
use Rattle.algebra.specs.Fraction.{Fraction, ℚ}
use Rattle.polynomials.specs.Terms.{Terms}
use Rattle.polynomials.specs.Polynomial.{Arity, AllArity}
use Rattle.ideals.specs.Members.{IsMember}

pub record Generates (m : ℕ) (gs : List (Terms Fraction)) (P : Terms Fraction → Type 0) : Type
    0 where
  pub arities : AllArity m gs
  pub only : (p : Terms Fraction) → Arity m p → IsMember ℚ m gs p → P p
  pub all : (p : Terms Fraction) → Arity m p → P p → IsMember ℚ m gs p

abbrev pub IsMeet : ℕ → List (Terms Fraction) → List (Terms Fraction) → List (Terms Fraction)
    → Type 0
IsMeet m hs ks gs = Generates m gs (λ p. IsMember ℚ m hs p × IsMember ℚ m ks p)
