-- A new unknown that is the inverse of a polynomial.
--   IsInverse m at i h v     in m variables: its unknown is the variable i, and its zero is that times h, less 1, as the operator at this offset forms it
use Rattle.std.specs.Prelude.{ℕ, [], ◌∷◌}
use Rattle.algebra.specs.Fraction.{Fraction}
use Rattle.polynomials.specs.Terms.{Terms}
use Rattle.poly.specs.Standing.{StandsFor}
use Rattle.loop_model.specs.Operations as operations
use Rattle.program_model.specs.PathEvents.{unknown_at, less_one}
use Rattle.program_model.specs.declared.inverse.Inverse.{Inverse}

pub record IsInverse (m at i : ℕ) (h : Terms Fraction) (v : Inverse) : Type 0 where
  pub unknown : StandsFor m v.unknown (unknown_at m i)
  pub zero : StandsFor m v.zero (operations.value m (unknown_at m i ∷ h ∷ []) (less_one at))
