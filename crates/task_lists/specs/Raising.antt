-- Multiples of polynomials by monomials, which have a given lead.
--   raised_to e p      the multiple of p whose lead is e
use Rattle.std.specs.Prelude.{ℕ, List}
use Rattle.algebra.specs.Fraction.{Fraction, ℚ}
use Rattle.polynomials.specs.Exponent.{over}
use Rattle.polynomials.specs.Terms.{Terms, shift}
use Rattle.machines.specs.Cut.{lead_of}

abbrev pub raised_to : List ℕ → Terms Fraction → Terms Fraction
raised_to e p = shift ℚ (over e (lead_of p)) ℚ.one p
