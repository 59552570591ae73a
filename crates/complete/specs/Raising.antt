-- Multiples of polynomials by monomials, which have a given lead.
--   raised_to S e p      the multiple of p whose lead is e
use Rattle.std.specs.Prelude.{ℕ, List}
use Rattle.algebra.specs.Scalars.{Scalars}
use Rattle.polynomials.specs.Terms.{Terms, shift}
use Rattle.polynomials.specs.Exponent.{over}
use Rattle.machines.specs.Cut.{lead_of}

abbrev pub raised_to : (S : Scalars) → List ℕ → Terms S.Elem → Terms S.Elem
raised_to S e p = shift S.arithmetic (over e (lead_of p)) S.one p
