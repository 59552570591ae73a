-- Fractions that are told by their residues.
--   IsLimited f          numerator and denominator of f are at most 2^62
--   IsFractionOf f a     f is limited, and a is a residue of it modulo 2^127 - 1
use Rattle.std.specs.Prelude.{◌≤◌, ℤ, pos, unsigned_abs}
use Rattle.algebra.specs.Fraction.{Fraction}
use Rattle.closures.specs.Modulo.{IsResidueOf}
use Rattle.residue_rows.specs.Modulus.{modulus, fraction_limit}

pub record IsLimited (f : Fraction) : Type 0 where
  pub num : unsigned_abs f.num ≤ fraction_limit
  pub den : f.den ≤ fraction_limit

pub record IsFractionOf (f : Fraction) (a : ℤ) : Type 0 where
  pub limited : IsLimited f
  pub residue : IsResidueOf (pos modulus) f a
