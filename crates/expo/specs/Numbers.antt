-- Numbers in a list.
--   number_at xs j     the number at the place j, and zero behind the last
use Rattle.std.specs.Prelude.{ℕ, List, map, get_or}
use Rattle.algebra.specs.Fraction.{Fraction, ℚ}
use Rattle.frac128.specs.declared.fraction.Frac.{Frac}
use Rattle.frac128.specs.FracMeaning.{fraction_of}

abbrev pub number_at : List Frac → ℕ → Fraction
number_at xs j = get_or (map fraction_of xs) j ℚ.zero
