-- Terms as they are read.
--   exponents_and_number t     the exponents, and the fraction that the number is
use Rattle.std.specs.Prelude.{ℕ, List}
use Rattle.std.specs.Global.{Vec}
use Rattle.algebra.specs.Fraction.{Fraction}
use Rattle.frac128.specs.declared.fraction.Frac.{Frac}
use Rattle.frac128.specs.FracMeaning.{fraction_of}

abbrev pub exponents_and_number : Vec ℕ × Frac → List ℕ × Fraction
exponents_and_number t = (t.0.items, fraction_of t.1)
