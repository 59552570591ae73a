-- Numbers modulo 2^127 - 1.
--   modulus            2^127 - 1
--   fraction_limit     what numerator and denominator may be of a fraction that is told by its residue: 2^62
--   half_limit         what a half of 64 bits is below: 2^64
use Rattle.std.specs.Prelude.{ℕ}

abbrev pub modulus : ℕ
modulus = 170141183460469231731687303715884105727

abbrev pub fraction_limit : ℕ
fraction_limit = 4611686018427387904

abbrev pub half_limit : ℕ
half_limit = 18446744073709551616
