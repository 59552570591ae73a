-- How many variables polynomials may have that get one more, in front, for an intersection.
--   most_blended    one less than a monomial has at most
use Rattle.std.specs.Prelude.{ℕ}

abbrev pub most_blended : ℕ
most_blended = 4095
