-- How long a list in a row may be.
--   most_polynomials    at most so many polynomials
use Rattle.std.specs.Prelude.{ℕ}

abbrev pub most_polynomials : ℕ
most_polynomials = 1000
