-- How much is looked at.
--   most_monomials     no more monomials are taken
use Rattle.std.specs.Prelude.{ℕ}

abbrev pub most_monomials : ℕ
most_monomials = 1024
