-- How many variables there may be.
--   most_variables     a monomial has at most so many
--   most_inline        a monomial of at most so many needs no memory of its own
--   most_double        a monomial of at most so many may be two short ones
use Rattle.std.specs.Prelude.{ℕ}

abbrev pub most_variables : ℕ
most_variables = 4096

abbrev pub most_inline : ℕ
most_inline = 16

abbrev pub most_double : ℕ
most_double = 32
