-- Lesser monomials as the code has them.
--   pair_in l      the monomial and the place of its variable
use Rattle.std.specs.Prelude.{ℕ, List}
use Rattle.program_families.specs.declared.rests.LesserMonomial.{LesserMonomial}

abbrev pub pair_in : LesserMonomial → List ℕ × ℕ
pair_in l = (l.monomial, l.variable)
