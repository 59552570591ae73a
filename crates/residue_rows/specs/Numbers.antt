-- Residues, as the code has them.
--   number_of r         the number that a residue has, below the modulus
--   numbers_of row      those of a row
use Rattle.std.specs.Prelude.{ℤ, pos, List, map}
use Rattle.residue_rows.specs.declared.residue.Residue.{Residue}

abbrev pub number_of : Residue → ℤ
number_of r = pos r.value

abbrev pub numbers_of : List Residue → List ℤ
numbers_of row = map number_of row
