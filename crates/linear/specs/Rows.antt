-- Rows of fractions, as the code has them.
--   fractions_of row     the fractions that a row means;  rows_of rows: those of each row
use Rattle.std.specs.Prelude.{List, map}
use Rattle.std.specs.declared.alloc.Global.{Global}
use Rattle.std.specs.declared.vec.Vec.{Vec}
use Rattle.algebra.specs.Fraction.{Fraction}
use Rattle.frac128.specs.FracMeaning.{fraction_of}
use Rattle.frac128.specs.declared.fraction.Frac.{Frac}

abbrev pub fractions_of : List Frac → List Fraction
fractions_of row = map fraction_of row

abbrev pub rows_of : List (Vec Frac Global) → List (List Fraction)
rows_of rows = map (λ row. fractions_of row.items) rows
