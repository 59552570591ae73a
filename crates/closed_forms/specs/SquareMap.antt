-- A map, as the code has it.
--   polys_by m    its polynomials;  size_by m    how many variables it has
use Rattle.std.specs.Prelude.{ℕ, List, length}
use Rattle.algebra.specs.Fraction.{Fraction}
use Rattle.polynomials.specs.Terms.{Terms}
use Rattle.poly.specs.Seen.{terms_each}
use Rattle.closed_forms.specs.declared.square_map.SquareMap.{SquareMap}

abbrev pub polys_by : SquareMap → List (Terms Fraction)
polys_by m = terms_each m.images.now.items

abbrev pub size_by : SquareMap → ℕ
size_by m = length m.images.now.items
