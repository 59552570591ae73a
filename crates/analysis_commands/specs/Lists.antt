-- Lists of polynomials of the program as lists of terms.
--   lists_of bases        each of them
use Rattle.std.specs.Prelude.{List, map}
use Rattle.std.specs.Global.{Vec}
use Rattle.algebra.specs.Fraction.{Fraction}
use Rattle.polynomials.specs.Terms.{Terms}
use Rattle.poly.specs.Seen.{terms_each}
use Rattle.loop_model.specs.FracPoly.{FracPoly}

abbrev pub lists_of : List (Vec FracPoly) → List (List (Terms Fraction))
lists_of bases = map (λ (b : Vec FracPoly). terms_each b.items) bases
