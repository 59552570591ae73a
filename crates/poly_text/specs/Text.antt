-- Numbers as texts, as they are written.
--   number_text p     a fraction: n, or n/d in lowest terms
use Rattle.std.specs.Prelude.{ℕ, List, ◌++◌, ◌==◌, if◌then◌else◌, codes, decimal}
use Rattle.std.specs.Fmt.{signed_decimal}
use Rattle.algebra.specs.Fraction.{Fraction}

unfoldable pub number_text : Fraction → List ℕ
number_text p =
    if p.den == 1 then signed_decimal p.num
    else signed_decimal p.num ++ codes "/" ++ decimal p.den
