-- Where a combination is too wide.
--   IsPastCombination qs gs     the weight of a product of the combination is past, or that of their sum
use Rattle.std.specs.Prelude.{◌⊎◌, ℕ, ◌<◌, List, [], map, get_or, length}
use Rattle.algebra.specs.Size.{sizes, IsPast}
use Rattle.algebra.specs.Fraction.{Fraction, fraction_size, fractions}
use Rattle.polynomials.specs.Terms.{Terms, sum_of_products}
use Rattle.polynomials.specs.Weight.{weight, IsPastProduct}

abbrev pub IsPastCombination : List (Terms Fraction) → List (Terms Fraction) → Type 0
IsPastCombination qs gs =
    ((j : ℕ) × (j < length gs) × IsPastProduct fractions (get_or qs j []) (get_or gs j []))
    ⊎ IsPast (sum_of_products sizes (map (weight fraction_size) qs) (map (weight fraction_size) gs))
