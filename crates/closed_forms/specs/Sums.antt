-- Sums of polynomials, each times a number, and what is past in one.
--   mix cs ps               the terms of the ps, each times its number of cs, as far as there are both
--   IsPastScaled c p        a number of p times c does not fit
--   IsPastProducts cs ps    that is so of one of the ps with its number
--   IsPastMix cs ps         or the weight of the sum is past
use Rattle.std.specs.Prelude.{◌⊎◌, ℕ, List, [], ◌∷◌, ◌++◌}
use Rattle.algebra.specs.In.{In}
use Rattle.algebra.specs.Fraction.{Fraction, ℚ, rationals, fraction_size}
use Rattle.algebra.specs.Size.{IsPast}
use Rattle.polynomials.specs.Terms.{Terms}
use Rattle.polynomials.specs.Weight.{weight}
use Rattle.machines.specs.Collect.{scale_terms}

abbrev pub mix : List Fraction → List (Terms Fraction) → Terms Fraction
mix [] ps = []
mix (c ∷ cs) [] = []
mix (c ∷ cs) (p ∷ ps) = scale_terms rationals c p ++ mix cs ps

pub record IsPastScaled (c : Fraction) (p : Terms Fraction) : Type 0 where
  pub exponents : List ℕ
  pub number : Fraction
  pub within : In (exponents, number) p
  pub past : IsPast (fraction_size (ℚ.mul c number))

abbrev pub IsPastProducts : List Fraction → List (Terms Fraction) → Type 0
IsPastProducts [] ps = ⊥
IsPastProducts (c ∷ cs) [] = ⊥
IsPastProducts (c ∷ cs) (p ∷ ps) = IsPastScaled c p ⊎ IsPastProducts cs ps

abbrev pub IsPastMix : List Fraction → List (Terms Fraction) → Type 0
IsPastMix cs ps = IsPastProducts cs ps ⊎ IsPast (weight fraction_size (mix cs ps))
