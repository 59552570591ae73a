-- What stands for n, s, u, v and the variables.
--   IsMultiple m c i p     p is the i-th of m variables, times c
--   more m                 the first of m variables, and 1
--   LikeIn qs ps           ps are the polynomials qs, and weigh the same
--   multiples m cs ps      each of ps, in m variables, times its number of cs
--   factor inverted b       the number b, or its inverse;  factors_of inverted bs: those of a base
use Rattle.std.specs.Prelude.{◌≡◌, ℕ, zero, suc, pos, Bool, cond, List, [], ◌∷◌, map, replicate, slice_get, Some}
use Rattle.algebra.specs.Fraction.{Fraction, ℚ, fraction_size, whole, inverse}
use Rattle.polynomials.specs.Exponent.{unit_exponents}
use Rattle.polynomials.specs.Terms.{Terms, AllSame, constant, times}
use Rattle.polynomials.specs.Weight.{weight, degrees}

pub record IsMultiple (m : ℕ) (c : Fraction) (i : ℕ) (p : Terms Fraction) : Type 0 where
  pub exponents : List ℕ
  pub unit : slice_get (unit_exponents m) i ≡ Some exponents
  pub terms : p ≡ (exponents, c) ∷ []

abbrev pub more : ℕ → Terms Fraction
more zero = []
more (suc m) = (1 ∷ replicate m 0, ℚ.one) ∷ (replicate (suc m) 0, ℚ.one) ∷ []

pub record LikeIn (qs ps : List (Terms Fraction)) : Type 0 where
  pub same : AllSame ℚ ps qs
  pub weights : map (weight fraction_size) ps ≡ map (weight fraction_size) qs
  pub degrees : map degrees ps ≡ map degrees qs

abbrev pub multiples : ℕ → List Fraction → List (Terms Fraction) → List (Terms Fraction)
multiples m [] ps = []
multiples m (c ∷ cs) [] = []
multiples m (c ∷ cs) (p ∷ ps) = times ℚ (constant m c) p ∷ multiples m cs ps

abbrev pub factor : Bool → ℕ → Fraction
factor inverted b = cond inverted (inverse (whole (pos b))) (whole (pos b))

abbrev pub factors_of : Bool → List ℕ → List Fraction
factors_of inverted bs = map (λ b. factor inverted b) bs
