-- The exponents of a monomial by their places, and those of one variable.
--   exponent-get, degree-sum      an exponent, and the sum of all
--   length-unit, unit_get, unit_is      the exponents of the variable j are as many as variables, and stand at place j
use Rattle.std.proofs.Common.{◌≡◌, ℕ, zero, suc, ◌<◌, List, [], ◌∷◌, length, get_or, sum, Some, slice_get, refl, sym, ap, ◌∙◌, arith}
use Rattle.std.specs.Option.{option_map}
use Rattle.std.proofs.lemmas.List.{length-replicate}
use Rattle.std.proofs.lemmas.List.Sums.{sum_by-cons}
use Rattle.std.proofs.lemmas.Option.{slice_get-map}
use Rattle.polynomials.specs.Exponent.{unit_exponents}
use Rattle.solvable_maps.specs.Uses.{exponent, degree, unit}

pub exponent-get : (e : List ℕ) (j : ℕ) → exponent e j ≡ get_or e j 0
exponent-get [] j = refl
exponent-get (n ∷ e) zero = refl
exponent-get (n ∷ e) (suc j) = exponent-get e j

pub degree-sum : (e : List ℕ) → degree e ≡ sum e
degree-sum [] = refl
degree-sum (n ∷ e) = omega (arith, sum_by-cons (λ k. k) n e, degree-sum e)

pub length-unit : (m j : ℕ) → length (unit m j) ≡ m
length-unit zero j = refl
length-unit (suc m) zero = ap suc (length-replicate m 0)
length-unit (suc m) (suc j) = ap suc (length-unit m j)

pub unit_get : (m j : ℕ) → j < m → slice_get (unit_exponents m) j ≡ Some (unit m j)
unfolding unit_exponents
unit_get zero j l = absurd (omega (arith, l))
unit_get (suc m) zero l = refl
unit_get (suc m) (suc j) l = slice_get-map (λ e. 0 ∷ e) (unit_exponents m) j
    ∙ ap (option_map (λ e. 0 ∷ e)) (unit_get m j (omega (arith, l)))

pub unit_is : (m j : ℕ) (e : List ℕ) → j < m → slice_get (unit_exponents m) j ≡ Some e
    → e ≡ unit m j
unit_is m j e l h = let s : Some e ≡ Some (unit m j) = sym h ∙ unit_get m j l in cc
