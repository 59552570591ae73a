-- What an exponential polynomial is.
--   base_of e              its base
--   value_of e n s         its value after n iterations, at the variables s
--   HasValues f e          that is f n s, for each n and s
--   count_of e             how many exponents its monomials have
--   part_of e k            the coefficient of the monomial in n, s, u and v with the exponents k: a polynomial in the variables
--   iteration_of e n            it at n iterations: a polynomial in the variables
--   IsExpo base m ts e     e is the polynomial ts over this base and m variables: its terms are these, collected
use Rattle.std.specs.Prelude.{◌≡◌, ℕ, List, length}
use Rattle.algebra.specs.Fraction.{Fraction, ℚ, rationals}
use Rattle.polynomials.specs.Order.{grevlex}
use Rattle.polynomials.specs.Terms.{Terms, value_at}
use Rattle.machines.specs.Collect.{collect}
use Rattle.solvable_maps.specs.Expo.{at_iteration, part}
use Rattle.solvable_maps.specs.Iterations.{point, width}
use Rattle.poly.specs.Seen.{terms_in}
use Rattle.coprime_base.specs.Sizes.{sizes}
use Rattle.expo.specs.declared.exponential.Expo.{Expo}

abbrev pub base_of : Expo → List ℕ
base_of e = sizes e.base.items

abbrev pub value_of : Expo → ℕ → List Fraction → Fraction
value_of e n s = value_at ℚ (terms_in e.body) (point (base_of e) n s)

abbrev pub count_of : Expo → ℕ
count_of e = width (length (base_of e)) e.vars

abbrev pub part_of : Expo → List ℕ → Terms Fraction
part_of e k = part (length (base_of e)) k (terms_in e.body)

abbrev pub iteration_of : Expo → ℕ → Terms Fraction
iteration_of e n = at_iteration (base_of e) e.vars n (terms_in e.body)

abbrev pub HasValues : (ℕ → List Fraction → Fraction) → Expo → Type 0
HasValues f e = (n : ℕ) (s : List Fraction) → length s ≡ e.vars → value_of e n s ≡ f n s

pub record IsExpo (base : List ℕ) (m : ℕ) (ts : Terms Fraction) (e : Expo) : Type 0 where
  pub over_base : base_of e ≡ base
  pub over_vars : e.vars ≡ m
  pub terms : terms_in e.body ≡ collect rationals grevlex ts
