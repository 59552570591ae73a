-- Which variables the polynomials of a map use.
--   exponent e j          the exponent of the variable j
--   degree e              the sum of the exponents
--   poly_at map i         the i-th polynomial
--   uses map i j          some monomial of the i-th polynomial has j
--   strongly map i j      some monomial of degree 2 or more has it
--   IsMap m map           as many polynomials as variables
--   unit m j              the exponents of the variable j of m
use Rattle.std.specs.Prelude.{◌≡◌, ℕ, zero, suc, ◌+◌, List, [], ◌∷◌, length, Bool, false, ◌||◌, ◌&&◌, ltb, replicate}
use Rattle.polynomials.specs.Terms.{Terms}
use Rattle.polynomials.specs.Polynomial.{AllArity}

abbrev pub exponent : List ℕ → ℕ → ℕ
exponent [] j = 0
exponent (n ∷ e) zero = n
exponent (n ∷ e) (suc j) = exponent e j

abbrev pub degree : List ℕ → ℕ
degree [] = 0
degree (n ∷ e) = n + degree e

-- some exponents meet the test
abbrev pub any : {A : Type 0} → (List ℕ → Bool) → Terms A → Bool
any test [] = false
any test (t ∷ p) = test t.0 || any test p

abbrev pub has : ℕ → List ℕ → Bool
has j e = ltb 0 (exponent e j)

abbrev pub has_strongly : ℕ → List ℕ → Bool
has_strongly j e = has j e && ltb 1 (degree e)

abbrev pub poly_at : {A : Type 0} → List (Terms A) → ℕ → Terms A
poly_at [] i = []
poly_at (p ∷ map) zero = p
poly_at (p ∷ map) (suc i) = poly_at map i

abbrev pub uses : {A : Type 0} → List (Terms A) → ℕ → ℕ → Bool
uses map i j = any (has j) (poly_at map i)

abbrev pub strongly : {A : Type 0} → List (Terms A) → ℕ → ℕ → Bool
strongly map i j = any (has_strongly j) (poly_at map i)

pub record IsMap {A : Type 0} (m : ℕ) (map : List (Terms A)) : Type 0 where
  pub size : length map ≡ m
  pub arity : AllArity m map

-- the exponents of the variable j of m
abbrev pub unit : ℕ → ℕ → List ℕ
unit zero j = []
unit (suc m) zero = 1 ∷ replicate m 0
unit (suc m) (suc j) = 0 ∷ unit m j
