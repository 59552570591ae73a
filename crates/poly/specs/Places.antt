-- Places in an array for the monomials with small exponents.
--   place_of b es          the place of the monomial with the exponents es: they are its digits in the base b, the lowest first
--   exponents_at b m k     the exponents of the monomial at the place k: its m digits
--   IsInside b m es        there are m exponents, each below b
--   AreInside b m p        those of each term of p are
--   most_base              an exponent is below it
--   most_places            an array has at most so many places
--   IsGridFor N b m p q    b ^ m places hold p, q and the terms of their product, and an array has room for them
use Rattle.std.specs.Prelude.{◌≡◌, ◌≤◌, ◌<◌, ◌+◌, ◌*◌, ◌/◌, ◌%◌, ◌^◌, ℕ, zero, suc, List, [], ◌∷◌, length, All}
use Rattle.algebra.specs.Arithmetic.{Arithmetic}
use Rattle.polynomials.specs.Terms.{Terms, times}

abbrev pub most_base : ℕ
most_base = 65536

abbrev pub most_places : ℕ
most_places = 2 ^ 20

unfoldable pub place_of : ℕ → List ℕ → ℕ
place_of b [] = 0
place_of b (e ∷ es) = e + b * place_of b es

unfoldable pub exponents_at : ℕ → ℕ → ℕ → List ℕ
exponents_at b zero k = []
exponents_at b (suc m) k = (k % b) ∷ exponents_at b m (k / b)

pub record IsInside (b m : ℕ) (es : List ℕ) : Type 0 where
  pub arity : length es ≡ m
  pub each : All (λ e. e < b) es

abbrev pub AreInside : {A : Type 0} → ℕ → ℕ → Terms A → Type 0
AreInside b m p = All (λ t. IsInside b m t.0) p

pub record IsGridFor {A : Type 0} (N : Arithmetic A) (b m : ℕ) (p q : Terms A) : Type 0 where
  pub positive : 0 < b
  pub narrow : b ≤ most_base
  pub small : b ^ m ≤ most_places
  pub left : AreInside b m p
  pub right : AreInside b m q
  pub products : AreInside b m (times N p q)
