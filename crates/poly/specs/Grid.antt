-- Numbers on a grid: each at the place of its monomial.
--   Holds N b m grid p       the grid has a place for each monomial inside, and there its coefficient in p, a list of terms inside
--   AddsRow N b m t q old new     where the grid old holds a product p q, new holds (p + t) q
--   Read N b m numbers p     p are terms inside with different monomials, whose coefficients are the numbers, each at its place
use Rattle.std.specs.Prelude.{◌≡◌, ◌<◌, ◌^◌, ℕ, List, [], ◌∷◌, ◌++◌, length, All, slice_index_or as get_or}
use Rattle.algebra.specs.Arithmetic.{Arithmetic}
use Rattle.polynomials.specs.Terms.{Terms, coefficient, times}
use Rattle.polynomials.specs.Polynomial.{IsDistinct}
use Rattle.poly.specs.Places.{place_of, exponents_at, IsInside}

module _ {A : Type 0} (N : Arithmetic A) (b m : ℕ) where
  pub record Holds (grid : List A) (ts : Terms A) : Type 0 where
    pub size : length grid ≡ b ^ m
    pub each : (k : ℕ) (d : A) → k < b ^ m → get_or grid k d ≡ coefficient N ts (exponents_at b m k)
    pub inside : All (λ t. IsInside b m t.0) ts

  abbrev pub AddsRow : List ℕ × A → Terms A → List A → List A → Type 0
  AddsRow t q old new = (p : Terms A) → Holds old (times N p q)
      → Holds new (times N (p ++ t ∷ []) q)

  pub record Read (numbers : List A) (ts : Terms A) : Type 0 where
    pub at : (k : ℕ) (d : A) → k < length numbers → coefficient N ts (exponents_at b m k)
        ≡ get_or numbers k d
    pub before : All (λ t. place_of b t.0 < length numbers) ts
    pub inside : All (λ t. IsInside b m t.0) ts
    pub distinct : IsDistinct ts
