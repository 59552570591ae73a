-- A polynomial less a multiple of another, and divided by the number of its lead.
--   IsPastMultiple S p d c g     of p less c times the monomial d times g: the sum of p and the number times g is past, or an exponent of the shifted g doesn't fit
--   lead_coefficient N p         the number of the first term, and zero of none
use Rattle.std.specs.Prelude.{◌⊎◌, ℕ, List, [], ◌∷◌}
use Rattle.algebra.specs.Arithmetic.{Arithmetic}
use Rattle.algebra.specs.Size.{IsPast, sum_size, product_size}
use Rattle.algebra.specs.Scalars.{Scalars}
use Rattle.polynomials.specs.Exponent.{plus}
use Rattle.polynomials.specs.Terms.{Terms}
use Rattle.polynomials.specs.Weight.{weight, degrees, FitsMonomial}

abbrev pub IsPastMultiple : (S : Scalars) → Terms S.Elem → List ℕ → S.Elem → Terms S.Elem → Type 0
IsPastMultiple S p d c g =
    IsPast (sum_size (weight S.size p) (product_size (S.size c) (weight S.size g)))
    ⊎ ¬ (FitsMonomial (plus d (degrees g)))

abbrev pub lead_coefficient : {A : Type 0} → Arithmetic A → Terms A → A
lead_coefficient N [] = N.zero
lead_coefficient N (t ∷ p) = t.1
