-- The whole numbers in an arithmetic.
--   natural_in N n     n times one;  integer_in N z: z times one
use Rattle.std.specs.Prelude.{ℕ, zero, suc, ℤ, pos, negsuc}
use Rattle.algebra.specs.Arithmetic.{Arithmetic}

abbrev pub natural_in : {A : Type 0} → Arithmetic A → ℕ → A
natural_in N zero = N.zero
natural_in N (suc n) = N.add N.one (natural_in N n)

abbrev pub integer_in : {A : Type 0} → Arithmetic A → ℤ → A
integer_in N (pos n) = natural_in N n
integer_in N (negsuc n) = N.neg (natural_in N (suc n))
