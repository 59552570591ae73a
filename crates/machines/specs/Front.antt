-- Variables in front.
--   IsFreeOfFirst k p     none of the first k variables is in a term of p
use Rattle.std.specs.Prelude.{◌≡◌, ℕ, take, replicate}
use Rattle.algebra.specs.Each.{Each}
use Rattle.polynomials.specs.Terms.{Terms}

abbrev pub IsFreeOfFirst : {A : Type 0} → ℕ → Terms A → Type 0
IsFreeOfFirst k p = Each (λ t. take k t.0 ≡ replicate k 0) p
