-- Tests of equality.
--   equal_to     a test whether p is the sum tells whether p is what the sum stands for
use Rattle.std.proofs.Common.{◌↔◌, Bool, IsTrue}
use Rattle.algebra.specs.Arithmetic.{Arithmetic}
use Rattle.polynomials.specs.Terms.{Terms, Same}
use Rattle.polynomials.proofs.Same.{Same-sym, Same-trans}

pub equal_to : {A : Type 0} (N : Arithmetic A) {p sum x : Terms A} (b : Bool)
    → (IsTrue b ↔ Same N p sum) → Same N sum x → (IsTrue b ↔ Same N p x)
equal_to N b tells is = (
  (λ t. Same-trans N (tells.0 t) is),
  (λ s. tells.1 (Same-trans N s (Same-sym N is))),
)
