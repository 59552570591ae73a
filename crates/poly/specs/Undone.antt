-- Factors whose denominators are cleared.
--   Undoes S meaning c     the number of c that undoes is the inverse of the product of those that clear
use Rattle.std.specs.Prelude.{◌≡◌}
use Rattle.algebra.specs.Scalars.{Scalars}
use Rattle.poly.specs.declared.clearing.Clearing.{Clearing}

abbrev pub Undoes : {K : Type 0} (S : Scalars) → (K → S.Elem) → Clearing K → Type 0
Undoes S meaning c = S.mul (S.mul (meaning c.left) (meaning c.right)) (meaning c.undo) ≡ S.one
