-- What is told by the text of a basis.
--   ReadsBack names p      p as it is printed is read as the same polynomial
--   IsReadBack names gs    the names can be names of variables, and each of the gs reads back
use Rattle.std.specs.Prelude.{ℕ, List, All, IsSomeAnd}
use Rattle.algebra.specs.Fraction.{Fraction, ℚ}
use Rattle.polynomials.specs.Terms.{Terms, Same}
use Rattle.loop_model.specs.Names.{AreNames}
use Rattle.poly_text.specs.Flat.{flat_of}
use Rattle.poly_text.specs.Printed.{polynomial_text}

abbrev pub ReadsBack : List (List ℕ) → Terms Fraction → Type 0
ReadsBack names p = IsSomeAnd (flat_of names (polynomial_text names p)) (λ q. Same ℚ q p)

pub record IsReadBack (names : List (List ℕ)) (gs : List (Terms Fraction)) : Type 0 where
  pub are_names : AreNames names
  pub each : All (ReadsBack names) gs
