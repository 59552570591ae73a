-- Rows of values that are independent modulo a number.
--   IsMultiple q x             x is a multiple of q;  AreCongruent q x y: x less y is
--   IsResidueOf q f a          some multiple of the fraction f, by a number with an inverse modulo q, is a whole number, which is congruent to that multiple of a
--   AreResidues q fs row       so place by place
--   IsSampleRow program q es row     the row has the residues of the monomials es at the end of a run
--   IsIndependentModulo q n rows     only multiples of q, n of them, give a multiple of q with each row
--   HasPivot q a               a has an inverse modulo q
--   IsTriangularFrom q k rows  the first row has a pivot at the place k, where the others have multiples of q, and so on with these from the next place
--   IsCombinationModulo q rows s     what gives multiples of q with each of the rows does with s
use Rattle.std.specs.Prelude.{◌≡◌, ℕ, suc, get_or, ℤ, pos, ◌*ℤ◌, List, [], ◌∷◌, map, length}
use Rattle.algebra.specs.Each.{Each}
use Rattle.algebra.specs.Ring.{operations}
use Rattle.algebra.proofs.IntRing.{ℤ_ring}
use Rattle.algebra.specs.Fraction.{Fraction, ℚ, whole}
use Rattle.polynomials.specs.Terms.{sum_of_products, monomial_at}
use Rattle.ideals.specs.Ideal.{InIdeal, IsCongruent}
use Rattle.loops.specs.Program.{Expr, Program}
use Rattle.loops.specs.Run.{Run}

abbrev pub IsMultiple : ℤ → ℤ → Type 0
IsMultiple q x = InIdeal ℤ_ring (q ∷ []) x

abbrev pub AreCongruent : ℤ → ℤ → ℤ → Type 0
AreCongruent q x y = IsCongruent ℤ_ring (q ∷ []) x y

pub record IsResidueOf (q : ℤ) (f : Fraction) (a : ℤ) : Type 0 where
  pub by : ℤ
  pub inverse : ℤ
  pub invertible : AreCongruent q (by *ℤ inverse) (pos 1)
  pub number : ℤ
  pub is : ℚ.mul (whole by) f ≡ whole number
  pub congruent : AreCongruent q number (by *ℤ a)

unfoldable pub AreResidues : ℤ → List Fraction → List ℤ → Type 0
AreResidues q [] [] = Unit {0}
AreResidues q [] (a ∷ row) = ⊥
AreResidues q (f ∷ fs) [] = ⊥
AreResidues q (f ∷ fs) (a ∷ row) = IsResidueOf q f a × AreResidues q fs row

pub record IsSampleRow {At : Type 0} (program : Program (Expr At)) (q : ℤ) (es : List (List ℕ))
    (row : List ℤ) : Type 0 where
  pub run : Run program
  pub residues : AreResidues q (map (monomial_at ℚ run.end) es) row

pub record IsIndependentModulo (q : ℤ) (n : ℕ) (rows : List (List ℤ)) : Type 0 where
  pub none : (z : List ℤ) → length z ≡ n
      → Each (λ row. IsMultiple q (sum_of_products (operations ℤ_ring) z row)) rows
      → Each (IsMultiple q) z

pub record HasPivot (q a : ℤ) : Type 0 where
  pub inverse : ℤ
  pub is : AreCongruent q (a *ℤ inverse) (pos 1)

unfoldable pub IsTriangularFrom : ℤ → ℕ → List (List ℤ) → Type 0
IsTriangularFrom q k [] = Unit {0}
IsTriangularFrom q k (row ∷ rows) =
    HasPivot q (get_or row k (pos 0)) × Each (λ r. IsMultiple q (get_or r k (pos 0))) rows
    × IsTriangularFrom q (suc k) rows

pub record IsCombinationModulo (q : ℤ) (rows : List (List ℤ)) (s : List ℤ) : Type 0 where
  pub gives : (z : List ℤ)
      → Each (λ row. IsMultiple q (sum_of_products (operations ℤ_ring) z row)) rows
      → IsMultiple q (sum_of_products (operations ℤ_ring) z s)
