-- A search that ends with a closing has found the reduced list up to the degree.
--   searched_is          elements that are closed, with standard monomials whose rows are independent by pivots, are it
use Rattle.std.proofs.Common.{◌≡◌, ℕ, ◌≤◌, ℤ, pos, List, length, subst}
use Rattle.algebra.specs.Each.{Each}
use Rattle.algebra.proofs.In.{each_from, each_in}
use Rattle.algebra.specs.Fraction.{Fraction}
use Rattle.polynomials.specs.Terms.{Terms}
use Rattle.machines.specs.Journal.{Entry}
use Rattle.loops.specs.Program.{Expr, Program}
use Rattle.loops.specs.Inv.{Inv}
use Rattle.closures.specs.Closing.{closed}
use Rattle.closures.specs.Ends.{ComesNext}
use Rattle.closures.specs.Modulo.{IsSampleRow, IsIndependentModulo, IsTriangularFrom, IsCombinationModulo}
use Rattle.closures.specs.UpTo.{AreTidy, HasStandard, AreDistinct, IsReducedUpTo}
use Rattle.closures.proofs.Ended.{closed_invariants}
use Rattle.closures.proofs.Ideals.{invariants_ideal}
use Rattle.closures.proofs.Pivots.{pivots_independent}
use Rattle.closures.proofs.Samples.{no_combination}
use Rattle.closures.proofs.UpTo.{reduced_up_to}

module _ {At : Type 0} (program : Program (Expr At)) where
  abbrev m : ℕ
  m = length program.names

  pub searched_is : (d : ℕ) (P : List (Terms Fraction)) → AreTidy m d P → (journal : List Entry)
      (gs : List (Terms Fraction)) → ComesNext program P journal (closed gs)
      → (es : List (List ℕ)) → HasStandard m d P es → AreDistinct es → (k : ℕ) → 2 ≤ k
      → (rows stored : List (List ℤ)) → Each (IsSampleRow program (pos k) es) rows
      → IsTriangularFrom (pos k) 0 stored → Each (IsCombinationModulo (pos k) rows) stored
      → length stored ≡ length es → IsReducedUpTo m d P (Inv program)
  searched_is d P tidy journal gs c es standard distinct k big rows stored samples t i l =
      let inv : Each (Inv program) P =
      closed_invariants program P (each_from P tidy.polynomials) journal gs c in
      reduced_up_to m (Inv program) (invariants_ideal program) d P
      (λ g j. each_in (Inv program) P g inv j) tidy es standard
      (no_combination program k big es distinct rows samples
      (subst (λ n. IsIndependentModulo (pos k) n rows) l
      (pivots_independent (pos k) rows stored t i)))
