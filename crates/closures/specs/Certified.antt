-- The certificate of a closing: the cofactors of divisions by its list, at the places where its elements stand in a longer list.
--   put k q row                q is added at the place k of the row
--   placed ks qs row           each of the qs at its place
--   StandAt bs gs ks           each of the gs stands in bs at its place
--   AreOthers P gs qs          the qs are those of gs that aren't in P, in their order
--   IsListOf P gs bs           bs is P and then these
--   IsRowOf program gs ks n b p row     row is the cofactors of the division of p, composed with the map of the branch b, by gs: each at its place in a row of n
--   IsProofBy program gs ks c  each element of c is a member of the ideal of gs, which stand in its list at the places ks, and its cofactors are such rows
use Rattle.std.specs.Prelude.{◌≡◌, ◌⊎◌, ℕ, zero, suc, ◌<◌, List, [], ◌∷◌, ◌++◌, length, replicate, slice_get, Some}
use Rattle.algebra.specs.In.{In}
use Rattle.algebra.specs.Fraction.{Fraction, ℚ, rationals}
use Rattle.polynomials.specs.Terms.{Terms}
use Rattle.polynomials.specs.Order.{grevlex}
use Rattle.polynomials.specs.Polynomial.{AllArity}
use Rattle.ideals.specs.Members.{IsMember}
use Rattle.machines.specs.Collect.{collect}
use Rattle.machines.specs.Division as division
use Rattle.machines.specs.Run.{Ends}
use Rattle.loops.specs.Program.{Expr, Program}
use Rattle.loops.specs.Certificate.{Certificate, element, cofactors}
use Rattle.rounds.specs.Word.{after_iteration}

unfoldable pub put : ℕ → Terms Fraction → List (Terms Fraction) → List (Terms Fraction)
put k q [] = []
put zero q (r ∷ row) = (r ++ q) ∷ row
put (suc k) q (r ∷ row) = r ∷ put k q row

unfoldable pub placed : List ℕ → List (Terms Fraction) → List (Terms Fraction)
    → List (Terms Fraction)
placed [] qs row = row
placed (k ∷ ks) [] row = row
placed (k ∷ ks) (q ∷ qs) row = put k q (placed ks qs row)

unfoldable pub StandAt : List (Terms Fraction) → List (Terms Fraction) → List ℕ → Type 0
StandAt bs [] ks = Unit {0}
StandAt bs (g ∷ gs) [] = ⊥
StandAt bs (g ∷ gs) (k ∷ ks) = (slice_get bs k ≡ Some g) × StandAt bs gs ks

unfoldable pub AreOthers : List (Terms Fraction) → List (Terms Fraction) → List (Terms Fraction)
    → Type 0
AreOthers P [] qs = qs ≡ []
AreOthers P (g ∷ gs) [] = In g P × AreOthers P gs []
AreOthers P (g ∷ gs) (q ∷ qs) =
    (In g P × AreOthers P gs (q ∷ qs)) ⊎ (¬ (In g P) × (q ≡ g) × AreOthers P gs qs)

pub record IsListOf (P gs bs : List (Terms Fraction)) : Type 0 where
  pub others : List (Terms Fraction)
  pub are : AreOthers P gs others
  pub is : bs ≡ P ++ others

pub record IsRowOf {At : Type 0} (program : Program (Expr At)) (gs : List (Terms Fraction))
    (ks : List ℕ) (n b : ℕ) (p : Terms Fraction) (row : List (Terms Fraction)) : Type 0 where
  pub division : Ends (division.next rationals grevlex gs)
      (division.initial_state gs (collect rationals grevlex (after_iteration program b p)))
  pub are : row ≡ placed ks division.last.cofactors (replicate n [])

pub record IsProofBy {At : Type 0} (program : Program (Expr At)) (gs : List (Terms Fraction))
    (ks : List ℕ) (c : Certificate) : Type 0 where
  pub arities : AllArity (length program.names) c.basis
  pub stand : StandAt c.basis gs ks
  pub members : (i : ℕ) → i < length c.basis
      → IsMember ℚ (length program.names) gs (element c i)
  pub rows : (b i : ℕ) → b < length program.branches → i < length c.basis
      → IsRowOf program gs ks (length c.basis) (suc b) (element c i) (cofactors c b i)
