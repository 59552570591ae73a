-- What a valid certificate shows of a graph, and of a program with the same polynomials.
--   certificate_holds     each listed polynomial is an invariant at its node
--   element_holds         one of them, by its place
--   points_hold           it is 0 at each state that is seen there
--   sides_hold            so two sides whose difference is listed are equal there
use Rattle.std.proofs.Common.{◌≡◌, ℕ, ◌<◌, length, sym, ◌∙◌}
use Rattle.algebra.specs.Each.{Each}
use Rattle.algebra.proofs.In.{each_from, each_in, in_get}
use Rattle.algebra.proofs.Each.{each_weaker}
use Rattle.algebra.specs.Fraction.{Fraction, ℚ}
use Rattle.algebra.proofs.Fractions.{ℚ_ring}
use Rattle.polynomials.specs.Terms.{Terms, Same, value_at}
use Rattle.polynomials.specs.Polynomial.{Arity}
use Rattle.polynomials.proofs.ValueAt.{value_at_same}
use Rattle.loops.specs.Program.{Expr}
use Rattle.loops.specs.Run.{value}
use Rattle.flows.specs.Graph.{Graph, IsGraph, Inv}
use Rattle.flows.specs.Certificate.{Certificate, family, element, AreOver, IsValid}
use Rattle.flows.specs.Same.{IsSameGraph}
use Rattle.flows.specs.Code.{Code, State, IsSeen, PointInv}
use Rattle.flows.specs.Chart.{graph}
use Rattle.flows.specs.Sides.{difference}
use Rattle.flows.proofs.Members.{member_in}
use Rattle.flows.proofs.Sound.{sound}
use Rattle.flows.proofs.Certified.{certified_inductive}
use Rattle.flows.proofs.SameGraph.{same_invariants}
use Rattle.flows.proofs.Programs.{point_invariants, difference_arity, sides_equal}

module _ (G : Graph) (is : IsGraph G) (c : Certificate) (over : AreOver G c)
    (valid : IsValid G c) where
  pub certificate_holds : (v : ℕ) → v < G.nodes → Each (Inv G v) (family c v)
  certificate_holds v l = each_from (family c v) (λ p i.
      sound G is (family c) (certified_inductive G c over valid) v l p
      (each_in (Arity G.variables) (family c v) p (over.arities v) i)
      (member_in G.variables (family c v) p (over.arities v) i))

  pub element_holds : (v : ℕ) → v < G.nodes → (i : ℕ) → i < length (family c v)
      → Inv G v (element c v i)
  element_holds v l i k = each_in (Inv G v) (family c v) (element c v i) (certificate_holds v l)
      (in_get (family c v) i _ k)

  module _ {At : Type 0} (n : ℕ) (code : Code (Expr At)) (same : IsSameGraph G (graph n code)) where
    point_holds : (v : ℕ) → 0 < v → v < G.nodes → (p : Terms Fraction) → Inv G v p
        → PointInv n code v p
    point_holds v w l p i =
        (point_invariants n code v w p).1 (same_invariants G (graph n code) same v p i)

    pub points_hold : (v : ℕ) → 0 < v → v < G.nodes
        → Each (λ p. (z : State) → IsSeen n code v z → value_at ℚ p z ≡ ℚ.zero) (family c v)
    points_hold v w l = each_weaker (Inv G v) _
        (λ p i. (point_holds v w l p i).zero) (family c v) (certificate_holds v l)

    pub sides_hold : (v : ℕ) → 0 < v → v < G.nodes → (e f : Expr At) (i : ℕ)
        → i < length (family c v) → Same ℚ (element c v i) (difference n e f) → (z : State)
        → IsSeen n code v z → value e z ≡ value f z
    sides_hold v w l e f i k s = (sides_equal n code v w e f).0 (record {
      arity = difference_arity n code e f;
      zero = λ z h. sym (value_at_same ℚ_ring (element c v i) (difference n e f) z s)
          ∙ (point_holds v w l (element c v i) (element_holds v l i k)).zero z h;
    })
