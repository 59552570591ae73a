-- What the operations end with.
--   basis_along       a reduced basis of a set is one of each set with the same polynomials
--   eliminated_of     the tidying of what is kept gives the elimination
--   met_of            of a blend, the intersection
--   added_of          a reduced basis of two lists together is one of the sum
use Rattle.std.proofs.Common.{◌↔◌, ℕ, ◌+◌, List, ◌++◌}
use Rattle.algebra.specs.Arithmetic.{Arithmetic}
use Rattle.algebra.specs.Each.{Each}
use Rattle.algebra.specs.FieldArithmetic.{calculus}
use Rattle.algebra.specs.Ring.{Field, operations}
use Rattle.algebra.proofs.Each.{each_weaker}
use Rattle.polynomials.specs.Order.{Rank, IsMonomialOrder, blocks}
use Rattle.polynomials.specs.Polynomial.{AllArity, Arity, IsPolynomial}
use Rattle.polynomials.specs.Terms.{Terms}
use Rattle.polynomials.proofs.Orders.{blocks_order}
use Rattle.ideals.specs.Members.{IsMember, IsSumOf}
use Rattle.ideals.proofs.Members.{member_sum, sum_member}
use Rattle.machines.specs.Basis.{AtPlaces, IsBasisOf}
use Rattle.machines.specs.Elimination.{free_part, in_front, blend}
use Rattle.machines.specs.Reduced.{IsReducedBasis}
use Rattle.machines.proofs.Eliminating.{kept_basis, kept_members}
use Rattle.machines.proofs.Ends.{reduced_along}
use Rattle.machines.proofs.Meeting.{blend_members}

joined : {X Y Z : Type 0} → X ↔ Y → Y ↔ Z → X ↔ Z
joined f g = ((λ x. g.0 (f.0 x)), (λ z. f.1 (g.1 z)))

module _ {A : Type 0} (K : Field A) (Q : Rank) (q : IsMonomialOrder Q) (m : ℕ) where
  pub basis_along : (gs : List (Terms A)) (I J : Terms A → Type 0)
      → ((p : Terms A) → IsPolynomial (operations K.ring) Q m p → I p ↔ J p)
      → IsReducedBasis (calculus K) Q m gs I → IsReducedBasis (calculus K) Q m gs J
  basis_along gs I J h b = record {
    reduced = reduced_along K Q q m gs I J h b.reduced;
    generates = λ p hp. joined (b.generates p hp) (h p hp);
    basis = b.basis;
  }

  arities : (gs : List (Terms A)) → Each (IsPolynomial (operations K.ring) Q m) gs → AllArity m gs
  arities gs h = each_weaker (IsPolynomial (operations K.ring) Q m) (Arity m) (λ g i. i.arity) gs h

  -- SUM
  pub added_of : (ks bs gs : List (Terms A)) → Each (IsPolynomial (operations K.ring) Q m) ks
      → Each (IsPolynomial (operations K.ring) Q m) bs
      → IsReducedBasis (calculus K) Q m gs (IsMember (operations K.ring) m (ks ++ bs))
      → IsReducedBasis (calculus K) Q m gs (IsSumOf (operations K.ring) m ks bs)
  added_of ks bs gs a b = basis_along gs (IsMember (operations K.ring) m (ks ++ bs))
      (IsSumOf (operations K.ring) m ks bs)
      (λ p hp. (
        member_sum m K.ring K.zero_test ks bs (arities ks a) (arities bs b) p hp.arity,
        sum_member m K.ring K.zero_test ks bs (arities ks a) (arities bs b) p hp.arity,
      ))

-- ---- with variables in front
module _ {A : Type 0} (K : Field A) (k m : ℕ) (P Q : Rank) (p : IsMonomialOrder P)
    (q : IsMonomialOrder Q) where
  abbrev N : Arithmetic A
  N = operations K.ring

  module _ (basis hs : List (Terms A))
      (ph : AtPlaces (IsPolynomial (operations K.ring) (blocks k P Q) (k + m)) hs)
      (b : IsBasisOf (calculus K) (blocks k P Q) (k + m) basis hs) where
    pub kept_itself : IsBasisOf (calculus K) Q m (free_part k basis) (free_part k basis)
    kept_itself = kept_basis K k m P Q p q basis hs ph b

    -- ELIMINATION
    pub eliminated_of : (gs : List (Terms A))
        → IsReducedBasis (calculus K) Q m gs (IsMember (operations K.ring) m (free_part k basis))
        → IsReducedBasis (calculus K) Q m gs (λ y. IsMember (operations K.ring) (k + m) hs
        (in_front k y))
    eliminated_of gs = basis_along K Q q m gs (IsMember N m (free_part k basis))
        (λ y. IsMember N (k + m) hs (in_front k y)) (λ y hy. kept_members K k m P Q p q basis hs ph
        b y hy)

module _ {A : Type 0} (K : Field A) (m : ℕ) (P Q : Rank) (p : IsMonomialOrder P)
    (q : IsMonomialOrder Q) where
  -- INTERSECTION
  pub met_of : (ks bs gs : List (Terms A)) → Each (IsPolynomial (operations K.ring) Q m) ks
      → Each (IsPolynomial (operations K.ring) Q m) bs
      → IsReducedBasis (calculus K) Q m gs (λ y. IsMember (operations K.ring) (1 + m)
      (blend (calculus K) (blocks 1 P Q) ks bs) (in_front 1 y))
      → IsReducedBasis (calculus K) Q m gs (λ y. IsMember (operations K.ring) m ks y
      × IsMember (operations K.ring) m bs y)
  met_of ks bs gs a b = basis_along K Q q m gs
      (λ y. IsMember (operations K.ring) (1 + m) (blend (calculus K) (blocks 1 P Q) ks bs)
      (in_front 1 y)) (λ y. IsMember (operations K.ring) m ks y
      × IsMember (operations K.ring) m bs y)
      (λ y hy. blend_members K m (blocks 1 P Q) (blocks_order 1 P Q p q) ks bs
      (arities K Q q m ks a) (arities K Q q m bs b) y hy.arity)
