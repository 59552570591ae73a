-- Members of the ideals that a transition asks for.
--   member_in                one of a list is a member of its ideal
--   member_each              members of the ideal of members
--   vanishes                 a member of an ideal is 0 where the generators are
--   front_member             with variables in front members stay members
--   generators_arity         the generators are polynomials in the unknowns and the variables
--   more_generators          where each polynomial of B is in the ideal of C, what is in the ideal of the generators of B is in that of C
--   poly-less                a difference, in the ring of polynomials
--   after_member             what t makes of a member of an ideal is a member, where what it makes of the generators is
use Rattle.std.proofs.Common.{◌≡◌, ℕ, ◌+◌, List, [], ◌∷◌, ◌++◌, map, get_or, ap, subst, ◌∙◌}
use Rattle.algebra.specs.Each.{Each}
use Rattle.algebra.specs.In.{In}
use Rattle.algebra.proofs.Each.{each-append}
use Rattle.algebra.proofs.In.{each_in, each_from, in_get, in_place}
use Rattle.algebra.specs.Fraction.{Fraction, ℚ}
use Rattle.algebra.proofs.Fractions.{ℚ_ring}
use Rattle.polynomials.specs.Terms.{Terms, value_at, negate}
use Rattle.polynomials.proofs.Poly.{poly, poly_ring, poly-append, poly-negate}
use Rattle.polynomials.specs.Polynomial.{Arity, AllArity}
use Rattle.polynomials.proofs.ValueAt.{value_at_same, combination_zero}
use Rattle.polynomials.proofs.Same.{Same-sym}
use Rattle.ideals.specs.Members.{IsMember}
use Rattle.ideals.proofs.FractionMembers.{member_same, member_at, member_members, member_left, member_right, member_turned}
use Rattle.machines.specs.Elimination.{in_front}
use Rattle.machines.proofs.Padding.{arity-pad, arity-padded, compose-inner, member_in_front}
use Rattle.exponentials.proofs.Orders.{each-all}
use Rattle.flows.specs.Graph.{Transition, IsTransition}
use Rattle.flows.specs.Family.{Family, after, generators}

module _ (m : ℕ) where
  pub member_in : (gs : List (Terms Fraction)) (g : Terms Fraction) → AllArity m gs → In g gs
      → IsMember ℚ m gs g
  member_in gs g a i =
      let (j, l, is) = in_place gs [] g i in subst (IsMember ℚ m gs) is (member_at m gs a j l)

  pub member_each : (gs hs : List (Terms Fraction)) (p : Terms Fraction) → AllArity m hs
      → Arity m p → Each (IsMember ℚ m hs) gs → IsMember ℚ m gs p → IsMember ℚ m hs p
  member_each gs hs p b c h i =
      member_members m gs hs p b c
      (λ j l. each_in (IsMember ℚ m hs) gs (get_or gs j []) h (in_get gs j [] l)) i

  pub vanishes : (gs : List (Terms Fraction)) (p : Terms Fraction) (s : List Fraction)
      → Each (λ g. value_at ℚ g s ≡ ℚ.zero) gs → IsMember ℚ m gs p → value_at ℚ p s ≡ ℚ.zero
  vanishes gs p s z i =
      value_at_same ℚ_ring p _ s i.is
      ∙ combination_zero ℚ_ring i.cofactors gs s
      (each-all (λ g. value_at ℚ g s ≡ ℚ.zero) gs z)

pub front_member : (k m : ℕ) (gs : List (Terms Fraction)) (g : Terms Fraction) → AllArity m gs
    → Arity m g → IsMember ℚ m gs g → IsMember ℚ (k + m) (map (in_front k) gs) (in_front k g)
front_member k m gs g a b i =
    member_same (k + m) (map (in_front k) gs) _ _ (Same-sym ℚ (compose-inner k m g b))
    (member_in_front k m gs g a b i)

module _ (n k : ℕ) (t : Transition) (is : IsTransition n k t) where
  pub generators_arity : (B : Family) → AllArity n (B t.from)
      → AllArity (t.unknowns + n) (generators t B)
  generators_arity B a =
      each-append (Arity (t.unknowns + n)) (map (in_front t.unknowns) (B t.from)) t.zeros
      (arity-padded t.unknowns n (B t.from) a) is.zeros

  module _ (B C : Family) (b : AllArity n (B t.from)) (c : AllArity n (C t.from))
      (each : Each (IsMember ℚ n (C t.from)) (B t.from)) where
    in_front_each : (gs : List (Terms Fraction)) → AllArity n gs → Each (IsMember ℚ n (C t.from)) gs
        → Each (IsMember ℚ (t.unknowns + n) (generators t C)) (map (in_front t.unknowns) gs)
    unfolding Each
    in_front_each [] a h = tt
    in_front_each (g ∷ gs) a h = (
      member_left (t.unknowns + n) (map (in_front t.unknowns) (C t.from)) t.zeros
          (in_front t.unknowns g) (arity-padded t.unknowns n (C t.from) c) is.zeros
          (arity-pad t.unknowns n g a.0) (front_member t.unknowns n (C t.from) g c a.0 h.0),
      in_front_each gs a.1 h.1,
    )

    zeros_each : Each (IsMember ℚ (t.unknowns + n) (generators t C)) t.zeros
    zeros_each = each_from t.zeros (λ g i.
        member_right (t.unknowns + n) (map (in_front t.unknowns) (C t.from)) t.zeros g
        (arity-padded t.unknowns n (C t.from) c) is.zeros
        (each_in (Arity (t.unknowns + n)) t.zeros g is.zeros i)
        (member_in (t.unknowns + n) t.zeros g is.zeros i))

    pub more_generators : (p : Terms Fraction) → Arity (t.unknowns + n) p
        → IsMember ℚ (t.unknowns + n) (generators t B) p
        → IsMember ℚ (t.unknowns + n) (generators t C) p
    more_generators p a i =
        member_each (t.unknowns + n) (generators t B) (generators t C) p (generators_arity C c) a
        (each-append (IsMember ℚ (t.unknowns + n) (generators t C))
        (map (in_front t.unknowns) (B t.from)) t.zeros (in_front_each (B t.from) b each)
        zeros_each) i

  pub after_member : (hs gs : List (Terms Fraction)) (p : Terms Fraction) → AllArity n gs
      → AllArity (t.unknowns + n) hs → Arity n p
      → Each (λ g. IsMember ℚ (t.unknowns + n) hs (after n t g)) gs → IsMember ℚ n gs p
      → IsMember ℚ (t.unknowns + n) hs (after n t p)
  after_member hs gs p a b c h i =
      member_turned n (t.unknowns + n) gs hs t.images p a b is.images c
      (λ j l. each_in (λ g. IsMember ℚ (t.unknowns + n) hs (after n t g)) gs (get_or gs j []) h
      (in_get gs j [] l)) i

-- ---- differences
pub poly-less : (m : ℕ) (p q : Terms Fraction) → poly m ℚ_ring (p ++ negate ℚ q)
    ≡ (poly_ring m ℚ_ring).add (poly m ℚ_ring p) ((poly_ring m ℚ_ring).neg (poly m ℚ_ring q))
poly-less m p q = poly-append m ℚ_ring p (negate ℚ q)
    ∙ ap ((poly_ring m ℚ_ring).add (poly m ℚ_ring p)) (poly-negate m ℚ_ring q)
