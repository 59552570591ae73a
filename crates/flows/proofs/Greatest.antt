-- The greatest inductive family of a degree.
--   reduced_has              what is in an ideal, up to the degree, is in that of its reduced list
--   kept_above               what a transition makes of what is provable is in the ideal of lists that have what is provable where it comes from
--   reduced_greatest         the lists that are reduced up to d for what is provable are the greatest family
--   greatest_provable        and what is provable is what is in the ideals of a greatest family
use Rattle.std.proofs.Common.{◌≡◌, ◌≢◌, ◌↔◌, ℕ, ◌<◌, List, [], ◌∷◌, refl, sym, subst, ◌∙◌, inl}
use Rattle.algebra.specs.Each.{Each}
use Rattle.algebra.specs.In.{In}
use Rattle.algebra.proofs.In.{each_in, each_from}
use Rattle.algebra.specs.Fraction.{Fraction, ℚ}
use Rattle.algebra.proofs.Fractions.{ℚ_ring}
use Rattle.polynomials.specs.Exponent.{exponents}
use Rattle.polynomials.specs.Order.{grevlex}
use Rattle.polynomials.specs.Terms.{Terms, coefficient, combination}
use Rattle.polynomials.specs.Polynomial.{Arity, AllArity, IsPolynomial, Falls}
use Rattle.polynomials.proofs.Algebra.{coefficient-nil}
use Rattle.polynomials.proofs.Canonical.{coefficient_head}
use Rattle.polynomials.proofs.Orders.{grevlex_order}
use Rattle.ideals.specs.Members.{IsMember}
use Rattle.closures.specs.Closure.{IsIdeal}
use Rattle.closures.specs.UpTo.{IsReducedUpTo}
use Rattle.closures.proofs.Ideals.{member_ideal}
use Rattle.closures.proofs.Ideals as ideals_over
use Rattle.closures.proofs.SameUpTo.{all_low, kept_up_to}
use Rattle.flows.specs.Graph.{Transition, Graph, IsGraph}
use Rattle.flows.specs.Family.{Family, generators, IsAtMost, IsInductive, HasDegree, IsProvable, IsGreatest}
use Rattle.flows.proofs.Members.{member_in, member_each, after_member, generators_arity}
use Rattle.flows.proofs.Sound.{transition_is}
use Rattle.flows.proofs.Families.{Goes, goes_further, provable_ideal}

module _ (m d : ℕ) (gs : List (Terms Fraction)) (I : Terms Fraction → Type 0)
    (r : IsReducedUpTo m d gs I) where
  pub reduced_arity : AllArity m gs
  reduced_arity = each_from gs (λ g i. (r.tidy.polynomials g i).arity)

  pub reduced_low : Each (IsAtMost d) gs
  reduced_low = each_from gs (λ g i. all_low m d g (r.tidy.polynomials g i) (r.tidy.degrees g i))

  pub reduced_has : IsIdeal m I → (p : Terms Fraction) → IsAtMost d p → I p → IsMember ℚ m gs p
  reduced_has ideal p low i =
      (kept_up_to m d I (ideals_over.IsMemberOver m gs reduced_arity) ideal
      (member_ideal m gs reduced_arity) gs
      r
      (λ g j. record {
        arity = each_in (Arity m) gs g reduced_arity j;
        member = member_in m gs g reduced_arity j;
      }) p low i).member

-- of nothing but 0 it has no element
pub nothing_generated : (m : ℕ) (p : Terms Fraction) → IsPolynomial ℚ grevlex m p → p ≢ []
    → IsMember ℚ m [] p → ⊥
unfolding Each Falls combination
nothing_generated m [] h n i = n refl
nothing_generated m (t ∷ p) h n i =
    h.nonzero.0 (sym (coefficient_head grevlex grevlex_order ℚ_ring t p h.falls.0)
    ∙ i.is.at t.0 ∙ none i.cofactors)
  where
    none : (qs : List (Terms Fraction)) → coefficient ℚ (combination ℚ qs []) t.0 ≡ ℚ.zero
    none [] = coefficient-nil exponents ℚ_ring t.0
    none (q ∷ qs) = coefficient-nil exponents ℚ_ring t.0

module _ (G : Graph) (is : IsGraph G) (d : ℕ) where
  abbrev n : ℕ
  n = G.variables

  -- what is provable where t leads to, by lists that have what inductive families have where it
  -- comes from
  pub kept_above : (t : Transition) → In t G.transitions → (B : Family) → AllArity n (B t.from)
      → ((C : Family) → IsInductive G C → HasDegree G d C
      → Each (IsMember ℚ n (B t.from)) (C t.from))
      → (p : Terms Fraction) → IsProvable G d t.to p → Goes G is t B p
  kept_above t i B b has p w =
      let f = (transition_is G is t i).from_node in
      let to = (transition_is G is t i).to_node in
      let c = w.inductive in
      goes_further G is t i w.family B (c.arities t.from f) b (has w.family c w.degree) p
      (after_member n G.nodes t (transition_is G is t i) (generators t w.family)
      (w.family t.to) p (c.arities t.to to)
      (generators_arity n G.nodes t (transition_is G is t i) w.family (c.arities t.from f))
      w.arity (c.kept t i) w.member)

  module _ (B : Family) (some : 0 < G.nodes)
      (r : (v : ℕ) → v < G.nodes → IsReducedUpTo n d (B v) (IsProvable G d v)) where
    has_all : (C : Family) → IsInductive G C → HasDegree G d C → (v : ℕ) → v < G.nodes
        → Each (IsMember ℚ n (B v)) (C v)
    has_all C c low v l = each_from (C v) (λ p i.
        reduced_has n d (B v) (IsProvable G d v) (r v l) (provable_ideal G is d v l) p
        (each_in (IsAtMost d) (C v) p (low.at_most v l) i)
        (record {
          arity = each_in (Arity n) (C v) p (c.arities v l) i;
          family = C;
          inductive = c;
          degree = low;
          member = member_in n (C v) p (c.arities v l) i;
        }))

    starts_none : (gs : List (Terms Fraction)) → B 0 ≡ gs → gs ≡ []
    starts_none [] e = refl
    starts_none (g ∷ gs) e =
        let i : In g (B 0) = subst (In g) (sym e) (inl refl) in
        let w = (r 0 some).members g i in
        absurd (nothing_generated n g ((r 0 some).tidy.polynomials g i)
        ((r 0 some).tidy.nonzero g i)
        (subst (λ xs. IsMember ℚ n xs g) w.inductive.start w.member))

    kept_by : (t : Transition) → In t G.transitions → (p : Terms Fraction)
        → IsProvable G d t.to p → Goes G is t B p
    kept_by t i p w =
        let f = (transition_is G is t i).from_node in
        kept_above t i B (reduced_arity n d (B t.from) (IsProvable G d t.from) (r t.from f))
        (λ C c low. has_all C c low t.from f) p w

    pub reduced_greatest : IsGreatest G d B
    reduced_greatest = record {
      inductive = record {
        arities = λ v l. reduced_arity n d (B v) (IsProvable G d v) (r v l);
        start = starts_none (B 0) refl;
        kept = λ t i. each_from (B t.to) (λ p j.
            kept_by t i p ((r t.to (transition_is G is t i).to_node).members p j));
      };
      degree = record { at_most = λ v l. reduced_low n d (B v) (IsProvable G d v) (r v l) };
      has = has_all;
    }

  pub greatest_provable : (B : Family) → IsGreatest G d B → (v : ℕ) → v < G.nodes
      → (p : Terms Fraction) → Arity n p → IsProvable G d v p ↔ IsMember ℚ n (B v) p
  greatest_provable B g v l p a = (
    λ h. member_each n (h.family v) (B v) p (g.inductive.arities v l) a
        (g.has h.family h.inductive h.degree v l) h.member,
    λ i. record { arity = a; family = B; inductive = g.inductive; degree = g.degree; member = i },
  )
