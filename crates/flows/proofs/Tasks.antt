-- What the parts of a transition's task give.
--   completed_basis     a completion that has ended gives a basis for the source's list
--   kept_member         a member of its ideal is one of the generators'
--   division_rest_is    a division that has ended gives a rest
--   rest_of_same        of the same polynomial too
--   rest_of_none        a rest 0 makes a member
--   rest_of_product     the rest of a rest times the image of a polynomial is that of the product's image
use Rattle.std.proofs.Common.{◌≡◌, ℕ, ◌+◌, List, [], ◌∷◌, ◌++◌, refl, sym, ap, subst, ◌∙◌}
use Rattle.algebra.specs.Each.{Each}
use Rattle.algebra.specs.In.{In}
use Rattle.algebra.specs.Ring.{CommRing}
use Rattle.algebra.proofs.In.{each_in, each_from}
use Rattle.algebra.specs.Fraction.{Fraction, ℚ, rationals}
use Rattle.algebra.proofs.Fractions.{ℚ_ring, ℚ_zero_test}
use Rattle.polynomials.specs.Algebra as Algebra
use Rattle.polynomials.specs.Order.{grevlex}
use Rattle.polynomials.specs.Polynomial.{Arity, AllArity, IsPolynomial}
use Rattle.polynomials.specs.Terms.{Terms, Same, negate, times}
use Rattle.polynomials.proofs.Arity.{arity-append, arity-negate}
use Rattle.polynomials.proofs.Composition.{same_compose-times}
use Rattle.polynomials.proofs.Orders.{grevlex_order}
use Rattle.polynomials.proofs.Poly.{Poly, poly, poly_ring, poly_same, poly-times}
use Rattle.ideals.specs.Members.{IsMember}
use Rattle.ideals.proofs.Ideal.{in_ideal_same, in_ideal_add, in_ideal_mul}
use Rattle.ideals.proofs.Members.{member_in, member_out}
use Rattle.machines.specs.Division as division
use Rattle.machines.specs.Elimination as elimination
use Rattle.machines.specs.Reduced.{IsReducedFor}
use Rattle.machines.specs.Run.{HasEnded}
use Rattle.machines.proofs.Dividing.{rest_undivided}
use Rattle.machines.proofs.Places.{each_at, slice_in}
use Rattle.machines.proofs.ReducedLists.{reduced_arity, reduced_generates, generated, reduced_for_itself, basis_of_reduced}
use Rattle.rounds.specs.Results.{LeadsTo}
use Rattle.closures.specs.Closing.{next_extended, extended_list}
use Rattle.closures.proofs.Parts.{extended_reduced, rest_differs}
use Rattle.closures.proofs.Parts as parts
use Rattle.flows.specs.Graph.{Transition, Graph}
use Rattle.flows.specs.Family.{after, generators}
use Rattle.flows.specs.Rows.{IsRest}
use Rattle.flows.specs.Searching.{IsBasisFor}
use Rattle.flows.proofs.Members as own
use Rattle.flows.proofs.Members.{poly-less}
use Rattle.flows.proofs.Resting.{split_rest}

module _ (m : ℕ) where
  abbrev K : CommRing (Poly m ℚ_ring)
  K = poly_ring m ℚ_ring

  abbrev of : Terms Fraction → Poly m ℚ_ring
  of p = poly m ℚ_ring p

  pub rest_of_same : (gs : List (Terms Fraction)) → AllArity m gs → (p q r : Terms Fraction)
      → Arity m q → Same ℚ p q → IsRest gs m p r → IsRest gs m q r
  rest_of_same gs a p q r qa e h = record {
    arity = h.arity;
    differs =
        member_out m ℚ_ring ℚ_zero_test gs (q ++ negate ℚ r) a
        (arity-append m q (negate ℚ r) qa (arity-negate m ℚ r h.arity))
        (in_ideal_same K (poly-less m q r ∙ ap (λ x. K.add x (K.neg (of r)))
        (sym (poly_same m ℚ_ring e)) ∙ sym (poly-less m p r))
        (member_in m ℚ_ring gs (p ++ negate ℚ r) h.differs));
    standard = h.standard;
  }

  pub division_rest_is : (gs : List (Terms Fraction))
      → IsReducedFor rationals grevlex m gs (IsMember ℚ m gs) → (p : Terms Fraction)
      → IsPolynomial ℚ grevlex m p → (s : division.State Fraction)
      → LeadsTo (division.next rationals grevlex gs) (division.initial_state gs p) s
      → HasEnded (division.next rationals grevlex gs) s → IsRest gs m p (division.remainder s)
  division_rest_is gs b p h s to end =
      let k = parts.rest_polynomial m gs b p h s to in
      record {
        arity = k.arity;
        differs =
            member_out m ℚ_ring ℚ_zero_test gs (p ++ negate ℚ (division.remainder s))
            (reduced_arity grevlex grevlex_order m gs (IsMember ℚ m gs) b)
            (arity-append m p (negate ℚ (division.remainder s)) h.arity
            (arity-negate m ℚ (division.remainder s) k.arity))
            (in_ideal_same K (poly-less m p (division.remainder s)) (rest_differs m gs b p h s to));
        standard = each_from (division.remainder s) (λ t i. each_from gs (λ g j.
            let place = slice_in gs g j in
            rest_undivided rationals grevlex gs s end t i place.0 g place.1));
      }

  pub rest_of_none : (gs : List (Terms Fraction)) (p : Terms Fraction) → IsRest gs m p []
      → IsMember ℚ m gs p
  unfolding Algebra.negate
  rest_of_none gs p h = subst (IsMember ℚ m gs) (nothing_more p) h.differs
    where
      nothing_more : (p : Terms Fraction) → p ++ [] ≡ p
      nothing_more [] = refl
      nothing_more (t ∷ p) = ap (λ q. t ∷ q) (nothing_more p)

module _ (G : Graph) (t : Transition) where
  abbrev n : ℕ
  n = G.variables

  abbrev w : ℕ
  w = t.unknowns + G.variables

  abbrev L : CommRing (Poly (t.unknowns + G.variables) ℚ_ring)
  L = poly_ring w ℚ_ring

  abbrev at : Terms Fraction → Poly (t.unknowns + G.variables) ℚ_ring
  at p = poly w ℚ_ring p

  module _ (source : List (Terms Fraction))
      (hp : Each (IsPolynomial ℚ grevlex w) (generators t (λ v. source)))
      (s : elimination.State Fraction)
      (to : LeadsTo next_extended
      (elimination.initial_state rationals grevlex (generators t (λ v. source))) s)
      (end : HasEnded next_extended s) where
    abbrev hs : List (Terms Fraction)
    hs = generators t (λ v. source)

    hs_arity : AllArity w hs
    hs_arity = each_from hs (λ g i. let p = each_in (IsPolynomial ℚ grevlex w) hs g hp i in p.arity)

    pub completed_reduced : IsReducedFor rationals grevlex w (extended_list s) (IsMember ℚ w hs)
    completed_reduced = extended_reduced w hs hp s to end

    pub completed_itself : IsReducedFor rationals grevlex w (extended_list s)
        (IsMember ℚ w (extended_list s))
    completed_itself =
        reduced_for_itself grevlex grevlex_order w hs (each_at (IsPolynomial ℚ grevlex w) hs hp)
        (extended_list s) completed_reduced hs_arity

    pub completed_basis : IsBasisFor G t source (extended_list s)
    completed_basis = record {
      arity = reduced_arity grevlex grevlex_order w (extended_list s) (IsMember ℚ w hs)
          completed_reduced;
      is = basis_of_reduced grevlex grevlex_order w (extended_list s) completed_itself;
      has = each_from hs (λ g i.
          let a = each_in (Arity w) hs g hs_arity i in
          reduced_generates grevlex grevlex_order w hs
          (each_at (IsPolynomial ℚ grevlex w) hs hp) (extended_list s) completed_reduced g a
          (member_of g i));
    }
      where
        member_of : (g : Terms Fraction) → In g hs → IsMember ℚ w hs g
        member_of g i = own.member_in w hs g hs_arity i

    pub kept_member : (p : Terms Fraction) → Arity w p → IsMember ℚ w (extended_list s) p
        → IsMember ℚ w hs p
    kept_member p a i =
        generated grevlex grevlex_order w hs (each_at (IsPolynomial ℚ grevlex w) hs hp)
        (extended_list s) completed_reduced p a hs_arity i

  -- by a rest of p's image, the product's
  pub rest_of_product : (gs : List (Terms Fraction)) → AllArity w gs → AllArity w t.images
      → (p x f r u : Terms Fraction) → Arity n p → Arity n x → Arity w f → Same ℚ f (after n t x)
      → Arity w (after n t p) → Arity w (after n t (times ℚ p x))
      → IsRest gs w (after n t p) r → IsRest gs w (times ℚ r f) u
      → IsRest gs w (after n t (times ℚ p x)) u
  rest_of_product gs a images p x f r u pa xa fa same ip ipx h k = record {
    arity = k.arity;
    differs =
        member_out w ℚ_ring ℚ_zero_test gs (after n t (times ℚ p x) ++ negate ℚ u) a
        (arity-append w (after n t (times ℚ p x)) (negate ℚ u) ipx (arity-negate w ℚ u k.arity))
        (in_ideal_same L (poly-less w (after n t (times ℚ p x)) u
        ∙ ap (λ y. L.add y (L.neg (at u)))
        (poly_same w ℚ_ring (same_compose-times ℚ_ring n w p x t.images pa xa images)
        ∙ poly-times w ℚ_ring (after n t p) (after n t x)
        ∙ ap (L.mul (at (after n t p))) (sym (poly_same w ℚ_ring same)))
        ∙ split_rest L (at (after n t p)) (at f) (at r) (at u))
        (in_ideal_add L (in_ideal_mul L (at f)
        (in_ideal_same L (sym (poly-less w (after n t p) r))
        (member_in w ℚ_ring gs (after n t p ++ negate ℚ r) h.differs)))
        (in_ideal_same L (ap (λ y. L.add y (L.neg (at u))) (sym (poly-times w ℚ_ring r f))
        ∙ sym (poly-less w (times ℚ r f) u))
        (member_in w ℚ_ring gs (times ℚ r f ++ negate ℚ u) k.differs))));
    standard = k.standard;
  }
