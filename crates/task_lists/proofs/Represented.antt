-- The S-polynomial of a pair of a list, and representations of it below the least common multiple of the leads.
--   multiple_is       that multiple, in the words of the list
--   pair_is           the S-polynomial, in these words
--   holds_by, fails_by     whether cofactors represent it
--   pair_past         where the S-polynomial is past
use Rattle.std.proofs.Common.{◌≡◌, ◌↔◌, ◌⊎◌, inl, inr, ℕ, ◌<◌, Bool, List, [], ◌++◌, length, get_or, IsTrue, sym, ap, ap₂, subst, subst₂, ◌∙◌}
use Rattle.std.proofs.lemmas.List.{get_or-map}
use Rattle.algebra.specs.Fraction.{Fraction, ℚ, rationals, fractions}
use Rattle.algebra.proofs.Fractions.{ℚ_field}
use Rattle.polynomials.specs.Exponent.{lcm}
use Rattle.polynomials.specs.Order.{Rank, IsMonomialOrder}
use Rattle.polynomials.specs.Terms.{Terms, Same, negate, combination}
use Rattle.polynomials.specs.Weight.{IsPastSum}
use Rattle.polynomials.proofs.Same.{Same-sym, Same-trans}
use Rattle.machines.specs.Completion.{leads, s_polynomial}
use Rattle.machines.specs.Cut.{lead_of}
use Rattle.machines.specs.High.{IsPastRaised}
use Rattle.machines.specs.Pairs.{multiple}
use Rattle.machines.specs.Past.{IsPastPair}
use Rattle.machines.proofs.Collecting.{collect-same}
use Rattle.corollaries.specs.Representation.{AreBelow, IsLcmRepresentation}
use Rattle.task_lists.specs.Raising.{raised_to}

module _ (gs : List (Terms Fraction)) (a : ℕ × ℕ) {e : List ℕ} {f g : Terms Fraction}
    (left : f ≡ get_or gs a.0 []) (right : g ≡ get_or gs a.1 [])
    (is : e ≡ lcm (lead_of f) (lead_of g)) (k : a.0 < length gs) (l : a.1 < length gs) where
  pub multiple_is : e ≡ multiple (leads gs) a
  multiple_is = is ∙ ap₂ lcm (ap lead_of left ∙ sym (get_or-map lead_of gs a.0 [] [] k))
      (ap lead_of right ∙ sym (get_or-map lead_of gs a.1 [] [] l))

  pub pair_past : IsPastSum fractions f g ⊎ IsPastRaised e f ⊎ IsPastRaised e g
      → IsPastPair fractions rationals gs a
  pair_past (inl past) = inl (subst₂ (IsPastSum fractions) left right past)
  pair_past (inr (inl past)) = inr (inl (subst₂ (λ d p. IsPastRaised d p) multiple_is left past))
  pair_past (inr (inr past)) = inr (inr (subst₂ (λ d p. IsPastRaised d p) multiple_is right past))

  module _ {O : Rank} (o : IsMonomialOrder O) (qs : List (Terms Fraction)) (p sum : Terms Fraction)
      (pair : Same ℚ p (raised_to e f ++ negate ℚ (raised_to e g)))
      (made : Same ℚ sum (combination ℚ qs gs)) where
    pair_is : Same ℚ p (s_polynomial rationals O gs a)
    unfolding s_polynomial
    pair_is = Same-trans ℚ (subst (Same ℚ p)
        (ap₂ (λ x y. x ++ negate ℚ y) (ap₂ raised_to multiple_is left)
        (ap₂ raised_to multiple_is right)) pair) (Same-sym ℚ (collect-same ℚ_field O o _))

    pub holds_by : Same ℚ p sum → (b : Bool) → (IsTrue b ↔ AreBelow rationals O e qs gs)
        → (IsTrue b ↔ IsLcmRepresentation rationals O gs a qs)
    holds_by same b tells = (
      λ t. (
        Same-trans ℚ (Same-sym ℚ pair_is) (Same-trans ℚ same made),
        subst (λ d. AreBelow rationals O d qs gs) multiple_is (tells.0 t),
      ),
      λ h. tells.1 (subst (λ d. AreBelow rationals O d qs gs) (sym multiple_is) h.1),
    )

    pub fails_by : (Same ℚ p sum → ⊥) → IsLcmRepresentation rationals O gs a qs → ⊥
    fails_by n h = n (Same-trans ℚ pair_is (Same-trans ℚ h.0 (Same-sym ℚ made)))
