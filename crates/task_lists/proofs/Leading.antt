-- Whether the lead of a polynomial is below a monomial, by its first term.
--   first_length      the first term has an exponent for each variable
--   nothing_below     0 has no lead
--   below_tells       the lead is that of the first term
use Rattle.std.proofs.Common.{◌≡◌, ◌↔◌, ℕ, Bool, List, [], ◌∷◌, length, slice_get, Some, IsTrue, refl, sym, subst, ◌∙◌, Ordering, Less, Equal, Greater}
use Rattle.std.specs.Ordering.{is_lt}
use Rattle.algebra.specs.Each.{Each}
use Rattle.algebra.specs.Sum.{sum_over}
use Rattle.algebra.specs.Fraction.{Fraction, ℚ, rationals}
use Rattle.algebra.proofs.Fractions.{ℚ_ring}
use Rattle.polynomials.specs.Algebra as Algebra
use Rattle.polynomials.specs.Degree.{IsLead}
use Rattle.polynomials.specs.Order.{Rank, IsMonomialOrder, compare}
use Rattle.polynomials.specs.Polynomial.{Arity, IsPolynomial}
use Rattle.polynomials.specs.Terms.{Terms, Same, coefficient}
use Rattle.polynomials.proofs.Lead.{lead_along, lead_unique, lead_of_first}
use Rattle.polynomials.proofs.Same.{Same-sym}
use Rattle.corollaries.specs.Representation.{IsLeadBelow}

nothing : (d : List ℕ) → coefficient ℚ [] d ≡ ℚ.zero
unfolding Algebra.coefficient sum_over
nothing d = refl

pub first_length : {A : Type 0} (m : ℕ) (p : Terms A) (t : List ℕ × A) → slice_get p 0 ≡ Some t
    → Arity m p → length t.0 ≡ m
unfolding Each
first_length m [] t e a = absurd (let z : ⊥ = cc in z)
first_length m (u ∷ p) t e a = let is : u ≡ t = cc in subst (λ (x : List ℕ × _). length x.0 ≡ m) is
    a.0

less_tells : (w : Ordering) → IsTrue (is_lt w) ↔ (w ≡ Less)
less_tells Less = (λ t. refl, λ e. refl)
less_tells Equal = (λ t. absurd (cc), λ e. absurd (cc))
less_tells Greater = (λ t. absurd (cc), λ e. absurd (cc))

module _ {O : Rank} (o : IsMonomialOrder O) (e : List ℕ) (p x : Terms Fraction) (same : Same ℚ p x)
  where
    pub nothing_below : p ≡ [] → IsLeadBelow rationals O e x
    nothing_below is = λ d k. absurd ((lead_along O o ℚ_ring d x p (Same-sym ℚ same) k).occurs
        (subst (λ q. coefficient ℚ q d ≡ ℚ.zero) (sym is) (nothing d)))

    first_tells : (m : ℕ) → IsPolynomial ℚ O m p → (t : List ℕ × Fraction)
        → slice_get p 0 ≡ Some t
        → (compare O t.0 e ≡ Less) ↔ IsLeadBelow rationals O e x
    first_tells m h t is =
        let lead : IsLead ℚ O t.0 x = lead_along O o ℚ_ring t.0 p x same
        (lead_of_first O o ℚ_ring m p t h is) in (
          λ less d k. subst (λ y. compare O y e ≡ Less) (lead_unique O o ℚ_ring t.0 d x lead k)
              less,
          λ all. all t.0 lead,
        )

    pub below_tells : (m : ℕ) → IsPolynomial ℚ O m p → (t : List ℕ × Fraction)
        → slice_get p 0 ≡ Some t → (w : Ordering) → w ≡ compare O t.0 e → (b : Bool) → b ≡ is_lt w
        → IsTrue b ↔ IsLeadBelow rationals O e x
    below_tells m h t is w compared b tested =
        let tells = first_tells m h t is in (
          λ yes. tells.0 (sym compared ∙ (less_tells w).0 (sym tested ∙ yes)),
          λ all. tested ∙ (less_tells w).1 (compared ∙ tells.1 all),
        )
