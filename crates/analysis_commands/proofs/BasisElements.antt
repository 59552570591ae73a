-- The elements of a reduced basis have its variables.
--   elements_over      each has as many as the basis
use Rattle.std.proofs.Common.{◌≡◌, ◌≢◌, ℕ, List, [], ◌∷◌, refl, sym, ◌∙◌, inl, inr}
use Rattle.std.specs.Prelude.{All}
use Rattle.std.proofs.lemmas.List.Elements.{All-nil, All-cons}
use Rattle.algebra.specs.In.{In}
use Rattle.algebra.specs.Fraction.{Fraction, ℚ, rationals, fractions}
use Rattle.polynomials.specs.Order.{grevlex}
use Rattle.polynomials.specs.Polynomial.{IsPolynomial}
use Rattle.polynomials.specs.Terms.{Terms}
use Rattle.machines.specs.Reduced.{IsReducedFor}
use Rattle.poly.specs.Seen.{terms_in, terms_each}
use Rattle.poly.proofs.Kept.{head_arity}
use Rattle.loop_model.specs.FracPoly.{FracPoly}
use Rattle.invariant_fix.proofs.Blocks.{graded_polynomial}

module _ (m : ℕ) where
  element_over : (p : FracPoly) (ts : Terms Fraction) → terms_in p ≡ ts
      → IsPolynomial ℚ grevlex p.arity ts → IsPolynomial ℚ grevlex m ts → ts ≢ [] → p.arity ≡ m
  element_over p [] is own over some = absurd (some refl)
  element_over p (t ∷ ts) is own over some = sym (head_arity grevlex fractions p.arity t ts own)
      ∙ head_arity grevlex fractions m t ts over

  each_over : (gs : List FracPoly)
      → ((g : Terms Fraction) → In g (terms_each gs) → IsPolynomial ℚ grevlex m g × (g ≢ []))
      → All (λ (p : FracPoly). p.arity ≡ m) gs
  each_over [] f = All-nil (λ (p : FracPoly). p.arity ≡ m)
  each_over (p ∷ gs) f =
      let own = f (terms_in p) (inl refl) in
      All-cons (λ (q : FracPoly). q.arity ≡ m) p gs
      (element_over p (terms_in p) refl (graded_polynomial p.arity p refl) own.0 own.1)
      (each_over gs (λ g h. f g (inr h)))

  pub elements_over : (gs : List FracPoly) (I : Terms Fraction → Type 0)
      → IsReducedFor rationals grevlex m (terms_each gs) I → All (λ (p : FracPoly). p.arity ≡ m) gs
  elements_over gs I r = each_over gs (λ g h. (r.polynomials g h, r.nonzero g h))
