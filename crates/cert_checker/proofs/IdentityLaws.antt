-- What the tests of one identity tell.
--   composed_arities, composed_stands     what `compose` needs, and what it gives
--   combined_tells                        whether it is a combination, told of what it stands for
use Rattle.std.proofs.Common.{◌≡◌, ◌<◌, ◌↔◌, Bool, Result, List, length, All, IsTrue, refl, sym, subst, subst₂, ◌∙◌}
use Rattle.std.specs.Prelude.{IfOk}
use Rattle.std.proofs.lemmas.Result.{IfOk-weaker}
use Rattle.algebra.specs.Fraction.{Fraction, ℚ}
use Rattle.polynomials.specs.Terms.{Terms, Same, combination, compose}
use Rattle.polynomials.proofs.Same.{Same-sym, Same-trans}
use Rattle.monos.specs.declared.order.Grevlex.{Grevlex}
use Rattle.ring_laws.specs.declared.ArithmeticError.{ArithmeticError}
use Rattle.poly.specs.Seen.{Is, terms_in, terms_each, arity_of}
use Rattle.poly.specs.Standing.{IsInVariables, StandsFor}
use Rattle.poly.proofs.Standing.{first_arity}
use Rattle.loop_model.specs.FracPoly.{FracPoly}

pub composed_arities : (images : List FracPoly) → 0 < length images
    → All (IsInVariables (length images)) images → All (IsInVariables (arity_of images)) images
composed_arities images some all = subst (λ m. All (IsInVariables m) images)
    (sym (first_arity (length images) images all some)) all

pub composed_stands : (images : List FracPoly) (element : FracPoly) {p : FracPoly} (o : Grevlex)
    → 0 < length images → All (IsInVariables (length images)) images
    → Is o (arity_of images) (compose ℚ (arity_of images) (terms_in element) (terms_each images)) p
    → StandsFor (length images) p (compose ℚ (length images) (terms_in element) (terms_each images))
composed_stands images element {p = p} o some all h =
    let same : arity_of images ≡ length images = first_arity (length images) images all some in
    record {
      order = refl;
      arity = h.arity ∙ same;
      same =
          subst (λ m. Same ℚ (terms_in p) (compose ℚ m (terms_in element) (terms_each images))) same
          h.same;
    }

pub combined_tells : (found : Result Bool ArithmeticError) (p h : Terms Fraction)
    (qs : List (Terms Fraction)) {rs : List (Terms Fraction)} (gs : List (Terms Fraction))
    {ks : List (Terms Fraction)}
    → Same ℚ p h → qs ≡ rs → gs ≡ ks → IfOk found (λ b. IsTrue b ↔ Same ℚ p (combination ℚ qs gs))
    → IfOk found (λ b. IsTrue b ↔ Same ℚ h (combination ℚ rs ks))
combined_tells found p h qs gs same e f told = IfOk-weaker found _ _
    (λ b t. subst₂ (λ xs ys. IsTrue b ↔ Same ℚ h (combination ℚ xs ys)) e f (
      (λ yes. Same-trans ℚ (Same-sym ℚ same) (t.0 yes)),
      (λ is. t.1 (Same-trans ℚ same is)),
    )) told
