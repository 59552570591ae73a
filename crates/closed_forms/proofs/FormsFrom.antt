-- A form from the inhomogeneity of its recurrence, as the code makes it.
--   one_later_over, one_later_is, one_later_wide     one iteration later, where its value is zero
use Rattle.std.proofs.Common.{◌≡◌, ℕ, suc, List, length, sym, ap, subst, ◌∙◌}
use Rattle.algebra.specs.Fraction.{Fraction, ℚ, fractions, rationals}
use Rattle.polynomials.specs.Order.{grevlex}
use Rattle.polynomials.specs.Terms.{value_at}
use Rattle.polynomials.specs.Weight.{IsPastComposition}
use Rattle.machines.specs.Collect.{collect}
use Rattle.poly.specs.Seen.{terms_in}
use Rattle.expo.specs.Operations.{before_of, IsOverBaseOf, IsPastBefore}
use Rattle.expo.specs.View.{base_of, value_of}
use Rattle.expo.specs.declared.exponential.Expo.{Expo}
use Rattle.solvable_maps.specs.Expo.{next_images, inverse_form_terms}
use Rattle.solvable_maps.specs.Iterations.{point}
use Rattle.closed_forms.specs.Later.{IsOneLater, IsPastOneLater}
use Rattle.closed_forms.specs.Values.{IsExpoOver}

module _ {base : List ℕ} {m : ℕ} {inhomogeneity : Expo}
    (over : IsExpoOver base m inhomogeneity) where
  pub one_later_over : (e : Expo) → IsOverBaseOf inhomogeneity (before_of inhomogeneity) e
      → IsExpoOver base m e
  one_later_over e is = record {
    over_base = is.over_base ∙ over.over_base;
    over_vars = is.over_vars ∙ over.over_vars;
  }

  pub one_later_is : (e : Expo) → IsOverBaseOf inhomogeneity (before_of inhomogeneity) e
      → ((n : ℕ) (s : List Fraction) → length s ≡ inhomogeneity.vars
      → value_of e (suc n) s ≡ value_of inhomogeneity n s)
      → IsOneLater base m (terms_in inhomogeneity.body) (terms_in e.body)
  one_later_is e is h = record {
    values = λ n s l.
        ap (λ b. value_at ℚ (terms_in e.body) (point b (suc n) s))
        (sym (is.over_base ∙ over.over_base))
        ∙ h n s (l ∙ sym over.over_vars)
        ∙ ap (λ b. value_at ℚ (terms_in inhomogeneity.body) (point b n s)) over.over_base;
  }

  pub one_later_wide : IsPastBefore inhomogeneity
      → IsPastOneLater base m (terms_in inhomogeneity.body)
  one_later_wide h =
      subst (λ b. IsPastComposition fractions
      (collect rationals grevlex (inverse_form_terms (length b) (terms_in inhomogeneity.body)))
      (next_images b m)) over.over_base
      (subst (λ k. IsPastComposition fractions
      (collect rationals grevlex (inverse_form_terms (length (base_of inhomogeneity))
      (terms_in inhomogeneity.body)))
      (next_images (base_of inhomogeneity) k)) over.over_vars h)
