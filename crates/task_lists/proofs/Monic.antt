-- Whether the number of a lead is one.
--   one_tells      by the first term;  none_tells: 0 has no lead
--   monic_some     a polynomial with the number one isn't 0
use Rattle.std.proofs.Common.{◌≡◌, ◌≢◌, ◌↔◌, ℕ, Bool, false, ◌&&◌, List, [], ◌∷◌, slice_get, Some, IsTrue, sym, ap, ◌∙◌, true≢false}
use Rattle.std.specs.Ordering.{int_eq}
use Rattle.algebra.specs.Fraction.{Fraction, ℚ, rationals}
use Rattle.algebra.proofs.Fractions.{ℚ_field}
use Rattle.polynomials.specs.Terms.{Terms}
use Rattle.machines.specs.Cut.{lead_number}
use Rattle.frac128.specs.FracMeaning.{fraction_of, fraction_decides, frac_eq_is}
use Rattle.frac128.specs.declared.fraction.Frac.{Frac}

first_number : (p : Terms Fraction) (t : List ℕ × Fraction) → slice_get p 0 ≡ Some t
    → lead_number rationals p ≡ t.1
unfolding lead_number
first_number [] t e = absurd (let z : ⊥ = cc in z)
first_number (u ∷ p) t e = let is : u ≡ t = cc in ap (λ x. x.1) is

pub one_tells : (p : Terms Fraction) (e : List ℕ) (a one : Frac)
    → slice_get p 0 ≡ Some (e, fraction_of a) → fraction_of one ≡ ℚ.one → (b : Bool)
    → b ≡ int_eq a.num.value one.num.value && int_eq a.den.value one.den.value
    → IsTrue b ↔ (lead_number rationals p ≡ ℚ.one)
one_tells p e a one lead is b same =
    let number = first_number p (e, fraction_of a) lead in (
      λ t. number ∙ ap fraction_of ((frac_eq_is a one).0 (sym same ∙ t)) ∙ is,
      λ k. same ∙ (frac_eq_is a one).1 (fraction_decides a one (sym number ∙ k ∙ sym is)),
    )

nothing_first : (p : Terms Fraction) → p ≡ [] → lead_number rationals p ≡ ℚ.zero
unfolding lead_number
nothing_first p e = ap (lead_number rationals) e

pub none_tells : {p : Terms Fraction} → p ≡ [] → IsTrue false ↔ (lead_number rationals p ≡ ℚ.one)
none_tells {p = p} e = (
  λ t. absurd (true≢false (sym t)),
  λ k. absurd (ℚ_field.one-ne-zero (sym k ∙ nothing_first p e)),
)

pub monic_some : (p : Terms Fraction) → lead_number rationals p ≡ ℚ.one → p ≢ []
monic_some p is e = ℚ_field.one-ne-zero (sym is ∙ nothing_first p e)
