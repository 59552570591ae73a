-- Worked examples: x := 2 x has the closed form u x over the base 2, and -x the closed form s x over the empty base; x := 3 has the closed form 3 from 1 iteration on, over the empty base, and no fewer; x doesn't stay.
--   reset_form          from 1 on
--   reset_begins        and not from 0 on
--   reset_passes        at n = 0 it isn't x
use Rattle.std.proofs.Common.{◌≡◌, ◌≤◌, ℕ, zero, suc, pos, negsuc, List, [], ◌∷◌, length, get_or, refl, sym, ap, ◌∙◌, arith}
use Rattle.algebra.specs.Arithmetic.{power}
use Rattle.algebra.specs.Each.{Each}
use Rattle.algebra.specs.Ring.{CommRing}
use Rattle.algebra.specs.Sum.{sum_over}
use Rattle.algebra.proofs.RingSolver.{ring_rules, ring}
use Rattle.algebra.specs.Fraction.{Fraction, ℚ, whole}
use Rattle.algebra.proofs.Fractions.{ℚ_ring}
use Rattle.polynomials.specs.Terms.{Terms, constant, monomial_at, evaluate}
use Rattle.polynomials.proofs.Arity.{arity-constant}
use Rattle.polynomials.proofs.ValueAt.{value_at-constant}
use Rattle.algebra.proofs.Wholes.{whole-some}
use Rattle.algebra.proofs.Basics.{same_head}
use Rattle.solvable_maps.specs.Iterations.{point, iterations, values_at, IsClosedFormFrom, IsClosedForm, IsItself}

module _ {A : Type 0} (R : CommRing A) where
  open R use {one as 𝟙, zero as 𝟘, add, mul}

  linear : (k y : A) → add (mul k (mul (mul y 𝟙) 𝟙)) 𝟘 ≡ mul k y
  linear k y = ring R (k ∷ y ∷ []) (search ring_rules depth 40) refl

  by_u : (p x : A) → add (mul 𝟙 (mul 𝟙 (mul 𝟙 (mul (mul p 𝟙) (mul 𝟙 (mul (mul x 𝟙) 𝟙)))))) 𝟘
      ≡ mul p x
  by_u p x = ring R (p ∷ x ∷ []) (search ring_rules depth 40) refl

  by_s : (p x : A) → add (mul 𝟙 (mul 𝟙 (mul (mul p 𝟙) (mul (mul x 𝟙) 𝟙)))) 𝟘 ≡ mul p x
  by_s p x = ring R (p ∷ x ∷ []) (search ring_rules depth 40) refl

  again : (k p x : A) → mul k (mul p x) ≡ mul (mul k p) x
  again k p x = sym (R.mul_assoc k p x)

  none : (x : A) → mul 𝟙 x ≡ x
  none x = ring R (x ∷ []) (search ring_rules depth 40) refl

pub multiple : Fraction → List (Terms Fraction)
multiple k = ((1 ∷ [], k) ∷ []) ∷ []

multiple_iterations : (k : Fraction) (n : ℕ) (x : Fraction) → iterations (multiple k) n (x ∷ [])
    ≡ ℚ.mul (power ℚ k n) x ∷ []
unfolding multiple evaluate sum_over monomial_at power
multiple_iterations k zero x = ap (λ z. z ∷ []) (sym (none ℚ_ring x))
multiple_iterations k (suc n) x = ap (values_at (multiple k)) (multiple_iterations k n x)
    ∙ ap (λ z. z ∷ []) (linear ℚ_ring k (ℚ.mul (power ℚ k n) x) ∙ again ℚ_ring k (power ℚ k n) x)

pub double_form : List (Terms Fraction)
double_form = ((0 ∷ 0 ∷ 1 ∷ 0 ∷ 1 ∷ [], whole (pos 1)) ∷ []) ∷ []

at : (n : ℕ) (x : Fraction) → values_at double_form (point (2 ∷ []) n (x ∷ []))
    ≡ ℚ.mul (power ℚ (whole (pos 2)) n) x ∷ []
unfolding double_form evaluate sum_over monomial_at power
at n x = ap (λ z. z ∷ []) (by_u ℚ_ring (power ℚ (whole (pos 2)) n) x)

pub double : IsClosedForm (2 ∷ []) (multiple (whole (pos 2))) double_form
unfolding multiple double_form Each
double = record { arity = ((refl, tt), tt); values = values }
  where
    values : (n : ℕ) (s : List Fraction) → length s ≡ 1 → 0 ≤ n → values_at double_form
        (point (2 ∷ []) n s) ≡ iterations (multiple (whole (pos 2))) n s
    values n [] l late = absurd (omega arith)
    values n (x ∷ []) l late = at n x ∙ sym (multiple_iterations (whole (pos 2)) n x)
    values n (x ∷ y ∷ s) l late = absurd (omega arith)

pub minus_form : List (Terms Fraction)
minus_form = ((0 ∷ 1 ∷ 1 ∷ [], whole (pos 1)) ∷ []) ∷ []

at_sign : (n : ℕ) (x : Fraction) → values_at minus_form (point [] n (x ∷ []))
    ≡ ℚ.mul (power ℚ (whole (negsuc 0)) n) x ∷ []
unfolding minus_form evaluate sum_over monomial_at power
at_sign n x = ap (λ z. z ∷ []) (by_s ℚ_ring (power ℚ (whole (negsuc 0)) n) x)

pub minus : IsClosedForm [] (multiple (whole (negsuc 0))) minus_form
unfolding multiple minus_form Each
minus = record { arity = ((refl, tt), tt); values = values }
  where
    values : (n : ℕ) (s : List Fraction) → length s ≡ 1 → 0 ≤ n → values_at minus_form
        (point [] n s) ≡ iterations (multiple (whole (negsuc 0))) n s
    values n [] l late = absurd (omega arith)
    values n (x ∷ []) l late = at_sign n x ∙ sym (multiple_iterations (whole (negsuc 0)) n x)
    values n (x ∷ y ∷ s) l late = absurd (omega arith)

-- ---- x := 3
abbrev three : Fraction
three = whole (pos 3)

abbrev pub reset : List (Terms Fraction)
reset = constant 1 (whole (pos 3)) ∷ []

abbrev pub reset_polys : List (Terms Fraction)
reset_polys = constant 3 (whole (pos 3)) ∷ []

polys_at : (z : List Fraction) → values_at reset_polys z ≡ three ∷ []
polys_at z = ap (λ x. x ∷ []) (value_at-constant ℚ_ring 3 three z)

turned_at : (n : ℕ) (s : List Fraction) → 1 ≤ n → iterations reset n s ≡ three ∷ []
turned_at zero s l = absurd (omega arith)
turned_at (suc n) s l = ap (λ x. x ∷ []) (value_at-constant ℚ_ring 1 three (iterations reset n s))

pub reset_form : IsClosedFormFrom [] reset 1 reset_polys
unfolding Each
reset_form = record {
  arity = (arity-constant 3 three, tt);
  values = λ n s l late. polys_at (point [] n s) ∙ sym (turned_at n s late);
}

pub reset_begins : IsClosedForm [] reset reset_polys → ⊥
reset_begins form = whole-some 3 (omega arith)
    (same_head (sym (polys_at (point [] 0 (ℚ.zero ∷ []))) ∙ form.values 0 (ℚ.zero ∷ []) refl
    (omega arith)))

pub reset_passes : IsItself [] 1 reset_polys 0 → ⊥
reset_passes h = whole-some 3 (omega arith)
    (ap (λ l. get_or l 0 ℚ.zero) (sym (polys_at (point [] 0 (ℚ.zero ∷ []))))
    ∙ h.is (ℚ.zero ∷ []) refl)
