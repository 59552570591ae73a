-- Rows of values at the ends of runs that are independent modulo a number leave no combination of the monomials that is an invariant.
--   sum_by_coefficients    a polynomial's terms add up as its coefficients do, with a number for each monomial
--   none_by_rows, no_combination     so one whose coefficients are 0 by such rows is 0
use Rattle.std.proofs.Common.{◌≡◌, ◌⊎◌, inl, inr, ℕ, ◌≤◌, ℤ, pos, Bool, true, false, cond, List, [], ◌∷◌, map, length, refl, sym, ap, ap₂, subst, ◌∙◌, true≢false}
use Rattle.std.proofs.lemmas.List.{length-map}
use Rattle.algebra.specs.Each.{Each}
use Rattle.algebra.specs.In.{In}
use Rattle.algebra.specs.Sum.{sum_over}
use Rattle.algebra.proofs.In.{each_in}
use Rattle.algebra.proofs.RingLaws.{zero-add, zero-mul, add-mul, add_swap}
use Rattle.algebra.specs.Fraction.{Fraction, ℚ}
use Rattle.algebra.proofs.Fractions.{ℚ_ring}
use Rattle.polynomials.specs.Algebra as Algebra
use Rattle.polynomials.specs.Exponent.{same}
use Rattle.polynomials.specs.Terms.{Terms, Same, coefficient, sum_of_products, monomial_at, evaluate}
use Rattle.polynomials.specs.Polynomial.{Apart}
use Rattle.polynomials.proofs.Distinct.{coefficient_apart}
use Rattle.polynomials.proofs.Exponent.{same_refl, same_true}
use Rattle.loops.specs.Program.{Expr, Program}
use Rattle.loops.specs.Inv.{Inv}
use Rattle.closures.specs.Modulo.{AreResidues, IsSampleRow, IsIndependentModulo}
use Rattle.closures.specs.UpTo.{AreDistinct, HasNoCombination}
use Rattle.closures.proofs.Modulo.{fractions_zero}

-- the number of one term at each monomial
abbrev at_term : List ℕ × Fraction → List ℕ → Fraction
at_term t e = cond (same e t.0) t.1 ℚ.zero

-- mon gives a number to each monomial
module _ (mon : List ℕ → Fraction) where
  none_at : (t : List ℕ × Fraction) (es : List (List ℕ)) → Each (λ d. same d t.0 ≡ false) es
      → sum_of_products ℚ (map (at_term t) es) (map mon es) ≡ ℚ.zero
  unfolding Each sum_of_products
  none_at t [] h = refl
  none_at t (e ∷ es) h =
      ap₂ ℚ.add (ap (λ b. ℚ.mul (cond b t.1 ℚ.zero) (mon e)) h.0 ∙ zero-mul ℚ_ring (mon e))
      (none_at t es h.1) ∙ ℚ_ring.add-zero ℚ.zero

  one_at : (t : List ℕ × Fraction) (es : List (List ℕ)) → AreDistinct es → In t.0 es
      → sum_of_products ℚ (map (at_term t) es) (map mon es) ≡ ℚ.mul t.1 (mon t.0)
  unfolding AreDistinct sum_of_products
  one_at t [] a i = absurd i
  one_at t (e ∷ es) a i = go (same e t.0) refl i (one_at t es a.1)
    where
      go : (b : Bool) → same e t.0 ≡ b → In t.0 (e ∷ es)
          → (In t.0 es
          → sum_of_products ℚ (map (at_term t) es) (map mon es) ≡ ℚ.mul t.1 (mon t.0))
          → ℚ.add (ℚ.mul (at_term t e) (mon e))
          (sum_of_products ℚ (map (at_term t) es) (map mon es)) ≡ ℚ.mul t.1 (mon t.0)
      go true is j ih =
          let s : e ≡ t.0 = same_true e t.0 is in
          ap₂ ℚ.add (ap₂ ℚ.mul (ap (λ b. cond b t.1 ℚ.zero) is) (ap mon s))
          (none_at t es (subst (λ f. Each (λ d. same d f ≡ false) es) s a.0))
          ∙ ℚ_ring.add-zero (ℚ.mul t.1 (mon t.0))
      go false is (inl h) ih =
          absurd (true≢false (sym (same_refl e) ∙ subst (λ d. same e d ≡ false) h is))
      go false is (inr j) ih =
          ap₂ ℚ.add (ap (λ b. ℚ.mul (cond b t.1 ℚ.zero) (mon e)) is ∙ zero-mul ℚ_ring (mon e))
          (ih j) ∙ zero-add ℚ_ring (ℚ.mul t.1 (mon t.0))

  sums_of_two : (f g : List ℕ → Fraction) (es : List (List ℕ))
      → sum_of_products ℚ (map (λ e. ℚ.add (f e) (g e)) es) (map mon es)
      ≡ ℚ.add (sum_of_products ℚ (map f es) (map mon es))
      (sum_of_products ℚ (map g es) (map mon es))
  unfolding sum_of_products
  sums_of_two f g [] = sym (ℚ_ring.add-zero ℚ.zero)
  sums_of_two f g (e ∷ es) =
      ap₂ ℚ.add (add-mul ℚ_ring (f e) (g e) (mon e)) (sums_of_two f g es)
      ∙ add_swap ℚ_ring (ℚ.mul (f e) (mon e)) (ℚ.mul (g e) (mon e))
      (sum_of_products ℚ (map f es) (map mon es)) (sum_of_products ℚ (map g es) (map mon es))

  no_terms : (es : List (List ℕ))
      → sum_of_products ℚ (map (coefficient ℚ []) es) (map mon es) ≡ ℚ.zero
  unfolding sum_of_products Algebra.coefficient sum_over
  no_terms [] = refl
  no_terms (e ∷ es) = ap₂ ℚ.add (zero-mul ℚ_ring (mon e)) (no_terms es) ∙ ℚ_ring.add-zero ℚ.zero

  one_more : (t : List ℕ × Fraction) (r : Terms Fraction) (es : List (List ℕ))
      → map (coefficient ℚ (t ∷ r)) es
      ≡ map (λ e. ℚ.add (at_term t e) (coefficient ℚ r e)) es
  unfolding Algebra.coefficient sum_over
  one_more t r es = refl

  pub sum_by_coefficients : (es : List (List ℕ)) → AreDistinct es → (r : Terms Fraction)
      → Each (λ t. In t.0 es) r
      → sum_over ℚ (λ t. ℚ.mul t.1 (mon t.0)) r
      ≡ sum_of_products ℚ (map (coefficient ℚ r) es) (map mon es)
  unfolding Each sum_over
  sum_by_coefficients es a [] h = sym (no_terms es)
  sum_by_coefficients es a (t ∷ r) h =
      sym (ap (λ cs. sum_of_products ℚ cs (map mon es)) (one_more t r es)
      ∙ sums_of_two (at_term t) (coefficient ℚ r) es
      ∙ ap₂ ℚ.add (one_at t es a h.0) (sym (sum_by_coefficients es a r h.1)))

-- ---- where the coefficients are 0
find_monomial : (e : List ℕ) (es : List (List ℕ)) → In e es ⊎ Each (λ d. same e d ≡ false) es
unfolding Each
find_monomial e [] = inr tt
find_monomial e (d ∷ es) = go (same e d) refl (find_monomial e es)
  where
    go : (b : Bool) → same e d ≡ b → In e es ⊎ Each (λ d. same e d ≡ false) es
        → In e (d ∷ es) ⊎ Each (λ d. same e d ≡ false) (d ∷ es)
    go true is later = inl (inl (same_true e d is))
    go false is (inl i) = inl (inr i)
    go false is (inr h) = inr (is, h)

apart_of : (e : List ℕ) (es : List (List ℕ)) → Each (λ d. same e d ≡ false) es
    → (r : Terms Fraction) → Each (λ t. In t.0 es) r → Apart e r
unfolding Each
apart_of e es h [] k = tt
apart_of e es h (t ∷ r) k = (each_in (λ d. same e d ≡ false) es t.0 h k.0, apart_of e es h r k.1)

zero_at : (e : List ℕ) (es : List (List ℕ)) (f : List ℕ → Fraction)
    → Each (λ c. c ≡ ℚ.zero) (map f es) → In e es → f e ≡ ℚ.zero
unfolding Each
zero_at e [] f h i = absurd i
zero_at e (d ∷ es) f h (inl s) = ap f s ∙ h.0
zero_at e (d ∷ es) f h (inr i) = zero_at e es f h.1 i

-- by any rows of numbers for monomials, of any set of polynomials that are 0 on them
module _ (k : ℕ) (big : 2 ≤ k) (es : List (List ℕ)) (distinct : AreDistinct es)
    (rows : List (List ℤ)) (mon : (row : List ℤ) → In row rows → List ℕ → Fraction)
    (residues : (row : List ℤ) (i : In row rows)
    → AreResidues (pos k) (map (mon row i) es) row)
    (independent : IsIndependentModulo (pos k) (length es) rows) (m : ℕ)
    (I : Terms Fraction → Type 0)
    (zero : (r : Terms Fraction) → Each (λ t. In t.0 es) r → I r → (row : List ℤ)
    (i : In row rows) → sum_over ℚ (λ t. ℚ.mul t.1 (mon row i t.0)) r ≡ ℚ.zero) where
  none_is : (r : Terms Fraction) → Each (λ t. In t.0 es) r → I r → Same ℚ r []
  unfolding Algebra.coefficient sum_over
  none_is r h inv = record { at = λ e. go e (find_monomial e es) }
    where
      zeros : Each (λ c. c ≡ ℚ.zero) (map (coefficient ℚ r) es)
      zeros =
          fractions_zero k big (length es) rows independent
          (λ row i. map (mon row i) es) residues
          (map (coefficient ℚ r) es) (length-map es (coefficient ℚ r))
          (λ row i. sym (sum_by_coefficients (mon row i) es distinct r h)
          ∙ zero r h inv row i)

      go : (e : List ℕ) → In e es ⊎ Each (λ d. same e d ≡ false) es
          → coefficient ℚ r e ≡ ℚ.zero
      go e (inl i) = zero_at e es (coefficient ℚ r) zeros i
      go e (inr a) = coefficient_apart ℚ_ring e r (apart_of e es a r h)

  pub none_by_rows : HasNoCombination m es I
  none_by_rows = record { none = λ r a h i. none_is r h i }

module _ {At : Type 0} (program : Program (Expr At)) (k : ℕ) (big : 2 ≤ k)
    (es : List (List ℕ)) (distinct : AreDistinct es) (rows : List (List ℤ))
    (samples : Each (IsSampleRow program (pos k) es) rows)
    (independent : IsIndependentModulo (pos k) (length es) rows) where
  sample : (row : List ℤ) → In row rows → IsSampleRow program (pos k) es row
  sample row i = each_in (IsSampleRow program (pos k) es) rows row samples i

  pub no_combination : HasNoCombination (length program.names) es (Inv program)
  unfolding evaluate
  no_combination =
      none_by_rows k big es distinct rows (λ row i. let s = sample row i in
      monomial_at ℚ s.run.end)
      (λ row i. let s = sample row i in s.residues) independent (length program.names)
      (Inv program) (λ r h inv row i. let s = sample row i in inv.zero s.run)
