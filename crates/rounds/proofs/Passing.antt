-- Which variables pass, by the form alone: the polynomial at n = 0 isn't the variable.
--   stays_of, passes_of     a variable stays exactly where the test says so
--   no_variable_passes      so the form is the state from 0 on exactly where no variable passes
--   begins_of, stay_of      each variable stays exactly where the form is the state from 0 on
use Rattle.std.proofs.Common.{◌≡◌, ◌↔◌, ℕ, suc, ◌<◌, ◌≤◌, false, List, [], ◌∷◌, ◌++◌, get_or, length, arith, refl, sym, ap, ap₂, subst, ◌∙◌}
use Rattle.std.proofs.lemmas.List.{length-map, get_or-map}
use Rattle.algebra.specs.Each.{Each}
use Rattle.algebra.specs.Sum.{sum_over}
use Rattle.algebra.proofs.RingLaws.{eq_of_sub}
use Rattle.exponentials.specs.Base.{Coprime}
use Rattle.algebra.specs.Fraction.{Fraction, ℚ, rationals}
use Rattle.algebra.proofs.Fractions.{ℚ_ring, ℚ_field}
use Rattle.polynomials.specs.Order.{grevlex}
use Rattle.polynomials.specs.Polynomial.{Arity, IsPolynomial, Falls}
use Rattle.polynomials.specs.Terms.{Terms, variables, negate, evaluate, value_at}
use Rattle.polynomials.proofs.Arity.{arity_at, arity-append, arity-negate, arity-compose, arity-variables}
use Rattle.polynomials.proofs.ByValues.{same_by_values}
use Rattle.polynomials.proofs.Orders.{grevlex_order}
use Rattle.polynomials.proofs.ValueAt.{value_at_same, value_at-append, value_at-negate}
use Rattle.machines.specs.Collect.{collect}
use Rattle.machines.proofs.Collecting.{collect-is, collect-same}
use Rattle.machines.proofs.Padding.{at}
use Rattle.solvable_maps.specs.Expo.{zero_images}
use Rattle.solvable_maps.specs.Iterations as iterations
use Rattle.solvable_maps.specs.Iterations.{point, values_at, IsClosedFormFrom, IsItself}
use Rattle.solvable_maps.proofs.OneForm.{on_from}
use Rattle.solvable_maps.proofs.Lengths.{arity-zero_images}
use Rattle.solvable_maps.proofs.Operations.{zero-value}
use Rattle.loops.specs.Map.{branch_map}
use Rattle.loops.specs.Program.{Expr, Program}
use Rattle.loops.proofs.Maps.{length-branch_map}
use Rattle.rounds.specs.Form.{Form, variable_at, at_zero, has_terms, passes, IsClosedForm}
use Rattle.rounds.specs.Word.{branch_of}
use Rattle.rounds.proofs.BranchIterations.{form_count}
use Rattle.rounds.proofs.WayBack.{variable_value}

module _ (f : Form) (c : Coprime f.base) (m i : ℕ) (l : i < m) (many : i < length f.polys) where
  abbrev difference : Terms Fraction
  difference = at_zero f m i ++ negate ℚ (variable_at m i)

  zero_arity : Arity m (at_zero f m i)
  zero_arity = arity-compose m ℚ (get_or f.polys i []) (zero_images (length f.base) m)
      (arity-zero_images (length f.base) m)

  variable_arity : Arity m (variable_at m i)
  variable_arity = arity_at m (variables ℚ m) (arity-variables m ℚ) i

  difference_arity : Arity m difference
  difference_arity = arity-append m _ _ zero_arity (arity-negate m ℚ _ variable_arity)

  at_start : (s : List Fraction) → length s ≡ m
      → get_or (values_at f.polys (point f.base 0 s)) i ℚ.zero ≡ at (at_zero f m i) s
  at_start s k = get_or-map (λ q. at q (point f.base 0 s)) f.polys i [] ℚ.zero many
      ∙ sym (zero-value f.base c m (get_or f.polys i []) s k)

  nothing : (p : Terms Fraction) → has_terms p ≡ false → p ≡ []
  nothing [] h = refl
  nothing (t ∷ p) h = absurd (cc)

  zero_difference : collect rationals grevlex difference ≡ [] → (s : List Fraction)
      → at difference s ≡ ℚ.zero
  unfolding evaluate sum_over
  zero_difference h s =
      sym (value_at_same ℚ_ring _ _ s (collect-same ℚ_field grevlex grevlex_order difference))
      ∙ ap (λ p. at p s) h

  pub stays_of : passes f m i ≡ false → IsItself f.base m f.polys i
  unfolding passes
  stays_of h = record {
    is = λ s k.
        at_start s k
        ∙ eq_of_sub ℚ_ring (at (at_zero f m i) s) (at (variable_at m i) s)
        (ap (ℚ.add (at (at_zero f m i) s)) (sym (value_at-negate ℚ_ring (variable_at m i) s))
        ∙ sym (value_at-append ℚ_ring (at_zero f m i) (negate ℚ (variable_at m i)) s)
        ∙ zero_difference (nothing (collect rationals grevlex difference) h) s)
        ∙ variable_value m s k i l;
  }

  no_terms : IsPolynomial ℚ grevlex m []
  unfolding Each Falls
  no_terms = record { nonzero = tt; arity = tt; falls = tt }

  pub passes_of : IsItself f.base m f.polys i → passes f m i ≡ false
  unfolding passes Each evaluate sum_over
  passes_of h = ap has_terms (sym (collect-is ℚ_field grevlex grevlex_order m difference []
      difference_arity no_terms
      (same_by_values m [] difference tt difference_arity (λ s k.
      sym (value_at-append ℚ_ring (at_zero f m i) (negate ℚ (variable_at m i)) s
      ∙ ap₂ ℚ.add (sym (at_start s k) ∙ h.is s k ∙ sym (variable_value m s k i l))
      (value_at-negate ℚ_ring (variable_at m i) s)
      ∙ ℚ_ring.add-neg (at (variable_at m i) s))))))

-- ---- all variables
same_lists : (xs ys : List Fraction) → length xs ≡ length ys
    → ((i : ℕ) → i < length xs → get_or xs i ℚ.zero ≡ get_or ys i ℚ.zero) → xs ≡ ys
same_lists [] [] l h = refl
same_lists [] (y ∷ ys) l h = absurd (omega (arith, l))
same_lists (x ∷ xs) [] l h = absurd (omega (arith, l))
same_lists (x ∷ xs) (y ∷ ys) l h = ap₂ ◌∷◌ (h 0 (omega arith))
    (same_lists xs ys (omega (arith, l)) (λ i k. h (suc i) (omega (arith, k))))

module _ (f : Form) (c : Coprime f.base) (images : List (Terms Fraction))
    (size : length f.polys ≡ length images)
    (form : IsClosedFormFrom f.base images f.since f.polys) where
  abbrev m : ℕ
  m = length images

  pub begins_of : ((i : ℕ) → i < length images → passes f (length images) i ≡ false)
      → iterations.IsClosedForm f.base images f.polys
  begins_of stay = on_from f.base c images f.since f.polys form 0 (λ s k.
      same_lists (values_at f.polys (point f.base 0 s)) s
      (length-map f.polys (λ q. value_at ℚ q (point f.base 0 s)) ∙ size ∙ sym k)
      (λ i h.
      let long = length-map f.polys (λ q. value_at ℚ q (point f.base 0 s)) in
      let l : i < length images = omega (arith, h, long, size) in
      (stays_of f c (length images) i l (omega (arith, l, size)) (stay i l)).is s k))

  pub stay_of : f.since ≡ 0 → (i : ℕ) → i < length images → passes f (length images) i ≡ false
  stay_of e i l = passes_of f c (length images) i l (omega (arith, l, size)) (record {
    is = λ s k. ap (λ x. get_or x i ℚ.zero) (form.values 0 s k (omega (arith, e)));
  })

pub no_variable_passes : {At : Type 0} (program : Program (Expr At)) (b : ℕ) (f : Form)
    → IsClosedForm program b f
    → (f.since ≡ 0) ↔ ((i : ℕ) → i < length program.names → passes f (length program.names) i
    ≡ false)
no_variable_passes program b f closed =
    let size = length-branch_map program (branch_of program b) in
    let count = form_count program b f.base f.since f.polys closed.form in
    let c = closed.base.is.coarsest.base.coprime in
    let images = branch_map program (branch_of program b) in (
      (λ e i l. subst (λ m. passes f m i ≡ false) size
          (stay_of f c images (count ∙ sym size) closed.form e i (omega (arith, l, size)))),
      (λ h. let none : f.since ≤ 0 = closed.least 0 (begins_of f c images (count ∙ sym size)
          closed.form
          (λ i l. subst (λ m. passes f m i ≡ false) (sym size) (h i (omega (arith, l, size))))) in
          omega (arith, none)),
    )
