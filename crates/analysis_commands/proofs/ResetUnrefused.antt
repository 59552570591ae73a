-- The map of one variable that makes it 0 has no cause of a refusal, although a form of it has the value 0.
--   gone_turned         the state after one iteration or more
--   gone_form           what agrees with a form of its class from some iteration on is 0
--   gone_unrefused      so it is
use Rattle.std.proofs.Common.{Option, None, Some, ◌≡◌, inl, inr, ℕ, zero, suc, ◌+◌, ◌<◌, ◌≤◌, pos, List, [], ◌∷◌, length, refl, sym, ap, subst, ◌∙◌, arith}
use Rattle.std.proofs.lemmas.List.{append-nil}
use Rattle.algebra.specs.Arithmetic.{power}
use Rattle.algebra.specs.Each.{Each}
use Rattle.algebra.specs.In.{In}
use Rattle.algebra.specs.Sum.{sum_over}
use Rattle.algebra.specs.Gcd.{gcd, lcm}
use Rattle.algebra.specs.Ratio.{is_lowest, reduce}
use Rattle.algebra.specs.Size.{size, IsPast}
use Rattle.algebra.specs.Fraction as Fraction
use Rattle.algebra.specs.Fraction.{Fraction, fraction, fraction_size, fractions, whole, ℚ}
use Rattle.algebra.proofs.Basics.{same_head}
use Rattle.algebra.proofs.Fractions.{ℚ_ring, ℚ_field}
use Rattle.polynomials.specs.Order.{grevlex}
use Rattle.polynomials.specs.Polynomial.{Falls, IsPolynomial}
use Rattle.polynomials.specs.Terms.{Terms, evaluate, sum_of_products, value_at}
use Rattle.polynomials.specs.Weight.{weight, composition_weight, composition_degrees, IsPastComposition}
use Rattle.polynomials.proofs.Orders.{grevlex_order}
use Rattle.machines.specs.Collect.{collect, scale_terms}
use Rattle.vectors.specs.Causes.{row_at}
use Rattle.vectors.specs.Lists.{entries}
use Rattle.vectors.specs.Matrices.{SplitsAt}
use Rattle.exponentials.specs.Base.{Coprime}
use Rattle.solvable_maps.specs.AfterIterations.{form_at, IsFormAfterIterations}
use Rattle.solvable_maps.specs.Classes.{class_matrix}
use Rattle.solvable_maps.specs.Expo.{next_images}
use Rattle.solvable_maps.specs.Iterations.{IsNormalForm, IsClosedFormFrom, point, iterations, width}
use Rattle.solvable_maps.specs.Uses.{poly_at}
use Rattle.solvable_maps.proofs.Numbers.{one_form}
use Rattle.solvable_maps.proofs.OneForm.{all_values}
use Rattle.expo.specs.Points.{iteration_images, IsPastPower}
use Rattle.linear.specs.Rows.{fractions_of, rows_of}
use Rattle.eigen_split.specs.Refusal.{IsSplitInto}
use Rattle.eigen_split.specs.declared.splitting.Split.{Split}
use Rattle.frac128.specs.Sums.{left_past, right_past, parts_past, den_past}
use Rattle.closed_forms.specs.Known.{AreDone, IsPastVariable, IsPastForm, inhomogeneity_past, making_past, IsPastClass, inverse_past, form_past, variable_past, IsPastRowOf, IsWideClass, IsWideIteration}
use Rattle.closed_forms.specs.Later.{Ahead, ahead_of, IsPastAt, IsPastOneLater, IsPastFrom, at_once_past, there_past, later_past, one_later_past}
use Rattle.closed_forms.specs.Products.{IsPastDot}
use Rattle.closed_forms.specs.Splits.{AreSplits, IsSplitOf}
use Rattle.closed_forms.specs.States.{zeros_in, after, IsPastState}
use Rattle.closed_forms.specs.Values.{values_in}
use Rattle.closed_forms.specs.Refusal.{Refusal, not_solvable, eigenvalues, range, wide_split, limit_form, wide_form, IfFormRefused, IsWideForm, state_past, class_past, iteration_past}
use Rattle.analysis_commands.proofs.ScaledMap.{one, form_own}
use Rattle.analysis_commands.proofs.ScaledUnrefused.{fits, rows, matrix_of, nothing, IsNarrow, inverse_fits, back_is, inhomogeneity_none, inhomogeneity_fits}
use Rattle.closed_forms.proofs.LengthLaws.{long_or_short}
use Rattle.analysis_commands.proofs.ResetMap.{gone, gone_is, gone_class, gone_matrix, gone_splits, gone_solvable, gone_bounded, gone_short}

-- ---- what fits
zero_narrow : IsNarrow ℚ.zero
unfolding fraction Fraction.sum Fraction.product is_lowest reduce gcd lcm sum_of_products
zero_narrow = record { before = before; behind = behind }
  where
    before : IsPastDot (one ∷ []) (ℚ.zero ∷ []) → ⊥
    before (inl p) = fits (size 0 1) (omega arith) (omega arith) p
    before (inr (inl (left_past l))) = omega (arith, l)
    before (inr (inl (right_past l))) = omega (arith, l)
    before (inr (inl (parts_past l))) = omega (arith, l)
    before (inr (inl (den_past l))) = omega (arith, l)
    before (inr (inr h)) = h

    behind : IsPastDot (ℚ.zero ∷ []) (one ∷ []) → ⊥
    behind (inl p) = fits (size 0 1) (omega arith) (omega arith) p
    behind (inr (inl (left_past l))) = omega (arith, l)
    behind (inr (inl (right_past l))) = omega (arith, l)
    behind (inr (inl (parts_past l))) = omega (arith, l)
    behind (inr (inl (den_past l))) = omega (arith, l)
    behind (inr (inr h)) = h

none_composed : (images : List (Terms Fraction)) → IsPastComposition fractions [] images → ⊥
unfolding evaluate sum_over composition_weight composition_degrees
none_composed images (inl p) = fits (size 0 1) (omega arith) (omega arith) p
none_composed images (inr h) = h (λ i l. omega arith)

power_fits : (x : Fraction) → IsPastPower x 0 → ⊥
unfolding power fraction is_lowest gcd
power_fits x p = at p.exponent p.within p.past
  where
    at : (k : ℕ) → k ≤ 0 → IsPast (fraction_size (power ℚ x k)) → ⊥
    at zero l p = fits (size 1 1) (omega arith) (omega arith) p
    at (suc k) l p = omega (arith, l)

-- ---- the state
pub gone_turned : (n : ℕ) (s : List Fraction) → 1 ≤ n → iterations gone n s ≡ ℚ.zero ∷ []
unfolding evaluate sum_over
gone_turned zero s l = absurd (omega (arith, l))
gone_turned (suc n) s l = refl

form_turned : (n : ℕ) (s : List Fraction) → 1 ≤ n
    → form_at (one ∷ []) (0 ∷ []) (iterations gone n s) ≡ ℚ.zero
unfolding sum_of_products
form_turned n s l = ap (form_at (one ∷ []) (0 ∷ [])) (gone_turned n s l) ∙ form_own ℚ_ring ℚ.zero

-- ---- what agrees with 0 from some iteration on is 0
value_none : (z : List Fraction) → value_at ℚ [] z ≡ ℚ.zero
unfolding evaluate sum_over
value_none z = refl

none_polynomial : (m : ℕ) → IsPolynomial ℚ grevlex m []
unfolding Each Falls
none_polynomial m = record { nonzero = tt; arity = tt; falls = tt }

module _ (base : List ℕ) (coprime : Coprime base) where
  none_from : (k : ℕ) (y : Terms Fraction) → IsNormalForm base grevlex 1 y
      → ((n : ℕ) (s : List Fraction) → length s ≡ 1 → value_at ℚ y (point base (k + n) s)
      ≡ ℚ.zero) → y ≡ []
  unfolding Each
  none_from k y normal h =
      one_form base coprime grevlex grevlex_order 1 y [] normal.polynomial
      (none_polynomial (width (length base) 1)) normal.normal tt (λ n s l.
      all_values base coprime 1 k y [] s l (λ j.
      h j s l ∙ sym (value_none (point base (k + j) s))) n)

  pub gone_form : (k : ℕ) (y : Terms Fraction) → IsNormalForm base grevlex 1 y
      → IsFormAfterIterations base gone k (0 ∷ []) (one ∷ []) y → y ≡ []
  gone_form k y normal t = none_from (suc k) y normal (λ n s l.
      t.values (suc k + n) s l (omega arith) ∙ form_turned (suc k + n) s (omega arith))

  first_none : (since : ℕ) (ps : List (Terms Fraction)) → IsClosedFormFrom base gone since ps
      → Each (IsNormalForm base grevlex 1) ps → poly_at ps 0 ≡ []
  unfolding Each
  first_none since [] closed normal = refl
  first_none since (p ∷ ps) closed normal = none_from (suc since) p normal.0 (λ n s l.
      same_head (closed.values (suc since + n) s l (omega arith)
      ∙ gone_turned (suc since + n) s (omega arith)))

  -- ---- its class
  abbrev ahead : Ahead
  ahead = ahead_of gone (0 ∷ []) 1

  from_fits : (q : Terms Fraction) → q ≡ []
      → IsPastFrom base 1 (one ∷ []) (0 ∷ []) ℚ.zero ahead q → ⊥
  unfolding collect
  from_fits q e (at_once_past some none p) = some refl
  from_fits q e (there_past some iterations p) = some refl
  from_fits q e (later_past some iterations p) = some refl
  from_fits q e (one_later_past none p) = later (subst (λ x. IsPastOneLater base 1 x) e p)
    where
      later : IsPastOneLater base 1 [] → ⊥
      later p = none_composed (next_images base 1) p

  form_fits : (polys : List (Terms Fraction))
      → IsPastForm base 1 (0 ∷ []) nothing polys (matrix_of ℚ.zero) rows ahead (one ∷ []) ℚ.zero []
      → ⊥
  form_fits polys (inhomogeneity_past p) = inhomogeneity_fits ℚ.zero base zero_narrow polys p
  form_fits polys (making_past q is p) =
      from_fits q (inhomogeneity_none ℚ.zero base zero_narrow polys q is) p

  done_is : (done : List (Terms Fraction)) → length done ≡ 1
      → AreDone base gone (0 ∷ []) rows done → done ≡ [] ∷ []
  unfolding Each
  done_is [] l d = absurd (omega (arith, l))
  done_is (y ∷ []) l d = ap (λ p. p ∷ []) (gone_form d.since y d.normal.0 (d.each 0 (omega arith)))
  done_is (y ∷ z ∷ done) l d = absurd (omega (arith, l))

  variable_fits : IsPastRowOf rows ([] ∷ []) → ⊥
  unfolding collect scale_terms weight
  variable_fits p = at p.place p.within p.past
    where
      at : (place : ℕ) → place < 1 → IsPastVariable (row_at rows place) ([] ∷ []) → ⊥
      at zero l (inl (inl (inl s))) = s.within
      at zero l (inl (inl (inr h))) = h
      at zero l (inl (inr p)) = fits (size 0 1) (omega arith) (omega arith) p
      at zero l (inr p) = fits (size 0 1) (omega arith) (omega arith) p
      at (suc i) l p = omega (arith, l)

  class_fits : (polys : List (Terms Fraction))
      → IsPastClass base gone 1 (0 ∷ []) rows (ℚ.zero ∷ []) polys → ⊥
  class_fits polys (inverse_past p) = inverse_fits p
  class_fits polys (form_past back b p) =
      at p.done p.few (subst
      (λ m. IsPastForm base 1 (0 ∷ []) nothing polys m back ahead (row_at rows (length p.done))
      (entries ℚ_field (ℚ.zero ∷ []) (length p.done)) p.done) gone_matrix p.past)
    where
      at : (done : List (Terms Fraction)) → length done < 1
          → IsPastForm base 1 (0 ∷ []) nothing polys (matrix_of ℚ.zero) back ahead
          (row_at rows (length done)) (entries ℚ_field (ℚ.zero ∷ []) (length done)) done → ⊥
      at [] l h = form_fits polys
          (subst (λ k. IsPastForm base 1 (0 ∷ []) nothing polys (matrix_of ℚ.zero) k ahead
          (one ∷ []) ℚ.zero []) (back_is back b) h)
      at (y ∷ done) l h = omega (arith, l)
  class_fits polys (variable_past back b p) =
      variable_fits (subst (λ d. IsPastRowOf rows d) (done_is p.done p.all p.are)
      (subst (λ k. IsPastRowOf k p.done) (back_is back b) p.past))

  wide_class : (v : ℕ) → IsWideClass base gone 1 v → ⊥
  wide_class v f =
      let class = gone_class f.class (record {
        of = f.ready.first;
        within = f.ready.next.within;
        is = f.ready.class;
      }) in
      let here = subst (λ g. IsSplitInto (length g) (class_matrix gone g) f.forms f.values) class
      f.are in
      let single = here.single refl ℚ.zero gone_matrix in
      class_fits f.polys
      (subst (λ vs. IsPastClass base gone 1 (0 ∷ []) rows vs f.polys) single.values_are
      (subst (λ fs. IsPastClass base gone 1 (0 ∷ []) fs f.values f.polys) single.forms_are
      (subst (λ g. IsPastClass base gone 1 g f.forms f.values f.polys) class f.past)))

  -- ---- its states
  state_fits : IsPastState gone 1 → ⊥
  state_fits p = at p.past.place p.past.within p.past.past
    where
      at : (place : ℕ) → place < 1
          → IsPastComposition fractions (poly_at gone place) (after gone p.iteration) → ⊥
      at zero l q = none_composed (after gone p.iteration) q
      at (suc i) l q = omega (arith, l)

  wide_iteration : (v : ℕ) → IsWideIteration base gone 1 v → ⊥
  wide_iteration v t =
      at t.iteration t.before (subst (λ i. IsPastAt base 1 t.iteration (poly_at t.polys i)) first
      t.past)
    where
      first : t.variable ≡ 0
      first = elim (subst (In t.variable) (gone_class t.class t.is) t.within)
          [ inl e ↦ e | inr n ↦ absurd n ]

      at : (n : ℕ) → n < 1 → IsPastAt base 1 n (poly_at t.polys 0) → ⊥
      at zero l (inl p) = elim p.past [
        | inl h ↦ power_fits (whole (pos p.number)) h
        | inr h ↦ power_fits (Fraction.inverse (whole (pos p.number))) h
      ]
      at zero l (inr p) = none_composed (iteration_images base 1 0)
          (subst (λ q. IsPastComposition fractions q (iteration_images base 1 0))
          (first_none t.since t.polys t.closed t.normal) p)
      at (suc n) l p = omega (arith, l)

  wide_fits : (v : ℕ) → IsWideForm base gone 1 v → ⊥
  wide_fits v (state_past e p) = state_fits p
  wide_fits v (class_past d) = wide_class v d
  wide_fits v (iteration_past t) = wide_iteration v t

-- ---- the value of its one form is 0
one_zero : (split : Split) (g : List ℕ) → g ≡ 0 ∷ [] → IsSplitOf gone g split
    → fractions_of split.values.items ≡ ℚ.zero ∷ []
one_zero split g e s =
    let here = subst (λ g. IsSplitInto (length g) (class_matrix gone g)
    (rows_of split.forms.items) (fractions_of split.values.items)) e s.found in
    (here.single refl ℚ.zero gone_matrix).values_are

zeros_are : (splits : List (Option Split)) → AreSplits gone splits
    → zeros_in (values_in splits) ≡ 1
unfolding fraction is_lowest gcd
zeros_are [] a = absurd (let count = a.count in omega (arith, count))
zeros_are (None ∷ splits) a =
    let s = (a.each 0 None (omega arith)).every (0 ∷ []) gone_is refl in
    absurd (let e = s.1 in cc)
zeros_are (Some split ∷ splits) a =
    let count = a.count in
    let o = (a.each 0 None (omega arith)).only split refl in
    none splits (omega (arith, count)) split (one_zero split o.0 (gone_class o.0 o.1) o.3)
  where
    none : (splits : List (Option Split)) → length splits ≡ 0 → (split : Split)
        → fractions_of split.values.items ≡ ℚ.zero ∷ []
        → zeros_in (values_in (Some split ∷ splits)) ≡ 1
    none [] l split e = ap zeros_in (append-nil (fractions_of split.values.items)) ∙ ap zeros_in e
    none (s ∷ splits) l split e = absurd (omega (arith, l))

pub gone_unrefused : (r : Refusal) → IfFormRefused gone r → ⊥
gone_unrefused (not_solvable cycle) h = gone_solvable cycle h.cycle
gone_unrefused (eigenvalues class) h =
    h.1.0 (subst (λ g. SplitsAt (length g) (class_matrix gone g))
    (sym (gone_class class h.0.is)) gone_splits)
gone_unrefused (range class sum) h =
    let some = subst (λ g. 2 ≤ length g) (gone_class class h.0.is) h.1.0 in
    omega (arith, some)
gone_unrefused (wide_split class candidate power row) h =
    let some = subst (λ g. 2 ≤ length g) (gone_class class h.0.is) h.1.0 in
    omega (arith, some)
gone_unrefused (limit_form variable) h = long_or_short gone gone_bounded variable h.long gone_short
gone_unrefused (wide_form variable) h =
    wide_fits h.later.base h.later.is.is.coarsest.base.coprime variable
    (subst (λ z. IsWideForm h.later.base gone z variable)
    (sym h.later.are.count ∙ zeros_are h.later.are.splits h.later.are.are) h.later.wide)
