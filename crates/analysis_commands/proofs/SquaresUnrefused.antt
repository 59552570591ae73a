-- The map of the loop of the squares has no cause of a refusal.
--   squares_values          its closed form has the values of its iterations
--   form_of i               the closed form of the variable i, which is the one normal polynomial with its values
--   squares_unrefused       so it is
use Rattle.std.proofs.Common.{Option, None, Some, ◌≡◌, inl, inr, ℕ, zero, suc, ◌+◌, ◌<◌, ◌≤◌, ℤ, Bool, true, List, [], ◌∷◌, ◌++◌, map, length, get_or, refl, sym, ap, ap₂, subst, ◌∙◌, arith}
use Rattle.std.specs.List.{concat}
use Rattle.algebra.specs.Arithmetic.{power}
use Rattle.algebra.specs.Each.{Each}
use Rattle.algebra.specs.In.{In}
use Rattle.algebra.specs.Sum.{sum_over}
use Rattle.algebra.specs.Gcd.{gcd, lcm}
use Rattle.algebra.specs.Ratio.{is_lowest, reduce}
use Rattle.algebra.specs.Size.{Size, sum_size, IsPast}
use Rattle.algebra.specs.Fraction as Fraction
use Rattle.algebra.specs.Fraction.{Fraction, fraction, fraction_size, fractions, ℚ}
use Rattle.algebra.proofs.Fractions.{ℚ_ring, ℚ_field}
use Rattle.polynomials.specs.Algebra as Algebra
use Rattle.polynomials.specs.Exponent as exponents
use Rattle.polynomials.specs.Exponent.{plus, unit_exponents}
use Rattle.polynomials.specs.Order.{compare, grevlex}
use Rattle.polynomials.specs.Terms.{Terms, constant, variables, evaluate, monomial_at, value_at, sum_of_products}
use Rattle.polynomials.specs.Weight.{weight, degrees, composition_weight, composition_degrees, IsPastSum}
use Rattle.polynomials.proofs.Orders.{grevlex_order}
use Rattle.machines.specs.Collect.{collect, insert, place, scale_terms}
use Rattle.exponentials.specs.Keys.{excess}
use Rattle.vectors.specs.Causes.{row_at}
use Rattle.vectors.specs.Lists.{entries}
use Rattle.vectors.specs.Matrices.{SplitsAt}
use Rattle.solvable_maps.specs.AfterIterations.{form_at}
use Rattle.solvable_maps.specs.Classes.{class_matrix, IsClass}
use Rattle.solvable_maps.specs.Expo.{power_key, with_key, with_normal_keys}
use Rattle.solvable_maps.specs.Iterations.{IsNormalForm, point, iterations, values_at}
use Rattle.solvable_maps.specs.Uses.{poly_at, unit, uses}
use Rattle.solvable_maps.proofs.Classes.{classes_one}
use Rattle.solvable_maps.proofs.Numbers.{one_form}
use Rattle.solvable_maps.proofs.OneForm.{all_values}
use Rattle.linear.specs.Rows.{fractions_of, rows_of}
use Rattle.eigen_split.specs.Refusal.{IsSplitInto}
use Rattle.eigen_split.specs.declared.splitting.Split.{Split}
use Rattle.closed_forms.specs.Inhomogeneities.{collect_terms, part, both, part_by_forms, IsInhomogeneity, IsPastInhomogeneity, moved_past, before_past, sum_past, normal_past}
use Rattle.closed_forms.specs.Known.{rests_in, AreDone, IsPastVariable, IsPastForm, inhomogeneity_past, making_past, IsPastClass, inverse_past, form_past, variable_past, IsPastRowOf, IsWideClass}
use Rattle.closed_forms.specs.Later.{Ahead, ahead_of, IsPastFrom, at_once_past, there_past, later_past, one_later_past}
use Rattle.closed_forms.specs.Refusal.{Refusal, not_solvable, eigenvalues, range, wide_split, limit_form, wide_form, IfFormRefused, IsWideForm, state_past, class_past, iteration_past}
use Rattle.closed_forms.specs.Solved.{homogeneous_part, IsPower, IsWhole, IsPastSolved, term as term_past, sum as whole_past, normal as made_past}
use Rattle.closed_forms.specs.Splits.{AreSplits, IsSplitOf}
use Rattle.closed_forms.specs.States.{zeros_in}
use Rattle.closed_forms.specs.Values.{values_in}
use Rattle.closed_forms.proofs.Ahead.{zeros_none, zeros-append}
use Rattle.closed_forms.proofs.LengthLaws.{long_or_short}
use Rattle.closed_forms.proofs.Recurring.{collected_value}
use Rattle.loops.proofs.Examples.{squares}
use Rattle.loops.specs.Effect.{after_branch, after_statement, store, value_of}
use Rattle.loops.specs.Map.{branch_map}
use Rattle.rounds.specs.Word.{branch_of}
use Rattle.rounds.proofs.Squares.{squares_form, squares_is_form}
use Rattle.analysis_commands.proofs.Fitting.{each_fits, size_fits, size_holds, exponents_fit, both_fit, both_hold, composition_fits}
use Rattle.analysis_commands.proofs.ScaledMap.{one, form_own}
use Rattle.analysis_commands.proofs.ScaledNumbers.{two, minus, one_narrow}
use Rattle.analysis_commands.proofs.ScaledUnrefused.{rows, matrix_of, part_of_none, inverse_fits, back_is, before_fits}
use Rattle.analysis_commands.proofs.SquaresClasses.{squares_images, bounded, each_place, class_is, classes, place_of, matrix_is, splits_at, squares_solvable, squares_short, squares_base_is}
use Rattle.analysis_commands.proofs.SquaresSolutions.{three_long, plain_key, linear, quadratic, linear_own, quadratic_own, Solves, SolveAll, solved_is, among_holds, mix_fits, mix_holds}

-- ---- the closed form of each variable
abbrev raw : List (Terms Fraction)
raw = branch_map squares (branch_of squares 1)

collected : map collect_terms raw ≡ squares_images
unfolding branch_map after_branch after_statement store value_of variables unit_exponents
    constant collect insert place compare grevlex Algebra.times Algebra.shift plus
    fraction Fraction.sum Fraction.product is_lowest reduce gcd
collected = refl

collected_values : (ps : List (Terms Fraction)) (s : List Fraction)
    → values_at (map collect_terms ps) s ≡ values_at ps s
collected_values [] s = refl
collected_values (p ∷ ps) s = ap₂ ◌∷◌ (collected_value p s) (collected_values ps s)

same_iterations : (n : ℕ) (s : List Fraction) → iterations raw n s ≡ iterations squares_images n s
same_iterations zero s = refl
same_iterations (suc n) s =
    ap (values_at raw) (same_iterations n s)
    ∙ sym (collected_values raw (iterations squares_images n s))
    ∙ ap (λ ps. values_at ps (iterations squares_images n s)) collected

squares_values : (n : ℕ) (s : List Fraction) → length s ≡ 3
    → values_at squares_form.polys (point [] n s) ≡ iterations squares_images n s
unfolding branch_map after_branch after_statement store variables unit_exponents
squares_values n s l = squares_is_form.form.values n s l (omega arith) ∙ same_iterations n s

abbrev form_of : ℕ → Terms Fraction
form_of i = poly_at squares_form.polys i

abbrev IsAt : ℕ → Terms Fraction → ℕ → Type 0
IsAt since y i = (n : ℕ) (s : List Fraction) → length s ≡ 3 → since ≤ n
    → value_at ℚ y (point [] n s) ≡ entries ℚ_field (iterations squares_images n s) i

form_at_place : (i : ℕ) → i < 3 → IsAt 0 (form_of i) i
form_at_place = each_place (λ i. IsAt 0 (form_of i) i)
    (λ n s l late. ap (λ x. entries ℚ_field x 0) (squares_values n s l))
    (λ n s l late. ap (λ x. entries ℚ_field x 1) (squares_values n s l))
    (λ n s l late. ap (λ x. entries ℚ_field x 2) (squares_values n s l))

form_normal : (i : ℕ) → i < 3 → IsNormalForm [] grevlex 3 (form_of i)
unfolding Each
form_normal = each_place (λ i. IsNormalForm [] grevlex 3 (form_of i))
    (record {
      polynomial = squares_is_form.polynomials.0;
      normal = squares_is_form.normal.0;
    })
    (record {
      polynomial = squares_is_form.polynomials.1.0;
      normal = squares_is_form.normal.1.0;
    })
    (record {
      polynomial = squares_is_form.polynomials.1.1.0;
      normal = squares_is_form.normal.1.1.0;
    })

form_one : (i : ℕ) → i < 3 → (since : ℕ) (y : Terms Fraction) → IsNormalForm [] grevlex 3 y
    → IsAt since y i → y ≡ form_of i
form_one i b since y normal h =
    let own = form_normal i b in
    one_form [] tt grevlex grevlex_order 3 y (form_of i) normal.polynomial own.polynomial
    normal.normal own.normal (λ n s l. all_values [] tt 3 since y (form_of i) s l
    (λ k. h (since + k) s l (omega arith) ∙ sym (form_at_place i b (since + k) s l (omega arith)))
    n)

single_form : (i : ℕ) (s : List Fraction) → form_at (one ∷ []) (i ∷ []) s ≡ entries ℚ_field s i
unfolding sum_of_products
single_form i s = form_own ℚ_ring (entries ℚ_field s i)

-- ---- one class
abbrev weigh : Terms Fraction → Size
weigh p = weight fraction_size p

abbrev whole_of : ℕ → Terms Fraction → Terms Fraction
whole_of i solution = (with_key 0 (0, [], []) (unit 3 i), one) ∷ solution

-- what its polynomial has of other variables, the inhomogeneity, and what solves it
record IsMade (i : ℕ) (rest q solution : Terms Fraction) (ps : List (Terms Fraction))
    : Type 0 where
  within : i < 3
  rests : rests_in squares_images (i ∷ []) ≡ rest ∷ []
  mixed : mix_fits rest ≡ true
  composed : composition_fits ps (part (one ∷ []) (rest ∷ [])) ≡ true
  by_forms : part_by_forms [] 3 (one ∷ []) (rest ∷ []) ps ≡ q
  sum_fits : size_fits (sum_size (weigh q) (weigh [])) ≡ true
  join_fits : size_fits (weigh (collect_terms (q ++ []))) ≡ true
  normal : collect_terms (with_normal_keys 0 (collect_terms (q ++ []))) ≡ q
  terms : SolveAll q solution
  whole_fits : size_fits (weigh (whole_of i solution)) ≡ true
  collected_fits : size_fits (weigh (collect_terms (whole_of i solution))) ≡ true
  form_mix : mix_fits (form_of i) ≡ true
  form_part : size_fits (weigh (part (one ∷ []) (form_of i ∷ []))) ≡ true

module _ (i : ℕ) (rest q solution : Terms Fraction) (ps : List (Terms Fraction))
    (made : IsMade i rest q solution ps) where
  abbrev start : Ahead
  start = ahead_of squares_images (i ∷ []) 0

  both_is : (by : List Fraction) → both [] 3 (one ∷ []) (rest ∷ []) ps by []
      ≡ collect_terms (q ++ [])
  both_is by = ap₂ (λ x y. collect_terms (x ++ y)) made.by_forms (part_of_none by)

  inhomogeneity_is : (x : Terms Fraction)
      → IsInhomogeneity [] 3 (one ∷ []) (rest ∷ []) ps (matrix_of one) rows [] x → x ≡ q
  inhomogeneity_is x s =
      s.terms ∙ ap (λ p. collect_terms (with_normal_keys 0 p)) (both_is s.by) ∙ made.normal

  inhomogeneity_fits : IsPastInhomogeneity [] 3 (one ∷ []) (rest ∷ []) ps (matrix_of one) rows []
      → ⊥
  inhomogeneity_fits (moved_past (inl p)) = mix_holds rest made.mixed p
  inhomogeneity_fits (moved_past (inr p)) = both_hold _ _ made.composed p
  inhomogeneity_fits (before_past p) = before_fits one [] one_narrow p
  inhomogeneity_fits (sum_past by is p) =
      size_holds (sum_size (weigh q) (weigh [])) made.sum_fits
      (subst (λ x. IsPastSum fractions x []) made.by_forms
      (subst (IsPastSum fractions (part_by_forms [] 3 (one ∷ []) (rest ∷ []) ps))
      (part_of_none by) p))
  inhomogeneity_fits (normal_past by is p) =
      size_holds (weigh (collect_terms (q ++ []))) made.join_fits
      (subst (λ x. IsPast (weigh x)) (both_is by) p)

  -- ---- what is solved
  power_is : (negative : Bool) (e : List ℤ) → IsPower [] negative e one
      → power_key negative e ≡ (0, [], [])
  power_is negative e p = plain_key negative e p.count p.is

  whole_is : (p : Terms Fraction) → IsWhole [] 3 (one ∷ []) (i ∷ []) one q p
      → p ≡ whole_of i solution
  whole_is p w =
      w.terms
      ∙ ap₂ (λ k ys. homogeneous_part 3 k (one ∷ []) (i ∷ []) ++ ys)
      (power_is w.negative w.exponents w.power) (solved_is q solution w.solved made.terms w.are)

  solved_fits : IsPastSolved [] 3 (one ∷ []) (i ∷ []) one q → ⊥
  solved_fits (term_past a) = among_holds q solution made.terms a.term a.within a.past
  solved_fits (whole_past p w past) =
      size_holds (weigh (whole_of i solution)) made.whole_fits
      (subst (λ x. IsPast (weigh x)) (whole_is p w) past)
  solved_fits (made_past p w past) =
      size_holds (weigh (collect_terms (whole_of i solution))) made.collected_fits
      (subst (λ x. IsPast (weigh (collect_terms x))) (whole_is p w) past)

  from_fits : (x : Terms Fraction) → x ≡ q → IsPastFrom [] 3 (one ∷ []) (i ∷ []) one start x → ⊥
  from_fits x e (at_once_past some none p) =
      solved_fits (subst (λ x. IsPastSolved [] 3 (one ∷ []) (i ∷ []) one x) e p)
  from_fits x e (there_past some iterations p) = iterations refl
  from_fits x e (later_past some iterations p) = iterations refl
  from_fits x e (one_later_past none p) = ℚ_field.one-ne-zero none

  form_fits : IsPastForm [] 3 (i ∷ []) (rest ∷ []) ps (matrix_of one) rows start (one ∷ []) one []
      → ⊥
  form_fits (inhomogeneity_past p) = inhomogeneity_fits p
  form_fits (making_past x is p) = from_fits x (inhomogeneity_is x is) p

  -- ---- the variable
  done_is : (done : List (Terms Fraction)) → length done ≡ 1
      → AreDone [] squares_images (i ∷ []) rows done → done ≡ form_of i ∷ []
  unfolding Each
  done_is [] l d = absurd (omega (arith, l))
  done_is (y ∷ []) l d =
      ap (λ p. p ∷ []) (form_one i made.within d.since y d.normal.0 (λ n s l late.
      (d.each 0 (omega arith)).values n s l late ∙ single_form i (iterations squares_images n s)))
  done_is (y ∷ z ∷ done) l d = absurd (omega (arith, l))

  variable_fits : IsPastRowOf rows (form_of i ∷ []) → ⊥
  variable_fits p = at p.place p.within p.past
    where
      at : (k : ℕ) → k < 1 → IsPastVariable (row_at rows k) (form_of i ∷ []) → ⊥
      at zero l (inl p) = mix_holds (form_of i) made.form_mix p
      at zero l (inr p) =
          size_holds (weigh (part (one ∷ []) (form_of i ∷ []))) made.form_part p
      at (suc k) l p = omega (arith, l)

  class_fits : IsPastClass [] squares_images 0 (i ∷ []) rows (one ∷ []) ps → ⊥
  class_fits (inverse_past p) = inverse_fits p
  class_fits (form_past back b p) =
      at p.done p.few
      (subst (λ m. IsPastForm [] 3 (i ∷ []) (rests_in squares_images (i ∷ [])) ps m back start
      (row_at rows (length p.done)) (entries ℚ_field (one ∷ []) (length p.done)) p.done)
      (matrix_is i made.within) p.past)
    where
      at : (done : List (Terms Fraction)) → length done < 1
          → IsPastForm [] 3 (i ∷ []) (rests_in squares_images (i ∷ [])) ps (matrix_of one) back
          start (row_at rows (length done)) (entries ℚ_field (one ∷ []) (length done)) done → ⊥
      at [] l h = form_fits
          (subst (λ r. IsPastForm [] 3 (i ∷ []) r ps (matrix_of one) rows start (one ∷ []) one [])
          made.rests
          (subst (λ k. IsPastForm [] 3 (i ∷ []) (rests_in squares_images (i ∷ [])) ps
          (matrix_of one) k start (one ∷ []) one []) (back_is back b) h))
      at (y ∷ done) l h = omega (arith, l)
  class_fits (variable_past back b p) =
      variable_fits (subst (λ d. IsPastRowOf rows d) (done_is p.done p.all p.are)
      (subst (λ k. IsPastRowOf k p.done) (back_is back b) p.past))

-- ---- the three
-- a number
abbrev number_rest : Fraction → Terms Fraction
number_rest c = (0 ∷ 0 ∷ 0 ∷ [], c) ∷ []

abbrev number_here : Fraction → Terms Fraction
number_here c = (0 ∷ 0 ∷ 0 ∷ 0 ∷ 0 ∷ [], c) ∷ []

abbrev number_solved : Fraction → Terms Fraction
number_solved c = (1 ∷ 0 ∷ 0 ∷ 0 ∷ 0 ∷ [], c) ∷ []

-- of s: t + 2, which is t + 2 n + 2
abbrev sum_rest : Terms Fraction
sum_rest = (0 ∷ 0 ∷ 1 ∷ [], one) ∷ (0 ∷ 0 ∷ 0 ∷ [], two) ∷ []

abbrev sum_here : Terms Fraction
sum_here =
    (1 ∷ 0 ∷ 0 ∷ 0 ∷ 0 ∷ [], two) ∷ (0 ∷ 0 ∷ 0 ∷ 0 ∷ 1 ∷ [], one)
    ∷ (0 ∷ 0 ∷ 0 ∷ 0 ∷ 0 ∷ [], two) ∷ []

abbrev power_solved : Terms Fraction
power_solved = (2 ∷ 0 ∷ 0 ∷ 0 ∷ 0 ∷ [], one) ∷ (1 ∷ 0 ∷ 0 ∷ 0 ∷ 0 ∷ [], minus) ∷ []

abbrev variable_solved : Terms Fraction
variable_solved = (1 ∷ 0 ∷ 0 ∷ 0 ∷ 1 ∷ [], one) ∷ []

abbrev sum_solved : Terms Fraction
sum_solved = power_solved ++ variable_solved ++ number_solved two

number_one : Solves (0 ∷ 0 ∷ 0 ∷ 0 ∷ 0 ∷ [], one) (number_solved one)
unfolding collect insert place scale_terms compare grevlex Algebra.times Algebra.shift plus
    evaluate sum_over monomial_at power constant fraction Fraction.sum Fraction.product is_lowest
    reduce gcd lcm weight degrees composition_weight composition_degrees exponents.lcm excess
    each_fits size_fits exponents_fit both_fit
number_one = record {
  own = linear;
  is = linear_own;
  plain = refl;
  low = omega arith;
  fits = refl;
  made = refl;
}

number_two : Solves (0 ∷ 0 ∷ 0 ∷ 0 ∷ 0 ∷ [], two) (number_solved two)
unfolding collect insert place scale_terms compare grevlex Algebra.times Algebra.shift plus
    evaluate sum_over monomial_at power constant fraction Fraction.sum Fraction.product is_lowest
    reduce gcd lcm weight degrees composition_weight composition_degrees exponents.lcm excess
    each_fits size_fits exponents_fit both_fit
number_two = record {
  own = linear;
  is = linear_own;
  plain = refl;
  low = omega arith;
  fits = refl;
  made = refl;
}

power_term : Solves (1 ∷ 0 ∷ 0 ∷ 0 ∷ 0 ∷ [], two) power_solved
unfolding collect insert place scale_terms compare grevlex Algebra.times Algebra.shift plus
    evaluate sum_over monomial_at power constant fraction Fraction.sum Fraction.product is_lowest
    reduce gcd lcm weight degrees composition_weight composition_degrees exponents.lcm excess
    each_fits size_fits exponents_fit both_fit
power_term = record {
  own = quadratic;
  is = quadratic_own;
  plain = refl;
  low = omega arith;
  fits = refl;
  made = refl;
}

variable_term : Solves (0 ∷ 0 ∷ 0 ∷ 0 ∷ 1 ∷ [], one) variable_solved
unfolding collect insert place scale_terms compare grevlex Algebra.times Algebra.shift plus
    evaluate sum_over monomial_at power constant fraction Fraction.sum Fraction.product is_lowest
    reduce gcd lcm weight degrees composition_weight composition_degrees exponents.lcm excess
    each_fits size_fits exponents_fit both_fit
variable_term = record {
  own = linear;
  is = linear_own;
  plain = refl;
  low = omega arith;
  fits = refl;
  made = refl;
}

first_made : (a b c : Terms Fraction)
    → IsMade 0 (number_rest one) (number_here one) (number_solved one) (a ∷ b ∷ c ∷ [])
unfolding collect insert place scale_terms compare grevlex Algebra.times Algebra.shift plus
    evaluate sum_over monomial_at power constant fraction Fraction.sum Fraction.product is_lowest
    reduce gcd lcm weight degrees composition_weight composition_degrees exponents.lcm excess
    each_fits size_fits exponents_fit both_fit
first_made a b c = record {
  within = omega arith;
  rests = refl;
  mixed = refl;
  composed = refl;
  by_forms = refl;
  sum_fits = refl;
  join_fits = refl;
  normal = refl;
  terms = (number_solved one, [], number_one, refl, refl);
  whole_fits = refl;
  collected_fits = refl;
  form_mix = refl;
  form_part = refl;
}

last_made : (a b c : Terms Fraction)
    → IsMade 2 (number_rest two) (number_here two) (number_solved two) (a ∷ b ∷ c ∷ [])
unfolding collect insert place scale_terms compare grevlex Algebra.times Algebra.shift plus
    evaluate sum_over monomial_at power constant fraction Fraction.sum Fraction.product is_lowest
    reduce gcd lcm weight degrees composition_weight composition_degrees exponents.lcm excess
    each_fits size_fits exponents_fit both_fit
last_made a b c = record {
  within = omega arith;
  rests = refl;
  mixed = refl;
  composed = refl;
  by_forms = refl;
  sum_fits = refl;
  join_fits = refl;
  normal = refl;
  terms = (number_solved two, [], number_two, refl, refl);
  whole_fits = refl;
  collected_fits = refl;
  form_mix = refl;
  form_part = refl;
}

middle_made : (a b : Terms Fraction)
    → IsMade 1 sum_rest sum_here sum_solved (a ∷ b ∷ form_of 2 ∷ [])
unfolding collect insert place scale_terms compare grevlex Algebra.times Algebra.shift plus
    evaluate sum_over monomial_at power constant fraction Fraction.sum Fraction.product is_lowest
    reduce gcd lcm weight degrees composition_weight composition_degrees exponents.lcm excess
    each_fits size_fits exponents_fit both_fit
middle_made a b = record {
  within = omega arith;
  rests = refl;
  mixed = refl;
  composed = refl;
  by_forms = refl;
  sum_fits = refl;
  join_fits = refl;
  normal = refl;
  terms = (
    power_solved,
    variable_solved ++ number_solved two,
    power_term,
    (
      variable_solved,
      number_solved two,
      variable_term,
      (number_solved two, [], number_two, refl, refl),
      refl,
    ),
    refl,
  );
  whole_fits = refl;
  collected_fits = refl;
  form_mix = refl;
  form_part = refl;
}

-- ---- any class
module _ (v : ℕ) (f : IsWideClass [] squares_images 0 v) where
  single_past : (i : ℕ) → i < 3 → f.class ≡ i ∷ []
      → IsPastClass [] squares_images 0 (i ∷ []) rows (one ∷ []) f.polys
  single_past i l e =
      let here = subst (λ g. IsSplitInto (length g) (class_matrix squares_images g) f.forms
      f.values) e f.are in
      let single = here.single refl one (matrix_is i l) in
      subst (λ vs. IsPastClass [] squares_images 0 (i ∷ []) rows vs f.polys) single.values_are
      (subst (λ fs. IsPastClass [] squares_images 0 (i ∷ []) fs f.values f.polys) single.forms_are
      (subst (λ g. IsPastClass [] squares_images 0 g f.forms f.values f.polys) e f.past))

  third_normal : Each (IsNormalForm [] grevlex 3) f.polys
      → IsNormalForm [] grevlex 3 (poly_at f.polys 2)
  unfolding Each
  third_normal = three_long (λ ps. Each (IsNormalForm [] grevlex 3) ps
      → IsNormalForm [] grevlex 3 (poly_at ps 2)) (λ a b c h. h.1.1.0) f.polys f.ready.turned.size

  last_form : In 2 (concat f.ready.before) → poly_at f.polys 2 ≡ form_of 2
  last_form i =
      let at = subst (In 2) (sym f.ready.are) i in
      form_one 2 (omega arith) f.ready.since (poly_at f.polys 2) (third_normal f.normal)
      (λ n s l late. (f.ready.turned.each 2 at).values n s l late)

  first_class : f.class ≡ 0 ∷ [] → ⊥
  first_class e =
      three_long (λ ps. IsPastClass [] squares_images 0 (0 ∷ []) rows (one ∷ []) ps → ⊥)
      (λ a b c. class_fits 0 (number_rest one) (number_here one) (number_solved one)
      (a ∷ b ∷ c ∷ []) (first_made a b c)) f.polys f.ready.turned.size
      (single_past 0 (omega arith) e)

  last_class : f.class ≡ 2 ∷ [] → ⊥
  last_class e =
      three_long (λ ps. IsPastClass [] squares_images 0 (2 ∷ []) rows (one ∷ []) ps → ⊥)
      (λ a b c. class_fits 2 (number_rest two) (number_here two) (number_solved two)
      (a ∷ b ∷ c ∷ []) (last_made a b c)) f.polys f.ready.turned.size
      (single_past 2 (omega arith) e)

  middle_class : f.class ≡ 1 ∷ [] → In 2 (concat f.ready.before) → ⊥
  middle_class e i =
      three_long (λ ps. poly_at ps 2 ≡ form_of 2
      → IsPastClass [] squares_images 0 (1 ∷ []) rows (one ∷ []) ps → ⊥)
      (λ a b c is past. class_fits 1 sum_rest sum_here sum_solved (a ∷ b ∷ form_of 2 ∷ [])
      (middle_made a b) (subst (λ c. IsPastClass [] squares_images 0 (1 ∷ []) rows (one ∷ [])
      (a ∷ b ∷ c ∷ [])) is past)) f.polys f.ready.turned.size (last_form i)
      (single_past 1 (omega arith) e)

  wide_class : ⊥
  wide_class =
      let e = classes_one (uses squares_images) 3 bounded
      (f.ready.before ++ f.class ∷ f.ready.behind) ((0 ∷ []) ∷ (2 ∷ []) ∷ (1 ∷ []) ∷ []) []
      f.ready.order classes in
      elim (place_of f.ready.before f.class f.ready.behind e) [
        | inl first ↦ first_class first
        | inr other ↦ elim other [
          | inl last ↦ last_class last
          | inr middle ↦ middle_class middle.0 middle.1
        ]
      ]

-- ---- no value is 0
split_values : (split : Split) (g : List ℕ) → IsClass squares_images g
    → IsSplitOf squares_images g split → fractions_of split.values.items ≡ one ∷ []
split_values split g c s =
    let here = subst (λ g. IsSplitInto (length g) (class_matrix squares_images g)
    (rows_of split.forms.items) (fractions_of split.values.items)) (class_is g c) s.found in
    (here.single refl one (matrix_is c.of c.within)).values_are

each_none : (splits : List (Option Split))
    → ((k : ℕ) (d : Option Split) → k < length splits → (split : Split)
    → get_or splits k d ≡ Some split → zeros_in (fractions_of split.values.items) ≡ 0)
    → zeros_in (values_in splits) ≡ 0
each_none [] h = refl
each_none (None ∷ splits) h = each_none splits (λ k d l. h (suc k) d (omega (arith, l)))
each_none (Some split ∷ splits) h =
    let parts = zeros-append (fractions_of split.values.items) (values_in splits) in
    let here = h 0 None (omega arith) split refl in
    let later = each_none splits (λ k d l. h (suc k) d (omega (arith, l))) in
    omega (arith, parts, here, later)

zeros_are : (splits : List (Option Split)) → AreSplits squares_images splits
    → zeros_in (values_in splits) ≡ 0
zeros_are splits a = each_none splits (λ k d l split e.
    let o = (a.each k d l).only split e in
    ap zeros_in (split_values split o.0 o.1 o.3) ∙ zeros_none one ℚ_field.one-ne-zero)

wide_fits : (v : ℕ) → IsWideForm [] squares_images 0 v → ⊥
wide_fits v (state_past e p) = let l = p.before in omega (arith, l)
wide_fits v (class_past d) = wide_class v d
wide_fits v (iteration_past t) = let l = t.before in omega (arith, l)

pub squares_unrefused : (r : Refusal) → IfFormRefused squares_images r → ⊥
squares_unrefused (not_solvable cycle) h = squares_solvable cycle h.cycle
squares_unrefused (eigenvalues class) h =
    h.1.0 (subst (λ g. SplitsAt (length g) (class_matrix squares_images g))
    (sym (class_is class h.0.is)) (splits_at h.0.is.of h.0.is.within))
squares_unrefused (range class sum) h =
    let some = subst (λ g. 2 ≤ length g) (class_is class h.0.is) h.1.0 in
    omega (arith, some)
squares_unrefused (wide_split class candidate power row) h =
    let some = subst (λ g. 2 ≤ length g) (class_is class h.0.is) h.1.0 in
    omega (arith, some)
squares_unrefused (limit_form variable) h =
    long_or_short squares_images bounded variable h.long squares_short
squares_unrefused (wide_form variable) h =
    wide_fits variable
    (subst (λ z. IsWideForm [] squares_images z variable)
    (sym h.later.are.count ∙ zeros_are h.later.are.splits h.later.are.are)
    (subst (λ b. IsWideForm b squares_images h.later.zeros variable)
    (squares_base_is h.later.base h.later.is) h.later.wide))
