-- The map of one variable that is a number times it has no cause of a refusal, where the products of the number with 1 fit.
--   fits                a weight with small numbers isn't past
--   IsNarrow c          the products fit
--   inverse_fits, back_is     the inverse of its one form does, and is that form
--   inhomogeneity_none, inhomogeneity_fits     the inhomogeneity of the form is 0, and making it isn't past, also where the number is 0
--   scaled_unrefused    so it is
use Rattle.std.proofs.Common.{Option, None, Some, ◌≡◌, inl, inr, ℕ, zero, suc, ◌<◌, ◌≤◌, List, [], ◌∷◌, ◌++◌, take, length, refl, sym, ap, subst, ◌∙◌, arith}
use Rattle.std.proofs.lemmas.List.{append-nil}
use Rattle.algebra.specs.Each.{Each}
use Rattle.algebra.specs.Sum.{sum_over}
use Rattle.algebra.specs.Gcd.{gcd, lcm}
use Rattle.algebra.specs.Ratio.{is_lowest, reduce}
use Rattle.algebra.specs.Size.{Size, size, IsPast}
use Rattle.algebra.specs.Fraction as Fraction
use Rattle.algebra.specs.Fraction.{Fraction, fraction, fraction_size, fractions, ℚ}
use Rattle.algebra.proofs.Fractions.{ℚ_ring, ℚ_field}
use Rattle.polynomials.specs.Order.{grevlex}
use Rattle.polynomials.specs.Terms.{Terms, evaluate, sum_of_products}
use Rattle.polynomials.specs.Weight.{weight, composition_weight, composition_degrees, IsPastSum}
use Rattle.machines.specs.Collect.{collect, insert, scale_terms}
use Rattle.vectors.specs.Adding.{IsEchelonOf, IsPastTarget, IsPastRow as IsPastAdded}
use Rattle.vectors.specs.Causes.{row_at}
use Rattle.vectors.specs.Lists.{entries}
use Rattle.vectors.specs.Matrices.{SplitsAt}
use Rattle.solvable_maps.specs.Classes.{class_matrix}
use Rattle.solvable_maps.specs.Inverse.{IsProduct, numbers_at, unit_list, beside}
use Rattle.solvable_maps.specs.Uses.{unit}
use Rattle.solvable_maps.specs.Expo.{with_normal_keys, power_key, with_key}
use Rattle.solvable_maps.specs.Iterations.{IsNormalForm}
use Rattle.linear.specs.Rows.{fractions_of, rows_of}
use Rattle.linear.proofs.Echelon.{echelon_none}
use Rattle.eigen_split.specs.Refusal.{IsSplitInto}
use Rattle.eigen_split.specs.declared.splitting.Split.{Split}
use Rattle.closed_forms.specs.Inverses.{IsBehind, IsPastInverse}
use Rattle.closed_forms.specs.Known.{AreDone, IsPastVariable, IsPastForm, inhomogeneity_past, making_past, IsPastClass, inverse_past, form_past, variable_past, IsPastRowOf, IsWideClass}
use Rattle.closed_forms.specs.Later.{Ahead, ahead_of, IsPastFrom, at_once_past, there_past, later_past, one_later_past}
use Rattle.closed_forms.specs.Splits.{AreSplits, IsSplitOf}
use Rattle.closed_forms.specs.States.{zeros_in}
use Rattle.closed_forms.specs.Values.{values_in}
use Rattle.closed_forms.specs.Products.{IsPastDot, IsPastRow}
use Rattle.closed_forms.specs.Refusal.{Refusal, not_solvable, eigenvalues, range, wide_split, limit_form, wide_form, IfFormRefused, IsWideForm, state_past, class_past, iteration_past}
use Rattle.closed_forms.specs.Solved.{homogeneous_part, IsWhole, IsPastSolved, term as term_past, sum as whole_past, normal as made_past}
use Rattle.closed_forms.specs.Inhomogeneities.{collect_terms, part, both, part_by_forms, IsInhomogeneity, IsPastMoved, IsPastBefore, turned as turned_past, back as back_past, before, IsPastInhomogeneity, moved_past, before_past, sum_past, normal_past}
use Rattle.closed_forms.specs.Sums.{mix, IsPastScaled, IsPastMix}
use Rattle.closed_forms.proofs.Ahead.{zeros_none}
use Rattle.closed_forms.proofs.LengthLaws.{long_or_short}
use Rattle.analysis_commands.proofs.ScaledMap.{one, scaled, scaled_class, scaled_is, scaled_class_of, scaled_solvable, scaled_matrix, scaled_splits, echelons_one, scaled_behind, form_own, IsScaled, scaled_base, scaled_turned, scaled_bounded, scaled_short}

-- ---- what fits
pub fits : (a : Size) → a.size < 1000 → a.den < 1000 → IsPast a → ⊥
fits a s d (inl l) = omega (arith, s, l)
fits a s d (inr l) = omega (arith, d, l)

abbrev pub rows : List (List Fraction)
rows = (one ∷ []) ∷ []

abbrev pub matrix_of : Fraction → List (List Fraction)
matrix_of c = (c ∷ []) ∷ []

pub record IsNarrow (c : Fraction) : Type 0 where
  pub before : IsPastDot (one ∷ []) (c ∷ []) → ⊥
  pub behind : IsPastDot (c ∷ []) (one ∷ []) → ⊥

nothing_mixed : (cs : List Fraction) → mix cs [] ≡ []
nothing_mixed [] = refl
nothing_mixed (c ∷ cs) = refl

weight_none : IsPast (weight fraction_size []) → ⊥
unfolding weight
weight_none p = fits (size 0 1) (omega arith) (omega arith) p

none_past : (cs : List Fraction) → IsPastMix cs [] → ⊥
none_past [] (inl h) = h
none_past (c ∷ cs) (inl h) = h
none_past cs (inr p) =
    weight_none (subst (λ m. IsPast (weight fraction_size m)) (nothing_mixed cs) p)

abbrev pub nothing : List (Terms Fraction)
nothing = [] ∷ []

pub part_of_none : (by : List Fraction) → part by [] ≡ []
unfolding collect
part_of_none by = ap collect_terms (nothing_mixed by)

sum_none : IsPastSum fractions [] [] → ⊥
unfolding weight lcm gcd
sum_none p = fits (size 0 1) (omega arith) (omega arith) p

single_fits : (e : List ℕ) → IsPast (weight fraction_size ((e, one) ∷ [])) → ⊥
unfolding weight fraction is_lowest gcd lcm
single_fits e p = fits (size 1 1) (omega arith) (omega arith) p

single_collected : (e : List ℕ) → collect_terms ((e, one) ∷ []) ≡ (e, one) ∷ []
unfolding collect insert fraction is_lowest gcd
single_collected e = refl

-- ---- the inverse
added : IsPastAdded [] (one ∷ one ∷ []) → ⊥
unfolding fraction Fraction.product Fraction.inverse is_lowest reduce gcd lcm
added (inl p) = fits (size 2 1) (omega arith) (omega arith) p
added (inr p) = fits (size 2 1) (omega arith) (omega arith) p

pub inverse_fits : IsPastInverse rows → ⊥
inverse_fits h = at h.place h.within h.echelon h.is h.target h.past
  where
    first : (echelon : List (List Fraction)) → echelon ≡ [] → (target : ℕ)
        → IsPastTarget echelon (one ∷ one ∷ []) target → ⊥
    first [] e target (inl p) = added p.1
    first [] e target (inr p) = (let l = p.0 in omega (arith, l))
    first (r ∷ echelon) e target p = (let z = ap length e in omega (arith, z))

    at : (place : ℕ) → place < 1 → (echelon : List (List Fraction))
        → IsEchelonOf 2 (beside 1 0 (take place rows)) echelon → (target : ℕ)
        → IsPastTarget echelon (row_at rows place ++ unit_list 1 place) target → ⊥
    at zero l echelon e target p =
        first echelon (echelons_one 2 [] echelon [] e (echelon_none 2)) target p
    at (suc i) l echelon e target p = omega (arith, l)

pub back_is : (back : List (List Fraction)) → IsBehind rows back → back ≡ rows
back_is back b = b.behind ∙ scaled_behind b.echelon b.is

-- ---- the variable
number_fits : IsPast (fraction_size (ℚ.mul one one)) → ⊥
unfolding fraction Fraction.product is_lowest reduce gcd
number_fits p = fits (size 1 1) (omega arith) (omega arith) p

module _ (key : List ℕ) where
  abbrev form : Terms Fraction
  form = (key, one) ∷ []

  mixed_fits : IsPast (weight fraction_size (mix (one ∷ []) (form ∷ []))) → ⊥
  unfolding scale_terms weight fraction Fraction.product is_lowest reduce gcd lcm
  mixed_fits p = fits (size 1 1) (omega arith) (omega arith) p

  part_fits : IsPast (weight fraction_size (part (one ∷ []) (form ∷ []))) → ⊥
  unfolding collect insert scale_terms weight fraction Fraction.product is_lowest reduce gcd lcm
  part_fits p = fits (size 1 1) (omega arith) (omega arith) p

  variable_fits : (done : List (Terms Fraction)) → done ≡ form ∷ [] → IsPastRowOf rows done → ⊥
  variable_fits done e p =
      at p.place p.within (subst (λ d. IsPastVariable (row_at rows p.place) d) e p.past)
    where
      number : (x : Fraction) → x ≡ one → IsPast (fraction_size (ℚ.mul one x)) → ⊥
      number x e p = number_fits (subst (λ y. IsPast (fraction_size (ℚ.mul one y))) e p)

      scaled_fits : IsPastScaled one form → ⊥
      scaled_fits s = number s.number
          (elim s.within [ inl e ↦ ap (λ (t : List ℕ × Fraction). t.1) e | inr n ↦ absurd n ])
          s.past

      at : (place : ℕ) → place < 1 → IsPastVariable (row_at rows place) (form ∷ []) → ⊥
      at zero l (inl (inl (inl s))) = scaled_fits s
      at zero l (inl (inl (inr h))) = h
      at zero l (inl (inr p)) = mixed_fits p
      at zero l (inr p) = part_fits p
      at (suc i) l p = omega (arith, l)

module _ (c : Fraction) (base : List ℕ) (narrow : IsNarrow c) where
  before_row : IsPastRow 1 (one ∷ []) (matrix_of c) → ⊥
  before_row r = at r.place r.within r.past
    where
      at : (place : ℕ) → place < 1 → IsPastDot (one ∷ []) (numbers_at place (matrix_of c)) → ⊥
      at zero l p = narrow.before p
      at (suc i) l p = omega (arith, l)

  behind_row : IsPastRow 1 (c ∷ []) rows → ⊥
  behind_row r = at r.place r.within r.past
    where
      at : (place : ℕ) → place < 1 → IsPastDot (c ∷ []) (numbers_at place rows) → ⊥
      at zero l p = narrow.behind p
      at (suc i) l p = omega (arith, l)

  product_own : (out : List Fraction) → IsProduct 1 (one ∷ []) (matrix_of c) out → out ≡ c ∷ []
  unfolding sum_of_products
  product_own [] p = absurd (let s = p.size in omega (arith, s))
  product_own (x ∷ []) p = ap (λ y. y ∷ []) (p.each 0 (omega arith) ∙ form_own ℚ_ring c)
  product_own (x ∷ y ∷ out) p = absurd (let s = p.size in omega (arith, s))

  -- ---- the inhomogeneity of its form is 0
  pub before_fits : IsPastBefore (one ∷ []) (matrix_of c) rows [] → ⊥
  before_fits (turned_past p) = before_row p
  before_fits (back_past t is p) = behind_row (subst (λ t. IsPastRow 1 t rows) (product_own t is) p)
  before_fits (before by is p) = none_past by p

  module _ (polys : List (Terms Fraction)) where
    moved_none : part_by_forms base 1 (one ∷ []) nothing polys ≡ []
    unfolding collect scale_terms evaluate sum_over
    moved_none = refl

    moved_fits : IsPastMoved (one ∷ []) nothing polys → ⊥
    unfolding collect scale_terms evaluate sum_over composition_weight composition_degrees weight
    moved_fits (inl (inl (inl s))) = s.within
    moved_fits (inl (inl (inr h))) = h
    moved_fits (inl (inr p)) = fits (size 0 1) (omega arith) (omega arith) p
    moved_fits (inr (inl p)) = fits (size 0 1) (omega arith) (omega arith) p
    moved_fits (inr (inr h)) = h (λ i l. omega arith)

    both_none : (by : List Fraction) → both base 1 (one ∷ []) nothing polys by [] ≡ []
    unfolding collect
    both_none by = ap (λ p. collect_terms (p ++ part by [])) moved_none
        ∙ ap collect_terms (part_of_none by)

    pub inhomogeneity_none : (q : Terms Fraction) → IsInhomogeneity base 1 (one ∷ []) nothing polys
        (matrix_of c)
        rows [] q
        → q ≡ []
    unfolding collect
    inhomogeneity_none q s =
        s.terms ∙ ap (λ p. collect_terms (with_normal_keys (length base) p)) (both_none s.by)

    pub inhomogeneity_fits : IsPastInhomogeneity base 1 (one ∷ []) nothing polys (matrix_of c) rows
        [] → ⊥
    inhomogeneity_fits (moved_past p) = moved_fits p
    inhomogeneity_fits (before_past p) = before_fits p
    inhomogeneity_fits (sum_past by is p) =
        sum_none (subst (λ x. IsPastSum fractions x []) moved_none
        (subst (IsPastSum fractions (part_by_forms base 1 (one ∷ []) nothing polys))
        (part_of_none by) p))
    inhomogeneity_fits (normal_past by is p) =
        weight_none (subst (λ x. IsPast (weight fraction_size x)) (both_none by) p)

-- ---- where the number isn't 0
module _ (c : Fraction) (base key : List ℕ) (known : IsScaled c base key)
    (narrow : IsNarrow c) where
  abbrev at_start : Ahead
  at_start = ahead_of (scaled c) (0 ∷ []) 0

  module _ (polys : List (Terms Fraction)) where
    -- ---- what is solved is the form itself
    whole_is : (p : Terms Fraction) → IsWhole base 1 (one ∷ []) (0 ∷ []) c [] p
        → (e : List ℕ) × (p ≡ (e, one) ∷ [])
    whole_is p w =
        let x = power_key w.negative w.exponents in (
          with_key 0 x (unit 1 0),
          w.terms ∙ ap (λ s. homogeneous_part 1 x (one ∷ []) (0 ∷ []) ++ s) w.are,
        )

    solved_fits : IsPastSolved base 1 (one ∷ []) (0 ∷ []) c [] → ⊥
    solved_fits (term_past a) = a.within
    solved_fits (whole_past p w past) =
        let is = whole_is p w in
        single_fits is.0 (subst (λ x. IsPast (weight fraction_size x)) is.1 past)
    solved_fits (made_past p w past) =
        let is = whole_is p w in
        single_fits is.0
        (subst (λ x. IsPast (weight fraction_size x)) (ap collect_terms is.1
        ∙ single_collected is.0) past)

    from_fits : (q : Terms Fraction) → q ≡ []
        → IsPastFrom base 1 (one ∷ []) (0 ∷ []) c at_start q → ⊥
    from_fits q e (at_once_past some none p) =
        solved_fits (subst (λ x. IsPastSolved base 1 (one ∷ []) (0 ∷ []) c x) e p)
    from_fits q e (there_past some iterations p) = iterations refl
    from_fits q e (later_past some iterations p) = iterations refl
    from_fits q e (one_later_past none p) = known.some none

    form_fits : IsPastForm base 1 (0 ∷ []) nothing polys (matrix_of c) rows at_start (one ∷ []) c []
        → ⊥
    form_fits (inhomogeneity_past p) = inhomogeneity_fits c base narrow polys p
    form_fits (making_past q is p) = from_fits q (inhomogeneity_none c base narrow polys q is) p

  normal_first : (y : Terms Fraction) → Each (IsNormalForm base grevlex 1) (y ∷ [])
      → IsNormalForm base grevlex 1 y
  unfolding Each
  normal_first y h = h.0

  done_is : (done : List (Terms Fraction)) → length done ≡ 1
      → AreDone base (scaled c) (0 ∷ []) rows done → done ≡ ((key, one) ∷ []) ∷ []
  done_is [] l d = absurd (omega (arith, l))
  done_is (y ∷ []) l d =
      ap (λ p. p ∷ []) (scaled_turned c base key known d.since y (normal_first y d.normal)
      (d.each 0 (omega arith)))
  done_is (y ∷ z ∷ done) l d = absurd (omega (arith, l))

  class_fits : (polys : List (Terms Fraction))
      → IsPastClass base (scaled c) 0 (0 ∷ []) rows (c ∷ []) polys → ⊥
  class_fits polys (inverse_past p) = inverse_fits p
  class_fits polys (form_past back b p) =
      form_at p.done p.few (subst
      (λ m. IsPastForm base 1 (0 ∷ []) nothing polys m back at_start
      (row_at rows (length p.done))
      (entries ℚ_field (c ∷ []) (length p.done)) p.done) (scaled_matrix c) p.past)
    where
      form_at : (done : List (Terms Fraction)) → length done < 1
          → IsPastForm base 1 (0 ∷ []) nothing polys (matrix_of c) back at_start
          (row_at rows (length done))
          (entries ℚ_field (c ∷ []) (length done)) done → ⊥
      form_at [] l h = form_fits polys
          (subst (λ k. IsPastForm base 1 (0 ∷ []) nothing polys (matrix_of c) k at_start (one ∷ [])
          c [])
          (back_is back b) h)
      form_at (y ∷ done) l h = omega (arith, l)
  class_fits polys (variable_past back b p) =
      variable_fits key p.done (done_is p.done p.all p.are)
      (subst (λ k. IsPastRowOf k p.done) (back_is back b) p.past)

  wide_class : (v : ℕ) → IsWideClass base (scaled c) 0 v → ⊥
  wide_class v f =
      let class = scaled_class_of c f.ready.first f.class f.ready.next.within f.ready.class in
      let here = subst (λ g. IsSplitInto (length g) (class_matrix (scaled c) g) f.forms f.values)
      class f.are in
      let single = here.single refl c (scaled_matrix c) in
      let zeros : zeros_in f.values ≡ 0 = ap zeros_in single.values_are ∙ zeros_none c known.some in
      class_fits f.polys
      (subst (λ vs. IsPastClass base (scaled c) 0 (0 ∷ []) rows vs f.polys) single.values_are
      (subst (λ fs. IsPastClass base (scaled c) 0 (0 ∷ []) fs f.values f.polys) single.forms_are
      (subst (λ g. IsPastClass base (scaled c) 0 g f.forms f.values f.polys) class f.past)))

  -- the value of its one class isn't 0
  no_zero : (split : Split) (g : List ℕ) → g ≡ 0 ∷ [] → IsSplitOf (scaled c) g split
      → zeros_in (fractions_of split.values.items) ≡ 0
  no_zero split g e s =
      let here = subst (λ g. IsSplitInto (length g) (class_matrix (scaled c) g)
      (rows_of split.forms.items) (fractions_of split.values.items)) e s.found in
      ap zeros_in (here.single refl c (scaled_matrix c)).values_are ∙ zeros_none c known.some

  zeros_are : (splits : List (Option Split)) → AreSplits (scaled c) splits
      → zeros_in (values_in splits) ≡ 0
  zeros_are [] a = refl
  zeros_are (None ∷ splits) a =
      let s = (a.each 0 None (omega arith)).every (0 ∷ []) (scaled_is c) refl in
      absurd (let e = s.1 in cc)
  zeros_are (Some split ∷ splits) a =
      let count = a.count in
      let o = (a.each 0 None (omega arith)).only split refl in
      none splits (omega (arith, count)) split (no_zero split o.0 (scaled_class c o.0 o.1) o.3)
    where
      none : (splits : List (Option Split)) → length splits ≡ 0 → (split : Split)
          → zeros_in (fractions_of split.values.items) ≡ 0
          → zeros_in (values_in (Some split ∷ splits)) ≡ 0
      none [] l split e = ap zeros_in (append-nil (fractions_of split.values.items)) ∙ e
      none (s ∷ splits) l split e = absurd (omega (arith, l))

  wide_fits : (v : ℕ) → IsWideForm base (scaled c) 0 v → ⊥
  wide_fits v (state_past e p) = let l = p.before in omega (arith, l)
  wide_fits v (class_past d) = wide_class v d
  wide_fits v (iteration_past t) = let l = t.before in omega (arith, l)

  pub scaled_unrefused : (r : Refusal) → IfFormRefused (scaled c) r → ⊥
  scaled_unrefused (not_solvable cycle) h = scaled_solvable c cycle h.cycle
  scaled_unrefused (eigenvalues class) h =
      h.1.0 (subst (λ g. SplitsAt (length g) (class_matrix (scaled c) g))
      (sym (scaled_class c class h.0.is)) (scaled_splits c))
  scaled_unrefused (range class sum) h =
      let some = subst (λ g. 2 ≤ length g) (scaled_class c class h.0.is) h.1.0 in
      omega (arith, some)
  scaled_unrefused (wide_split class candidate power row) h =
      let some = subst (λ g. 2 ≤ length g) (scaled_class c class h.0.is) h.1.0 in
      omega (arith, some)
  scaled_unrefused (limit_form variable) h =
      long_or_short (scaled c) (scaled_bounded c) variable h.long (scaled_short c)
  scaled_unrefused (wide_form variable) h =
      wide_fits variable
      (subst (λ z. IsWideForm base (scaled c) z variable)
      (sym h.later.are.count ∙ zeros_are h.later.are.splits h.later.are.are)
      (subst (λ b. IsWideForm b (scaled c) h.later.zeros variable)
      (scaled_base c base key known h.later.base h.later.is) h.later.wide))
