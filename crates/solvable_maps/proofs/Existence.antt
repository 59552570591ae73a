-- A solvable map whose classes have forms, with values that are 0 or numbers of s, u and v, has a closed form from some number of iterations on: 0, where no value is 0.
--   after d                the state after d iterations, in the variables
--   forms_exist            the forms of a class, one after another
--   variable_exists        a variable of the class
--   class_exists           the polynomials of the class in their places
--   map_exists             class by class
use Rattle.std.proofs.Common.{◌≡◌, ◌≢◌, inl, inr, ℕ, zero, suc, ◌+◌, ◌<◌, ◌≤◌, List, [], ◌∷◌, ◌++◌, map, length, refl, sym, ap, ap₂, subst, ◌∙◌, arith}
use Rattle.std.proofs.lemmas.Bool.{cases_lt}
use Rattle.std.proofs.lemmas.List.{length-map}
use Rattle.algebra.specs.Each.{Each}
use Rattle.algebra.specs.In.{In}
use Rattle.algebra.specs.Ring.{CommRing, Field}
use Rattle.algebra.proofs.Each.{each-append, each-left, each-map, each-right, each_weaker, map_same}
use Rattle.algebra.proofs.FieldLaws as FL
use Rattle.algebra.proofs.In.{each_from}
use Rattle.algebra.specs.Fraction.{Fraction, ℚ}
use Rattle.algebra.proofs.Fractions.{ℚ_ring, ℚ_field}
use Rattle.solvable_maps.specs.Dependency.{IsNonlinearCycle}
use Rattle.solvable_maps.specs.Class.{AreClasses, AreWhole, IsClassOf, IsNext}
use Rattle.solvable_maps.specs.Uses.{uses, strongly, poly_at, IsMap}
use Rattle.solvable_maps.proofs.Classes.{member_dec}
use Rattle.exponentials.specs.Base.{Coprime}
use Rattle.polynomials.specs.Exponent.{unit_exponents}
use Rattle.polynomials.specs.Terms.{Terms, constant, variables, combination, compose, sum_of_products, value_at}
use Rattle.polynomials.specs.Polynomial.{AllArity, Arity}
use Rattle.polynomials.proofs.Arity.{arity-append, arity-combination, arity-compose, arity-constants, arity-variables, length-units}
use Rattle.polynomials.proofs.ValueAt.{value_at-append, value_at-combination, value_at-compose, value_at-variables, values_at-constants}
use Rattle.vectors.specs.Lists.{entries, row_of}
use Rattle.vectors.specs.Matrices.{times_matrix, with_values}
use Rattle.vectors.specs.Rows.{Row, rows_of}
use Rattle.vectors.specs.Space.{Space, combine, IsCombination}
use Rattle.vectors.specs.SplitForms.{of_value, AreSplitForms}
use Rattle.vectors.specs.Splitting.{shift, vectors_of}
use Rattle.vectors.proofs.Combinations as C
use Rattle.vectors.proofs.Independence as Independence
use Rattle.vectors.proofs.ListLaws.{below-entry}
use Rattle.vectors.proofs.RowLaws.{all_units, all_units-all, all_units-length}
use Rattle.vectors.proofs.VectorRing.{scalar, vector, vector_rules, vectors, vfrom}
use Rattle.solvable_maps.specs.Classes.{class_matrix, IsClass}
use Rattle.solvable_maps.specs.Expo.{power_key}
use Rattle.solvable_maps.specs.Inverse.{unit_list}
use Rattle.solvable_maps.specs.Splits.{HasForms, IsOfBase}
use Rattle.solvable_maps.specs.AfterIterations.{form_at, place, rest_of, rests_at, AreAfterIterations, Done, IsSplit, IsAfterIterations, IsFormAfterIterations, rows_done, values_done}
use Rattle.solvable_maps.specs.Iterations.{point, iterations, values_at, width, IsClosedFormFrom}
use Rattle.solvable_maps.proofs.ClassSteps.{later_form_turned, rests_turned, values-entry, variable_turned, zero_form_turned}
use Rattle.solvable_maps.proofs.Classwise.{later_form, later_turned, next_apart, next_is_class, turned_all, turned_more, turned_none, whole_more}
use Rattle.solvable_maps.proofs.Eigenvalues.{firsts, firsts-entry, firsts-length, of_value-within, vectors-append}
use Rattle.solvable_maps.proofs.Made.{in_place}
use Rattle.solvable_maps.proofs.Realized as Realized
use Rattle.solvable_maps.proofs.Solving.{fits_down, fits_up, number-is}

abbrev F : Field Fraction
F = ℚ_field

abbrev R : CommRing Fraction
R = ℚ_ring

-- ---- lists from functions
firsts-poly : (n : ℕ) (f : ℕ → Terms Fraction) (i : ℕ) → i < n → poly_at (firsts n f) i ≡ f i
firsts-poly zero f i l = absurd (omega (arith, l))
firsts-poly (suc n) f zero l = refl
firsts-poly (suc n) f (suc i) l = firsts-poly n (λ i. f (suc i)) i (omega (arith, l))

firsts-arity : (k n : ℕ) (f : ℕ → Terms Fraction) → ((i : ℕ) → Arity k (f i))
    → AllArity k (firsts n f)
unfolding Each
firsts-arity k zero f a = tt
firsts-arity k (suc n) f a = (a 0, firsts-arity k n (λ i. f (suc i)) (λ i. a (suc i)))

poly-past : (ps : List (Terms Fraction)) (i : ℕ) → length ps ≤ i → poly_at ps i ≡ []
poly-past [] i l = refl
poly-past (p ∷ ps) zero l = absurd (omega (arith, l))
poly-past (p ∷ ps) (suc i) l = poly-past ps i (omega (arith, l))

poly-arity : (k : ℕ) (ps : List (Terms Fraction)) → AllArity k ps → (i : ℕ) → Arity k (poly_at ps i)
unfolding Each
poly-arity k [] a i = tt
poly-arity k (p ∷ ps) a zero = a.0
poly-arity k (p ∷ ps) a (suc i) = poly-arity k ps a.1 i

pub map-two : {X Y Z : Type 0} (f : X → Y) (g : Y → Z) (xs : List X)
    → map g (map f xs) ≡ map (λ x. g (f x)) xs
map-two f g [] = refl
map-two f g (x ∷ xs) = ap (λ l. g (f x) ∷ l) (map-two f g xs)

-- ---- a sum with numbers
abbrev pub weighted : ℕ → List Fraction → List (Terms Fraction) → Terms Fraction
weighted k w qs = combination ℚ (map (constant k) w) qs

pub weighted-value : (k : ℕ) (w : List Fraction) (qs : List (Terms Fraction)) (z : List Fraction)
    → value_at ℚ (weighted k w qs) z ≡ sum_of_products ℚ w (map (λ q. value_at ℚ q z) qs)
weighted-value k w qs z = value_at-combination R (map (constant k) w) qs z
    ∙ ap (λ x. sum_of_products ℚ x (map (λ q. value_at ℚ q z) qs)) (values_at-constants R k w z)

pub weighted-arity : (k : ℕ) (w : List Fraction) (qs : List (Terms Fraction)) → AllArity k qs
    → Arity k (weighted k w qs)
weighted-arity k w qs a = arity-combination k ℚ (map (constant k) w) qs (arity-constants k w) a

module _ (base : List ℕ) (c : Coprime base) (images : List (Terms Fraction))
    (is : IsMap (length images) images)
    (none : (vs : List ℕ) → IsNonlinearCycle (uses images) (strongly images) vs → ⊥) where
  abbrev m : ℕ
  m = length images

  abbrev W : ℕ
  W = width (length base) m

  -- ---- the state after d iterations
  abbrev after : ℕ → List (Terms Fraction)
  after zero = variables ℚ m
  after (suc d) = map (λ p. compose ℚ m p (after d)) images

  composed : (ps qs : List (Terms Fraction)) (s : List Fraction)
      → values_at (map (λ p. compose ℚ m p qs) ps) s ≡ values_at ps (values_at qs s)
  composed [] qs s = refl
  composed (p ∷ ps) qs s = ap₂ ◌∷◌ (value_at-compose R m p qs s) (composed ps qs s)

  after-values : (d : ℕ) (s : List Fraction) → length s ≡ m → values_at (after d) s
      ≡ iterations images d s
  after-values zero s l = value_at-variables R m s l
  after-values (suc d) s l = composed images (after d) s
      ∙ ap (values_at images) (after-values d s l)

  composed-arity : (ps qs : List (Terms Fraction)) → AllArity m qs
      → AllArity m (map (λ p. compose ℚ m p qs) ps)
  unfolding Each
  composed-arity [] qs a = tt
  composed-arity (p ∷ ps) qs a = (arity-compose m ℚ p qs a, composed-arity ps qs a)

  after-arity : (d : ℕ) → AllArity m (after d)
  after-arity zero = arity-variables m ℚ
  after-arity (suc d) = composed-arity images (after d) (after-arity d)

  after-length : (d : ℕ) → length (after d) ≡ m
  unfolding variables
  after-length zero = length-map (unit_exponents m) (λ e. (e, ℚ.one) ∷ []) ∙ length-units m
  after-length (suc d) = length-map images (λ p. compose ℚ m p (after d))

  -- a form of it
  abbrev form_after : List Fraction → List ℕ → ℕ → Terms Fraction
  form_after w g d = weighted m w (map (poly_at (after d)) g)

  form_after-arity : (w : List Fraction) (g : List ℕ) (d : ℕ) → Arity m (form_after w g d)
  form_after-arity w g d = weighted-arity m w (map (poly_at (after d)) g)
      (each-map (Arity m) (poly_at (after d)) g (each_from g (λ j i.
      poly-arity m (after d) (after-arity d) j)))

  form_after-value : (w : List Fraction) (g : List ℕ) → Each (λ j. j < m) g → (d : ℕ)
      → (s : List Fraction) → length s ≡ m
      → value_at ℚ (form_after w g d) s ≡ form_at w g (iterations images d s)
  form_after-value w g within d s l =
      weighted-value m w (map (poly_at (after d)) g) s
      ∙ ap (sum_of_products ℚ w)
      (map-two (poly_at (after d)) (λ q. value_at ℚ q s) g
      ∙ map_same (λ j. value_at ℚ (poly_at (after d) j) s) (entries F (iterations images d s)) g
      (each_weaker (λ j. j < m) (λ j. value_at ℚ (poly_at (after d) j) s
      ≡ entries F (iterations images d s) j) (λ j b.
      sym (values-entry (after d) s j (let e = after-length d in omega (arith, e, b)))
      ∙ ap (λ x. entries F x j) (after-values d s l)) g within))

  -- ---- one class
  number_is : (x : Fraction) → IsOfBase base x → Realized.IsNumber base c m x
  number_is x h = record {
    key = power_key h.negative h.by;
    up = fits_up base h.by h.size;
    down = fits_down base h.by h.size;
    is = number-is base h.negative h.by ∙ h.is;
  }

  module _ (since k : ℕ) (earlier g : List ℕ) (next : IsNext (uses images) m earlier k)
      (of : IsClassOf (uses images) m k g) (ps : List (Terms Fraction))
      (known : AreAfterIterations base images since earlier ps) (arity : AllArity W ps) where
    abbrev n : ℕ
    n = length g

    abbrev S : Space ℚ_ring (Row F n)
    S = rows_of F n

    abbrev T : Row F n → Row F n
    T v = times_matrix n (class_matrix images g) v

    the_class : IsClass images g
    the_class = next_is_class images earlier g k next of

    within : Each (λ j. j < m) g
    within = each_from g (λ j i. (of.inside j i).0)

    -- what a form has of earlier variables and of forms before it
    abbrev rest_poly : List Fraction → Terms Fraction
    rest_poly w = weighted m w (map (λ i. rest_of g (poly_at images i)) g)

    rest_poly-value : (w x : List Fraction) → value_at ℚ (rest_poly w) x ≡ sum_of_products ℚ w
        (rests_at images g x)
    rest_poly-value w x = weighted-value m w (map (λ i. rest_of g (poly_at images i)) g) x
        ∙ ap (sum_of_products ℚ w) (map-two (λ i. rest_of g (poly_at images i))
        (λ q. value_at ℚ q x) g)

    abbrev inhomogeneity : List Fraction → List Fraction → Done → Terms Fraction
    inhomogeneity w by before = compose ℚ W (rest_poly w) ps ++ weighted W by
        (map (λ t. t.1) before)

    abbrev AllDone : ℕ → Done → Type 0
    AllDone z before = Each (λ t. IsFormAfterIterations base images (since + z) g t.0 t.1) before

    abbrev AllWide : Done → Type 0
    AllWide before = Each (λ t. Arity W t.1) before

    inhomogeneity-arity : (w by : List Fraction) (before : Done) → AllWide before
        → Arity W (inhomogeneity w by before)
    inhomogeneity-arity w by before a = arity-append W (compose ℚ W (rest_poly w) ps)
        (weighted W by (map (λ t. t.1) before)) (arity-compose W ℚ (rest_poly w) ps arity)
        (weighted-arity W by (map (λ t. t.1) before)
        (each-map (Arity W) (λ (t : List Fraction × Terms Fraction). t.1) before a))

    inhomogeneity-value : (z : ℕ) (w by : List Fraction) (before : Done) (i : ℕ) (s : List Fraction)
        → length s ≡ m → since + z ≤ i → value_at ℚ (inhomogeneity w by before) (point base i s)
        ≡ ℚ.add (sum_of_products ℚ w (rests_at images g (iterations images i s)))
        (sum_of_products ℚ by (values_done before (point base i s)))
    inhomogeneity-value z w by before i s size late =
        value_at-append R (compose ℚ W (rest_poly w) ps) (weighted W by (map (λ t. t.1) before))
        (point base i s)
        ∙ ap₂ ℚ.add
        (rests_turned base images (since + z) is earlier k g next of ps
        (later_turned base images since (since + z) (omega arith) earlier ps known) i s size late w
        (rest_poly w) W (rest_poly-value w))
        (weighted-value W by (map (λ t. t.1) before) (point base i s)
        ∙ ap (sum_of_products ℚ by) (map-two (λ (t : List Fraction × Terms Fraction). t.1)
        (λ q. value_at ℚ q (point base i s)) before))

    -- ---- the forms one after another
    abbrev Covered : Done → List (Row F n × Fraction) → Type 0
    Covered forms seen = Each (IsCombination S (rows_done n forms)) (vectors_of seen)

    pub record Forms (z : ℕ) (seen all : List (Row F n × Fraction)) (values : List Fraction) : Type
        0 where
      pub zeros : ℕ
      pub forms : Done
      pub done : AllDone zeros forms
      pub wide : AllWide forms
      pub seen_covered : Covered forms seen
      pub covered : Covered forms all
      pub stays : Each (λ l. l ≢ ℚ.zero) values → z ≡ 0 → zeros ≡ 0

    abbrev MadeOf : List Fraction → Fraction → Done → Type 0
    MadeOf w l before = (by : List Fraction) × IsSplit images g before w l by

    split_by : (w : List Fraction) (l : Fraction) (seen : List (Row F n × Fraction))
        (before : Done) → Covered before seen
        → IsCombination S (of_value F l seen) (shift S T l (row_of F n w)) → MadeOf w l before
    split_by w l seen before cover made = (
      firsts (length (rows_done n before)) d.0,
      record {
        is = turned
            ∙ ap (S.add (S.scale l (row_of F n w))) (C.combine-same S d.0
            (entries F (firsts (length (rows_done n before)) d.0)) (rows_done n before)
            (λ i b. sym (firsts-entry (length (rows_done n before)) d.0 i b)));
      },
    )
      where
        d : IsCombination S (rows_done n before) (shift S T l (row_of F n w))
        d = C.combination-trans S (rows_done n before) (vectors_of seen)
            (shift S T l (row_of F n w)) cover
            (C.combination-trans S (vectors_of seen) (of_value F l seen)
            (shift S T l (row_of F n w)) (of_value-within F S T l seen) made)

        turned : T (row_of F n w) ≡ S.add (S.scale l (row_of F n w))
            (combine S d.0 (rows_done n before))
        turned = vfrom S d.1 (vectors S (scalar S l ∷ vector S (row_of F n w)
            ∷ vector S (T (row_of F n w))
            ∷ vector S (combine S d.0 (rows_done n before)) ∷ []) (search vector_rules depth 40)
            refl)

    pub record Step (z : ℕ) (before : Done) (w : List Fraction) (l : Fraction) : Type 0 where
      pub zeros : ℕ
      pub poly : Terms Fraction
      pub wide : Arity W poly
      pub done : AllDone zeros ((w, poly) ∷ before)
      pub stays : l ≢ ℚ.zero → zeros ≡ z

    all_later : (z : ℕ) (forms : Done) → AllDone z forms → AllDone (suc z) forms
    all_later z forms h = each_weaker _ _ (λ (t : List Fraction × Terms Fraction) d.
        later_form base images (since + z) (since + suc z) (omega arith) g t.0 t.1 d) forms h

    form_step : (z : ℕ) (before : Done) → AllDone z before → AllWide before
        → (w : List Fraction) → length w ≡ n → (l : Fraction)
        → (l ≢ ℚ.zero → IsOfBase base l) → MadeOf w l before → Step z before w l
    unfolding Each
    form_step z before done wide w size l number (by, splits) = elim (FL.dec_zero F l) [
      | yes e ↦ nothing e (Realized.solved base c m l q q_wide)
      | no ne ↦ something ne (Realized.with_value base c m l (number_is l (number ne)) q q_wide
          (since + z + 0) (form_after w g (since + z + 0)) (form_after-arity w g (since + z + 0)))
    ]
      where
        q : Terms Fraction
        q = inhomogeneity w by before

        q_wide : Arity W q
        q_wide = inhomogeneity-arity w by before wide

        nothing : l ≡ ℚ.zero → Realized.IsSolved base c m l q → Step z before w l
        nothing e y = record {
          zeros = suc z;
          poly = y.poly;
          wide = y.arity;
          done = (
            (let one : suc (since + z) ≡ since + suc z = omega arith in
                subst (λ d. IsFormAfterIterations base images d g w y.poly) one
                (zero_form_turned base images (since + z) is none g the_class before done w size l
                by splits q (λ i s b late. inhomogeneity-value z w by before i s b late) e
                (λ s. value_at ℚ y.poly (point base 0 s)) y.poly
                (Realized.recurrence base c m l q y))),
            all_later z before done,
          );
          stays = λ ne. absurd (ne e);
        }

        something : l ≢ ℚ.zero
            → Realized.HasValue base c m l q (since + z + 0) (form_after w g (since + z + 0))
            → Step z before w l
        something ne y = record {
          zeros = z;
          poly = y.solution.poly;
          wide = y.solution.arity;
          done = (
            later_form_turned base images (since + z) is none g the_class before done w size l
                by splits q (λ i s b late. inhomogeneity-value z w by before i s b late) ne
                (λ s. value_at ℚ y.solution.poly (point base 0 s)) y.solution.poly
                (Realized.recurrence base c m l q y.solution) 0
                (record { is = λ s b. y.is s b ∙ form_after-value w g within (since + z + 0) s b }),
            done,
          );
          stays = λ ne. refl;
        }

    forms_exist : (fs : List (List Fraction)) (vs : List Fraction) → length vs ≡ length fs
        → Each (λ w. length w ≡ n) fs → Each (λ l. l ≢ ℚ.zero → IsOfBase base l) vs
        → (seen : List (Row F n × Fraction)) → AreSplitForms F S T seen (with_values n fs vs)
        → (z : ℕ) (before : Done) → AllDone z before → AllWide before → Covered before seen
        → Forms z seen (with_values n fs vs) vs
    unfolding Each
    forms_exist [] vs e widths numbers seen split z before done wide cover = record {
      zeros = z;
      forms = before;
      done = done;
      wide = wide;
      seen_covered = cover;
      covered = tt;
      stays = λ h k. k;
    }
    forms_exist (w ∷ fs) [] e widths numbers seen split z before done wide cover =
        absurd (omega (arith, e))
    forms_exist (w ∷ fs) (l ∷ vs) e widths numbers seen split z before done wide cover =
        go (form_step z before done wide w widths.0 l numbers.0
        (split_by w l seen before cover split.0))
        (λ y more. forms_exist fs vs (omega (arith, e)) widths.1 numbers.1
        (seen ++ ((row_of F n w, l) ∷ [])) split.1 y.zeros ((w, y.poly) ∷ before) y.done
        (y.wide, wide) more)
      where
        item : Row F n × Fraction
        item = (row_of F n w, l)

        seen_more : vectors_of (seen ++ (item ∷ [])) ≡ vectors_of seen ++ (row_of F n w ∷ [])
        seen_more = vectors-append F S T seen (item ∷ [])

        covered_more : (y : Terms Fraction) → Covered ((w, y) ∷ before) (seen ++ (item ∷ []))
        covered_more y =
            subst (Each (IsCombination S (row_of F n w ∷ rows_done n before))) (sym seen_more)
            (each-append (IsCombination S (row_of F n w ∷ rows_done n before)) (vectors_of seen)
            (row_of F n w ∷ [])
            (each_weaker (IsCombination S (rows_done n before))
            (IsCombination S (row_of F n w ∷ rows_done n before))
            (λ v. C.combination-more S (row_of F n w) (rows_done n before) v) (vectors_of seen)
            cover)
            (C.combination-first S (row_of F n w) (rows_done n before), tt))

        last : (y : Step z before w l) → Forms y.zeros (seen ++ (item ∷ [])) (with_values n fs vs)
            vs
            → Forms z seen (with_values n (w ∷ fs) (l ∷ vs)) (l ∷ vs)
        last y r =
            let both : Each (IsCombination S (rows_done n r.forms))
            (vectors_of seen ++ (row_of F n w ∷ [])) =
            subst (Each (IsCombination S (rows_done n r.forms))) seen_more r.seen_covered in
            record {
              zeros = r.zeros;
              forms = r.forms;
              done = r.done;
              wide = r.wide;
              seen_covered = each-left (IsCombination S (rows_done n r.forms))
                  (vectors_of seen) (row_of F n w ∷ []) both;
              covered = (
                (each-right (IsCombination S (rows_done n r.forms)) (vectors_of seen)
                    (row_of F n w ∷ []) both).0,
                r.covered,
              );
              stays = λ h k. r.stays h.1 (y.stays h.0 ∙ k);
            }

        go : Step z before w l → ((y : Step z before w l)
            → Covered ((w, y.poly) ∷ before) (seen ++ (item ∷ []))
            → Forms y.zeros (seen ++ (item ∷ [])) (with_values n fs vs) vs)
            → Forms z seen (with_values n (w ∷ fs) (l ∷ vs)) (l ∷ vs)
        go y rest = last y (rest y (covered_more y.poly))

    -- ---- the variables
    pub record ClassMade (new : ℕ) (values : List Fraction) : Type 0 where
      pub polys : List (Terms Fraction)
      pub are : AreAfterIterations base images (since + new) (earlier ++ g) polys
      pub wide : AllArity W polys
      pub stays : Each (λ l. l ≢ ℚ.zero) values → new ≡ 0

    module _ (split : HasForms base images g) (whole : AreWhole (uses images) m earlier) where
      abbrev all_forms : List (Row F n × Fraction)
      all_forms = with_values n split.forms split.values

      vectors-length : (fs : List (List Fraction)) (vs : List Fraction) → length vs ≡ length fs
          → length (vectors_of (with_values n fs vs)) ≡ length fs
      vectors-length [] vs e = refl
      vectors-length (f ∷ fs) [] e = absurd (omega (arith, e))
      vectors-length (f ∷ fs) (v ∷ vs) e = ap suc (vectors-length fs vs (omega (arith, e)))

      same_count : length split.values ≡ length split.forms
      same_count = split.are.value_count ∙ sym split.are.count

      -- each row is a sum of the forms
      any_row : (made : Forms 0 [] all_forms split.values) (v : Row F n)
          → IsCombination S (rows_done n made.forms) v
      any_row made v = C.combination-trans S (rows_done n made.forms) (vectors_of all_forms) v
          made.covered
          (Independence.independent-all F S (all_units F n) (vectors_of all_forms)
          (each_from (vectors_of all_forms) (λ u i. all_units-all F n u)) split.are.independent
          (vectors-length split.forms split.values same_count ∙ split.are.count
          ∙ sym (all_units-length F n)) v (all_units-all F n v))

      module _ (made : Forms 0 [] all_forms split.values) where
        abbrev variable : (a : ℕ) → Terms Fraction
        variable a = weighted W
            (firsts (length (rows_done n made.forms)) (any_row made (row_of F n (unit_list n a))).0)
            (map (λ t. t.1) made.forms)

        variable-arity : (a : ℕ) → Arity W (variable a)
        variable-arity a = weighted-arity W
            (firsts (length (rows_done n made.forms)) (any_row made (row_of F n (unit_list n a))).0)
            (map (λ t. t.1) made.forms)
            (each-map (Arity W) (λ (t : List Fraction × Terms Fraction). t.1) made.forms made.wide)

        variable_is : (a : ℕ) → a < n
            → IsAfterIterations base images (since + made.zeros) (place g a) (variable a)
        variable_is a low =
            variable_turned base images (since + made.zeros) is none g the_class made.forms
            made.done a low (firsts (length (rows_done n made.forms)) d.0)
            (λ i b.
            ap (λ (v : Row F n). v.0 i) (sym (d.1 ∙ C.combine-same S d.0
            (entries F (firsts (length (rows_done n made.forms)) d.0)) (rows_done n made.forms)
            (λ i b. sym (firsts-entry (length (rows_done n made.forms)) d.0 i b))))
            ∙ below-entry F n (entries F (unit_list n a)) i b)
            (variable a)
            (λ i s size late. weighted-value W (firsts (length (rows_done n made.forms)) d.0)
            (map (λ t. t.1) made.forms) (point base i s)
            ∙ ap (sum_of_products ℚ (firsts (length (rows_done n made.forms)) d.0))
            (map-two (λ (t : List Fraction × Terms Fraction). t.1)
            (λ q. value_at ℚ q (point base i s)) made.forms))
          where
            d : IsCombination S (rows_done n made.forms) (row_of F n (unit_list n a))
            d = any_row made (row_of F n (unit_list n a))

        -- what stands at each place
        pub record Placed (i : ℕ) : Type 0 where
          pub poly : Terms Fraction
          pub wide : Arity W poly
          pub new : In i g → IsAfterIterations base images (since + made.zeros) i poly
          pub old : (In i g → ⊥) → poly ≡ poly_at ps i

        placed : (i : ℕ) → Placed i
        placed i = elim (member_dec i g) [
          | yes h ↦ let r = in_place g i h in record {
            poly = variable r.0;
            wide = variable-arity r.0;
            new = λ h. subst (λ j. IsAfterIterations base images (since + made.zeros) j
                (variable r.0))
                r.2
                (variable_is r.0 r.1);
            old = λ not. absurd (not h);
          }
          | no not ↦ record {
            poly = poly_at ps i;
            wide = poly-arity W ps arity i;
            new = λ h. absurd (not h);
            old = λ not. refl;
          }
        ]

        polys : List (Terms Fraction)
        polys = firsts m (λ i. (placed i).poly)

        class_made : ClassMade made.zeros split.values
        unfolding polys
        class_made = record {
          polys = polys;
          are = turned_more base images (since + made.zeros) earlier g ps polys
              (later_turned base images since (since + made.zeros) (omega arith) earlier ps known)
              (firsts-length m (λ i. (placed i).poly))
              (λ i h. subst (IsAfterIterations base images (since + made.zeros) i)
              (sym (firsts-poly m (λ i. (placed i).poly) i (of.inside i h).0)) ((placed i).new h))
              (λ i not. elim (cases_lt i m) [
                | inl l ↦ firsts-poly m (λ i. (placed i).poly) i l ∙ (placed i).old not
                | inr l ↦ poly-past polys i (let e = firsts-length m (λ i. (placed i).poly) in
                    omega (arith, e, l))
                    ∙ sym (poly-past ps i (let e = known.size in omega (arith, e, l)))
              ])
              (next_apart (uses images) m earlier g k whole next of);
          wide = firsts-arity W m (λ i. (placed i).poly) (λ i. (placed i).wide);
          stays = λ h. made.stays h refl;
        }

      class_exists : (new : ℕ) × ClassMade new split.values
      unfolding Each
      class_exists =
          let made : Forms 0 [] all_forms split.values = forms_exist split.forms split.values
          same_count split.are.widths split.numbers [] split.are.split 0 [] tt tt tt in
          (made.zeros, class_made made)

  -- ---- class by class
  module _ (splits : (g : List ℕ) → IsClass images g → HasForms base images g) where
    abbrev NoneIsZero : Type 0
    NoneIsZero = (g : List ℕ) (class : IsClass images g)
        → Each (λ l. l ≢ ℚ.zero) (splits g class).values

    pub record MapMade : Type 0 where
      pub since : ℕ
      pub polys : List (Terms Fraction)
      pub form : IsClosedFormFrom base images since polys
      pub stays : NoneIsZero → since ≡ 0

    classes_exist : (groups : List (List ℕ)) (earlier : List ℕ)
        → AreClasses (uses images) m earlier groups → AreWhole (uses images) m earlier
        → (since : ℕ) (ps : List (Terms Fraction)) → AreAfterIterations base images since earlier ps
        → AllArity W ps → (NoneIsZero → since ≡ 0) → MapMade
    classes_exist [] earlier all whole since ps known arity stays = record {
      since = since;
      polys = ps;
      form = turned_all base images since earlier ps all known arity;
      stays = stays;
    }
    classes_exist (g ∷ groups) earlier (k, next, of, rest) whole since ps known arity stays =
        go (class_exists since k earlier g next of ps known arity
        (splits g (next_is_class images earlier g k next of)) whole)
        (λ new made. classes_exist groups (earlier ++ g) rest
        (whole_more (uses images) m earlier g k whole of) (since + new) made.polys made.are
        made.wide (λ h. let a = stays h in
        let b = made.stays (h g (next_is_class images earlier g k next of)) in
        omega (arith, a, b)))
      where
        go : (new : ℕ) × ClassMade since k earlier g next of ps known arity new
            (splits g (next_is_class images earlier g k next of)).values
            → ((new : ℕ) → ClassMade since k earlier g next of ps known arity new
            (splits g (next_is_class images earlier g k next of)).values → MapMade) → MapMade
        go (new, made) more = more new made

    pub map_exists : (groups : List (List ℕ)) → AreClasses (uses images) m [] groups → MapMade
    unfolding Each
    map_exists groups all = classes_exist groups [] all
        (record { closed = λ i j h l cl. absurd h }) 0 (firsts m (λ i. []))
        (turned_none base images 0 (firsts m (λ i. [])) (firsts-length m (λ i. [])))
        (firsts-arity W m (λ i. []) (λ i. no_terms)) (λ h. refl)
      where
        no_terms : Arity {A = Fraction} W []
        no_terms = tt
