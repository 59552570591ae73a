-- A solvable map with a closed form from 0 on has no eigenvalue 0.
--   frozen t p             p, with the numbers of the state t for the variables
--   same_from_one          what is the same at two states from 1 on is the same at 0
--   Free j                 j isn't of the class, and uses nothing of it
--   free_iterations             states that are the same but for the class are the same there after n iterations
--   same_form              a form with the value 0 is the same at two states that are the same but for the class
--   never_zero             the law
use Rattle.std.proofs.Common.{◌≡◌, ◌≢◌, inl, inr, ℕ, zero, suc, ◌+◌, ◌<◌, Bool, true, false, T, List, [], ◌∷◌, ◌++◌, cond, eqb, map, length, take, refl, sym, ap, ap₂, subst, ◌∙◌, arith}
use Rattle.std.proofs.lemmas.Bool.{cases_lt, eqb-true}
use Rattle.std.proofs.lemmas.List.{length-map, map-append}
use lib.Dec.{eqb_refl}
use Rattle.algebra.specs.Each.{Each}
use Rattle.algebra.specs.In.{In}
use Rattle.algebra.specs.Arithmetic.{power}
use Rattle.algebra.specs.Ring.{CommRing, Field, of_nat, operations}
use Rattle.algebra.proofs.In.{each_from}
use Rattle.algebra.proofs.RingLaws as L
use Rattle.algebra.specs.Fraction.{Fraction, ℚ}
use Rattle.algebra.proofs.Fractions.{ℚ_ring, ℚ_field}
use Rattle.solvable_maps.specs.Dependency.{IsNonlinearCycle, Reaches}
use Rattle.solvable_maps.specs.Class.{Above, Ascends, InClass}
use Rattle.solvable_maps.specs.Uses.{any, has, uses, strongly, poly_at, IsMap}
use Rattle.solvable_maps.proofs.Linear.{any_in, any_out, map_bounded}
use Rattle.solvable_maps.proofs.Reach.{reaches_step, reaches_trans}
use Rattle.exponentials.specs.Base.{Coprime}
use Rattle.polynomials.specs.Terms.{Terms, constant, variables, compose, sum_of_products, value_at}
use Rattle.polynomials.proofs.Arity.{arity-compose}
use Rattle.polynomials.proofs.ValueAt.{value_at-compose, value_at-variables, values_at-constants}
use Rattle.vectors.specs.Lists.{below, entries, row_of}
use Rattle.vectors.proofs.EchelonKernel.{total-single}
use Rattle.vectors.proofs.ListLaws.{below-entry, entries-past}
use Rattle.vectors.specs.Rows.{rows_of}
use Rattle.solvable_maps.specs.Classes.{IsClass, IsEigenvalue, column}
use Rattle.solvable_maps.specs.AfterIterations.{form_at, mine, place, rest_of, rests_at, IsSplit, IsFormAfterIterations}
use Rattle.solvable_maps.specs.Iterations.{point, iterations, width, IsClosedForm}
use Rattle.solvable_maps.proofs.ClassSteps.{joined, place_in, rest_in, rest_lacks, together, total_form, values-entry, zero_form_turned}
use Rattle.solvable_maps.proofs.Eigenvalues.{as_row, each_zero, firsts, firsts-entry, firsts-length}
use Rattle.solvable_maps.proofs.Existence.{map-two, weighted, weighted-value}
use Rattle.solvable_maps.proofs.OneForm.{all_values}
use Rattle.solvable_maps.proofs.Operations.{point-append}
use Rattle.solvable_maps.proofs.Parts.{mine_in}
use Rattle.solvable_maps.proofs.Realized as Realized
use Rattle.solvable_maps.proofs.Inhomogeneities as Inhomogeneities
use Rattle.solvable_maps.proofs.Numbers.{point-is}
use Rattle.solvable_maps.proofs.Values.{at-length, iterations-length}
use Rattle.vectors.proofs.VectorRing as VR
use Rattle.algebra.proofs.Each.{map_same}
use Rattle.algebra.proofs.Basics.{to_true}

abbrev F : Field Fraction
F = ℚ_field

abbrev R : CommRing Fraction
R = ℚ_ring

take-map : {X Y : Type 0} (f : X → Y) (k : ℕ) (xs : List X) → map f (take k xs) ≡ take k (map f xs)
take-map f zero xs = refl
take-map f (suc k) [] = refl
take-map f (suc k) (x ∷ xs) = ap (λ l. f x ∷ l) (take-map f k xs)

take-first : {X : Type 0} (k : ℕ) (xs ys : List X) → length xs ≡ k → take k (xs ++ ys) ≡ xs
take-first zero [] ys e = refl
take-first zero (x ∷ xs) ys e = absurd (omega (arith, e))
take-first (suc k) [] ys e = absurd (omega (arith, e))
take-first (suc k) (x ∷ xs) ys e = ap (λ l. x ∷ l) (take-first k xs ys (omega (arith, e)))

-- ---- the places of a class are apart
above_place : (i : ℕ) (g : List ℕ) → Above i g → (b : ℕ) → b < length g → i < place g b
above_place i [] a b l = absurd (omega (arith, l))
above_place i (j ∷ g) a zero l = a.0
above_place i (j ∷ g) a (suc b) l = above_place i g a.1 b (omega (arith, l))

one_place : (g : List ℕ) → Ascends g → (a b : ℕ) → a < length g → b < length g
    → place g a ≡ place g b → a ≡ b
one_place [] h a b k l e = absurd (omega (arith, k))
one_place (i ∷ g) h zero zero k l e = refl
one_place (i ∷ g) h zero (suc b) k l e =
    absurd (let p = above_place i g h.0 b (omega (arith, l)) in omega (arith, e, p))
one_place (i ∷ g) h (suc a) zero k l e =
    absurd (let p = above_place i g h.0 a (omega (arith, k)) in omega (arith, e, p))
one_place (i ∷ g) h (suc a) (suc b) k l e =
    ap suc (one_place g h.1 a b (omega (arith, k)) (omega (arith, l)) e)

module _ (base : List ℕ) (c : Coprime base) (m : ℕ) where
  abbrev all_width : ℕ
  all_width = width (length base) m

  point-length : (k n : ℕ) (s : List Fraction) → length s ≡ k
      → length (point base n s) ≡ width (length base) k
  point-length k n s l = ap length (point-is base n s)
      ∙ at-length F base k s (of_nat R n) (power (operations R) (R.neg R.one) n)
      (λ b. power (operations R) (of_nat R b) n)
      (λ b. power (operations R) (F.inverse (of_nat R b)) n) l

  -- ---- a state in place of the variables
  abbrev numbers : ℕ
  numbers = width (length base) 0

  abbrev frozen : List Fraction → Terms Fraction → Terms Fraction
  frozen t p = compose ℚ all_width p
      (take numbers (variables ℚ all_width) ++ map (constant all_width) t)

  frozen-value : (t : List Fraction) (p : Terms Fraction) (n : ℕ) (s : List Fraction)
      → length s ≡ m → value_at ℚ (frozen t p) (point base n s) ≡ value_at ℚ p (point base n t)
  frozen-value t p n s l =
      value_at-compose R all_width p
      (take numbers (variables ℚ all_width) ++ map (constant all_width) t) (point base n s)
      ∙ ap (value_at ℚ p)
      (map-append (λ q. value_at ℚ q (point base n s)) (take numbers (variables ℚ all_width))
      (map (constant all_width) t)
      ∙ ap₂ ◌++◌
      (take-map (λ q. value_at ℚ q (point base n s)) numbers (variables ℚ all_width)
      ∙ ap (take numbers) (value_at-variables R all_width (point base n s) (point-length m n s l)
      ∙ sym (point-append base n s))
      ∙ take-first numbers (point base n []) s (point-length 0 n [] refl))
      (values_at-constants R all_width t (point base n s))
      ∙ point-append base n t)

  same_from_one : (p : Terms Fraction) (s t : List Fraction) → length s ≡ m
      → ((n : ℕ) → value_at ℚ p (point base (suc n) s) ≡ value_at ℚ p (point base (suc n) t))
      → value_at ℚ p (point base 0 s) ≡ value_at ℚ p (point base 0 t)
  same_from_one p s t l h =
      all_values base c m 1 p (frozen t p) s l (λ n.
      let e : 1 + n ≡ suc n = omega arith in
      ap (λ i. value_at ℚ p (point base i s)) e ∙ h n
      ∙ ap (λ i. value_at ℚ p (point base i t)) (sym e) ∙ sym (frozen-value t p (1 + n) s l)) 0
      ∙ frozen-value t p 0 s l

module _ (base : List ℕ) (c : Coprime base) (images : List (Terms Fraction))
    (is : IsMap (length images) images)
    (none : (vs : List ℕ) → IsNonlinearCycle (uses images) (strongly images) vs → ⊥)
    (ps : List (Terms Fraction)) (form : IsClosedForm base images ps) (g : List ℕ)
    (class : IsClass images g) where
  abbrev m : ℕ
  m = length images

  abbrev W : ℕ
  W = width (length base) m

  -- ---- what the class doesn't touch
  record Free (j : ℕ) : Type 0 where
    out : In j g → ⊥
    apart : (i : ℕ) → In i g → Reaches (uses images) j i → ⊥

  free_used : (j k : ℕ) → Free j → T (uses images j k) → Free k
  free_used j k f u = record {
    out = λ h. f.apart k h (reaches_step (uses images) j k u);
    apart = λ i h r. f.apart i h (reaches_trans (uses images) j k i
        (reaches_step (uses images) j k u) r);
  }

  rest_free : (i j : ℕ) → In i g → T (any (has j) (rest_of g (poly_at images i))) → Free j
  rest_free i j inside u = record { out = out; apart = apart }
    where
      found : (t : List ℕ × Fraction) × In t (rest_of g (poly_at images i)) × T (has j t.0)
      found = any_out (has j) (rest_of g (poly_at images i)) u

      used : T (uses images i j)
      used = any_in (has j) (poly_at images i) found.0
          (rest_in g (poly_at images i) found.0 found.1) found.2

      clash : (b : Bool) → b ≡ false → T b → ⊥
      clash b e h = subst T e h

      out : In j g → ⊥
      out h = clash (mine g found.0.0) (rest_lacks g (poly_at images i) found.0 found.1)
          (mine_in g found.0.0 j h found.2)

      around : (k : ℕ) → InClass (uses images) k i → Reaches (uses images) j k
          → Reaches (uses images) j i
      around k (inl e) r = subst (Reaches (uses images) j) e r
      around k (inr (p, q)) r = reaches_trans (uses images) j k i r p

      apart : (k : ℕ) → In k g → Reaches (uses images) j k → ⊥
      apart k h r = out (class.is.whole j (map_bounded m images is i j used).1
          (joined (uses images) class.of i j (class.is.inside i inside).1
          (inr (
            reaches_step (uses images) i j used,
            around k (together (uses images) class.of k i (class.is.inside k h).1
                (class.is.inside i inside).1) r,
          ))))

  -- ---- two states that are the same there
  module _ (s t : List Fraction) (size : length s ≡ m) (size' : length t ≡ m)
      (agree : (j : ℕ) → Free j → entries F s j ≡ entries F t j) where
    same_size : (n : ℕ) → length (iterations images n s) ≡ length (iterations images n t)
    same_size n = iterations-length ℚ images m refl n s size
        ∙ sym (iterations-length ℚ images m refl n t size')

    free_iterations : (n j : ℕ) → Free j
        → entries F (iterations images n s) j ≡ entries F (iterations images n t) j
    free_iterations zero j f = agree j f
    free_iterations (suc n) j f = elim (cases_lt j m) [
      | inl l ↦ values-entry images (iterations images n s) j l
          ∙ Inhomogeneities.value_used F (poly_at images j) (iterations images n s)
          (iterations images n t)
          (same_size n) (λ k u. free_iterations n k (free_used j k f u))
          ∙ sym (values-entry images (iterations images n t) j l)
      | inr l ↦
          entries-past F (iterations images (suc n) s) j (let e =
          iterations-length ℚ images m refl (suc n) s size in omega (arith, e, l))
          ∙ sym (entries-past F (iterations images (suc n) t) j (let e =
          iterations-length ℚ images m refl (suc n) t size' in omega (arith, e, l)))
    ]

    same_rests : (n : ℕ) → rests_at images g (iterations images n s) ≡ rests_at images g
        (iterations images n t)
    same_rests n = map_same (λ i. value_at ℚ (rest_of g (poly_at images i)) (iterations images n s))
        (λ i. value_at ℚ (rest_of g (poly_at images i)) (iterations images n t)) g
        (each_from g (λ i h. Inhomogeneities.value_used F (rest_of g (poly_at images i))
        (iterations images n s) (iterations images n t) (same_size n)
        (λ j u. free_iterations n j (rest_free i j h u))))

  -- ---- a form with the value 0
  module _ (w : List Fraction) (wide : length w ≡ length g)
      (splits : IsSplit images g [] w ℚ.zero []) where
    rest_poly : Terms Fraction
    rest_poly = weighted m w (map (λ i. rest_of g (poly_at images i)) g)

    inhomogeneity : Terms Fraction
    inhomogeneity = compose ℚ W rest_poly ps

    inhomogeneity-value : (n : ℕ) (s : List Fraction) → length s ≡ m
        → value_at ℚ inhomogeneity (point base n s) ≡ sum_of_products ℚ w
        (rests_at images g (iterations images n s))
    unfolding inhomogeneity rest_poly
    inhomogeneity-value n s l =
        value_at-compose R W rest_poly ps (point base n s)
        ∙ ap (value_at ℚ rest_poly) (form.values n s l (omega arith))
        ∙ weighted-value m w (map (λ i. rest_of g (poly_at images i)) g) (iterations images n s)
        ∙ ap (sum_of_products ℚ w) (map-two (λ i. rest_of g (poly_at images i))
        (λ q. value_at ℚ q (iterations images n s)) g)

    solution : Realized.IsSolved base c m ℚ.zero inhomogeneity
    unfolding inhomogeneity
    solution = Realized.solved base c m ℚ.zero inhomogeneity
        (arity-compose W ℚ rest_poly ps form.arity)

    no_more : (x : Fraction) → R.add x (sum_of_products ℚ [] []) ≡ x
    unfolding sum_of_products
    no_more x = R.add-zero x

    is_turned : IsFormAfterIterations base images 1 g w solution.poly
    unfolding Each
    is_turned = zero_form_turned base images 0 is none g class [] tt w wide ℚ.zero [] splits
        inhomogeneity
        (λ n s l late. inhomogeneity-value n s l ∙ sym (no_more (sum_of_products ℚ w
        (rests_at images g (iterations images n s))))) refl
        (λ s. value_at ℚ solution.poly (point base 0 s)) solution.poly
        (Realized.recurrence base c m ℚ.zero inhomogeneity solution)

    one_later : (n : ℕ) (s : List Fraction) → length s ≡ m
        → form_at w g (iterations images (suc n) s) ≡ sum_of_products ℚ w
        (rests_at images g (iterations images n s))
    one_later n s l =
        sym (is_turned.values (suc n) s l (omega arith))
        ∙ solution.next n s l
        ∙ ap₂ R.add (L.zero-mul R (value_at ℚ solution.poly (point base n s)))
        (inhomogeneity-value n s l)
        ∙ L.zero-add R (sum_of_products ℚ w (rests_at images g (iterations images n s)))

    -- the form of the closed form
    whole : Terms Fraction
    whole = weighted W w (map (poly_at ps) g)

    ps-length : length ps ≡ m
    ps-length = sym (length-map ps (λ p. value_at ℚ p (point base 0 (firsts m (λ i. ℚ.zero)))))
        ∙ ap length (form.values 0 (firsts m (λ i. ℚ.zero)) (firsts-length m (λ i. ℚ.zero))
        (omega arith))
        ∙ firsts-length m (λ i. ℚ.zero)

    whole-value : (n : ℕ) (s : List Fraction) → length s ≡ m
        → value_at ℚ whole (point base n s) ≡ form_at w g (iterations images n s)
    unfolding whole
    whole-value n s l =
        weighted-value W w (map (poly_at ps) g) (point base n s)
        ∙ ap (sum_of_products ℚ w)
        (map-two (poly_at ps) (λ q. value_at ℚ q (point base n s)) g
        ∙ map_same (λ j. value_at ℚ (poly_at ps j) (point base n s))
        (entries F (iterations images n s)) g
        (each_from g (λ j h.
        sym (values-entry ps (point base n s) j (let e = ps-length in
        let b : j < m = (class.is.inside j h).0 in omega (arith, e, b)))
        ∙ ap (λ x. entries F x j) (form.values n s l (omega arith)))))

    same_form : (s t : List Fraction) → length s ≡ m → length t ≡ m
        → ((j : ℕ) → Free j → entries F s j ≡ entries F t j) → form_at w g s ≡ form_at w g t
    same_form s t size size' agree =
        sym (whole-value 0 s size)
        ∙ same_from_one base c m whole s t size (λ n.
        whole-value (suc n) s size
        ∙ one_later n s size
        ∙ ap (sum_of_products ℚ w) (same_rests s t size size' agree n)
        ∙ sym (one_later n t size')
        ∙ sym (whole-value (suc n) t size'))
        ∙ whole-value 0 t size'

    -- ---- the state that is x at one place of the class, and 0 elsewhere
    single : Fraction → ℕ → List Fraction
    single x k = firsts m (λ j. cond (eqb j k) x ℚ.zero)

    single-own : (x : Fraction) (k : ℕ) → k < m → entries F (single x k) k ≡ x
    unfolding single
    single-own x k l = firsts-entry m (λ j. cond (eqb j k) x ℚ.zero) k l
        ∙ ap (λ b. cond b x ℚ.zero) (to_true (eqb k k) (eqb_refl k))

    single-other : (x : Fraction) (k j : ℕ) → j ≢ k → entries F (single x k) j ≡ ℚ.zero
    unfolding single
    single-other x k j ne = elim (cases_lt j m) [
      | inl l ↦ firsts-entry m (λ j. cond (eqb j k) x ℚ.zero) j l
          ∙ other (eqb j k) (λ e. ne (eqb-true j k e))
      | inr l ↦ entries-past F (single x k) j (let e =
          firsts-length m (λ j. cond (eqb j k) x ℚ.zero) in omega (arith, e, l))
    ]
      where
        other : (b : Bool) → (b ≡ true → ⊥) → cond b x ℚ.zero ≡ ℚ.zero
        other true h = absurd (h refl)
        other false h = refl

    single-form : (x : Fraction) (a : ℕ) → a < length g
        → form_at w g (single x (place g a)) ≡ R.mul (entries F w a) x
    single-form x a l =
        sym (total_form w g (entries F (single x (place g a))) wide)
        ∙ total-single F (length g) (λ i. F.mul (below F (length g) (entries F w) i)
        (entries F (single x (place g a)) (place g i))) a l
        (λ i b ne. ap (F.mul (below F (length g) (entries F w) i))
        (single-other x (place g a) (place g i) (λ e.
        ne (one_place g class.is.ascends i a b l e)))
        ∙ L.mul-zero R (below F (length g) (entries F w) i))
        ∙ ap₂ F.mul (below-entry F (length g) (entries F w) a l)
        (single-own x (place g a) (class.is.inside (place g a) (place_in g a l)).0)

    entry_zero : (a : ℕ) → a < length g → entries F w a ≡ ℚ.zero
    unfolding single
    entry_zero a l =
        let k = place g a in
        sym (R.mul-one (entries F w a))
        ∙ sym (single-form R.one a l)
        ∙ same_form (single R.one k) (single R.zero k)
        (firsts-length m (λ j. cond (eqb j k) R.one ℚ.zero))
        (firsts-length m (λ j. cond (eqb j k) R.zero ℚ.zero))
        (λ j f. single-other R.one k j (away j f) ∙ sym (single-other R.zero k j (away j f)))
        ∙ single-form R.zero a l
        ∙ L.mul-zero R (entries F w a)
      where
        away : (j : ℕ) → Free j → j ≢ place g a
        away j f e = f.out (subst (λ i. In i g) (sym e) (place_in g a l))

pub never_zero : (base : List ℕ) → Coprime base → (images : List (Terms Fraction))
    → IsMap (length images) images
    → ((vs : List ℕ) → IsNonlinearCycle (uses images) (strongly images) vs → ⊥)
    → (ps : List (Terms Fraction)) → IsClosedForm base images ps → IsEigenvalue images ℚ.zero → ⊥
never_zero base c images is none ps form e =
    e.nonzero (each_zero e.vector (λ i l.
    entry_zero base c images is none ps form e.class e.is e.vector wide
    (record {
      is = as_row images e.class ℚ.zero e.vector e.eigen
          ∙ sym (VR.add-zero (rows_of F (length e.class))
          ((rows_of F (length e.class)).scale ℚ.zero (row_of F (length e.class) e.vector)));
    })
    i (let q = wide in omega (arith, l, q))))
  where
    wide : length e.vector ≡ length e.class
    wide = sym (length-map e.vector (ℚ.mul ℚ.zero)) ∙ sym (ap length e.eigen)
        ∙ length-map e.class (λ j. sum_of_products ℚ e.vector (column images e.class j))
