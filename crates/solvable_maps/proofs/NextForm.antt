-- The forms of a class one after another, each by its place, and its variables, from some number of iterations on.
--   split_at         the form at a place is split by those before it
--   next_form        a form, where those before it are known, from its value at the first number of iterations
--   later_form       where its value as a form isn't 0, from that at some number of iterations
--   zero_form        where it is 0, one iteration later
--   variable_of      a variable, where all forms are known
use Rattle.std.proofs.Common.{◌≡◌, ◌≢◌, ℕ, zero, suc, ◌+◌, ◌<◌, ◌≤◌, List, [], ◌∷◌, ◌++◌, map, take, drop, length, refl, sym, ap, subst, ◌∙◌, arith}
use Rattle.algebra.specs.Each.{Each}
use Rattle.algebra.specs.Ring.{Field}
use Rattle.algebra.specs.Fraction.{Fraction, ℚ}
use Rattle.algebra.proofs.Fractions.{ℚ_field}
use Rattle.polynomials.specs.Terms.{Terms, coefficient, value_at, sum_of_products}
use Rattle.solvable_maps.specs.Dependency.{IsNonlinearCycle}
use Rattle.solvable_maps.specs.Uses.{uses, strongly, poly_at, IsMap, unit}
use Rattle.std.proofs.lemmas.List.{length-map, length-take-le}
use Rattle.vectors.specs.Causes.{row_at}
use Rattle.vectors.specs.Lists.{entries, row_of}
use Rattle.vectors.specs.Matrices.{rows_in, AreForms}
use Rattle.vectors.specs.Rows.{rows_of}
use Rattle.vectors.specs.Space.{combine}
use Rattle.solvable_maps.specs.Classes.{class_matrix, IsClass}
use Rattle.solvable_maps.specs.Inverse.{IsInverse, IsProduct}
use Rattle.solvable_maps.specs.AfterIterations.{rests_at, IsAfterIterations, IsFormAfterIterations, HasRecurrence, HasValueAfter, Done, rows_done, values_done, with_polynomials, IsSplit}
use Rattle.solvable_maps.specs.Iterations.{point, iterations}
use Rattle.solvable_maps.proofs.ClassSteps as Steps
use Rattle.solvable_maps.specs.AfterIterations.{place}
use Rattle.solvable_maps.proofs.Eigenvalues.{made-entry}
use Rattle.solvable_maps.proofs.FormSplits.{form_splits}

abbrev F : Field Fraction
F = ℚ_field

-- ---- a list about a place
abbrev pub number_at : List Fraction → ℕ → Fraction
number_at xs i = entries F xs i

rows-about : (rows : List (List Fraction)) (k : ℕ) → k < length rows
    → rows ≡ take k rows ++ (row_at rows k ∷ drop (suc k) rows)
rows-about [] k l = absurd (omega (arith, l))
rows-about (row ∷ rows) zero l = refl
rows-about (row ∷ rows) (suc k) l = ap (λ z. row ∷ z) (rows-about rows k (omega (arith, l)))

numbers-about : (xs : List Fraction) (k : ℕ) → k < length xs
    → xs ≡ take k xs ++ (number_at xs k ∷ drop (suc k) xs)
numbers-about [] k l = absurd (omega (arith, l))
numbers-about (x ∷ xs) zero l = refl
numbers-about (x ∷ xs) (suc k) l = ap (λ z. x ∷ z) (numbers-about xs k (omega (arith, l)))

zipped-rows : (c : ℕ) (ws : List (List Fraction)) (ys : List (Terms Fraction))
    → length ys ≡ length ws → rows_done c (with_polynomials ws ys) ≡ rows_in c ws
zipped-rows c [] ys e = refl
zipped-rows c (w ∷ ws) [] e = absurd (omega (arith, e))
zipped-rows c (w ∷ ws) (y ∷ ys) e =
    ap (λ z. row_of F c w ∷ z) (zipped-rows c ws ys (omega (arith, e)))

zipped-values : (ws : List (List Fraction)) (ys : List (Terms Fraction)) → length ys ≡ length ws
    → (z : List Fraction) → values_done (with_polynomials ws ys) z ≡ map (λ y. value_at ℚ y z) ys
zipped-values [] [] e z = refl
zipped-values [] (y ∷ ys) e z = absurd (omega (arith, e))
zipped-values (w ∷ ws) [] e z = absurd (omega (arith, e))
zipped-values (w ∷ ws) (y ∷ ys) e z =
    ap (λ l. value_at ℚ y z ∷ l) (zipped-values ws ys (omega (arith, e)) z)

-- the form at a place, by those before it
pub split_at : (images : List (Terms Fraction)) (g : List ℕ) (forms back : List (List Fraction))
    (values : List Fraction) → AreForms (length g) (class_matrix images g) forms values
    → IsInverse (length g) forms back
    → (k : ℕ) → k < length g → (done : List (Terms Fraction)) → length done ≡ k
    → (turned by : List Fraction)
    → IsProduct (length g) (row_at forms k) (class_matrix images g) turned
    → IsProduct (length g) turned back by
    → IsSplit images g (with_polynomials (take k forms) done) (row_at forms k) (number_at values k)
    by
split_at images g forms back values are inverse k l done count turned by product product' =
    let c = length g in
    let low : k < length forms = (let e = are.count in omega (arith, l, e)) in
    let low_value : k < length values = (let e = are.value_count in omega (arith, l, e)) in
    let size : length (class_matrix images g) ≡ c = length-map g (λ i.
    map (λ j. coefficient ℚ (poly_at images i) (unit (length images) j)) g) in
    let few : length done ≡ length (take k forms) = count
    ∙ sym (length-take-le k forms (omega (arith, low))) in
    record {
      is = form_splits c forms back are.count inverse (class_matrix images g) size values are
          (take k forms) (drop (suc k) forms) (row_at forms k) (take k values)
          (drop (suc k) values) (number_at values k)
          (rows-about forms k low) (numbers-about values k low_value)
          (length-take-le k forms (omega (arith, low))
          ∙ sym (length-take-le k values (omega (arith, low_value)))) turned by product.each
          product'.each
          ∙ ap (λ z. (rows_of F c).add ((rows_of F c).scale (number_at values k)
          (row_of F c (row_at forms k))) (combine (rows_of F c) (entries F by) z))
          (sym (zipped-rows c (take k forms) done few));
    }

module _ (base : List ℕ) (images : List (Terms Fraction)) (since : ℕ)
    (is : IsMap (length images) images)
    (none : (vs : List ℕ) → IsNonlinearCycle (uses images) (strongly images) vs → ⊥) (g : List ℕ)
    (class : IsClass images g) where
  abbrev c : ℕ
  c = length g

  abbrev AreDone : List (List Fraction) → List (Terms Fraction) → Type 0
  AreDone ws ys = (i : ℕ) → i < length ys → IsFormAfterIterations base images since g (row_at ws i)
      (poly_at ys i)

  zipped-done : (ws : List (List Fraction)) (ys : List (Terms Fraction)) → AreDone ws ys
      → Each (Steps.IsDone base images since is none g class) (with_polynomials ws ys)
  unfolding Each
  zipped-done [] ys h = tt
  zipped-done (w ∷ ws) [] h = tt
  zipped-done (w ∷ ws) (y ∷ ys) h =
      (h 0 (omega arith), zipped-done ws ys (λ i l. h (suc i) (omega (arith, l))))

  row_taken : (ws : List (List Fraction)) (k i : ℕ) → i < k → row_at (take k ws) i ≡ row_at ws i
  row_taken [] zero i l = refl
  row_taken [] (suc k) i l = refl
  row_taken (w ∷ ws) zero i l = absurd (omega (arith, l))
  row_taken (w ∷ ws) (suc k) zero l = refl
  row_taken (w ∷ ws) (suc k) (suc i) l = row_taken ws k i (omega (arith, l))

  each_row : (P : List Fraction → Type 0) (ws : List (List Fraction)) → Each P ws → (i : ℕ)
      → i < length ws → P (row_at ws i)
  unfolding Each
  each_row P [] h i l = absurd (omega (arith, l))
  each_row P (w ∷ ws) h zero l = h.0
  each_row P (w ∷ ws) h (suc i) l = each_row P ws h.1 i (omega (arith, l))

  module _ (forms back : List (List Fraction)) (values : List Fraction)
      (are : AreForms c (class_matrix images g) forms values)
      (inverse : IsInverse c forms back) where
    -- the form at a place, from those before it
    module _ (k : ℕ) (l : k < c) (done : List (Terms Fraction)) (count : length done ≡ k)
        (known : AreDone forms done) (turned by : List Fraction)
        (product : IsProduct c (row_at forms k) (class_matrix images g) turned)
        (product' : IsProduct c turned back by) (q : Terms Fraction)
        (inhomogeneity : (n : ℕ) (s : List Fraction) → length s ≡ length images → since ≤ n
        → value_at ℚ q (point base n s) ≡ ℚ.add
        (sum_of_products ℚ (row_at forms k) (rests_at images g (iterations images n s)))
        (sum_of_products ℚ by (map (λ y. value_at ℚ y (point base n s)) done))) where
      low : k < length forms
      low = let e = are.count in omega (arith, l, e)

      few : length done ≡ length (take k forms)
      few = count ∙ sym (length-take-le k forms (omega (arith, low)))

      abbrev before : Done
      before = with_polynomials (take k forms) done

      before_done : Each (Steps.IsDone base images since is none g class) before
      before_done = zipped-done (take k forms) done
          (λ i b. subst (λ w. IsFormAfterIterations base images since g w (poly_at done i))
          (sym (row_taken forms k i (let e = count in omega (arith, b, e)))) (known i b))

      own_width : length (row_at forms k) ≡ c
      own_width = each_row (λ w. length w ≡ c) forms are.widths k low

      splits : IsSplit images g before (row_at forms k) (number_at values k) by
      splits = split_at images g forms back values are inverse k l done count turned by product
          product'

      inhomogeneity_is : (n : ℕ) (s : List Fraction) → length s ≡ length images → since ≤ n
          → value_at ℚ q (point base n s) ≡ ℚ.add
          (sum_of_products ℚ (row_at forms k) (rests_at images g (iterations images n s)))
          (sum_of_products ℚ by (values_done before (point base n s)))
      inhomogeneity_is n s e late = inhomogeneity n s e late
          ∙ ap (λ z.
          ℚ.add (sum_of_products ℚ (row_at forms k) (rests_at images g (iterations images n s)))
          (sum_of_products ℚ by z)) (sym (zipped-values (take k forms) done few (point base n s)))

      pub next_form : (start : List Fraction → Fraction) (y : Terms Fraction)
          → HasRecurrence base (length images) (number_at values k) q start y
          → HasValueAfter base images g (row_at forms k) since y
          → IsFormAfterIterations base images since g (row_at forms k) y
      next_form start y rec first = Steps.form_turned base images since is none g class before
          before_done (row_at forms k) own_width (number_at values k) by splits q inhomogeneity_is
          start y
          rec first

      pub later_form : number_at values k ≢ ℚ.zero → (start : List Fraction → Fraction)
          (y : Terms Fraction) → HasRecurrence base (length images) (number_at values k) q start y
          → (d : ℕ) → HasValueAfter base images g (row_at forms k) (since + d) y
          → IsFormAfterIterations base images since g (row_at forms k) y
      later_form some start y rec d later =
          Steps.later_form_turned base images since is none g class before before_done
          (row_at forms k) own_width (number_at values k) by splits q inhomogeneity_is some start y
          rec d
          later

      pub zero_form : number_at values k ≡ ℚ.zero → (start : List Fraction → Fraction)
          (y : Terms Fraction) → HasRecurrence base (length images) (number_at values k) q start y
          → IsFormAfterIterations base images (suc since) g (row_at forms k) y
      zero_form nothing start y rec = Steps.zero_form_turned base images since is none g class
          before before_done (row_at forms k) own_width (number_at values k) by splits q
          inhomogeneity_is
          nothing start y rec

    pub variable_of : (done : List (Terms Fraction)) → length done ≡ c → AreDone forms done
        → (a : ℕ) → a < c → (p : Terms Fraction)
        → ((n : ℕ) (s : List Fraction) → length s ≡ length images → since ≤ n
        → value_at ℚ p (point base n s) ≡ sum_of_products ℚ (row_at back a)
        (map (λ y. value_at ℚ y (point base n s)) done))
        → IsAfterIterations base images since (place g a) p
    variable_of done count known a l p h =
        let few : length done ≡ length forms = count ∙ sym are.count in
        Steps.variable_turned base images since is none g class
        (with_polynomials forms done)
        (zipped-done forms done known) a l (row_at back a)
        (λ i b. ap (λ rows. (combine (rows_of F c) (entries F (row_at back a)) rows).0 i)
        (zipped-rows c forms done few) ∙ made-entry c (row_at back a) forms i b
        ∙ inverse.is a i l b)
        p (λ n s e late. h n s e late ∙ ap (sum_of_products ℚ (row_at back a))
        (sym (zipped-values forms done few (point base n s))))
