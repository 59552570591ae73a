-- The image of a form, by the inverse of the matrix of forms.
--   solved_by       a row is made of the forms, with its product with the inverse as its coefficients
--   form_splits     a form times the matrix is its value times it, and of the forms before it what these coefficients say
--   forms_inverse   behind the identity in the echelon list stands the inverse of the matrix of forms
use Rattle.std.proofs.Common.{◌≡◌, ℕ, zero, suc, ◌+◌, ◌<◌, List, [], ◌∷◌, ◌++◌, map, drop, length, refl, sym, ap, ap₂, subst, ◌∙◌, arith}
use Rattle.algebra.specs.Ring.{Field}
use Rattle.algebra.proofs.RingLaws as L
use Rattle.algebra.specs.Fraction.{Fraction, ℚ}
use Rattle.algebra.proofs.Fractions.{ℚ_ring, ℚ_field}
use Rattle.polynomials.specs.Terms.{sum_of_products}
use Rattle.vectors.specs.Causes.{row_at}
use Rattle.vectors.specs.Lists.{entries, tables, row_of}
use Rattle.vectors.specs.Matrices.{rows_in, times_matrix, with_values, AreForms}
use Rattle.vectors.specs.Rows.{Row, rows_of}
use Rattle.vectors.specs.Sequences.{sequences}
use Rattle.vectors.specs.Space.{Space, combine, Independent}
use Rattle.vectors.specs.Splitting.{vectors_of}
use Rattle.vectors.specs.SplitForms.{AreSplitForms}
use Rattle.vectors.proofs.Combinations as C
use Rattle.vectors.specs.Adding.{IsEchelonOf}
use Rattle.solvable_maps.specs.Inverse.{unit_list, beside, IsInverse}
use Rattle.solvable_maps.proofs.Coefficients.{split_row}
use Rattle.vectors.proofs.ListLaws.{below-entry}
use Rattle.solvable_maps.proofs.Eigenvalues.{same_below, rows-length, made-entry, acted-entry}
use Rattle.solvable_maps.proofs.Inverses.{unit-own, unit-other, inverse_is}

abbrev F : Field Fraction
F = ℚ_field

abbrev Q : Space ℚ_ring (ℕ → Fraction)
Q = sequences ℚ_ring ℕ

valued-append : (n : ℕ) (us : List (List Fraction)) (cs : List Fraction) (vs : List (List Fraction))
    (ds : List Fraction) → length us ≡ length cs → with_values n (us ++ vs) (cs ++ ds)
    ≡ with_values n us cs
    ++ with_values n vs ds
valued-append n [] [] vs ds q = refl
valued-append n [] (c ∷ cs) vs ds q = absurd (omega (arith, q))
valued-append n (u ∷ us) [] vs ds q = absurd (omega (arith, q))
valued-append n (u ∷ us) (c ∷ cs) vs ds q = ap (λ z. (row_of F n u, c) ∷ z)
    (valued-append n us cs vs ds (omega (arith, q)))

vectors-are : (n : ℕ) (forms : List (List Fraction)) (values : List Fraction)
    → length values ≡ length forms → vectors_of (with_values n forms values) ≡ rows_in n forms
vectors-are n [] values q = refl
vectors-are n (form ∷ forms) [] q = absurd (omega (arith, q))
vectors-are n (form ∷ forms) (c ∷ values) q = ap (λ z. row_of F n form ∷ z)
    (vectors-are n forms values (omega (arith, q)))

module _ (n : ℕ) where
  abbrev S : Space ℚ_ring (Row F n)
  S = rows_of F n

  -- combinations of combinations
  abbrev all_made : List (ℕ → Fraction) → List (Row F n) → List (Row F n)
  all_made [] vs = []
  all_made (p ∷ ps) vs = combine S p vs ∷ all_made ps vs

  combine-nested : (z : ℕ → Fraction) (ps : List (ℕ → Fraction)) (vs : List (Row F n))
      → combine S (combine Q z ps) vs ≡ combine S z (all_made ps vs)
  combine-nested z [] vs = C.combine-none S vs
  combine-nested z (p ∷ ps) vs =
      C.combine-add S (λ i. F.mul (z 0) (p i)) (combine Q (λ i. z (suc i)) ps) vs
      ∙ ap₂ S.add (C.combine-scale S (z 0) p vs) (combine-nested (λ i. z (suc i)) ps vs)

  -- ---- rows of the identity, from the k-th on
  abbrev place_of : List (Row F n) → ℕ → ℕ → Fraction
  place_of [] a i = F.zero
  place_of (r ∷ rows) zero i = r.0 i
  place_of (r ∷ rows) (suc a) i = place_of rows a i

  none_before : (k i : ℕ) (z : ℕ → Fraction) (rows : List (Row F n))
      → ((a : ℕ) → a < length rows → place_of rows a i ≡ entries F (unit_list n (k + a)) i) → i < k
      → (combine S z rows).0 i ≡ F.zero
  none_before k i z [] h l = refl
  none_before k i z (r ∷ rows) h l =
      ap₂ F.add
      (ap (F.mul (z 0)) (h 0 (omega arith)
      ∙ unit-other n (k + 0) i (λ e. absurd (omega (arith, e, l))))
      ∙ L.mul-zero ℚ_ring (z 0))
      (none_before (suc k) i (λ i. z (suc i)) rows (λ a b. h (suc a) (omega (arith, b))
      ∙ ap (λ j. entries F (unit_list n j) i) (let e : k + suc a ≡ suc k + a =
      omega arith in e)) (omega (arith, l)))
      ∙ F.add-zero F.zero

  own_place : (k j : ℕ) (z : ℕ → Fraction) (rows : List (Row F n))
      → ((a : ℕ) → a < length rows → place_of rows a (k + j) ≡ entries F (unit_list n (k + a))
      (k + j)) → j < length rows → k + j < n → (combine S z rows).0 (k + j) ≡ z j
  own_place k j z [] h l b = absurd (omega (arith, l))
  own_place k zero z (r ∷ rows) h l b =
      ap₂ F.add
      (ap (F.mul (z 0)) (h 0 (omega arith) ∙ unit-own n (k + 0) b) ∙ F.mul-one (z 0))
      (none_before (suc k) (k + 0) (λ i. z (suc i)) rows (λ a b. h (suc a) (omega (arith, b))
      ∙ ap (λ j. entries F (unit_list n j) (k + 0)) (let e : k + suc a ≡ suc k + a =
      omega arith in e)) (omega arith))
      ∙ F.add-zero (z 0)
  own_place k (suc j) z (r ∷ rows) h l b =
      ap₂ F.add
      (ap (F.mul (z 0)) (h 0 (omega arith) ∙ unit-other n (k + 0) (k + suc j)
      (λ e. absurd (omega (arith, e)))) ∙ L.mul-zero ℚ_ring (z 0))
      (ap (combine S (λ i. z (suc i)) rows).0 (let e : k + suc j ≡ suc k + j = omega arith in e)
      ∙ own_place (suc k) j (λ i. z (suc i)) rows
      (λ a c. ap (place_of rows a) (let e : suc k + j ≡ k + suc j = omega arith in e)
      ∙ h (suc a) (omega (arith, c)) ∙ ap₂ (λ x y. entries F (unit_list n x) y)
      (let e : k + suc a ≡ suc k + a = omega arith in e) (let e : k + suc j ≡ suc k + j =
      omega arith in e))
      (omega (arith, l)) (omega (arith, b)))
      ∙ L.zero-add ℚ_ring (z (suc j))

  module _ (forms back : List (List Fraction)) (count : length forms ≡ n)
      (inverse : IsInverse n forms back) where
    vs : List (Row F n)
    vs = rows_in n forms

    made-length : (ps : List (List Fraction)) (us : List (Row F n))
        → length (all_made (tables F ps) us) ≡ length ps
    made-length [] us = refl
    made-length (p ∷ ps) us = ap suc (made-length ps us)

    made-place : (ps : List (List Fraction)) (us : List (Row F n)) (a i : ℕ) → a < length ps
        → place_of (all_made (tables F ps) us) a i ≡ (combine S (entries F (row_at ps a)) us).0 i
    made-place [] us a i l = absurd (omega (arith, l))
    made-place (p ∷ ps) us zero i l = refl
    made-place (p ∷ ps) us (suc a) i l = made-place ps us a i (omega (arith, l))

    is_unit : (a i : ℕ) → a < n → i < n → place_of (all_made (tables F back) vs) a i
        ≡ entries F (unit_list n a) i
    unfolding vs
    is_unit a i l k = made-place back vs a i (let e = inverse.size in omega (arith, e, l))
        ∙ made-entry n (row_at back a) forms i k ∙ inverse.is a i l k

    table-entry : (z : List Fraction) (rows : List (List Fraction)) (b : ℕ)
        → combine Q (entries F z) (tables F rows) b ≡ sum_of_products ℚ z
        (map (λ row. entries F row b) rows)
    unfolding sum_of_products
    table-entry [] [] b = refl
    table-entry (x ∷ z) [] b = refl
    table-entry [] (row ∷ rows) b = ap₂ F.add (L.zero-mul ℚ_ring (entries F row b))
        (table-entry [] rows b) ∙ F.add-zero F.zero
    table-entry (x ∷ z) (row ∷ rows) b = ap (F.add (F.mul x (entries F row b)))
        (table-entry z rows b)

    pub solved_by : (z by : List Fraction)
        → ((b : ℕ) → b < n
        → entries F by b ≡ sum_of_products ℚ z (map (λ row. entries F row b) back))
        → row_of F n z ≡ combine S (entries F by) (rows_in n forms)
    unfolding vs
    solved_by z by h =
        same_below n (row_of F n z) (combine S (entries F z) (all_made (tables F back) vs))
        (λ i l. below-entry ℚ_field n (entries F z) i l
        ∙ sym (ap (combine S (entries F z) (all_made (tables F back) vs)).0 (let e : i ≡ 0 + i =
        omega arith in e)
        ∙ own_place 0 i (entries F z) (all_made (tables F back) vs)
        (λ a b. (let e = made-length back vs in let s = inverse.size in
        ap (place_of (all_made (tables F back) vs) a) (let q : 0 + i ≡ i = omega arith in q)
        ∙ is_unit a i (omega (arith, e, s, b)) l ∙ ap₂ (λ x y. entries F (unit_list n x) y)
        (let q : a ≡ 0 + a = omega arith in q) (let q : i ≡ 0 + i = omega arith in q)))
        (let e = made-length back vs in let s = inverse.size in omega (arith, e, s, l))
        (omega (arith, l))))
        ∙ sym (combine-nested (entries F z) (tables F back) vs)
        ∙ C.combine-same S (combine Q (entries F z) (tables F back)) (entries F by) vs (λ b l.
        table-entry z back b
        ∙ sym (h b (let e = rows-length n forms in omega (arith, e, count, l))))

    module _ (rows : List (List Fraction)) (size : length rows ≡ n) (values : List Fraction)
        (are : AreForms n rows forms values) where
      -- where the form stands among them
      pub form_splits : (us vs : List (List Fraction)) (w : List Fraction) (cs ds : List Fraction)
          (l : Fraction) → forms ≡ us ++ (w ∷ vs) → values ≡ cs ++ (l ∷ ds) → length us ≡ length cs
          → (turned by : List Fraction)
          → ((b : ℕ) → b < n → entries F turned b ≡ sum_of_products ℚ w
          (map (λ row. entries F row b) rows))
          → ((b : ℕ) → b < n → entries F by b ≡ sum_of_products ℚ turned
          (map (λ row. entries F row b) back))
          → times_matrix n rows (row_of F n w) ≡ S.add (S.scale l (row_of F n w))
          (combine S (entries F by) (rows_in n us))
      form_splits us vs w cs ds l e f k turned by g h =
          split_row F S (λ y. times_matrix n rows y) (with_values n us cs) (row_of F n w, l)
          (with_values n vs ds)
          (subst (λ fs. AreSplitForms F S (λ y. times_matrix n rows y) [] fs) at are.split)
          (subst (λ fs. Independent S (vectors_of fs)) at are.independent)
          (entries F by)
          (same_below n (times_matrix n rows (row_of F n w)) (row_of F n turned) (λ b q.
          acted-entry n w rows size b q ∙ sym (g b q)
          ∙ sym (below-entry ℚ_field n (entries F turned) b q))
          ∙ solved_by turned by h
          ∙ ap (combine S (entries F by)) (sym (vectors-are n forms values (are.value_count
          ∙ sym are.count)) ∙ ap vectors_of at))
          ∙ ap (λ z. S.add (S.scale l (row_of F n w)) (combine S (entries F by) z))
          (vectors-are n us cs (sym k))
        where
          at : with_values n forms values ≡ with_values n us cs
              ++ ((row_of F n w, l) ∷ with_values n vs ds)
          at = ap₂ (with_values n) e f ∙ valued-append n us cs (w ∷ vs) (l ∷ ds) k

pub forms_inverse : (n : ℕ) (rows forms echelon : List (List Fraction)) (values : List Fraction)
    → AreForms n rows forms values → IsEchelonOf (n + n) (beside n 0 forms) echelon
    → IsInverse n forms (map (drop n) echelon)
forms_inverse n rows forms echelon values are is =
    inverse_is n forms are.count are.widths (subst (Independent (rows_of F n))
    (vectors-are n forms values (are.value_count ∙ sym are.count)) are.independent) echelon is
