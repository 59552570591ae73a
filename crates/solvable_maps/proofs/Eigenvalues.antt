-- The eigenvalues of a class are the values of any forms that split its matrix.
--   made_zero           a product of the matrix less each value is zero on what the forms make
--   value_is_eigen, eigen_is_value     of a matrix that is a list of rows: a form's value is an eigenvalue, and an eigenvalue is a form's value
--   values_are_eigenvalues, eigenvalues_are_values     of a class
use Rattle.std.proofs.Common.{◌≡◌, ◌≢◌, inl, inr, ℕ, zero, suc, ◌<◌, Bool, true, false, cond, List, [], ◌∷◌, ◌++◌, map, length, refl, sym, ap, ap₂, subst, ◌∙◌, arith}
use mathlib.Core.Path.{fun_ext}
use Rattle.std.proofs.lemmas.Bool.{cases_lt}
use Rattle.std.proofs.lemmas.List.{length-map, append-nil, append_assoc}
use Rattle.algebra.specs.Each.{Each}
use Rattle.algebra.specs.In.{In}
use Rattle.algebra.specs.Ring.{Field}
use Rattle.algebra.proofs.Each.{each-append, each_weaker}
use Rattle.algebra.proofs.In.{each_from}
use Rattle.algebra.specs.Fraction.{Fraction, ℚ}
use Rattle.algebra.proofs.RingLaws as L
use Rattle.algebra.proofs.Fractions.{ℚ_ring, ℚ_field}
use Rattle.polynomials.specs.Terms.{Terms, coefficient, sum_of_products}
use Rattle.solvable_maps.specs.Uses.{poly_at, unit}
use Rattle.vectors.specs.Lists.{entries, below, row_of}
use Rattle.vectors.specs.Matrices.{rows_in, times_matrix, with_values, AreForms}
use Rattle.vectors.specs.Rows.{Row, same_row, rows_of}
use Rattle.vectors.specs.Space.{Space, combine, IsCombination, IsLinear}
use Rattle.vectors.specs.Splitting.{shift, after, vectors_of}
use Rattle.vectors.specs.SplitForms.{of_value, AreSplitForms}
use Rattle.vectors.proofs.AllValues.{values_of, IsEigen, eigenvector_of}
use Rattle.vectors.proofs.Combinations as C
use Rattle.vectors.proofs.Forms as FO
use Rattle.vectors.proofs.Independence as I
use Rattle.vectors.proofs.Kernels as K
use Rattle.vectors.proofs.RowLaws as RL
use Rattle.vectors.proofs.ListLaws.{entries-past, below-entry, same_entries}
use Rattle.vectors.proofs.SplitDecided.{valued-length}
use Rattle.vectors.proofs.SplittingLaws as SL
use Rattle.vectors.proofs.VectorRing.{scalar, vector, vector_rules, vectors}
use Rattle.solvable_maps.specs.Classes.{class_matrix, column, IsClass, IsEigenvalue}
use Rattle.solvable_maps.specs.AfterIterations.{place}

-- ---- over any vectors
module _ {A V : Type 0} (F : Field A) (S : Space F.ring V) (t : V → V) where
  pub vectors-append : (us vs : List (V × A)) → vectors_of (us ++ vs) ≡ vectors_of us
      ++ vectors_of vs
  vectors-append [] vs = refl
  vectors-append (u ∷ us) vs = ap (λ l. u.0 ∷ l) (vectors-append us vs)

  pub of_value-within : (c : A) (forms : List (V × A)) → Each (IsCombination S (vectors_of forms))
      (of_value F c forms)
  unfolding Each
  of_value-within c [] = tt
  of_value-within c (f ∷ forms) = go (F.is_zero (F.add f.1 (F.neg c)))
      (each_weaker (IsCombination S (vectors_of forms)) (IsCombination S (f.0 ∷ vectors_of forms))
      (λ v. C.combination-more S f.0 (vectors_of forms) v) (of_value F c forms)
      (of_value-within c forms))
    where
      go : (b : Bool) → Each (IsCombination S (f.0 ∷ vectors_of forms)) (of_value F c forms)
          → Each (IsCombination S (f.0 ∷ vectors_of forms)) (cond b (f.0 ∷ of_value F c forms)
          (of_value F c forms))
      go true h = (C.combination-first S f.0 (vectors_of forms), h)
      go false h = h

  module _ (linear : IsLinear S t) where
    -- what t makes of combinations of vs are such combinations
    abbrev Stays : List V → Type 0
    Stays vs = (v : V) → IsCombination S vs v → IsCombination S vs (t v)

    abbrev Kills : List A → List V → Type 0
    Kills cs vs = (v : V) → IsCombination S vs v → after S t cs v ≡ S.zero

    through : (g : V → V) → IsLinear S g → (us vs : List V)
        → Each (λ u. IsCombination S vs (g u)) us → (v : V) → IsCombination S us v
        → IsCombination S vs (g v)
    through g l us vs h v m =
        C.closed-combination S (λ u. IsCombination S vs (g u))
        (record {
          has_zero = subst (IsCombination S vs) (sym (C.linear-zero S g l))
              (C.combination-zero S vs);
          has_add = λ u w p q. subst (IsCombination S vs) (sym (l.on_add u w))
              (C.combination-add S vs (g u) (g w) p q);
          has_scale = λ c u p. subst (IsCombination S vs) (sym (l.on_scale c u))
              (C.combination-scale S vs c (g u) p);
        }) us v h m

    -- the last value first
    abbrev killing : List (V × A) → List A → List A
    killing [] cs = cs
    killing (f ∷ forms) cs = killing forms (f.1 ∷ cs)

    stays_more : (us : List V) (f : V) (c : A) → Stays us → IsCombination S us (shift S t c f)
        → Stays (us ++ (f ∷ []))
    unfolding Each
    stays_more us f c stays p v m =
        let vs = us ++ (f ∷ []) in
        let last : IsCombination S vs f = FO.combination-right F S us (f ∷ []) f
        (C.combination-first S f []) in
        let moved : t f ≡ S.add (S.scale c f) (shift S t c f) =
        vectors S (scalar S c ∷ vector S f ∷ vector S (t f) ∷ []) (search vector_rules depth 40)
        refl in
        through t linear vs vs
        (each-append (λ u. IsCombination S vs (t u)) us (f ∷ [])
        (each_weaker (IsCombination S us) (λ u. IsCombination S vs (t u)) (λ u q.
        FO.combination-left F S us (f ∷ []) (t u) (stays u q)) us (C.combination-each S us)) (
          subst (IsCombination S vs) (sym moved) (C.combination-add S vs (S.scale c f)
              (shift S t c f) (C.combination-scale S vs c f last)
              (FO.combination-left F S us (f ∷ []) (shift S t c f) p)),
          tt,
        ))
        v m

    kills_more : (cs : List A) (us : List V) (f : V) (c : A) → Stays us → Kills cs us
        → IsCombination S us (shift S t c f) → Kills (c ∷ cs) (us ++ (f ∷ []))
    unfolding Each
    kills_more cs us f c stays kills p v m =
        kills (shift S t c v)
        (through (shift S t c) (SL.shift-linear F S t linear c) (us ++ (f ∷ [])) us
        (each-append (λ u. IsCombination S us (shift S t c u)) us (f ∷ [])
        (each_weaker (IsCombination S us) (λ u. IsCombination S us (shift S t c u))
        (λ u q. C.combination-add S us (t u) (S.neg (S.scale c u)) (stays u q)
        (subst (IsCombination S us) (less c u) (C.combination-scale S us (F.neg c) u q))) us
        (C.combination-each S us))
        (p, tt)) v m)
      where
        less : (c : A) (u : V) → S.scale (F.neg c) u ≡ S.neg (S.scale c u)
        less c u = vectors S (scalar S c ∷ vector S u ∷ []) (search vector_rules depth 40) refl

    pub made_zero : (before forms : List (V × A)) (cs : List A) → Stays (vectors_of before)
        → Kills cs (vectors_of before) → AreSplitForms F S t before forms
        → Kills (killing forms cs) (vectors_of (before ++ forms))
    made_zero before [] cs stays kills split = subst (λ l. Kills cs (vectors_of l))
        (sym (append-nil before)) kills
    made_zero before (f ∷ forms) cs stays kills split =
        let us = vectors_of before in
        let p : IsCombination S us (shift S t f.1 f.0) =
        C.combination-trans S us (of_value F f.1 before) (shift S t f.1 f.0)
        (of_value-within f.1 before) split.0 in
        let e : vectors_of (before ++ (f ∷ [])) ≡ us ++ (f.0 ∷ []) =
        vectors-append before (f ∷ []) in
        subst (λ l. Kills (killing forms (f.1 ∷ cs)) (vectors_of l)) (append_assoc before (f ∷ [])
        forms)
        (made_zero (before ++ (f ∷ [])) forms (f.1 ∷ cs)
        (subst Stays (sym e) (stays_more us f.0 f.1 stays p))
        (subst (Kills (f.1 ∷ cs)) (sym e) (kills_more cs us f.0 f.1 stays kills p))
        split.1)

    killing-each : (P : A → Type 0) (forms : List (V × A)) (cs : List A) → Each P (values_of forms)
        → Each P cs → Each P (killing forms cs)
    unfolding Each
    killing-each P [] cs h k = k
    killing-each P (f ∷ forms) cs h k = killing-each P forms (f.1 ∷ cs) h.1 (h.0, k)

    values_within : (forms : List (V × A)) → Each (λ c. In c (values_of forms)) (values_of forms)
    values_within forms = each_from (values_of forms) (λ c i. i)

    -- an eigenvalue is the value of a form, where the forms make everything
    eigen_among : (forms : List (V × A)) → AreSplitForms F S t [] forms
        → ((v : V) → IsCombination S (vectors_of forms) v) → (c : A) (v : V) → t v ≡ S.scale c v
        → v ≢ S.zero → In c (values_of forms)
    unfolding Each
    eigen_among forms split all c v e ne =
        K.eigen_value F S t linear (λ d. In d (values_of forms)) (killing forms [])
        (killing-each (λ d. In d (values_of forms)) forms [] (values_within forms) tt) c v e ne
        (made_zero [] forms []
        (λ u m. subst (IsCombination S []) (sym (ap t m.1 ∙ C.linear-zero S t linear))
        (C.combination-zero S []))
        (λ u m. m.1) split v (all v))

-- ---- matrices that are lists of rows
abbrev F : Field Fraction
F = ℚ_field

pub same_below : (n : ℕ) (v w : Row F n) → ((i : ℕ) → i < n → v.0 i ≡ w.0 i) → v ≡ w
same_below n v w h =
    same_row F n v w (fun_ext (λ i. elim (cases_lt i n) [
      | inl l ↦ h i l
      | inr g ↦ v.1 i g
          ∙ sym (w.1 i g)
    ]))

pub rows-length : (n : ℕ) (rows : List (List Fraction)) → length (rows_in n rows) ≡ length rows
rows-length n [] = refl
rows-length n (row ∷ rows) = ap suc (rows-length n rows)

-- a row times the matrix, entry by entry
pub made-entry : (n : ℕ) (xs : List Fraction) (rows : List (List Fraction)) (j : ℕ) → j < n
    → (combine (rows_of F n) (entries F xs) (rows_in n rows)).0 j ≡ sum_of_products ℚ xs
    (map (λ row. entries F row j) rows)
unfolding sum_of_products
made-entry n [] [] j l = refl
made-entry n (x ∷ xs) [] j l = refl
made-entry n [] (row ∷ rows) j l = ap₂ F.add (L.zero-mul ℚ_ring (below F n (entries F row) j))
    (made-entry n [] rows j l ∙ none rows) ∙ F.add-zero F.zero
  where
    none : (rows : List (List Fraction)) → sum_of_products ℚ [] (map (λ row. entries F row j) rows)
        ≡ F.zero
    none rows = refl
made-entry n (x ∷ xs) (row ∷ rows) j l =
    ap₂ F.add (ap (F.mul x) (below-entry ℚ_field n (entries F row) j l)) (made-entry n xs rows j l)

pub acted-entry : (n : ℕ) (xs : List Fraction) (rows : List (List Fraction)) → length rows ≡ n
    → (j : ℕ) → j < n → (times_matrix n rows (row_of F n xs)).0 j ≡ sum_of_products ℚ xs
    (map (λ row. entries F row j) rows)
acted-entry n xs rows size j l =
    ap (λ (v : Row F n). v.0 j) (C.combine-same (rows_of F n) (below F n (entries F xs))
    (entries F xs) (rows_in n rows) (λ i k. below-entry ℚ_field n (entries F xs) i (let e =
    rows-length n rows in omega (arith, e, size, k))))
    ∙ made-entry n xs rows j l

-- ---- a class
pub place_entries : (f : ℕ → Fraction) (cs : List ℕ) (b : ℕ) → b < length cs
    → entries F (map f cs) b ≡ f (place cs b)
place_entries f [] b l = absurd (omega (arith, l))
place_entries f (j ∷ cs) zero l = refl
place_entries f (j ∷ cs) (suc b) l = place_entries f cs b (omega (arith, l))

pub mapped-entry : (f : Fraction → Fraction) (xs : List Fraction) (b : ℕ) → b < length xs
    → entries F (map f xs) b ≡ f (entries F xs b)
mapped-entry f [] b l = absurd (omega (arith, l))
mapped-entry f (x ∷ xs) zero l = refl
mapped-entry f (x ∷ xs) (suc b) l = mapped-entry f xs b (omega (arith, l))

-- the first entries of a sequence, as a list
abbrev pub firsts : {A : Type 0} → ℕ → (ℕ → A) → List A
firsts zero v = []
firsts (suc n) v = v 0 ∷ firsts n (λ i. v (suc i))

pub firsts-length : {A : Type 0} (n : ℕ) (v : ℕ → A) → length (firsts n v) ≡ n
firsts-length zero v = refl
firsts-length (suc n) v = ap suc (firsts-length n (λ i. v (suc i)))

pub firsts-entry : (n : ℕ) (v : ℕ → Fraction) (i : ℕ) → i < n → entries F (firsts n v) i ≡ v i
firsts-entry zero v i l = absurd (omega (arith, l))
firsts-entry (suc n) v zero l = refl
firsts-entry (suc n) v (suc i) l = firsts-entry n (λ i. v (suc i)) i (omega (arith, l))

all_zero : (xs : List Fraction) → Each (λ a. a ≡ ℚ.zero) xs → (i : ℕ) → entries F xs i ≡ ℚ.zero
unfolding Each
all_zero [] h i = refl
all_zero (x ∷ xs) h zero = h.0
all_zero (x ∷ xs) h (suc i) = all_zero xs h.1 i

pub each_zero : (xs : List Fraction) → ((i : ℕ) → i < length xs → entries F xs i ≡ ℚ.zero)
    → Each (λ a. a ≡ ℚ.zero) xs
unfolding Each
each_zero [] h = tt
each_zero (x ∷ xs) h = (h 0 (omega arith), each_zero xs (λ i l. h (suc i) (omega (arith, l))))

module _ (images : List (Terms Fraction)) (g : List ℕ) where
  abbrev n : ℕ
  n = length g

  abbrev M : List (List Fraction)
  M = class_matrix images g

  abbrev S : Space F.ring (Row F n)
  S = rows_of F n

  abbrev t : Row F n → Row F n
  t y = times_matrix n M y

  matrix-size : length M ≡ n
  matrix-size =
      length-map g (λ i. map (λ j. coefficient ℚ (poly_at images i) (unit (length images) j)) g)

  columns-are : (b : ℕ) → b < n → map (λ row. entries F row b) M ≡ column images g (place g b)
  columns-are b l = of g
    where
      of : (is : List ℕ)
          → map (λ row. entries F row b)
          (map (λ i. map (λ j. coefficient ℚ (poly_at images i) (unit (length images) j)) g) is)
          ≡ map (λ i. coefficient ℚ (poly_at images i) (unit (length images) (place g b))) is
      of [] = refl
      of (i ∷ is) =
          ap₂ ◌∷◌ (place_entries (λ j. coefficient ℚ (poly_at images i) (unit (length images) j)) g
          b l) (of is)

  -- the vector times the matrix is x times the vector, as lists and as rows
  turned-entry : (vector : List Fraction) (b : ℕ) → b < n → (t (row_of F n vector)).0 b
      ≡ sum_of_products ℚ vector (column images g (place g b))
  turned-entry vector b l = acted-entry n vector M matrix-size b l
      ∙ ap (sum_of_products ℚ vector) (columns-are b l)

  abbrev IsTurnedBy : Fraction → List Fraction → Type 0
  IsTurnedBy x vector = map (λ j. sum_of_products ℚ vector (column images g j)) g ≡ map (ℚ.mul x)
      vector

  pub as_row : (x : Fraction) (vector : List Fraction) → IsTurnedBy x vector
      → t (row_of F n vector) ≡ S.scale x (row_of F n vector)
  as_row x vector e = same_below n (t (row_of F n vector)) (S.scale x (row_of F n vector)) (λ b l.
      turned-entry vector b l
      ∙ sym (place_entries (λ j. sum_of_products ℚ vector (column images g j)) g b l)
      ∙ ap (λ l. entries F l b) e
      ∙ mapped-entry (ℚ.mul x) vector b (let p = size in omega (arith, l, p))
      ∙ ap (ℚ.mul x) (sym (below-entry ℚ_field n (entries F vector) b l)))
    where
      size : length vector ≡ n
      size = sym (length-map vector (ℚ.mul x)) ∙ sym (ap length e)
          ∙ length-map g (λ j. sum_of_products ℚ vector (column images g j))

  as_list : (x : Fraction) (v : Row F n) → t v ≡ S.scale x v → IsTurnedBy x (firsts n v.0)
  as_list x v e =
      same_entries F (map (λ j. sum_of_products ℚ (firsts n v.0) (column images g j)) g)
      (map (ℚ.mul x) (firsts n v.0))
      (length-map g (λ j. sum_of_products ℚ (firsts n v.0) (column images g j))
      ∙ sym (length-map (firsts n v.0) (ℚ.mul x) ∙ firsts-length n v.0))
      (λ b. elim (cases_lt b n) [
        | inl l ↦
            place_entries (λ j. sum_of_products ℚ (firsts n v.0) (column images g j)) g b l
            ∙ sym (turned-entry (firsts n v.0) b l)
            ∙ ap (λ (u : Row F n). (t u).0 b) (listed v)
            ∙ ap (λ (u : Row F n). u.0 b) e
            ∙ ap (ℚ.mul x) (sym (firsts-entry n v.0 b l))
            ∙ sym (mapped-entry (ℚ.mul x) (firsts n v.0) b (let p = firsts-length n v.0 in
            omega (arith, l, p)))
        | inr p ↦
            entries-past F (map (λ j. sum_of_products ℚ (firsts n v.0) (column images g j)) g) b
            (let q = length-map g (λ j. sum_of_products ℚ (firsts n v.0) (column images g j)) in
            omega (arith, p, q))
            ∙ sym (entries-past F (map (ℚ.mul x) (firsts n v.0)) b (let q =
            length-map (firsts n v.0) (ℚ.mul x) in let r = firsts-length n v.0 in
            omega (arith, p, q, r)))
      ])
    where
      listed : (v : Row F n) → row_of F n (firsts n v.0) ≡ v
      listed v = same_below n (row_of F n (firsts n v.0)) v (λ i l.
          below-entry ℚ_field n (entries F (firsts n v.0)) i l ∙ firsts-entry n v.0 i l)

  module _ (forms : List (List Fraction)) (values : List Fraction)
      (h : AreForms n M forms values) where
    linear : IsLinear S t
    linear = RL.times-linear F n (rows_in n M)

    values-are : (forms : List (List Fraction)) (values : List Fraction)
        → length values ≡ length forms → values_of (with_values n forms values) ≡ values
    values-are [] [] e = refl
    values-are [] (c ∷ values) e = absurd (omega (arith, e))
    values-are (form ∷ forms) [] e = absurd (omega (arith, e))
    values-are (form ∷ forms) (c ∷ values) e =
        ap (λ l. c ∷ l) (values-are forms values (omega (arith, e)))

    same_values : values_of (with_values n forms values) ≡ values
    same_values = values-are forms values (h.value_count ∙ sym h.count)

    all_made : (v : Row F n) → IsCombination S (vectors_of (with_values n forms values)) v
    all_made v =
        I.independent-all F S (RL.all_units F n) (vectors_of (with_values n forms values))
        (each_from (vectors_of (with_values n forms values)) (λ u i. RL.all_units-all F n u))
        h.independent
        (valued-length n forms values (h.value_count ∙ sym h.count) ∙ h.count
        ∙ sym (RL.all_units-length F n)) v (RL.all_units-all F n v)

    pub value_is_eigenvalue : IsClass images g → (c : Fraction) → In c values
        → IsEigenvalue images c
    value_is_eigenvalue is c i =
        let e : IsEigen F S t c = eigenvector_of F S t c [] (with_values n forms values) none
        h.split
        h.independent (subst (In c) (sym same_values) i) in
        record {
          class = g;
          is = is;
          vector = firsts n e.at.0;
          nonzero = λ z. e.some (RL.row_zero F n e.at (λ j l. sym (firsts-entry n e.at.0 j l)
              ∙ all_zero (firsts n e.at.0) z j));
          eigen = as_list c e.at e.is;
        }
      where
        none : Each (λ (f : Row F n × Fraction). f.1 ≢ c) []
        none = each_from [] (λ f i. absurd i)

    pub eigenvector_value : (x : Fraction) (vector : List Fraction) → (Each (λ a. a ≡ ℚ.zero) vector
        → ⊥) → IsTurnedBy x vector → In x values
    eigenvector_value x vector nonzero e =
        subst (In x) same_values
        (eigen_among F S t linear (with_values n forms values) h.split all_made x
        (row_of F n vector)
        (as_row x vector e)
        (λ z. nonzero
        (each_zero vector (λ i l.
        sym (below-entry ℚ_field n (entries F vector) i (let p = size in
        omega (arith, l, p))) ∙ ap (λ (u : Row F n). u.0 i) z))))
      where
        size : length vector ≡ n
        size = sym (length-map vector (ℚ.mul x)) ∙ sym (ap length e)
            ∙ length-map g (λ j. sum_of_products ℚ vector (column images g j))
