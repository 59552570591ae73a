-- Echelon lists as rows are added, and the new ones of a list of vectors.
--   combination_in, combination_out     of an echelon list, and of the rows it is made of
--   echelon_less                        a combination more that was given changes nothing
--   added_none, added_skip, added_more  the vectors one after another
--   at_none, at_more                    the columns of a matrix one after another
--   kernel_few                          a kernel has at most as many vectors as columns
use Rattle.std.proofs.Common.{◌≡◌, inl, inr, ℕ, zero, suc, ◌+◌, ◌<◌, ◌≤◌, Bool, true, false, cond, List, [], ◌∷◌, ◌++◌, map, length, refl, sym, ap, subst, ◌∙◌, arith, append_assoc, add-one, take, get_or, ℤ, All, Vec, Global}
use Rattle.std.proofs.lemmas.List.{append-nil, length-map, take-map}
use Rattle.std.proofs.lemmas.List.Elements.{All-nil, All-cons, All-head, All-tail}
use Rattle.algebra.specs.Each.{Each}
use Rattle.algebra.proofs.Each.{each-left, each-append}
use Rattle.algebra.specs.Fraction.{Fraction}
use Rattle.algebra.proofs.Fractions.{ℚ_ring, ℚ_field}
use Rattle.vectors.specs.Echelon.{Pivots, AreKernelVectors, free_from, leads_at}
use Rattle.vectors.specs.Echelon as E
use Rattle.vectors.specs.Lists.{entries, tables}
use Rattle.vectors.specs.Sequences.{sequences}
use Rattle.vectors.specs.Space.{IsCombination}
use Rattle.vectors.specs.Adding.{IsEchelonOf, IsCombinationOf, IsPastTarget}
use Rattle.vectors.specs.Causes.{column, numbers_to}
use Rattle.frac128.specs.FracMeaning.{fraction_of}
use Rattle.frac128.specs.declared.fraction.Frac.{Frac}
use Rattle.linear.specs.Rows.{fractions_of, rows_of}
use Rattle.eigen_split.specs.Parts.{IfVectorPast, IfRowPast}
use Rattle.eigen_split.specs.declared.EigenError.{EigenError}
use Rattle.eigen_split.specs.declared.EigenError.TheVariants.{Eigen, Range, Wide, Memory}
use Rattle.vectors.proofs.Combinations as C
use Rattle.vectors.proofs.RrefLaws as RL
use Rattle.vectors.proofs.ListLaws.{entries-past}
use Rattle.linear.specs.View.{Echelon, IsWithRow}
use Rattle.eigen_split.specs.Search.{IsKernelAt, IsEchelonAt, AreNew, AreAdded, IsTakenIf}
use Rattle.eigen_split.proofs.Reading.{list_row}
use Rattle.eigen_split.proofs.Sums.{over-more}

each_first : {A : Type 0} (P : A → Type 0) (x : A) (xs : List A) → Each P (x ∷ xs) → P x
unfolding Each
each_first P x xs h = h.0

each_rest : {A : Type 0} (P : A → Type 0) (x : A) (xs : List A) → Each P (x ∷ xs) → Each P xs
unfolding Each
each_rest P x xs h = h.1

abbrev Comb : List (ℕ → Fraction) → (ℕ → Fraction) → Type 0
Comb vs v = IsCombination (sequences ℚ_ring ℕ) vs v

pub combination_in : (n : ℕ) (given rows : List (List Fraction)) (v : List Fraction)
    → IsEchelonOf n given rows → IsCombinationOf given v → IsCombinationOf rows v
combination_in n given rows v e m = record {
  is = C.combination-trans (sequences ℚ_ring ℕ) (tables ℚ_field rows) (tables ℚ_field given)
      (entries ℚ_field v) (subst (λ l. Each (Comb l) (tables ℚ_field given)) (sym e.are)
      e.reduced.makes) m.is;
}

pub combination_out : (n : ℕ) (given rows : List (List Fraction)) (v : List Fraction)
    → IsEchelonOf n given rows → IsCombinationOf rows v → IsCombinationOf given v
combination_out n given rows v e m = record {
  is = C.combination-trans (sequences ℚ_ring ℕ) (tables ℚ_field given) (tables ℚ_field rows)
      (entries ℚ_field v) (subst (λ l. Each (Comb (tables ℚ_field given)) l) (sym e.are)
      e.reduced.made) m.is;
}

-- whether a row of the width is one
pub combination_where : (n : ℕ) (given rows : List (List Fraction)) (v : List Fraction)
    → IsEchelonOf n given rows → length v ≡ n → ((IsCombinationOf rows v → ⊥) → ⊥)
    → IsCombinationOf rows v
combination_where n given rows v e w f =
    elim (RL.decide ℚ_field n (tables ℚ_field given) e.pivots (entries ℚ_field v) e.reduced (λ i l.
    entries-past ℚ_field v i (omega (arith, w, l)))) [
      | inl m ↦ record { is = subst (λ l. Comb l (entries ℚ_field v)) (sym e.are) m }
      | inr k ↦ absurd (f (λ m. k.new (subst (λ l. Comb l (entries ℚ_field v)) e.are m.is)))
    ]

tables-append : (us vs : List (List Fraction)) → tables ℚ_field (us ++ vs) ≡ tables ℚ_field us
    ++ tables ℚ_field vs
tables-append [] vs = refl
tables-append (u ∷ us) vs = ap (◌∷◌ (entries ℚ_field u)) (tables-append us vs)

each_trans : (us vs ws : List (ℕ → Fraction)) → Each (Comb us) vs → Each (Comb vs) ws
    → Each (Comb us) ws
unfolding Each
each_trans us vs [] h k = tt
each_trans us vs (w ∷ ws) h k = (
  C.combination-trans (sequences ℚ_ring ℕ) us vs w h k.0,
  each_trans us vs ws h k.1,
)

pub echelon_less : (n : ℕ) (given rows : List (List Fraction)) (v : List Fraction)
    → IsEchelonOf n (given ++ v ∷ []) rows → IsCombinationOf given v → IsEchelonOf n given rows
unfolding Each
echelon_less n given rows v e m = record {
  widths = e.widths;
  pivots = e.pivots;
  are = e.are;
  reduced = record {
    reduced = e.reduced.reduced;
    inside = e.reduced.inside;
    past = e.reduced.past;
    makes = each-left (Comb (E.rows_in ℚ_field e.pivots)) (tables ℚ_field given) (entries ℚ_field v
        ∷ []) (subst (Each (Comb (E.rows_in ℚ_field e.pivots))) (tables-append given (v ∷ []))
        e.reduced.makes);
    made = each_trans (tables ℚ_field given) (tables ℚ_field given ++ entries ℚ_field v ∷ [])
        (E.rows_in ℚ_field e.pivots)
        (each-append (Comb (tables ℚ_field given)) (tables ℚ_field given) (entries ℚ_field v ∷ [])
        (C.combination-each (sequences ℚ_ring ℕ) (tables ℚ_field given)) (m.is, tt))
        (subst (λ l. Each (Comb l) (E.rows_in ℚ_field e.pivots)) (tables-append given (v ∷ []))
        e.reduced.made);
  };
}

-- ---- the vectors one after another
new_skip : (found vs new : List (List Fraction)) (v : List Fraction) → AreNew found vs new
    → IsCombinationOf (found ++ new) v → AreNew found (vs ++ v ∷ []) new
new_skip found [] new v a m = inl (
  subst (λ l. IsCombinationOf l v) (ap (λ l. found ++ l) a
      ∙ append-nil found) m,
  a,
)
new_skip found (w ∷ vs) new v a m =
    elim a [
      | inl h ↦ inl (h.0, new_skip found vs new v h.1 m)
      | inr h ↦ inr (
        h.0,
        (
          h.1.0,
          h.1.1,
          new_skip (found ++ w ∷ []) vs h.1.0 v h.1.2
              (subst (λ l. IsCombinationOf l v) (ap (λ l. found ++ l) h.1.1
              ∙ sym (append_assoc found (w ∷ []) h.1.0)) m),
        ),
      )
    ]

new_more : (found vs new : List (List Fraction)) (v : List Fraction) → AreNew found vs new
    → (IsCombinationOf (found ++ new) v → ⊥) → AreNew found (vs ++ v ∷ []) (new ++ v ∷ [])
new_more found [] new v a m = inr (
  subst (λ l. IsCombinationOf l v → ⊥) (ap (λ l. found ++ l) a
      ∙ append-nil found) m,
  ([], ap (λ l. l ++ v ∷ []) a, refl),
)
new_more found (w ∷ vs) new v a m =
    elim a [
      | inl h ↦ inl (h.0, new_more found vs new v h.1 m)
      | inr h ↦ inr (
        h.0,
        (
          h.1.0 ++ v ∷ [],
          ap (λ l. l ++ v ∷ []) h.1.1,
          new_more (found ++ w ∷ []) vs h.1.0 v h.1.2 (subst (λ l. IsCombinationOf l v
              → ⊥) (ap (λ l. found ++ l) h.1.1 ∙ sym (append_assoc found (w ∷ []) h.1.0)) m),
        ),
      )
    ]

pub added_none : (found : List (List Fraction)) → AreAdded found [] found
added_none found = record { new = []; are = refl; is = sym (append-nil found) }

pub added_skip : (found vs more : List (List Fraction)) (v : List Fraction) → AreAdded found vs more
    → IsCombinationOf more v → AreAdded found (vs ++ v ∷ []) more
added_skip found vs more v a m = record {
  new = a.new;
  are = new_skip found vs a.new v a.are
      (subst (λ l. IsCombinationOf l v) a.is m);
  is = a.is;
}

pub added_more : (found vs more : List (List Fraction)) (v : List Fraction) → AreAdded found vs more
    → (IsCombinationOf more v → ⊥) → AreAdded found (vs ++ v ∷ []) (more ++ v ∷ [])
added_more found vs more v a m = record {
  new = a.new ++ v ∷ [];
  are = new_more found vs a.new v a.are (subst (λ l. IsCombinationOf l v → ⊥) a.is m);
  is = ap (λ l. l ++ v ∷ []) a.is ∙ append_assoc found a.new (v ∷ []);
}

-- ---- the columns one after another
pub at_more : (n : ℕ) (rows : List (List Fraction)) (j : ℕ) (e f : Echelon) {v : List Fraction}
    → IsEchelonAt n rows j e → v ≡ column j rows → f.width ≡ e.width → IsWithRow e v f
    → IsEchelonAt n rows (j + 1) f
at_more n rows j e f {v = v} h q w m = (
  w ∙ h.0,
  subst (λ k. IsEchelonOf n (map (λ j. column j rows) (numbers_to k)) f.rows) (sym (add-one j))
      (subst (λ l. IsEchelonOf n l f.rows) (ap (λ x. map (λ j. column j rows) (numbers_to j) ++ x
      ∷ []) q ∙ sym (over-more (λ j. column j rows) j))
      (subst (λ w. IsEchelonOf w (map (λ j. column j rows) (numbers_to j) ++ v ∷ []) f.rows) h.0
      (m (map (λ j. column j rows) (numbers_to j))
      (subst (λ w. IsEchelonOf w (map (λ j. column j rows) (numbers_to j)) e.rows) (sym h.0)
      h.1)))),
)

same_count : (n : ℕ) (ps : Pivots ℚ_field) (js : List ℕ) (xs : List (ℕ → Fraction))
    → AreKernelVectors ℚ_field n ps js xs → length xs ≡ length js
same_count n ps [] [] h = refl
same_count n ps [] (x ∷ xs) h = absurd h
same_count n ps (j ∷ js) [] h = absurd h
same_count n ps (j ∷ js) (x ∷ xs) h = ap suc (same_count n ps js xs h.1)

few_free : (ps : Pivots ℚ_field) (k m : ℕ) → length (free_from ℚ_field ps k m) ≤ m
few_free ps k zero = omega arith
few_free ps k (suc m) = go (leads_at ℚ_field ps k) (few_free ps (suc k) m)
  where
    go : (b : Bool) → length (free_from ℚ_field ps (suc k) m) ≤ m
        → length (cond b (free_from ℚ_field ps (suc k) m) (k ∷ free_from ℚ_field ps (suc k) m))
        ≤ suc m
    go true h = omega (arith, h)
    go false h = omega (arith, h)

tables-length : (vs : List (List Fraction)) → length (tables ℚ_field vs) ≡ length vs
tables-length [] = refl
tables-length (v ∷ vs) = ap suc (tables-length vs)

pub kernel_few : (n : ℕ) (rows vectors : List (List Fraction)) → IsKernelAt n rows vectors
    → length vectors ≤ n
kernel_few n rows vectors k =
    let a = same_count n k.are.pivots _ (tables ℚ_field vectors) k.are.are in
    let b = few_free k.are.pivots 0 n in
    let c = tables-length vectors in
    omega (arith, a, b, c)

-- ---- one vector: what was found, and the echelon list of it
pub record Taken (n : ℕ) (found vs more : List (List Fraction)) (e : Echelon) : Type 0 where
  pub width : e.width ≡ n
  pub known : IsEchelonOf n more e.rows
  pub taken : AreAdded found vs more

more_known : (n : ℕ) (more : List (List Fraction)) (v : List Fraction) (e f : Echelon) → e.width ≡ n
    → IsEchelonOf n more e.rows → IsWithRow e v f → IsEchelonOf n (more ++ v ∷ []) f.rows
more_known n more v e f w k m = subst (λ w. IsEchelonOf w (more ++ v ∷ []) f.rows) w
    (m more (subst (λ w. IsEchelonOf w more e.rows) (sym w) k))

pub taken_new : (n : ℕ) (found vs more : List (List Fraction)) (v : List Fraction) (e f : Echelon)
    → Taken n found vs more e → f.width ≡ e.width → IsWithRow e v f → (IsCombinationOf e.rows v → ⊥)
    → Taken n found (vs ++ v ∷ []) (more ++ v ∷ []) f
taken_new n found vs more v e f t w m out = record {
  width = w ∙ t.width;
  known = more_known n more v e f t.width t.known m;
  taken = added_more found vs more v t.taken (λ c. out (combination_in n more e.rows v t.known c));
}

pub taken_old : (n : ℕ) (found vs more : List (List Fraction)) (v : List Fraction) (e f : Echelon)
    → Taken n found vs more e → length v ≡ n → f.width ≡ e.width → IsWithRow e v f
    → ((IsCombinationOf e.rows v → ⊥) → ⊥) → Taken n found (vs ++ v ∷ []) more f
taken_old n found vs more v e f t l w m some =
    let c = combination_out n more e.rows v t.known (combination_where n more e.rows v t.known l
    some) in
    record {
      width = w ∙ t.width;
      known = echelon_less n more f.rows v (more_known n more v e f t.width t.known m) c;
      taken = added_skip found vs more v t.taken c;
    }

pub taken_none : (n : ℕ) (found : List (List Fraction)) (e : Echelon) → e.width ≡ n
    → IsEchelonOf n found e.rows → Taken n found [] found e
taken_none n found e w k = record { width = w; known = k; taken = added_none found }

-- of the code's vectors
pub rows-take : (j : ℕ) (xs : List (Vec Frac Global)) (x : Vec Frac Global) → j < length xs
    → x ≡ get_or xs j x → rows_of (take (j + 1) xs) ≡ rows_of (take j xs) ++ fractions_of x.items
    ∷ []
rows-take j [] x l e = absurd (omega arith)
rows-take zero (y ∷ xs) x l e = ap (λ (v : Vec Frac Global). fractions_of v.items ∷ []) (sym e)
rows-take (suc j) (y ∷ xs) x l e = ap (λ k. rows_of (take k (y ∷ xs))) (add-one (suc j))
    ∙ ap (◌∷◌ (fractions_of y.items)) (ap (λ k. rows_of (take k xs)) (sym (add-one j))
    ∙ rows-take j xs x (omega arith) e)

pub taken_step : (n : ℕ) (found : List (List Fraction)) (xs forms more : List (Vec Frac Global))
    (j : ℕ) (x : Vec Frac Global) (e f : Echelon)
    → Taken n found (rows_of (take j xs)) (rows_of forms) e → j < length xs → x ≡ get_or xs j x
    → length x.items ≡ n
    → f.width ≡ e.width → IsWithRow e (fractions_of x.items) f
    → IsTakenIf e.rows (fractions_of x.items) (rows_of forms) (rows_of more)
    → Taken n found (rows_of (take (j + 1) xs)) (rows_of more) f
taken_step n found xs forms more j x e f t l q w g m h =
    subst (λ vs. Taken n found vs (rows_of more) f) (sym (rows-take j xs x l q))
    (elim h [
      | inl k ↦ subst (λ fs. Taken n found (rows_of (take j xs) ++ fractions_of x.items ∷ []) fs f)
          (sym k.1) (taken_new n found (rows_of (take j xs)) (rows_of forms) (fractions_of x.items)
          e f t g m k.0)
      | inr k ↦ subst (λ fs. Taken n found (rows_of (take j xs) ++ fractions_of x.items ∷ []) fs f)
          (sym k.1) (taken_old n found (rows_of (take j xs)) (rows_of forms) (fractions_of x.items)
          e f t (length-map x.items fraction_of ∙ w) g m k.0)
    ])

-- the refusal of the vector at the place j
pub vector_refused : (n : ℕ) (found : List (List Fraction)) {more : List (List Fraction)}
    (xs : List (Vec Frac Global)) (j : ℕ) (x : Vec Frac Global) (p : ℤ) (power : ℕ) {row : ℕ}
    (e : Echelon) (error : EigenError)
    → row ≡ n + j + 1 → Taken n found (rows_of (take j xs)) more e → j < length xs
    → x ≡ get_or xs j x → IfRowPast e.rows (fractions_of x.items) p power row error
    → IfVectorPast n found (rows_of xs) p power error
vector_refused n found xs j x p power e Eigen r t l at past = absurd past
vector_refused n found xs j x p power e (Range sum) r t l at past = absurd past
vector_refused n found xs j x p power e Memory r t l at past = tt
vector_refused n found xs j x p power e (Wide candidate w z) r t l at past = (
  past.0,
  past.1,
  (
    j,
    (let q = past.2 in omega (arith, r, q)),
    record {
      within = subst (λ m. j < m)
          (sym (length-map xs (λ (v : Vec Frac Global). fractions_of v.items))) l;
      new = t.taken.new;
      are = subst (λ l. AreNew found l t.taken.new)
          (sym (take-map (λ (v : Vec Frac Global). fractions_of v.items) j xs)) t.taken.are;
      past = record {
        target = past.3.0;
        echelon = e.rows;
        is = subst (λ l. IsEchelonOf n l e.rows) t.taken.is t.known;
        past = subst (λ v. IsPastTarget e.rows v past.3.0) (sym (list_row xs j x l at)) past.3.1;
      };
    },
  ),
)

pub kernel_widths : (n : ℕ) (rows : List (List Fraction)) (xs : List (Vec Frac Global))
    → IsKernelAt n rows (rows_of xs) → All (λ v. length v.items ≡ n) xs
kernel_widths n rows xs k = all_widths n xs k.are.widths
  where
    all_widths : (n : ℕ) (xs : List (Vec Frac Global)) → Each (λ v. length v ≡ n) (rows_of xs)
        → All (λ v. length v.items ≡ n) xs
    all_widths n [] h = All-nil (λ v. length v.items ≡ n)
    all_widths n (x ∷ xs) h = All-cons (λ v. length v.items ≡ n) x xs
        (sym (length-map x.items fraction_of)
        ∙ each_first (λ v. length v ≡ n) (fractions_of x.items) (rows_of xs) h)
        (all_widths n xs (each_rest (λ v. length v ≡ n) (fractions_of x.items) (rows_of xs) h))

pub all_at : {n : ℕ} (xs : List (Vec Frac Global)) (j : ℕ) (x : Vec Frac Global)
    → All (λ v. length v.items ≡ n) xs → j < length xs → x ≡ get_or xs j x → length x.items ≡ n
all_at {n} [] j x w l e = absurd (omega arith)
all_at {n} (y ∷ xs) zero x w l e = ap (λ (v : Vec Frac Global). length v.items) e
    ∙ All-head (λ (v : Vec Frac Global). length v.items ≡ n) y xs w
all_at {n} (y ∷ xs) (suc j) x w l e =
    all_at {n = n} xs j x (All-tail (λ (v : Vec Frac Global). length v.items ≡ n) y xs w)
    (omega arith) e
