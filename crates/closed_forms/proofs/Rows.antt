-- Rows of fractions, and the rows of the identity behind forms.
--   entry_get, entry_at, entries-before, entries-last     an entry of a list, and what is pushed behind one
--   fractions-push                   the same of fractions
--   identity_next                    one entry more of a row of the identity
--   beside-push                      one form more beside its row of the identity
--   product_next                     one number more of a product of a row and a matrix
--   product_at, past_row_at     of the same row and matrix, as calls give them
use Rattle.std.proofs.Common.{◌≡◌, ◌⊎◌, inl, inr, ℕ, zero, suc, ◌+◌, ◌<◌, ◌≤◌, Bool, true, false, cond, eqb, List, [], ◌∷◌, ◌++◌, map, drop, take, get_or, length, All, Vec, Global, refl, sym, ap, ap₂, subst, ◌∙◌, arith, append_assoc, T, eqb→eq}
use lib.Dec.{eqb_refl}
use Rattle.std.proofs.lemmas.List.{length-append, length-take-le, take_all, take_more, take-map, map_push, get_or_append_left, get_or_push, get_or-map}
use Rattle.algebra.proofs.Basics.{below_or_last}
use Rattle.algebra.proofs.Lists.{take_next}
use Rattle.algebra.specs.Fraction.{Fraction, ℚ}
use Rattle.algebra.proofs.Fractions.{ℚ_field}
use Rattle.polynomials.specs.Terms.{sum_of_products}
use Rattle.frac128.specs.FracMeaning.{fraction_of}
use Rattle.frac128.specs.declared.fraction.Frac.{Frac}
use Rattle.linear.specs.Rows.{fractions_of, rows_of}
use Rattle.linear.proofs.Clearing.{rows-length}
use Rattle.linear.proofs.Lists.{fractions-length}
use Rattle.eigen_split.proofs.Reading.{list_row}
use Rattle.algebra.specs.Each.{Each}
use Rattle.algebra.specs.In.{In}
use Rattle.algebra.proofs.In.{each_in, map-in, in_get}
use Rattle.vectors.specs.Adding.{IsEchelonOf, IsPastTarget}
use Rattle.closed_forms.specs.Inverses.{IsBehind, IsPastInverse}
use Rattle.closed_forms.specs.Products.{IsPastRow}
use Rattle.vectors.specs.Lists.{entries}
use Rattle.solvable_maps.specs.Inverse.{unit_list, beside, numbers_at, IsProduct}
use Rattle.solvable_maps.proofs.Inverses.{unit-own, unit-other, unit-length}

pub entry_get : (xs : List Fraction) (i : ℕ) → entries ℚ_field xs i ≡ get_or xs i ℚ.zero
entry_get [] i = refl
entry_get (x ∷ xs) zero = refl
entry_get (x ∷ xs) (suc i) = entry_get xs i

pub entry_at : (row : List Frac) (i : ℕ) (x : Frac) → i < length row → x ≡ get_or row i x
    → entries ℚ_field (fractions_of row) i ≡ fraction_of x
entry_at row i x l e = entry_get _ i ∙ get_or-map fraction_of row i x ℚ.zero l
    ∙ ap fraction_of (sym e)

entries-before : (xs : List Fraction) (x : Fraction) (i : ℕ) → i < length xs
    → entries ℚ_field (xs ++ x ∷ []) i ≡ entries ℚ_field xs i
entries-before xs x i l = entry_get _ i ∙ get_or_append_left xs (x ∷ []) ℚ.zero i l
    ∙ sym (entry_get xs i)

entries-last : (xs : List Fraction) (x : Fraction) (i : ℕ) → i ≡ length xs
    → entries ℚ_field (xs ++ x ∷ []) i ≡ x
entries-last xs x i e = entry_get _ i ∙ get_or_push xs x ℚ.zero i (sym e)

pub fractions-push : (xs : List Frac) {more : List Frac} (x : Frac) → more ≡ xs ++ x ∷ []
    → fractions_of more ≡ fractions_of xs ++ fraction_of x ∷ []
fractions-push xs x e = ap fractions_of e ∙ map_push fraction_of xs x

-- ---- rows of the identity
identity-entry : (n p i : ℕ) → i < n → entries ℚ_field (unit_list n p) i ≡ cond (eqb i p) ℚ.one
    ℚ.zero
identity-entry n p i l = go (eqb i p) refl
  where
    go : (b : Bool) → eqb i p ≡ b → entries ℚ_field (unit_list n p) i ≡ cond b ℚ.one ℚ.zero
    go true h = ap (λ k. entries ℚ_field (unit_list n k) i) (sym (eqb→eq i p (subst T (sym h) tt)))
        ∙ unit-own n i l
    go false h = unit-other n p i (λ e. subst T h (subst (λ k. T (eqb i k)) (sym e) (eqb_refl i)))

pub identity_next : (n p i : ℕ) (form row : List Frac) {more : List Frac} (x : Frac) → i < n
    → fractions_of row ≡ fractions_of form ++ take i (unit_list n p) → more ≡ row ++ x ∷ []
    → fraction_of x ≡ cond (eqb i p) ℚ.one ℚ.zero
    → fractions_of more ≡ fractions_of form ++ take (i + 1) (unit_list n p)
identity_next n p i form row x l h e y =
    let u = unit_list n p in
    fractions-push row x e ∙ ap₂ (λ a b. a ++ b ∷ []) h (y ∙ sym (identity-entry n p i l))
    ∙ append_assoc (fractions_of form) (take i u) (entries ℚ_field u i ∷ [])
    ∙ ap (λ r. fractions_of form ++ r) (ap (λ x. take i u ++ x ∷ []) (entry_get u i)
    ∙ sym (take_more u i ℚ.zero (let e = unit-length n p in omega (arith, l, e))))

pub identity_done : (n p i : ℕ) (form row : List Frac) → n ≤ i
    → fractions_of row ≡ fractions_of form ++ take i (unit_list n p)
    → fractions_of row ≡ fractions_of form ++ unit_list n p
identity_done n p i form row l h = h
    ∙ ap (λ r. fractions_of form ++ r) (take_all i (unit_list n p) (let e = unit-length n p in
    omega (arith, l, e)))

beside-push : (n k : ℕ) (forms : List (List Fraction)) (form : List Fraction)
    → beside n k (forms ++ form ∷ []) ≡ beside n k forms ++ (form ++ unit_list n (k + length forms))
    ∷ []
beside-push n k [] form = ap (λ j. (form ++ unit_list n j) ∷ []) (let e : k ≡ k + 0 = omega arith in
    e)
beside-push n k (f ∷ forms) form = ap (λ r. (f ++ unit_list n k) ∷ r)
    (beside-push n (suc k) forms form ∙ ap (λ j. beside n (suc k) forms ++ (form ++ unit_list n j)
    ∷ []) (let e : suc k + length forms ≡ k + suc (length forms) = omega arith in e))

-- one form more, at its place, with its row
pub beside_next : (n : ℕ) (forms : List (Vec Frac Global)) (place : ℕ) (form : Vec Frac Global)
    (row : List Frac) → place < length forms → form ≡ get_or forms place form
    → fractions_of row ≡ fractions_of form.items ++ unit_list n place
    → beside n 0 (rows_of (take place forms)) ++ fractions_of row ∷ []
    ≡ beside n 0 (rows_of (take (place + 1) forms))
beside_next n forms place form row l e h =
    ap (λ r. beside n 0 (rows_of (take place forms)) ++ r ∷ []) h
    ∙ ap (λ j. beside n 0 (rows_of (take place forms)) ++ (fractions_of form.items ++ unit_list n j)
    ∷ []) (let c = rows-length (take place forms) in let d =
    length-take-le place forms (omega (arith, l)) in omega (arith, c, d))
    ∙ sym (beside-push n 0 (rows_of (take place forms)) (fractions_of form.items))
    ∙ ap (beside n 0) (sym (take_next (λ (v : Vec Frac Global). fractions_of v.items) forms place
    form l e))

-- ---- products
pub product_next : {n : ℕ} (row : List Fraction) (rows : List (List Fraction)) (out : List Frac)
    {more : List Frac} (x : Frac)
    → IsProduct n row rows (fractions_of out) → more ≡ out ++ x ∷ []
    → fraction_of x ≡ sum_of_products ℚ row (numbers_at n rows)
    → IsProduct (n + 1) row rows (fractions_of more)
product_next {n = n} row rows out x h e y = record {
  size = ap length (fractions-push out x e)
      ∙ length-append (fractions_of out) (fraction_of x ∷ []) ∙ ap (λ k. k + 1) h.size;
  each = λ j l. ap (λ r. entries ℚ_field r j) (fractions-push out x e) ∙ at j (below_or_last j n l);
}
  where
    at : (j : ℕ) → (j < n) ⊎ (j ≡ n) → entries ℚ_field (fractions_of out ++ fraction_of x ∷ []) j
        ≡ sum_of_products ℚ row (numbers_at j rows)
    at j (inl b) = entries-before (fractions_of out) (fraction_of x) j (let s = h.size in
        omega (arith, b, s)) ∙ h.each j b
    at j (inr q) = entries-last (fractions_of out) (fraction_of x) j (let s = h.size in
        omega (arith, q, s)) ∙ y ∙ ap (λ k. sum_of_products ℚ row (numbers_at k rows)) (sym q)

-- of the same row and matrix, as calls give them
pub product_at : {n m : ℕ} {row own : List Frac} {rows given : List (Vec Frac Global)}
    {out : List Fraction}
    → own ≡ row → given ≡ rows → m ≡ n → IsProduct m (fractions_of own) (rows_of given) out
    → IsProduct n (fractions_of row) (rows_of rows) out
product_at {m = m} {row = row} {rows = rows} {given = given} {out = out} e f g h =
    subst (λ k. IsProduct k (fractions_of row) (rows_of rows) out) g
    (subst (λ l. IsProduct m (fractions_of row) (rows_of l) out) f
    (subst (λ l. IsProduct m (fractions_of l) (rows_of given) out) e h))

pub past_row_at : {n m : ℕ} {row own : List Frac} {rows given : List (Vec Frac Global)} → own ≡ row
    → given ≡ rows → m ≡ n → IsPastRow m (fractions_of own) (rows_of given)
    → IsPastRow n (fractions_of row) (rows_of rows)
past_row_at {m = m} {row = row} {rows = rows} {given = given} e f g h =
    subst (λ k. IsPastRow k (fractions_of row) (rows_of rows)) g
    (subst (λ l. IsPastRow m (fractions_of row) (rows_of l)) f
    (subst (λ l. IsPastRow m (fractions_of l) (rows_of given)) e h))

-- ---- the inverse
pub beside-width : {n : ℕ} (place : ℕ) (form row : List Frac) → length form ≡ n
    → fractions_of row ≡ fractions_of form ++ unit_list n place → length row ≡ n + n
beside-width {n = n} place form row e h =
    sym (fractions-length row) ∙ ap length h ∙ length-append (fractions_of form) (unit_list n place)
    ∙ ap₂ (λ a b. a + b) (fractions-length form ∙ e) (unit-length n place)

pub past_inverse : (forms : List (Vec Frac Global)) (place : ℕ) {form : Vec Frac Global}
    (row : List Frac) {rows : List (List Fraction)} {target : ℕ}
    → place < length forms → form ≡ get_or forms place form
    → fractions_of row ≡ fractions_of form.items ++ unit_list (length forms) place
    → IsEchelonOf (length forms + length forms)
    (beside (length forms) 0 (rows_of (take place forms))) rows
    → IsPastTarget rows (fractions_of row) target → IsPastInverse (rows_of forms)
past_inverse forms place {form = form} row {rows = rows} {target = target} l f h is past =
    let e = rows-length forms in record {
      place = place;
      within = omega (arith, l, e);
      echelon = rows;
      is = subst (λ k. IsEchelonOf (k + k) (beside k 0 (take place (rows_of forms))) rows) (sym e)
          (subst (λ z. IsEchelonOf (length forms + length forms) (beside (length forms) 0 z) rows)
          (sym (take-map (λ (v : Vec Frac Global). fractions_of v.items) place forms)) is);
      target = target;
      past = subst (λ r. IsPastTarget rows r target) (h
          ∙ ap₂ (λ a k. a ++ unit_list k place) (sym (list_row forms place form l f)) (sym e))
          past;
    }

pub echelon_next : (n : ℕ) (forms : List (Vec Frac Global)) (place : ℕ) {form : Vec Frac Global}
    (row : List Frac) {rows : List (List Fraction)}
    → place < length forms → form ≡ get_or forms place form
    → fractions_of row ≡ fractions_of form.items ++ unit_list n place
    → IsEchelonOf (n + n) (beside n 0 (rows_of (take place forms)) ++ fractions_of row ∷ []) rows
    → IsEchelonOf (n + n) (beside n 0 (rows_of (take (place + 1) forms))) rows
echelon_next n forms place {form = form} row {rows = rows} l f h is =
    subst (λ given. IsEchelonOf (n + n) given rows) (beside_next n forms place form row l f h) is

pub behind_is : (forms : List (Vec Frac Global)) {rows back : List (List Fraction)}
    → IsEchelonOf (length forms + length forms) (beside (length forms) 0 (rows_of forms)) rows
    → back ≡ map (drop (length forms)) rows → IsBehind (rows_of forms) back
behind_is forms {rows} is e =
    let n = sym (rows-length forms) in
    record {
      echelon = rows;
      is = subst (λ k. IsEchelonOf (k + k) (beside k 0 (rows_of forms)) rows) n is;
      behind = e ∙ ap (λ k. map (drop k) rows) n;
    }

pub widths_low : (n : ℕ) (items : List (Vec Frac Global)) {rows : List (List Fraction)}
    → rows_of items ≡ rows → Each (λ row. length row ≡ n + n) rows
    → All (λ (v : Vec Frac Global). n ≤ length v.items) items
widths_low n items {rows} e h k d l =
    let v = get_or items k d in
    let w = each_in (λ (row : List Fraction). length row ≡ n + n) rows (fractions_of v.items) h
    (subst (In (fractions_of v.items)) e
    (map-in (λ (v : Vec Frac Global). fractions_of v.items) items v (in_get items k d l))) in
    let f = fractions-length v.items in
    omega (arith, w, f)
