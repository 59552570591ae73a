-- The rows that are cleared, and the place of the new one, over what the code has.
--   rows-length     there are as many rows as the code has
use Rattle.std.proofs.Common.{◌≡◌, ◌<◌, ◌≤◌, ℕ, suc, ◌+◌, true, false, cond, ltb, List, [], ◌∷◌, ◌++◌, length, get_or, take, drop, All, refl, sym, ap, ap₂, subst, ◌∙◌, arith, Vec, Global, Option, Some, MatchOption}
use Rattle.std.specs.Prelude.{insert}
use Rattle.std.proofs.lemmas.List.{take_more, take-map, drop-map}
use Rattle.algebra.specs.Ring.{CommRing}
use Rattle.algebra.specs.Fraction.{Fraction, inverse, fraction_size}
use Rattle.algebra.specs.Size.{sum_size, product_size, IsPast}
use Rattle.algebra.proofs.Fractions.{ℚ_ring}
use Rattle.algebra.proofs.SizeLaws.{under-sum, under_refl, past_under}
use Rattle.algebra.proofs.ProductSizes.{product_den-pos, times_under_product}
use Rattle.algebra.proofs.LcmLaws.{lcm-pos}
use Rattle.vectors.specs.Adding.{lead, entry, less, reduced_by, reduce_row, scale_row, quotient, row_size}
use Rattle.frac128.specs.FracMeaning.{fraction_of}
use Rattle.frac128.specs.declared.fraction.Frac.{Frac}
use Rattle.linear.specs.Rows.{fractions_of, rows_of}
use Rattle.linear.specs.Parts.{IsPastLess, IsPastClear, IsFresh, IsAdded, clear_column, place}
use Rattle.linear.proofs.Weights.{weigh, some, clean, row_clean, row_some, times-some}
use Rattle.linear.proofs.Lists.{entry_at, fractions-length, less-none, less-length}

abbrev R : CommRing Fraction
R = ℚ_ring

-- ---- one row
pub clear_same : (row fresh : List Frac) (c : ℕ) {factor : Frac} → c < length row
    → factor ≡ get_or row c factor → fraction_of factor ≡ R.zero
    → fractions_of row ≡ less (fractions_of row) (entry (fractions_of row) c) (fractions_of fresh)
clear_same row fresh c {factor = factor} h e z = sym (less-none (fractions_of row)
    (fractions_of fresh) (entry_at row c factor h e ∙ z))

pub clear_less : (row fresh : List Frac) (c : ℕ) {factor : Frac} (out : List Frac) → c < length row
    → factor ≡ get_or row c factor
    → fractions_of out ≡ less (fractions_of row) (fraction_of factor) (fractions_of fresh)
    → fractions_of out ≡ less (fractions_of row) (entry (fractions_of row) c) (fractions_of fresh)
clear_less row fresh c {factor = factor} out h e q = q
    ∙ ap (λ a. less (fractions_of row) a (fractions_of fresh)) (sym (entry_at row c factor h e))

pub clear_wide : (row fresh : List Frac) (c : ℕ) {factor : Frac} → c < length row
    → factor ≡ get_or row c factor
    → IsPastLess (fractions_of row) (fraction_of factor) (fractions_of fresh)
    → IsPastClear (fractions_of row) c (fractions_of fresh)
clear_wide row fresh c {factor = factor} h e p =
    let a = fraction_of factor in
    let row' = fractions_of row in
    let fresh' = fractions_of fresh in
    let product_some = product_den-pos (row_size fresh') (weigh a) (row_some fresh') (some a) in
    subst (λ b. IsPast (sum_size (row_size row')
    (product_size (row_size fresh') (fraction_size b)))) (sym (entry_at row c factor h e))
    (past_under _ _ (lcm-pos (row_size row').den _ (row_some row') product_some)
    (under-sum (row_size row') _ (row_size row') _ (row_some row') (times-some (row_size fresh')
    (weigh a) (row_some fresh') (some a)) (row_some row') product_some
    (under_refl (row_size row') (row_some row')) (times_under_product (row_size fresh') (weigh a)
    (row_clean fresh') (clean a))) p)

-- ---- all rows
pub rows-append : (xs ys : List (Vec Frac Global)) → rows_of (xs ++ ys) ≡ rows_of xs ++ rows_of ys
rows-append [] ys = refl
rows-append (x ∷ xs) ys = ap (λ l. fractions_of x.items ∷ l) (rows-append xs ys)

cleared-append : (c : ℕ) (h : List Fraction) (xs ys : List (List Fraction))
    → clear_column c h (xs ++ ys)
    ≡ clear_column c h xs ++ clear_column c h ys
cleared-append c h [] ys = refl
cleared-append c h (x ∷ xs) ys = ap (λ l. less x (entry x c) h ∷ l) (cleared-append c h xs ys)

pub cleared_more : (c : ℕ) (fresh : List Fraction) (rows : List (Vec Frac Global)) (i : ℕ)
    {row : Vec Frac Global} (out : List (Vec Frac Global)) {more : List (Vec Frac Global)}
    (next : Vec Frac Global)
    → i < length rows → row ≡ get_or rows i row
    → fractions_of next.items ≡ less (fractions_of row.items) (entry (fractions_of row.items) c)
    fresh
    → more ≡ out ++ next ∷ [] → rows_of out ≡ clear_column c fresh (rows_of (take i rows))
    → rows_of more ≡ clear_column c fresh (rows_of (take (i + 1) rows))
cleared_more c fresh rows i {row = row} out next h e q p s =
    ap rows_of p ∙ rows-append out (next ∷ []) ∙ ap₂ (λ l a. l ++ a ∷ []) s q
    ∙ sym (ap (λ l. clear_column c fresh (rows_of l)) (take_more rows i row h
    ∙ ap (λ z. take i rows ++ z ∷ []) (sym e))
    ∙ ap (clear_column c fresh) (rows-append (take i rows) (row ∷ []))
    ∙ cleared-append c fresh (rows_of (take i rows)) (fractions_of row.items ∷ []))

pub cleared-length : (c : ℕ) (h : List Fraction) (rows : List (List Fraction))
    → length (clear_column c h rows) ≡ length rows
cleared-length c h [] = refl
cleared-length c h (e ∷ rows) = ap suc (cleared-length c h rows)

pub rows-length : (rows : List (Vec Frac Global)) → length (rows_of rows) ≡ length rows
rows-length [] = refl
rows-length (r ∷ rows) = ap suc (rows-length rows)

pub place-within : (c : ℕ) (rows : List (List Fraction)) → place c rows ≤ length rows
place-within c [] = omega arith
place-within c (e ∷ rows) = (let h = place-within c rows in elim (ltb c (lead e)) as
    (λ b. cond b 0 (suc (place c rows)) ≤ suc (length rows)) [
      | true ↦ omega arith
      | false
          ↦ omega (arith, h)
    ])

-- ---- the new row in its place
scaled-length : (c : Fraction) (row : List Fraction) → length (scale_row c row) ≡ length row
scaled-length c [] = refl
scaled-length c (a ∷ row) = ap suc (scaled-length c row)

pub reduced-length : (by : List Fraction) (rows : List (List Fraction)) (row : List Fraction)
    → length (reduced_by by rows row) ≡ length row
reduced-length by [] row = refl
reduced-length by (e ∷ rows) row = reduced-length by rows (less row (entry by (lead e)) e)
    ∙ less-length row (entry by (lead e)) e

pub quotient-length : (row : List Fraction) → length (quotient row) ≡ length row
quotient-length row = scaled-length (inverse (entry row (lead row))) row

module _ (rows : List (Vec Frac Global)) (row : List Frac) {column : ℕ} (fresh : Vec Frac Global)
    (is : IsFresh (rows_of rows) (fractions_of row) column (fractions_of fresh.items)) where
  fresh_width : length fresh.items ≡ length row
  fresh_width = sym (fractions-length fresh.items) ∙ ap length is.is
      ∙ quotient-length (reduce_row (rows_of rows) (fractions_of row))
      ∙ reduced-length (fractions_of row) (rows_of rows) (fractions_of row) ∙ fractions-length row

  pub fresh_widths : All (λ e. length e.items ≡ length row) rows
      → All (λ e. length e.items ≡ length fresh.items) rows
  fresh_widths a = subst (λ n. All (λ (e : Vec Frac Global). length e.items ≡ n) rows)
      (sym fresh_width) a

  pub fresh_column : column < length fresh.items
  fresh_column = (let h = is.within in let f = fresh_width in let l = fractions-length row in
      omega (arith, h, f, l))

  pub insert_within : (more : List (Vec Frac Global)) {at : ℕ} (n : ℕ)
      → rows_of more ≡ clear_column column (fractions_of fresh.items) (rows_of rows)
      → at ≡ place column (rows_of rows) → n ≡ length more → at ≤ n
  insert_within more n e p l =
      (let h = place-within column (rows_of rows) in
      let k : length more ≡ length (rows_of rows) = sym (rows-length more) ∙ ap length e
      ∙ cleared-length column (fractions_of fresh.items) (rows_of rows) in
      omega (arith, h, k, p, l))

  pub added_is : (more : List (Vec Frac Global)) {final : List (Vec Frac Global)} (at : ℕ)
      → rows_of more ≡ clear_column column (fractions_of fresh.items) (rows_of rows)
      → at ≡ place column (rows_of rows) → final ≡ insert more at fresh
      → IsAdded (rows_of rows) (fractions_of row) (rows_of final)
  added_is more at e p f = record {
    within = subst (λ c. c < length (fractions_of row)) is.column is.within;
    is = ap rows_of f ∙ rows_insert more at fresh
        ∙ ap₂ (λ l i. insert l i (fractions_of fresh.items)) e p
        ∙ ap (λ c. insert (clear_column c (fractions_of fresh.items) (rows_of rows))
        (place c (rows_of rows)) (fractions_of fresh.items)) is.column
        ∙ ap (λ h. insert (clear_column (lead (reduce_row (rows_of rows) (fractions_of row))) h
        (rows_of rows)) (place (lead (reduce_row (rows_of rows) (fractions_of row)))
        (rows_of rows)) h) is.is;
  }
    where
      fractions : Vec Frac Global → List Fraction
      fractions v = fractions_of v.items

      rows_insert : (xs : List (Vec Frac Global)) (n : ℕ) (x : Vec Frac Global)
          → rows_of (insert xs n x) ≡ insert (rows_of xs) n (fractions_of x.items)
      rows_insert xs n x = rows-append (take n xs) (x ∷ drop n xs)
          ∙ ap₂ (λ l k. l ++ fractions_of x.items ∷ k) (sym (take-map fractions n xs))
          (sym (drop-map fractions n xs))
      -- ---- the cause of a refusal

-- ---- what calls return
pub found_some : {X : Type 0} {found : Option X} {x : X} (P : Type 0) (Q : X → Type 0)
    → found ≡ Some x → MatchOption found P Q → Q x
found_some P Q e h = subst (λ f. MatchOption f P Q) e h
