-- The whole search, and what the refusals tell.
--   searched_to              after so many candidates
--   others_done, ended       after all others, and after the last one
--   too_wide, not_too_wide   the sums of the columns
--   past_refused             what is past at a candidate
use Rattle.std.proofs.Common.{◌≡◌, inl, inr, nat_abs, ℕ, zero, suc, ◌+◌, ◌*◌, ◌^◌, ◌<◌, ◌≤◌, ℤ, pos, ◌+ℤ◌, neg_ℤ, List, [], ◌∷◌, ◌++◌, length, refl, sym, ap, ap₂, subst, ◌∙◌, arith, lit<, add-one, All, Vec, Global}
use Rattle.std.proofs.lemmas.Int.{ints}
use Rattle.std.proofs.lemmas.Bool.{cases_lt}
use Rattle.std.proofs.lemmas.List.{length-map}
use Rattle.std.proofs.lemmas.List.Elements.{All-head, All-tail}
use Rattle.algebra.specs.Each.{Each}
use Rattle.frac128.specs.FracMeaning.{fraction_of}
use Rattle.frac128.specs.declared.fraction.Frac.{Frac}
use Rattle.linear.specs.Rows.{fractions_of, rows_of}
use Rattle.algebra.specs.Fraction.{Fraction, over}
use Rattle.vectors.specs.Matrices.{denominator, sum_of_column, greatest_of, greatest_sum, SplitsAt, AreForms, AreSearched}
use Rattle.vectors.specs.Causes.{limit, IsTooWide, denominator_past, entry_past, sum_past}
use Rattle.eigen_split.specs.Ints.{IsReady}
use Rattle.eigen_split.specs.Search.{Found, AreFormsOf, copies, IsIteration, new_forms, IsOther, IterationsTo, AreOthers, IsWholeSearch, enough, zero_last}
use Rattle.eigen_split.specs.Parts.{IfPastIn}
use Rattle.eigen_split.specs.Refusal.{Ascending, IsWithin, IsSearched, IfSplitRefused}
use Rattle.eigen_split.specs.declared.EigenError.{EigenError}
use Rattle.eigen_split.specs.declared.EigenError.TheVariants.{Eigen, Range, Wide, Memory}
use Rattle.vectors.proofs.SplitDecided.{at_most_greatest}
use Rattle.eigen_split.proofs.Multiples.{entry_in_sum}
use Rattle.eigen_split.proofs.Rising.{candidate_next, values_ascend}
use Rattle.eigen_split.proofs.Turning.{IsSearchedTo, IsAllSearched, first, turned, with_zero, without_zero, searched, forms_are, splits, no_split}

candidate_within : (b k : ℕ) → k < 2 * b + 1 → nat_abs (pos k +ℤ neg_ℤ (pos b)) ≤ b
candidate_within b k l = grind (arith, ints)

candidate_first : (b : ℕ) → neg_ℤ (pos b) ≡ pos 0 +ℤ neg_ℤ (pos b)
candidate_first b = omega (arith, ints)

candidate_last : (b : ℕ) → pos (2 * b + 1) +ℤ neg_ℤ (pos b) ≡ pos (suc b)
candidate_last b = omega (arith, ints)

module _ (n : ℕ) (rows : List (List Fraction)) (size : length rows ≡ n)
    (widths : Each (λ row. length row ≡ n) rows) where
  searched_to : (b k : ℕ) (f : Found) → k ≤ 2 * b + 1 → IterationsTo n rows b k f
      → IsSearchedTo rows size widths b (pos k +ℤ neg_ℤ (pos b)) f
  searched_to b zero f l e = subst (IsSearchedTo rows size widths b (pos 0 +ℤ neg_ℤ (pos b)))
      (sym e) (subst (λ m. IsSearchedTo rows size widths b m (record { forms = []; values = [] }))
      (candidate_first b) (first rows size widths b))
  searched_to b (suc k) f l h =
      subst (λ m. IsSearchedTo rows size widths b m f) (candidate_next b k)
      (turned rows size widths b (pos k +ℤ neg_ℤ (pos b)) h.0 f
      (candidate_within b k (omega arith)) h.2 (searched_to b k h.0 (omega arith) h.1))

  others_done : (b : ℕ) (f : Found) → b ≡ greatest_sum n rows → AreOthers n rows b f
      → IsSearchedTo rows size widths (greatest_sum n rows) (pos (suc (greatest_sum n rows))) f
  others_done b f bound others =
      subst (λ b. IsSearchedTo rows size widths b (pos (suc b)) f) bound (subst (λ m. IsSearchedTo
      rows size widths b m f) (candidate_last b) (searched_to b (2 * b + 1) f (omega arith) others))

  pub ended : (b : ℕ) (f : Found) → b ≡ greatest_sum n rows → IsWholeSearch n rows b f
      → IsAllSearched rows size widths f
  ended b f bound (enough others l) =
      without_zero rows size widths f l (others_done b f bound others)
  ended b f bound (zero_last e others l h) =
      with_zero rows size widths e f h (others_done b e bound others)

-- ---- column sums
greatest_place : (m : ℕ) (f : ℕ → ℕ) (x : ℕ) → 0 < x → x ≤ greatest_of m f → (j : ℕ) × (j < m)
    × (x ≤ f j)
greatest_place zero f x s l = absurd (omega arith)
greatest_place (suc m) f x s l = elim (cases_lt (f m) x) [
  | inl k ↦ (let r = greatest_place m f x s (omega (arith, l, k)) in
      (r.0, (let q = r.1 in omega (arith, q)), r.2))
  | inr k ↦ (m, omega arith, k)
]

pub too_wide : (n : ℕ) (rows : List (List Fraction)) (d : ℕ) → d ≡ denominator rows
    → 2 ^ 127 ≤ greatest_of n (sum_of_column d rows) → IsTooWide n rows
too_wide n rows d e l =
    let r = greatest_place n (sum_of_column (denominator rows) rows) (2 ^ 127) (lit< tt)
    (subst (λ d. 2 ^ 127 ≤ greatest_of n (sum_of_column d rows)) e l) in
    sum_past r.0 r.1 r.2

pub not_too_wide : (n : ℕ) (rows : List (List Fraction)) (d : ℕ) → length rows ≡ n
    → d ≡ denominator rows → d < 2 ^ 127 → greatest_sum n rows < 2 ^ 127 → IsTooWide n rows → ⊥
not_too_wide n rows d size e small g (denominator_past h) = omega (arith, e, small, h)
not_too_wide n rows d size e small g (entry_past i j l k h) =
    let a = entry_in_sum (denominator rows) rows i j (subst (λ m. i < m) (sym size) l) in
    let b = at_most_greatest n (sum_of_column (denominator rows) rows) j k in
    omega (arith, a, b, g, h)
not_too_wide n rows d size e small g (sum_past j k h) =
    let b = at_most_greatest n (sum_of_column (denominator rows) rows) j k in
    omega (arith, b, g, h)

pub past_refused : (n : ℕ) (rows : List (List Fraction)) (e : EigenError) → 2 ≤ n
    → greatest_sum n rows ≤ limit n → (IsTooWide n rows → ⊥) → IfPastIn n rows e
    → IfSplitRefused n rows e
past_refused n rows Eigen l g w h = absurd h
past_refused n rows (Range sum) l g w h = absurd h
past_refused n rows Memory l g w h = tt
past_refused n rows (Wide candidate zero row) l g w h = absurd h
past_refused n rows (Wide candidate (suc k) row) l g w h = (l, ((g, w), h.0, h.1))

-- ---- as the code has it
rows_widths : (n : ℕ) (xs : List (Vec Frac Global)) → All (λ row. length row.items ≡ n) xs
    → Each (λ row. length row ≡ n) (rows_of xs)
unfolding Each
rows_widths n [] h = tt
rows_widths n (x ∷ xs) h = (
  length-map x.items fraction_of
      ∙ All-head (λ (row : Vec Frac Global). length row.items ≡ n) x xs h,
  rows_widths n xs (All-tail (λ (row : Vec Frac Global). length row.items ≡ n) x xs h),
)

pub is_ready : (xs : List (Vec Frac Global)) {d : ℕ} → length xs ≤ 12
    → All (λ row. length row.items ≡ length xs) xs → d ≡ denominator (rows_of xs) → d < 2 ^ 127
    → greatest_sum (length xs) (rows_of xs) ≤ limit (length xs) → IsReady (length xs) (rows_of xs) d
is_ready xs few square least small within =
    record {
      count = length-map xs (λ (v : Vec Frac Global). fractions_of v.items);
      widths = rows_widths (length xs) xs square;
      few = few;
      least = least;
      small = small;
      within = within;
    }

pub range_refused : (xs : List (Vec Frac Global)) (d s : ℕ) (z : ℤ) → 2 ≤ length xs
    → d ≡ denominator (rows_of xs) → d < 2 ^ 127 → s ≡ greatest_sum (length xs) (rows_of xs)
    → s < 2 ^ 127 → limit (length xs) < s → z ≡ pos s → IfSplitRefused (length xs) (rows_of xs)
    (Range z)
range_refused xs d s z some least small e fits l q = (
  some,
  q ∙ ap pos e,
  subst (λ s. limit (length xs) < s) e l,
  not_too_wide (length xs) (rows_of xs) d (length-map xs (λ (v : Vec Frac Global).
      fractions_of v.items)) least small (subst (λ s. s < 2 ^ 127) e fits),
)

pub search_refused : (xs : List (Vec Frac Global)) (d s : ℕ) (error : EigenError) → 2 ≤ length xs
    → d ≡ denominator (rows_of xs) → d < 2 ^ 127 → s ≡ greatest_sum (length xs) (rows_of xs)
    → s < 2 ^ 127 → s ≤ limit (length xs) → IfPastIn (length xs) (rows_of xs) error
    → IfSplitRefused (length xs) (rows_of xs) error
search_refused xs d s error some least small e fits l h =
    past_refused (length xs) (rows_of xs) error some (subst (λ s. s ≤ limit (length xs)) e l)
    (not_too_wide (length xs) (rows_of xs) d (length-map xs (λ (v : Vec Frac Global).
    fractions_of v.items)) least small (subst (λ s. s < 2 ^ 127) e fits)) h

module _ (xs : List (Vec Frac Global)) (d s b : ℕ) (f : Found)
    (ready : IsReady (length xs) (rows_of xs) d) (e : s ≡ greatest_sum (length xs) (rows_of xs))
    (fits : s < 2 ^ 127) (same : b ≡ s) (whole : IsWholeSearch (length xs) (rows_of xs) b f) where
  within : IsWithin (length xs) (rows_of xs)
  within = (
    ready.within,
    not_too_wide (length xs) (rows_of xs) d ready.count ready.least
        ready.small (subst (λ s. s < 2 ^ 127) e fits),
  )

  at_end : IsAllSearched (rows_of xs) ready.count ready.widths f
  at_end = ended (length xs) (rows_of xs) ready.count ready.widths b f (same ∙ e) whole

  pub ok_answer : length f.forms ≡ length xs
      → AreForms (length xs) (rows_of xs) f.forms f.values × SplitsAt (length xs) (rows_of xs)
      × AreSearched (length xs) (rows_of xs) f.forms f.values × Ascending f.values
      × IsWithin (length xs) (rows_of xs) × IsSearched (length xs) (rows_of xs) f.forms f.values
  ok_answer q = (
    forms_are (rows_of xs) ready.count ready.widths f at_end q,
    splits (rows_of xs) ready.count ready.widths f at_end q,
    searched (rows_of xs) ready.count ready.widths f at_end,
    values_ascend (length xs) (rows_of xs) b f whole,
    within,
    subst (λ b. IsWholeSearch (length xs) (rows_of xs) b f) (same ∙ e) whole,
  )

  pub eigen_answer : (length f.forms ≡ length xs → ⊥) → IfSplitRefused (length xs) (rows_of xs)
      Eigen
  eigen_answer ne = (
    no_split (rows_of xs) ready.count ready.widths f at_end ne,
    λ l. within,
  )

pub denominator_refused : (xs : List (Vec Frac Global)) → 2 ≤ length xs
    → 2 ^ 127 ≤ denominator (rows_of xs) → IfSplitRefused (length xs) (rows_of xs)
    (Wide (pos 0) 0 0)
denominator_refused xs some h = (some, (refl, refl, denominator_past h))

pub sum_refused : (xs : List (Vec Frac Global)) (d : ℕ) → 2 ≤ length xs
    → d ≡ denominator (rows_of xs)
    → 2 ^ 127 ≤ greatest_of (length xs) (sum_of_column d (rows_of xs))
    → IfSplitRefused (length xs) (rows_of xs) (Wide (pos 0) 0 0)
sum_refused xs d some e h = (some, (refl, refl, too_wide (length xs) (rows_of xs) d e h))

-- ---- the loop over the candidates
pub iterations_more : {n : ℕ} {rows : List (List Fraction)} (b k : ℕ) {e f : Found} {p : ℤ}
    → IterationsTo n rows b k e → p ≡ pos k +ℤ neg_ℤ (pos b) → IsOther n rows p e f
    → IterationsTo n rows b (k + 1) f
iterations_more {n = n} {rows = rows} b k {e = e} {f = f} {p = p} h q t =
    subst (λ m. IterationsTo n rows b m f) (sym (add-one k)) (
      e,
      h,
      subst (λ p. IsOther n rows p e f) q t,
    )

-- ---- one candidate with forms
pub iteration_found : {n : ℕ} (rows : List (List Fraction)) (d : ℕ) (p q r : ℤ) (f : Found)
    (forms more : List (Vec Frac Global)) (values : List Frac) (v : Frac) (count : ℕ)
    → d ≡ denominator rows → q ≡ p → r ≡ p → AreFormsOf n rows q (rows_of forms)
    → fraction_of v ≡ over r d → count ≡ length forms → rows_of more ≡ f.forms ++ rows_of forms
    → fractions_of values ≡ f.values ++ copies count (fraction_of v)
    → IsIteration n rows p f (record { forms = rows_of more; values = fractions_of values })
iteration_found {n = n} rows d p q r f forms more values v count least e g a w c h k =
    new_forms (rows_of forms) (subst (λ q. AreFormsOf n rows q (rows_of forms)) e a)
    (ap₂ (λ fs vs. record { forms = fs; values = vs }) h
    (k ∙ ap₂ (λ m x. f.values ++ copies m x) (c
    ∙ sym (length-map forms (λ (v : Vec Frac Global). fractions_of v.items))) (w
    ∙ ap₂ over g least)))
