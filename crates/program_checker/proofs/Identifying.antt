-- What the searches keep and find.
--   row_fits         the row of an element
--   step_at          the identity of the element at a place;  step_past: where it is too wide
--   step_counted     how many terms it multiplies out to
--   kept_more, failed_here, all_kept     all before hold, and so does this one; or it is the first that doesn't; all hold
use Rattle.std.specs.Prelude.{Option, Vec}
use Rattle.std.specs.declared.alloc.Global.{Global}
use Rattle.std.proofs.Common.{◌≡◌, ◌↔◌, ◌⊎◌, ℕ, ◌<◌, ◌≤◌, ◌+◌, Bool, true, false, List, [], get_or, length, IsTrue, arith, sym, ap, subst, ◌∙◌, true≢false}
use Rattle.std.proofs.Math.Path.{subst₂}
use Rattle.std.proofs.lemmas.List.{get_or-map}
use borrow.Author.Count.{below_more}
use Rattle.algebra.specs.Fraction.{ℚ, fractions}
use Rattle.polynomials.specs.Terms.{Same, combination, compose}
use Rattle.polynomials.specs.Weight.{IsPastComposition}
use Rattle.poly.specs.Seen.{terms_in, terms_each}
use Rattle.loops.specs.First.{IsFirstFailure}
use Rattle.loop_model.specs.FracPoly.{FracPoly}
use Rattle.loop_model.proofs.Items.{in_list, item_of}
use Rattle.task_lists.specs.Past.{IsPastCombination}
use Rattle.expansion.specs.Counts.{IsCount, composition_terms, combination_terms}
use Rattle.program_checker.specs.Rows.{PairRow, row_of, chosen}
use Rattle.program_checker.specs.View.{pairs_of, rows_of, no_row}
use Rattle.program_checker.specs.Fits.{IsRow, AreRows}
use Rattle.program_checker.specs.Identities.{StepHolds, StepIsPast, step_terms}
use Rattle.program_checker.specs.declared.cert.Row.{Row}

module _ (m : ℕ) {elements : List FracPoly} (images items : List FracPoly)
    (value : items ≡ elements) (gens : List FracPoly) (i : ℕ) {p : FracPoly} (l : i < length items)
    (is : p ≡ get_or items i p) (rows : Vec Row Global) (row : Row)
    (fit : AreRows m (length gens) (length elements) rows) (at : row ≡ get_or rows.items i
    row) where
  inside : i < length rows.items
  inside = let h = in_list elements items value i l in omega (arith, h, fit.count)

  pub row_fits : IsRow m (length gens) row
  row_fits = subst (IsRow m (length gens)) (sym at) (fit.each i row inside)

  found : terms_in p ≡ get_or (terms_each elements) i []
  found = ap terms_in (item_of elements items value i p is)
      ∙ sym (get_or-map terms_in elements i p [] (in_list elements items value i l))

  row_is : pairs_of row ≡ get_or (rows_of rows) i no_row
  row_is = ap pairs_of at ∙ sym (get_or-map pairs_of rows.items i row no_row inside)

  pub step_at : {b : Bool}
      → IsTrue b ↔ Same ℚ (compose ℚ m (terms_in p) (terms_each images))
      (combination ℚ (row_of (pairs_of row)) (terms_each gens))
      → IsTrue b
      ↔ StepHolds (terms_each elements) (terms_each images) (terms_each gens) (rows_of rows) m i
  step_at {b = b} h = subst₂ (λ x (r : PairRow). IsTrue b
      ↔ Same ℚ (compose ℚ m x (terms_each images)) (combination ℚ (row_of r) (terms_each gens)))
      found row_is h

  pub step_past : IsPastComposition fractions (terms_in p) (terms_each images)
      ⊎ IsPastCombination (terms_each row.cofactors.items)
      (chosen (terms_each gens) row.positions.items)
      → StepIsPast (terms_each elements) (terms_each images) (terms_each gens) (rows_of rows) i
  step_past h = subst₂ (λ x (r : PairRow). IsPastComposition fractions x (terms_each images)
      ⊎ IsPastCombination r.cofactors (chosen (terms_each gens) r.positions)) found row_is h

  pub step_counted : (t : ℕ) (o : Option ℕ)
      → IsCount (t + (composition_terms (terms_in p) (terms_each images)
      + combination_terms (terms_each row.cofactors.items)
      (chosen (terms_each gens) row.positions.items))) o
      → IsCount (t + step_terms (terms_each elements) (terms_each images) (terms_each gens)
      (rows_of rows) i) o
  step_counted t o h = subst₂ (λ x (r : PairRow). IsCount (t
      + (composition_terms x (terms_each images)
      + combination_terms r.cofactors (chosen (terms_each gens) r.positions))) o) found row_is h

module _ (P : ℕ → Type 0) (n : ℕ) {i : ℕ} {b : Bool} (before : (j : ℕ) → j < i → P j)
    (tells : IsTrue b ↔ P i) where
  pub kept_more : b ≡ true → (j : ℕ) → j < i + 1 → P j
  kept_more t = below_more P i before (tells.0 t)

  pub failed_here : i < n → b ≡ false → IsFirstFailure P n i
  failed_here l f = record {
    within = l;
    fails = λ p. true≢false (sym (tells.1 p) ∙ f);
    before = before;
  }

pub all_kept : (P : ℕ → Type 0) (n i : ℕ) → n ≤ i → ((j : ℕ) → j < i → P j) → (j : ℕ) → j < n → P j
all_kept P n i l h j k = h j (omega arith)
