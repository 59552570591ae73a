-- What the searches keep and find.
--   start_at, step_at      the identity of the element at a place;  start_past, step_past: where it is too wide
--   start_counted, step_counted     how many terms it multiplies out to
--   kept_more, failed_here     all before hold, and so does this one; or it is the first that doesn't
use Rattle.std.specs.Prelude.{Option}
use Rattle.std.proofs.Common.{◌≡◌, ◌↔◌, ◌⊎◌, inl, inr, ℕ, ◌<◌, ◌≤◌, ◌+◌, Bool, true, false, List, [], get_or, length, IsTrue, arith, sym, ap, subst, subst₂, ◌∙◌, true≢false, Vec, Global, vec_len}
use Rattle.std.proofs.lemmas.List.{get_or-map}
use borrow.Author.Count.{below_more}
use Rattle.algebra.specs.Fraction.{ℚ, fractions}
use Rattle.polynomials.specs.Terms.{Same, combination, compose}
use Rattle.polynomials.specs.Weight.{IsPastComposition}
use Rattle.poly.specs.Seen.{terms_in, terms_each}
use Rattle.loops.specs.First.{IsFirstFailure}
use Rattle.loop_model.specs.FracPoly.{FracPoly}
use Rattle.loop_model.proofs.Items.{in_list, item_of}
use Rattle.cert_form.specs.Cert.{Polys, polys_in, rows_in}
use Rattle.task_lists.specs.Past.{IsPastCombination}
use Rattle.expansion.specs.Counts.{IsCount, composition_terms, combination_terms}
use Rattle.cert_checker.specs.Identities.{StartHolds, StepHolds, StartIsPast, StepIsPast}
use Rattle.cert_checker.specs.Long.{start_terms, step_terms}

-- ---- the identity of the element that a loop over the basis has
module _ (m : ℕ) {basis : List FracPoly} (images items : List FracPoly) (value : items ≡ basis)
    (i : ℕ) {p : FracPoly} (l : i < length items) (is : p ≡ get_or items i p) where
  found : terms_in p ≡ get_or (terms_each basis) i []
  found = ap terms_in (item_of basis items value i p is)
      ∙ sym (get_or-map terms_in basis i p [] (in_list basis items value i l))

  pub start_at : {b : Bool} → IsTrue b ↔ Same ℚ (compose ℚ m (terms_in p) (terms_each images)) []
      → IsTrue b ↔ StartHolds m (terms_each basis) (terms_each images) i
  start_at {b = b} h = subst (λ x. IsTrue b ↔ Same ℚ (compose ℚ m x (terms_each images)) []) found h

  pub start_past : IsPastComposition fractions (terms_in p) (terms_each images)
      → StartIsPast (terms_each basis) (terms_each images) i
  start_past h = subst (λ x. IsPastComposition fractions x (terms_each images)) found h

  pub start_counted : (t : ℕ) (o : Option ℕ)
      → IsCount (t + composition_terms (terms_in p) (terms_each images)) o
      → IsCount (t + start_terms (terms_each basis) (terms_each images) i) o
  start_counted t o h = subst (λ x. IsCount (t + composition_terms x (terms_each images)) o) found h

  module _ (rows : Vec Polys Global) (row : Polys) (height : vec_len rows ≡ length basis)
      (at : row ≡ get_or rows.items i row) where
    row_is : polys_in row ≡ get_or (rows_in rows) i []
    row_is = ap polys_in at
        ∙ sym (get_or-map polys_in rows.items i row [] (omega (
          arith,
          in_list basis items value i l,
          height,
          rows.ok.0,
        )))

    pub step_at : {b : Bool}
        → IsTrue b ↔ Same ℚ (compose ℚ m (terms_in p) (terms_each images))
        (combination ℚ (polys_in row) (terms_each basis))
        → IsTrue b ↔ StepHolds m (terms_each basis) (terms_each images) (rows_in rows) i
    step_at {b = b} h = subst₂ (λ x y. IsTrue b ↔ Same ℚ (compose ℚ m x (terms_each images))
        (combination ℚ y (terms_each basis))) found row_is h

    pub step_past : IsPastComposition fractions (terms_in p) (terms_each images)
        ⊎ IsPastCombination (polys_in row) (terms_each basis)
        → StepIsPast (terms_each basis) (terms_each images) (rows_in rows) i
    step_past (inl h) = inl (start_past h)
    step_past (inr h) = inr (subst (λ y. IsPastCombination y (terms_each basis)) row_is h)

    pub step_counted : (t : ℕ) (o : Option ℕ)
        → IsCount (t + (composition_terms (terms_in p) (terms_each images)
        + combination_terms (polys_in row) (terms_each basis))) o
        → IsCount (t + step_terms (terms_each basis) (terms_each images) (rows_in rows) i) o
    step_counted t o h = subst₂ (λ x y. IsCount (t + (composition_terms x (terms_each images)
        + combination_terms y (terms_each basis))) o) found row_is h

module _ (P : ℕ → Type 0) (n : ℕ) {i : ℕ} {b : Bool} (before : (j : ℕ) → j < i → P j)
    (tells : IsTrue b ↔ P i) where
  pub kept_more : b ≡ true → (j : ℕ) → j < i + 1 → P j
  kept_more t = below_more P i before (tells.0 t)

  pub failed_here : i < n → b ≡ false → IsFirstFailure P n i
  failed_here l f = record {
    within = l;
    fails = λ p. true≢false (sym (tells.1 p) ∙ f);
    before = before;
  }

pub all_kept : (P : ℕ → Type 0) (n i : ℕ) → n ≤ i → ((j : ℕ) → j < i → P j) → (j : ℕ) → j < n → P j
all_kept P n i l h j k = h j (omega arith)
