-- The search, candidate by candidate.
--   IsSearchedBy Done f     the candidates of Done are done
--   IsSearchedTo b m f      those of at most b below m are, but 0;  IsAllSearched f: all of at most the greatest sum
--   first, turned           before the first candidate, and after one
--   with_zero, without_zero after 0, which is the last one, and where it isn't tried
use Rattle.std.proofs.Common.{◌≡◌, inl, inr, nat_abs, ℕ, zero, suc, ◌+◌, ◌≤◌, ℤ, pos, ◌+ℤ◌, neg_ℤ, List, [], ◌∷◌, ◌++◌, length, refl, sym, ap, ap₂, subst, ◌∙◌, arith, length-append}
use Rattle.std.proofs.lemmas.List.{append-nil}
use Rattle.std.proofs.lemmas.Int.{ints}
use Rattle.algebra.specs.Each.{Each}
use Rattle.algebra.proofs.Each.{each-append, each_of}
use Rattle.algebra.specs.Fraction.{Fraction, ℚ, over}
use Rattle.algebra.proofs.Fractions.{ℚ_ring, ℚ_field}
use Rattle.vectors.specs.Lists.{row_of, matrix_of}
use Rattle.vectors.specs.Rows.{Row, rows_of}
use Rattle.vectors.specs.Space.{Space, IsCombination}
use Rattle.vectors.specs.SplitForms as F
use Rattle.vectors.specs.Splitting.{shift, IsKilled, IsLevel, vectors_of}
use Rattle.vectors.specs.Matrices.{rows_in, times_matrix, denominator, greatest_sum, with_values, AreForms, AreSearched, SplitsAt}
use Rattle.algebra.proofs.Wholes.{of_int-whole}
use Rattle.vectors.proofs.FractionEigen.{ℚ_fractions}
use Rattle.vectors.proofs.Forms as FO
use Rattle.vectors.proofs.Independence as I
use Rattle.vectors.proofs.MatrixSplits as MS
use Rattle.vectors.proofs.MatrixSplits.{IsFractionOf}
use Rattle.vectors.proofs.RowLaws as RL
use Rattle.vectors.proofs.SearchLaws as SE
use Rattle.vectors.proofs.SearchLaws.{SearchedTo, Below, Within}
use Rattle.vectors.proofs.SplitDecided.{denominator_some, all_done, done_searched, done_forms, split_decided, searched_is, whole_rows, valued-length}
use Rattle.eigen_split.specs.Search.{Found, copies, IsIteration, no_eigenvalue, new_forms, IsOther, zero_passed, other_iteration}
use Rattle.eigen_split.proofs.Forming.{over-is, IsWholeLevel, whole_level}

valued-append : (n : ℕ) (forms more : List (List Fraction)) (values : List Fraction) (c : Fraction)
    → length values ≡ length forms
    → with_values n (forms ++ more) (values ++ copies (length more) c) ≡ with_values n forms values
    ++ F.with_value c (matrix_of ℚ_field n more)
valued-append n [] more [] c e = alone more
  where
    alone : (more : List (List Fraction)) → with_values n more (copies (length more) c)
        ≡ F.with_value c (matrix_of ℚ_field n more)
    alone [] = refl
    alone (form ∷ more) = ap (◌∷◌ (row_of ℚ_field n form, c)) (alone more)
valued-append n [] more (v ∷ values) c e = absurd (omega arith)
valued-append n (form ∷ forms) more [] c e = absurd (omega arith)
valued-append n (form ∷ forms) more (v ∷ values) c e = ap (◌∷◌ (row_of ℚ_field n form, v))
    (valued-append n forms more values c (omega arith))

repeated-length : (k : ℕ) (c : Fraction) → length (copies k c) ≡ k
repeated-length zero c = refl
repeated-length (suc k) c = ap suc (repeated-length k c)

module _ {n : ℕ} (rows : List (List Fraction)) (size : length rows ≡ n)
    (widths : Each (λ row. length row ≡ n) rows) where
  abbrev S : Space ℚ_ring (Row ℚ_field n)
  S = rows_of ℚ_field n

  abbrev t : Row ℚ_field n → Row ℚ_field n
  t y = times_matrix n rows y

  abbrev d : ℕ
  d = denominator rows

  abbrev To : (ℤ → Type 0) → List (Row ℚ_field n × Fraction) → Type 0
  To Done forms = SearchedTo ℚ_field ℚ_fractions n (rows_in n rows) d (denominator_some rows) Done
      forms

  abbrev Done : ℕ → ℤ → ℤ → Type 0
  Done b m = Below ℚ_field ℚ_fractions n (rows_in n rows) d (denominator_some rows) b m

  abbrev All : ℤ → Type 0
  All = Within ℚ_field ℚ_fractions n (rows_in n rows) d (denominator_some rows)
      (greatest_sum n rows)

  pub record IsSearchedBy (Done : ℤ → Type 0) (f : Found) : Type 0 where
    pub to : To Done (with_values n f.forms f.values)
    pub one_each : length f.values ≡ length f.forms
    pub wide : Each (λ form. length form ≡ n) f.forms

  abbrev pub IsSearchedTo : ℕ → ℤ → Found → Type 0
  IsSearchedTo b m f = IsSearchedBy (Done b m) f

  abbrev pub IsAllSearched : Found → Type 0
  IsAllSearched f = IsSearchedBy All f

  pub first : (b : ℕ) → IsSearchedTo b (neg_ℤ (pos b)) (record { forms = []; values = [] })
  unfolding Each
  first b = record {
    to = SE.search_first ℚ_field ℚ_fractions n (rows_in n rows) d
        (denominator_some rows) b;
    one_each = refl;
    wide = tt;
  }

  over_of : (p : ℤ) → IsFractionOf ℚ_field ℚ_fractions n (rows_in n rows) d p (over p d)
  over_of p = ap (λ x. ℚ.mul x (over p d)) (of_int-whole (pos d))
      ∙ over-is d p (denominator_some rows) ∙ sym (of_int-whole p)

  never : (c : Fraction) → ((v : Row ℚ_field n) → shift S t c v ≡ S.zero → v ≡ S.zero)
      → (k : ℕ) (v : Row ℚ_field n) → IsKilled S t c k v → v ≡ S.zero
  never c h zero v e = e
  never c h (suc k) v e = h v (never c h k (shift S t c v) e)

  -- what a candidate adds, with what the forms of a candidate add
  step : (Before After : ℤ → Type 0) (p : ℤ) (f g : Found)
      → ((k : ℕ) (es : List (Row ℚ_field n)) → To Before (with_values n f.forms f.values) → k ≤ n
      → IsLevel S t (over p d) k es
      → ((v : Row ℚ_field n) → IsKilled S t (over p d) n v → IsKilled S t (over p d) k v)
      → To After (with_values n f.forms f.values ++ F.with_value (over p d) es))
      → IsIteration n rows p f g → IsSearchedBy Before f → IsSearchedBy After g
  step Before After p f g more (no_eigenvalue h e) s =
      subst (IsSearchedBy After) (sym e)
      (record {
        to = subst (To After) (append-nil (with_values n f.forms f.values))
            (more 0 [] s.to (omega arith)
            (FO.level_none ℚ_field S t (RL.times-linear ℚ_field n (rows_in n rows)) (over p d))
            (λ v k. never (over p d) h.is n v k));
        one_each = s.one_each;
        wide = s.wide;
      })
  step Before After p f g more (new_forms forms a e) s =
      let w : IsWholeLevel n rows size widths p forms = whole_level n rows size widths p forms a in
      subst (IsSearchedBy After) (sym e)
      (record {
        to = subst (To After)
            (sym (valued-append n f.forms forms f.values (over p d) s.one_each))
            (more w.powers (matrix_of ℚ_field n forms) s.to w.few w.level w.stop);
        one_each = length-append f.values (copies (length forms) (over p d))
            ∙ ap₂ ◌+◌ s.one_each (repeated-length (length forms) (over p d))
            ∙ sym (length-append f.forms forms);
        wide = each-append (λ form. length form ≡ n) f.forms forms s.wide w.wide;
      })

  pub turned : (b : ℕ) (p : ℤ) (f g : Found) → nat_abs p ≤ b → IsOther n rows p f g
      → IsSearchedTo b p f → IsSearchedTo b (p +ℤ pos 1) g
  turned b p f g l (zero_passed z e) s =
      subst (IsSearchedTo b (p +ℤ pos 1)) (sym e)
      (record {
        to = subst (λ m. To (Done b m) (with_values n f.forms f.values)) (let q : pos 1
            ≡ p +ℤ pos 1 =
            omega (arith, ints) in q)
            (SE.search_zero ℚ_field ℚ_fractions n (rows_in n rows) d (denominator_some rows) b
            (with_values n f.forms f.values)
            (subst (λ m. To (Done b m) (with_values n f.forms f.values)) z s.to));
        one_each = s.one_each;
        wide = s.wide;
      })
  turned b p f g l (other_iteration ne h) s =
      step (Done b p) (Done b (p +ℤ pos 1)) p f g
      (λ k es to. SE.search_next ℚ_field ℚ_fractions n (rows_in n rows) d (denominator_some rows) b
      p
      l ne (with_values n f.forms f.values) (over p d) k es to (over_of p))
      h s

  -- ---- after the other candidates
  abbrev b : ℕ
  b = greatest_sum n rows

  pub with_zero : (f g : Found) → IsIteration n rows (pos 0) f g → IsSearchedTo b (pos (suc b)) f
      → IsAllSearched g
  with_zero f g h s =
      step (Done b (pos (suc b))) All (pos 0) f g
      (λ k es to. SE.search_last ℚ_field ℚ_fractions n (rows_in n rows) d (denominator_some rows) b
      (with_values n f.forms f.values) (over (pos 0) d) k es to (over_of (pos 0)))
      h s

  -- independent forms are no more than the rows
  few : (f : Found) → IsSearchedTo b (pos (suc b)) f → length f.forms ≤ n
  few f s =
      let vs = vectors_of (with_values n f.forms f.values) in
      let l : length vs ≤ length (RL.all_units ℚ_field n) =
      I.independent-length ℚ_field S (RL.all_units ℚ_field n) vs
      (each_of (IsCombination S (RL.all_units ℚ_field n)) (RL.all_units-all ℚ_field n) vs)
      s.to.independent in
      let e = valued-length n f.forms f.values s.one_each in
      let u = RL.all_units-length ℚ_field n in
      omega (arith, l, e, u)

  pub without_zero : (f : Found) → n ≤ length f.forms → IsSearchedTo b (pos (suc b)) f
      → IsAllSearched f
  without_zero f l s = record {
    to = all_done n rows size f.forms f.values s.one_each s.to (let k = few f s in
        omega (arith, k, l));
    one_each = s.one_each;
    wide = s.wide;
  }

  module _ (f : Found) (s : IsAllSearched f) where
    pub searched : AreSearched n rows f.forms f.values
    searched = done_searched n rows size f.forms f.values s.one_each s.to

    pub forms_are : length f.forms ≡ n → AreForms n rows f.forms f.values
    forms_are e = done_forms n rows size f.forms f.values s.one_each s.to s.wide e

    pub splits : length f.forms ≡ n → SplitsAt n rows
    splits e =
        let h = MS.split_where ℚ_field ℚ_fractions n (rows_in n rows) (λ c. Unit {0}) d
        (whole_rows n d rows) b (with_values n f.forms f.values)
        (searched_is n rows size f.forms f.values searched)
        (valued-length n f.forms f.values s.one_each ∙ e) in
        record { values = h.values; is_zero = h.is_zero }

    pub no_split : (length f.forms ≡ n → ⊥) → SplitsAt n rows → ⊥
    no_split ne h = elim (split_decided n rows size f.forms f.values searched) [
      | inl k ↦ ne k.0
      | inr none ↦ none h
    ]
