-- Searches of two monomials whose first two samples have rows that differ by what has an inverse: these count, no element is left, and nothing stops them.
--   AreParts ps            there is no part, or the first sample, or both
--   parts_are              so are the parts of any such search
--   closings_empty         nothing is left to be closed
--   samples_few            no more samples are taken
--   always_pivot, always_news, never_missing     no sample tells nothing, no closing ends with a word, and no element is missing
use Rattle.std.proofs.Common.{◌≡◌, ◌⊎◌, inl, inr, ℕ, ◌<◌, ℤ, pos, ◌+ℤ◌, neg_ℤ, List, [], ◌∷◌, length, refl, sym, ap, subst, ◌∙◌, arith}
use Rattle.algebra.specs.Each.{Each}
use Rattle.algebra.specs.Fraction.{Fraction}
use Rattle.polynomials.specs.Terms.{Terms}
use Rattle.machines.specs.Journal.{Entry, units_of}
use Rattle.loops.specs.Program.{Expr, Program}
use Rattle.closures.specs.Closing.{Candidate, closed, countered}
use Rattle.closures.specs.Ends.{ComesNext}
use Rattle.closures.specs.Modulo.{HasPivot, IsCombinationModulo}
use Rattle.residue_rows.specs.Modulus.{modulus}
use Rattle.residue_rows.specs.EchelonForm.{Led, IsEchelonOf}
use Rattle.closing.specs.SearchCauses.{HasNoInverse, IsClosing, IsOutOfSamples, HasNoPivot, HasNoNews, HasNoElement}
use Rattle.residue_rows.specs.ElementParts.{IsElementOf}
use Rattle.closing.specs.Search.{Part, counted, idle, refuted, rows_of, idle_of, entries_of, GoesOn, word_of, monomials, IsRow, HasLeft, IsSearch}
use Rattle.closing.proofs.Countered.{nothing_comes}
use Rattle.residue_rows.proofs.ElementSteps.{no_one}
use Rattle.closing.proofs.TwoRows.{IsRowTo, combined_of_none, combined_of_first, never_stuck, never_stuck_behind, all_lead, no_element}

abbrev q : ℤ
q = pos modulus

module _ (program : Program (Expr ℕ)) (d : ℕ) (two : length (monomials program d) ≡ 2)
    (x y : ℤ) (apart : HasPivot (pos modulus) (y +ℤ neg_ℤ x))
    (first : (row : List ℤ) → IsRow program d [] (word_of program []) row
    → IsRowTo (pos modulus) x row)
    (second : (one row : List ℤ)
    → IsRow program d (counted one ∷ []) (word_of program (counted one ∷ [])) row
    → IsRowTo (pos modulus) y row) where
  abbrev n : ℕ
  n = length (monomials program d)

  record IsFirst (ps : List Part) : Type 0 where
    one : List ℤ
    are : ps ≡ counted one ∷ []
    row : IsRowTo q x one

  record AreBoth (ps : List Part) : Type 0 where
    one : List ℤ
    other : List ℤ
    are : ps ≡ counted other ∷ counted one ∷ []
    row : IsRowTo q x one
    other_row : IsRowTo q y other

  abbrev AreParts : List Part → Type 0
  AreParts ps = (ps ≡ []) ⊎ (IsFirst ps ⊎ AreBoth ps)

  -- ---- whether another sample is taken
  goes_first : (ps : List Part) → ps ≡ [] → GoesOn n ps
  unfolding rows_of idle_of
  goes_first ps e = subst (GoesOn n) (sym e) (omega arith, omega (arith, two))

  goes_second : (ps : List Part) → IsFirst ps → GoesOn n ps
  unfolding rows_of idle_of
  goes_second ps f = subst (GoesOn n) (sym f.are) (omega arith, omega (arith, two))

  goes_no_further : (ps : List Part) → AreBoth ps → GoesOn n ps → ⊥
  unfolding rows_of idle_of
  goes_no_further ps b g = let h = subst (GoesOn n) b.are g in omega (arith, h.1, two)

  both_where : (ps : List Part) → AreParts ps → ¬ (GoesOn n ps) → AreBoth ps
  both_where ps (inl e) enough = absurd (enough (goes_first ps e))
  both_where ps (inr (inl f)) enough = absurd (enough (goes_second ps f))
  both_where ps (inr (inr b)) enough = b

  -- ---- what is left
  form_of : (ps : List Part) (b : AreBoth ps) (form : List Led)
      → IsEchelonOf q n (rows_of ps) form → IsEchelonOf q 2 (b.one ∷ b.other ∷ []) form
  unfolding rows_of
  form_of ps b form e =
      subst (λ qs. IsEchelonOf q 2 (rows_of qs) form) b.are
      (subst (λ k. IsEchelonOf q k (rows_of ps) form) two e)

  none_left : (ps : List Part) → AreBoth ps → (gs : List (Terms Fraction))
      → HasLeft program d ps gs → gs ≡ []
  unfolding Each
  none_left ps b gs h =
      go gs (subst (λ k. Each (IsElementOf q (monomials program d) h.form k) gs) two h.told)
    where
      go : (gs : List (Terms Fraction))
          → Each (IsElementOf q (monomials program d) h.form 2) gs → gs ≡ []
      go [] t = refl
      go (g ∷ gs) t =
          absurd (no_element q no_one x y apart b.row b.other_row h.form
          (form_of ps b h.form h.echelon) g t.0)

  never_countered : (es : List Entry) (gs : List (Terms Fraction)) (z : Candidate)
      (image : Terms Fraction) → gs ≡ [] → ComesNext program gs es (countered z image) → ⊥
  never_countered es gs z image none c =
      let e : closed [] ≡ countered z image = nothing_comes program es (countered z image)
      (subst (λ hs. ComesNext program hs es (countered z image)) none c) in
      cc

  -- ---- the parts
  parts_are : (ps : List Part) → IsSearch program d ps → AreParts ps
  unfolding IsSearch rows_of
  parts_are [] h = inl refl
  parts_are (counted row ∷ ps) h = go (parts_are ps h.0)
    where
      go : AreParts ps → AreParts (counted row ∷ ps)
      go (inl e) =
          inr (inl (record {
            one = row;
            are = ap (λ rs. counted row ∷ rs) e;
            row = first row (subst (λ rs. IsRow program d rs (word_of program rs) row) e h.2);
          }))
      go (inr (inl f)) =
          inr (inr (record {
            one = f.one;
            other = row;
            are = ap (λ rs. counted row ∷ rs) f.are;
            row = f.row;
            other_row = second f.one row
                (subst (λ rs. IsRow program d rs (word_of program rs) row) f.are h.2);
          }))
      go (inr (inr b)) = absurd (goes_no_further ps b h.1)
  parts_are (idle row ∷ ps) h = absurd (go (parts_are ps h.0))
    where
      go : AreParts ps → ⊥
      go (inl e) =
          combined_of_none q no_one x row
          (first row (subst (λ rs. IsRow program d rs (word_of program rs) row) e h.2))
          (subst (λ rs. IsCombinationModulo q (rows_of rs) row) e h.3)
      go (inr (inl f)) =
          combined_of_first q no_one x y apart f.row (second f.one row (subst (λ rs. IsRow program d
          rs (word_of program rs) row) f.are h.2)) (subst (λ rs. IsCombinationModulo q (rows_of rs)
          row) f.are h.3)
      go (inr (inr b)) = goes_no_further ps b h.1
  parts_are (refuted gs es z image row ∷ ps) h =
      absurd (never_countered es gs z image
      (none_left ps (both_where ps (parts_are ps h.0) h.1) gs h.2) h.3)

  -- ---- what follows
  pub closings_empty : (before : List Entry) (ps : List Part) (gs : List (Terms Fraction))
      → IsClosing program d before ps gs → gs ≡ []
  closings_empty before ps gs c =
      none_left ps (both_where ps (parts_are ps c.search) c.enough) gs c.left

  pub samples_few : (es : List Entry) (k : ℕ) → IsOutOfSamples program d es k → k < 2
  unfolding entries_of units_of
  samples_few es k h = go (parts_are h.parts h.search)
    where
      units : units_of (entries_of h.parts) ≡ k
      units = sym (ap units_of h.entries) ∙ h.exhausted

      go : AreParts h.parts → k < 2
      go (inl e) = let u = subst (λ rs. units_of (entries_of rs) ≡ k) e units in omega (arith, u)
      go (inr (inl f)) =
          let u = subst (λ rs. units_of (entries_of rs) ≡ k) f.are units in omega (arith, u)
      go (inr (inr b)) = absurd (goes_no_further h.parts b h.goes_on)

  pub always_pivot : (es : List Entry) → HasNoPivot program d es → ⊥
  unfolding rows_of
  always_pivot es h = go (parts_are h.parts h.search)
    where
      none : HasNoInverse 2 (rows_of h.parts) h.row
      none = subst (λ k. HasNoInverse k (rows_of h.parts) h.row) two h.none

      go : AreParts h.parts → ⊥
      go (inl e) =
          let i = subst (λ rs. HasNoInverse 2 (rows_of rs) h.row) e none in
          never_stuck q no_one x h.row
          (first h.row (subst (λ rs. IsRow program d rs (word_of program rs) h.row) e h.is_row))
          i.form i.echelon i.stuck
      go (inr (inl f)) =
          let i = subst (λ rs. HasNoInverse 2 (rows_of rs) h.row) f.are none in
          never_stuck_behind q no_one x y apart f.row (second f.one h.row (subst (λ rs. IsRow
          program d rs (word_of program rs) h.row) f.are h.is_row)) i.form i.echelon i.stuck
      go (inr (inr b)) = goes_no_further h.parts b h.goes_on

  pub always_news : (es : List Entry) → HasNoNews program d es → ⊥
  always_news es h =
      never_countered h.behind h.elements h.candidate h.image
      (closings_empty h.before h.parts h.elements h.closing) h.countered

  pub never_missing : (es : List Entry) (e : List ℕ) → HasNoElement program d es e → ⊥
  never_missing es e h =
      let b = both_where h.parts (parts_are h.parts h.search) h.enough in
      all_lead q no_one x y apart b.row b.other_row h.form (form_of h.parts b h.form h.echelon)
      h.column (subst (λ k. h.column < k) two h.within) h.leads.free
