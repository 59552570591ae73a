-- The elements that the rows of a search leave.
--   ascend_at, width_at, arities_at      what is asked of the monomials and the form of a sampling
--   few_at            there are no more elements than monomials may be
--   left_at, told_left           what the form tells is left
--   no_element_at, none_left     where it tells no element there is none
use Rattle.std.proofs.Common.{◌≡◌, ℕ, ◌<◌, ◌≤◌, ℤ, pos, List, [], length, get_or, refl, sym, ap, subst, ◌∙◌, arith}
use Rattle.std.proofs.lemmas.List.{get_or_default}
use Rattle.algebra.specs.Each.{Each}
use Rattle.algebra.specs.Fraction.{Fraction, ℚ}
use Rattle.algebra.proofs.In.{each_in, in_get}
use Rattle.polynomials.specs.Order.{grevlex}
use Rattle.polynomials.specs.Polynomial.{IsPolynomial}
use Rattle.polynomials.specs.Terms.{Terms}
use Rattle.loops.specs.Program.{Expr, Program}
use Rattle.closures.specs.Monomials.{AreAscending, AreMonomialsUpTo}
use Rattle.closures.specs.UpTo.{AreTidy, HasStandard}
use Rattle.closures.proofs.Monomials.{are_monomials_up_to}
use Rattle.residue_rows.specs.Modulus.{modulus}
use Rattle.residue_rows.specs.EchelonForm.{Led, IsEchelonOf}
use Rattle.closing.specs.SearchCauses.{HasNoElement}
use Rattle.residue_rows.specs.ElementParts.{IsElementOf, LeadsElement, IsFirstUntold}
use Rattle.residue_rows.specs.Elements.{IsValueRow, IsZeroRow, IsCandidate, standard_in}
use Rattle.residue_rows.specs.Limits.{most_monomials}
use Rattle.closing.specs.Sampling.{IsAt}
use Rattle.closing.specs.Search.{Part, rows_of, entries_of, GoesOn, monomials, HasLeft}
use Rattle.closing.specs.declared.sampling.Sampling.{Sampling}
use Rattle.closing.proofs.Parts.{rows_are}
use Rattle.closing.proofs.ZeroRows.{value_rows, zero_rows}

module _ {program : Program (Expr ℕ)} {d : ℕ} {ps : List Part} {s : Sampling}
    (a : IsAt program d ps s) where
  abbrev es : List (List ℕ)
  es = s.monomials.items

  abbrev ls : List Led
  ls = s.echelon.rows

  all_monomials : AreMonomialsUpTo (length program.names) d es
  all_monomials =
      subst (AreMonomialsUpTo (length program.names) d) (sym a.listed)
      (are_monomials_up_to (length program.names) d)

  pub ascend_at : AreAscending es
  ascend_at = all_monomials.ascend

  pub width_at : s.echelon.width ≡ length es
  width_at = a.width ∙ ap length (sym a.listed)

  pub few_at : (n : ℕ) (fs : List (List ℕ)) → fs ≡ es → n ≤ length fs → n ≤ most_monomials
  few_at n fs same h =
      let l = a.few in
      let k : length fs ≡ length (monomials program d) = ap length (same ∙ a.listed) in
      omega (arith, h, l, k)

  module _ {n : ℕ} (arity : n ≡ length program.names) where
    pub monomials_at : AreMonomialsUpTo n d es
    monomials_at = subst (λ k. AreMonomialsUpTo k d es) (sym arity) all_monomials

    pub arities_at : Each (λ e. length e ≡ n) es
    arities_at = monomials_at.arities

    pub values_at : Each (IsValueRow (pos modulus) es) (rows_of ps)
    values_at =
        subst (λ fs. Each (IsValueRow (pos modulus) fs) (rows_of ps)) (sym a.listed)
        (value_rows program d (rows_of ps) (rows_are program d ps a.search))

    form_at : IsEchelonOf (pos modulus) (length (monomials program d)) (rows_of ps) ls
    form_at = subst (λ k. IsEchelonOf (pos modulus) k (rows_of ps) ls) a.width a.echelon

    pub left_at : (gs : List (Terms Fraction)) → AreTidy n d gs
        → HasStandard n d gs (standard_in es ls)
        → Each (IsElementOf (pos modulus) es ls (length es)) gs → HasLeft program d ps gs
    left_at gs tidy standard told = record {
      form = ls;
      echelon = form_at;
      tidy = subst (λ k. AreTidy k d gs) arity tidy;
      standard =
          subst (λ k. HasStandard k d gs (standard_in (monomials program d) ls)) arity
          (subst (λ fs. HasStandard n d gs (standard_in fs ls)) a.listed standard);
      told =
          subst (λ fs. Each (IsElementOf (pos modulus) fs ls (length fs)) gs) a.listed told;
    }

    module _ (column : ℕ) (within : column < length es) (e : List ℕ)
        (is : e ≡ get_or es column []) (leads : LeadsElement (pos modulus) es ls column)
        (untold : IsFirstUntold (pos modulus) es ls column)
        (enough : ¬ (GoesOn (length (monomials program d)) ps)) where
      pub no_element_at : ((p : Terms Fraction) → IsPolynomial ℚ grevlex n p
          → IsCandidate (pos modulus) es ls column p
          → ¬ (Each (IsZeroRow (pos modulus) es p) (rows_of ps)))
          → HasNoElement program d (entries_of ps) e
      no_element_at none = record {
        parts = ps;
        search = a.search;
        enough = enough;
        entries = refl;
        form = ls;
        echelon = form_at;
        column = column;
        within = subst (λ (fs : List (List ℕ)). column < length fs) a.listed within;
        is = is ∙ ap (λ fs. get_or fs column []) a.listed;
        leads = subst (λ fs. LeadsElement (pos modulus) fs ls column) a.listed leads;
        untold = subst (λ fs. IsFirstUntold (pos modulus) fs ls column) a.listed untold;
        arity =
            ap length is
            ∙ each_in (λ e. length e ≡ length program.names) es (get_or es column [])
            all_monomials.arities (in_get es column [] within);
        none =
            λ p poly candidate i.
            none p (subst (λ k. IsPolynomial ℚ grevlex k p) (sym arity) poly)
            (subst (λ fs. IsCandidate (pos modulus) fs ls column p) (sym a.listed) candidate)
            (subst (λ fs. Each (IsZeroRow (pos modulus) fs p) (rows_of ps)) (sym a.listed)
            (zero_rows program d p i (rows_of ps) (rows_are program d ps a.search)));
      }

    -- of the monomials as a slice
    module _ {fs : List (List ℕ)} (same : fs ≡ es) where
      pub told_left : (gs : List (Terms Fraction))
          → ((given : List (List ℤ)) → AreMonomialsUpTo n d fs
          → IsEchelonOf (pos modulus) s.echelon.width given ls
          → Each (IsValueRow (pos modulus) fs) given → AreTidy n d gs)
          → (AreMonomialsUpTo n d fs → HasStandard n d gs (standard_in fs ls))
          → Each (IsElementOf (pos modulus) fs ls (length fs)) gs → HasLeft program d ps gs
      told_left gs tidy standard told =
          let all = subst (AreMonomialsUpTo n d) (sym same) monomials_at in
          left_at gs
          (tidy (rows_of ps) all a.echelon
          (subst (λ ds. Each (IsValueRow (pos modulus) ds) (rows_of ps)) (sym same) values_at))
          (subst (λ ds. HasStandard n d gs (standard_in ds ls)) same (standard all))
          (subst (λ ds. Each (IsElementOf (pos modulus) ds ls (length ds)) gs) same told)

      pub none_left : (column : ℕ) {e : List ℕ} (x : List ℕ) → column < length fs
          → e ≡ get_or es column x → LeadsElement (pos modulus) fs ls column
          → IsFirstUntold (pos modulus) fs ls column → ¬ (GoesOn (length (monomials program d)) ps)
          → ((given : List (List ℤ)) (p : Terms Fraction) → IsEchelonOf (pos modulus)
          s.echelon.width given ls → IsPolynomial ℚ grevlex n p → IsCandidate (pos modulus) fs ls
          column p → ¬ (Each (IsZeroRow (pos modulus) fs p) given))
          → HasNoElement program d (entries_of ps) e
      none_left column {e = e} x within is leads untold enough none =
          let low = subst (λ (ds : List (List ℕ)). column < length ds) same within in
          no_element_at column low e (is ∙ get_or_default es column x [] low)
          (subst (λ ds. LeadsElement (pos modulus) ds ls column) same leads)
          (subst (λ ds. IsFirstUntold (pos modulus) ds ls column) same untold) enough
          (λ p poly candidate zeros.
          none (rows_of ps) p a.echelon poly
          (subst (λ ds. IsCandidate (pos modulus) ds ls column p) (sym same) candidate)
          (subst (λ ds. Each (IsZeroRow (pos modulus) ds p) (rows_of ps)) (sym same) zeros))
