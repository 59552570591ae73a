-- What a vector of shares gives with the rows of an echelon form and with those that it is of.
--   share_vector           1 in a column and the shares;  with_row: its sums with rows
--   rows_killed, given_killed     it gives multiples with the one rows where it does with the others
--   zero_row               residues of a polynomial's value at a row's state
use Rattle.std.proofs.Common.{◌≡◌, ℕ, ◌<◌, ℤ, ◌+ℤ◌, ◌*ℤ◌, List, [], ◌∷◌, map, length, get_or, sym, subst}
use Rattle.std.specs.List.{AllZip}
use Rattle.algebra.specs.Each.{Each}
use Rattle.algebra.specs.Sum.{sum_over}
use Rattle.algebra.specs.Fraction.{Fraction, ℚ}
use Rattle.algebra.proofs.Each.{each-map, each_weaker}
use Rattle.algebra.proofs.IntRing.{ℤ_ring}
use Rattle.ideals.proofs.Ideal.{in_ideal_same}
use Rattle.polynomials.specs.Terms.{Terms, monomial_at, evaluate, value_at}
use Rattle.closures.specs.Modulo.{IsMultiple, IsResidueOf, AreResidues}
use Rattle.closures.proofs.Modulo.{residue_add, residue_none}
use Rattle.closures.proofs.Residues.{residue_mul}
use Rattle.residue_rows.specs.EchelonForm.{dot, entry, Led, rows_in, IsEchelonOf}
use Rattle.residue_rows.proofs.Dots.{spread, dot_spread}
use Rattle.residue_rows.proofs.EchelonForms.{combined}
use Rattle.residue_rows.proofs.Picked.{residue_at}
use Rattle.residue_rows.specs.ElementParts.{Share, columns_in, numbers_in, share_sum}
use Rattle.residue_rows.proofs.Shares.{sum_first, sum_none}

pub share_vector : ℕ → ℕ → List Share → List ℤ
share_vector n c ss = spread n c (columns_in ss) (numbers_in ss)

pub with_row : (n c : ℕ) (ss : List Share) → c < n → Each (λ s. s.column < n) ss
    → (row : List ℤ) → dot (share_vector n c ss) row ≡ entry row c +ℤ share_sum ss row
unfolding share_vector
with_row n c ss l h row =
    dot_spread n c (columns_in ss) (numbers_in ss) row l
    (each-map (λ k. k < n) (λ (s : Share). s.column) ss h)

module _ (q : ℤ) {n : ℕ} (c : ℕ) (ss : List Share) (l : c < n) (h : Each (λ s. s.column < n) ss)
    {given : List (List ℤ)} (ls : List Led) (e : IsEchelonOf q n given ls) where
  abbrev Kills : List ℤ → Type 0
  Kills row = IsMultiple q (entry row c +ℤ share_sum ss row)

  back : (rows : List (List ℤ)) → Each (λ r. IsMultiple q (dot (share_vector n c ss) r)) rows
      → Each (λ r. IsMultiple q (entry r c +ℤ share_sum ss r)) rows
  back rows k =
      each_weaker (λ r. IsMultiple q (dot (share_vector n c ss) r)) Kills
      (λ r i. in_ideal_same ℤ_ring (sym (with_row n c ss l h r)) i) rows k

  forth : (rows : List (List ℤ)) → Each (λ r. IsMultiple q (entry r c +ℤ share_sum ss r)) rows
      → Each (λ r. IsMultiple q (dot (share_vector n c ss) r)) rows
  forth rows k =
      each_weaker Kills (λ r. IsMultiple q (dot (share_vector n c ss) r))
      (λ r i. in_ideal_same ℤ_ring (with_row n c ss l h r) i) rows k

  pub given_killed : Each (λ l. IsMultiple q (entry l.row c +ℤ share_sum ss l.row)) ls
      → Each (λ r. IsMultiple q (entry r c +ℤ share_sum ss r)) given
  given_killed k =
      back given
      (combined q (rows_in ls) given e.spans (share_vector n c ss)
      (forth (rows_in ls) (each-map Kills (λ (l : Led). l.row) ls k)))

  pub rows_killed : Each (λ r. IsMultiple q (entry r c +ℤ share_sum ss r)) given
      → Each (λ r. IsMultiple q (entry r c +ℤ share_sum ss r)) (rows_in ls)
  rows_killed k =
      back (rows_in ls)
      (combined q given (rows_in ls) e.within (share_vector n c ss) (forth given k))

-- ---- values
module _ (q : ℤ) (es : List (List ℕ)) (x : List Fraction) (row : List ℤ)
    (residues : AreResidues q (map (monomial_at ℚ x) es) row) where
  pub record IsShareOf (s : Share) (t : List ℕ × Fraction) : Type 0 where
    pub monomial : t.0 ≡ get_or es s.column []
    pub within : s.column < length es
    pub residue : IsResidueOf q t.1 s.number

  pub value_residue : (ss : List Share) (p : Terms Fraction) → AllZip IsShareOf ss p
      → IsResidueOf q (value_at ℚ p x) (share_sum ss row)
  unfolding evaluate sum_over
  value_residue [] [] h = subst (IsResidueOf q ℚ.zero) (sym (sum_none row)) (residue_none q)
  value_residue [] (t ∷ p) h = absurd h
  value_residue (s ∷ ss) [] h = absurd h
  value_residue (s ∷ ss) (t ∷ p) h =
      subst (IsResidueOf q (ℚ.add (ℚ.mul t.1 (monomial_at ℚ x t.0)) (value_at ℚ p x)))
      (sym (sum_first s ss row))
      (residue_add q _ (value_at ℚ p x) _ (share_sum ss row) (one s t h.0) (value_residue ss p h.1))
    where
      one : (s : Share) (t : List ℕ × Fraction) → IsShareOf s t
          → IsResidueOf q (ℚ.mul t.1 (monomial_at ℚ x t.0)) (s.number *ℤ entry row s.column)
      one s t h =
          residue_mul q t.1 (monomial_at ℚ x t.0) s.number (entry row s.column) h.residue
          (subst (λ e. IsResidueOf q (monomial_at ℚ x e) (entry row s.column)) (sym h.monomial)
          (residue_at q (monomial_at ℚ x) es row residues s.column h.within))
