-- Rows of a width: sequences that are zero from there on. They are a vector space, on which a list of rows acts.
--   Row F n                  a row of width n; same_row: one is told by its entries
--   rows_of F n              their space
--   times_rows F n rows y    y times the matrix
--   entries_of F n rows      the rows without their widths
use Rattle.std.specs.Prelude.{◌≡◌, ℕ, ◌≤◌, List, [], ◌∷◌}
use Rattle.std.proofs.Common.{refl, ap, ap₂, ◌∙◌}
use mathlib.Core.HLevel.{Σ_prop_path, Π_prop}
use Rattle.algebra.specs.Ring.{Field}
use Rattle.algebra.proofs.RingLaws as L
use Rattle.vectors.specs.Space.{Space, combine}
use Rattle.vectors.specs.Sequences.{sequences}

module _ {A : Type 0} (F : Field A) (n : ℕ) where
  abbrev pub Row : Type 0
  Row = (v : ℕ → A) × ((i : ℕ) → n ≤ i → v i ≡ F.zero)

  pub same_row : (v w : Row) → v.0 ≡ w.0 → v ≡ w
  same_row v w e = Σ_prop_path (λ u. Π_prop (λ i. Π_prop (λ l. F.is_set (u i) F.zero))) e

  pub Row-set : IsSet Row
  Row-set = hlevel (F.is_set)

  abbrev pub rows_of : Space F.ring Row
  rows_of = let S = sequences F.ring ℕ in record {
    zero = (S.zero, λ i l. refl);
    add = λ v w. (S.add v.0 w.0, λ i l. ap₂ F.add (v.1 i l) (w.1 i l) ∙ L.zero-add F.ring F.zero);
    neg = λ v. (S.neg v.0, λ i l. ap F.neg (v.1 i l) ∙ L.neg-zero F.ring);
    scale = λ c v. (S.scale c v.0, λ i l. ap (F.mul c) (v.1 i l) ∙ L.mul-zero F.ring c);
    add_assoc = λ u v w. same_row _ _ (S.add_assoc u.0 v.0 w.0);
    add_comm = λ v w. same_row _ _ (S.add_comm v.0 w.0);
    zero-add = λ v. same_row _ _ (S.zero-add v.0);
    neg-add = λ v. same_row _ _ (S.neg-add v.0);
    scale-add = λ c v w. same_row _ _ (S.scale-add c v.0 w.0);
    add-scale = λ c d v. same_row _ _ (S.add-scale c d v.0);
    mul-scale = λ c d v. same_row _ _ (S.mul-scale c d v.0);
    one-scale = λ v. same_row _ _ (S.one-scale v.0);
    is_set = Row-set;
  }

  -- y times the matrix
  abbrev pub times_rows : List Row → Row → Row
  times_rows rows y = combine rows_of y.0 rows

  abbrev pub entries_of : List Row → List (ℕ → A)
  entries_of [] = []
  entries_of (r ∷ rows) = r.0 ∷ entries_of rows
