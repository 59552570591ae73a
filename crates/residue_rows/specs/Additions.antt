-- What a row becomes, part by part.
--   IsBlendOf q a row b other out    out is congruent to a times row and b times other, entry by entry
--   IsFirstEntry row c      the first entry of row that isn't 0 is in the column c
--   IsFresh q e row l       l is what the rows leave of row, times an inverse of its first entry that is no multiple of q
--   IsClearedBy q f l k     k is l less its entry in the leading column of f times f
--   IsAddedAs q e row fs    fs are the rows of e cleared by a fresh one, and that
use Rattle.std.specs.Prelude.{◌≡◌, ◌≢◌, ◌<◌, ℕ, ℤ, pos, ◌+ℤ◌, ◌*ℤ◌, neg_ℤ, List, [], ◌∷◌, ◌++◌, length}
use Rattle.std.specs.List.{AllZip}
use Rattle.closures.specs.Modulo.{IsMultiple, AreCongruent}
use Rattle.residue_rows.specs.EchelonForm.{entry, Led, Form, IsRestOf}

abbrev pub IsBlendOf : ℤ → ℤ → List ℤ → ℤ → List ℤ → List ℤ → Type 0
IsBlendOf q a row b other out =
    (k : ℕ) → AreCongruent q (entry out k) (a *ℤ entry row k +ℤ b *ℤ entry other k)

pub record IsFirstEntry (row : List ℤ) (c : ℕ) : Type 0 where
  pub within : c < length row
  pub before : (k : ℕ) → k < c → entry row k ≡ pos 0
  pub some : entry row c ≢ pos 0

pub record IsFresh (q : ℤ) (e : Form) (row : List ℤ) (l : Led) : Type 0 where
  pub rest : List ℤ
  pub is : IsRestOf q e row rest
  pub within : l.lead < e.width
  pub before : (k : ℕ) → k < l.lead → IsMultiple q (entry rest k)
  pub some : ¬ (IsMultiple q (entry rest l.lead))
  pub inverse : ℤ
  pub invertible : AreCongruent q (entry rest l.lead *ℤ inverse) (pos 1)
  pub width : length l.row ≡ e.width
  pub scaled : IsBlendOf q inverse rest (pos 0) [] l.row

pub record IsClearedBy (q : ℤ) (f l k : Led) : Type 0 where
  pub lead : k.lead ≡ l.lead
  pub width : length k.row ≡ length l.row
  pub row : IsBlendOf q (pos 1) l.row (neg_ℤ (entry l.row f.lead)) f.row k.row

pub record IsAddedAs (q : ℤ) (e : Form) (row : List ℤ) (f : List Led) : Type 0 where
  pub fresh : Led
  pub is : IsFresh q e row fresh
  pub cleared : List Led
  pub are : AllZip (IsClearedBy q fresh) e.rows cleared
  pub rows : f ≡ cleared ++ fresh ∷ []
