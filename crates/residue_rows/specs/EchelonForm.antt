-- Reduced echelon forms of rows of whole numbers modulo a number q, which may have divisors: an entry where a row leads is 1 modulo q.
--   dot z row             the sum of the products, place by place
--   entry row k           the entry in the column k
--   Led                   a row and the column where it leads;  rows_in ls, leads_in ls: these of each
--   IsLed q n l           n wide, 1 in the leading column and multiples of q before it
--   AreApart q ls         each has multiples of q in the leading columns of the others
--   IsEchelonOf q n given ls   ls are such rows, and they and the given ones, n wide, are combinations of one another
--   Form                  a width and such rows
--   IsWithRow q e row f      of whatever rows e is the echelon form, f is that of these and the row
--   IsDependent q e row         row is a combination of whatever rows e is the echelon form of;  IsIndependent: of none of them
--   IsRestOf q e row rest     rest is row less a combination of the rows, with multiples of q in their leading columns
--   IsStuck q e row       of that the first entry that is no multiple of q has no inverse
--   pick d ks xs          what xs has at the places ks, and d behind its end
use Rattle.std.specs.Prelude.{◌≡◌, ◌<◌, ℕ, ℤ, pos, List, [], ◌∷◌, ◌++◌, map, length, get_or}
use Rattle.algebra.specs.Each.{Each}
use Rattle.algebra.specs.Ring.{operations}
use Rattle.algebra.proofs.IntRing.{ℤ_ring}
use Rattle.polynomials.specs.Terms.{sum_of_products}
use Rattle.closures.specs.Modulo.{IsMultiple, AreCongruent, HasPivot, IsCombinationModulo}

abbrev pub dot : List ℤ → List ℤ → ℤ
dot z row = sum_of_products (operations ℤ_ring) z row

abbrev pub entry : List ℤ → ℕ → ℤ
entry row k = get_or row k (pos 0)

pub record Led : Type 0 where
  pub lead : ℕ
  pub row : List ℤ

abbrev pub rows_in : List Led → List (List ℤ)
rows_in ls = map (λ l. l.row) ls

abbrev pub leads_in : List Led → List ℕ
leads_in ls = map (λ l. l.lead) ls

pub record IsLed (q : ℤ) (n : ℕ) (l : Led) : Type 0 where
  pub width : length l.row ≡ n
  pub within : l.lead < n
  pub one : AreCongruent q (entry l.row l.lead) (pos 1)
  pub before : (k : ℕ) → k < l.lead → IsMultiple q (entry l.row k)

abbrev pub AreClear : ℤ → Led → Led → Type 0
AreClear q l k = IsMultiple q (entry l.row k.lead) × IsMultiple q (entry k.row l.lead)

unfoldable pub AreApart : ℤ → List Led → Type 0
AreApart q [] = Unit {0}
AreApart q (l ∷ ls) = Each (AreClear q l) ls × AreApart q ls

pub record IsEchelonOf (q : ℤ) (n : ℕ) (given : List (List ℤ)) (ls : List Led) : Type 0 where
  pub widths : Each (λ row. length row ≡ n) given
  pub led : Each (IsLed q n) ls
  pub apart : AreApart q ls
  pub within : Each (IsCombinationModulo q given) (rows_in ls)
  pub spans : Each (IsCombinationModulo q (rows_in ls)) given

pub record Form : Type 0 where
  pub width : ℕ
  pub rows : List Led

abbrev pub IsReducedEchelon : ℤ → ℕ → List Led → Type 0
IsReducedEchelon q n ls = IsEchelonOf q n (rows_in ls) ls

module _ (q : ℤ) (e : Form) (row : List ℤ) where
  abbrev pub IsWithRow : Form → Type 0
  IsWithRow f = (given : List (List ℤ)) → IsEchelonOf q e.width given e.rows
      → IsEchelonOf q e.width (given ++ row ∷ []) f.rows

  abbrev pub IsIndependent : Type 0
  IsIndependent = (given : List (List ℤ)) → IsEchelonOf q e.width given e.rows
      → ¬ (IsCombinationModulo q given row)

  abbrev pub IsDependent : Type 0
  IsDependent = (given : List (List ℤ)) → IsEchelonOf q e.width given e.rows
      → IsCombinationModulo q given row

  pub record IsRestOf (rest : List ℤ) : Type 0 where
    pub width : length rest ≡ e.width
    pub left : (z : List ℤ) → Each (λ r. IsMultiple q (dot z r)) (rows_in e.rows)
        → AreCongruent q (dot z rest) (dot z row)
    pub cleared : Each (λ l. IsMultiple q (entry rest l.lead)) e.rows

  pub record IsStuck : Type 0 where
    pub rest : List ℤ
    pub is : IsRestOf rest
    pub column : ℕ
    pub before : (k : ℕ) → k < column → IsMultiple q (entry rest k)
    pub some : ¬ (IsMultiple q (entry rest column))
    pub stuck : ¬ (HasPivot q (entry rest column))

abbrev pub pick : {A : Type 0} → A → List ℕ → List A → List A
pick d ks xs = map (λ k. get_or xs k d) ks
