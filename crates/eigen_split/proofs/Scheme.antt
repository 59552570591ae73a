-- Horner's scheme as the code has it.
--   get_mapped             an item of what a list means
--   scheme_more            one coefficient more
--   scheme-length, widths  how many rows
--   IsScheme, scheme_first, scheme_next, scheme_end     the rows after some coefficients
--   remainder              what a number leaves
use Rattle.std.proofs.Common.{◌≡◌, ℕ, zero, suc, ◌%◌, ◌<◌, List, [], ◌∷◌, ◌++◌, map, length, get_or, All, refl, sym, ap, ap₂, ◌∙◌, arith, Vec, Global}
use Rattle.std.proofs.lemmas.List.Elements.{All-head, All-tail}
use Rattle.algebra.specs.Arithmetic.{Arithmetic}
use Rattle.algebra.specs.Integers.{natural_in}
use Rattle.algebra.specs.Fraction.{Fraction}
use Rattle.algebra.specs.Residue.{Residue}
use Rattle.algebra.proofs.ResidueLaws.{same_residue, rest-residue}
use Rattle.gf65521.specs.declared.Gf.{Gf}
use Rattle.gf65521.specs.GfMeaning.{residue_of, residue_rest}
use Rattle.vectors.specs.Causes.{numbers_to}
use Rattle.eigen_split.specs.Residues.{GF, gfs, gf_rows, zeros, next_in, next_entry, matrix_in, entry_in, residue_columns, IsNone, IsAnnihilating}
use Rattle.eigen_split.proofs.Excluding.{natural-residue}
use Rattle.eigen_split.proofs.Sums.{length-over}

pub get_mapped : {A B : Type 0} (g : A → B) (xs : List A) (i : ℕ) {x : A} (d : B) → i < length xs
    → x ≡ get_or xs i x → get_or (map g xs) i d ≡ g x
get_mapped g [] i d l e = absurd (omega arith)
get_mapped g (y ∷ xs) zero d l e = ap g (sym e)
get_mapped g (y ∷ xs) (suc i) {x = x} d l e = get_mapped g xs i d (omega arith) e

-- ---- the scheme
module _ {A : Type 0} (N : Arithmetic A) (n : ℕ) (columns : List (List A)) where
  scheme_more : (cs : List A) (c : A) (rows : List (List A))
      → matrix_in N n columns rows (cs ++ c ∷ []) ≡ next_in N n columns c
      (matrix_in N n columns rows cs)
  scheme_more [] c rows = refl
  scheme_more (b ∷ cs) c rows = scheme_more cs c (next_in N n columns b rows)

  scheme-length : (cs : List A) (rows : List (List A)) → length rows ≡ n
      → length (matrix_in N n columns rows cs) ≡ n
  scheme-length [] rows e = e
  scheme-length (c ∷ cs) rows e = scheme-length cs (next_in N n columns c rows)
      (length-over (λ i. map (λ j. next_entry N columns c (get_or rows i []) i j) (numbers_to n)) n)

-- so far
pub record IsScheme (n d : ℕ) (rows : List (List Fraction)) (now : List (List (Residue 65521)))
    (cs : List (Residue 65521)) : Type 0 where
  pub is : now ≡ matrix_in GF n (residue_columns n d rows) (zeros GF n) cs

module _ (n d : ℕ) (rows : List (List Fraction)) where
  pub scheme_count : {now : List (List (Residue 65521))} {cs : List (Residue 65521)}
      → IsScheme n d rows now cs → length now ≡ n
  scheme_count {cs = cs} s = ap length s.is ∙ scheme-length GF n _ cs
      (zeros GF n) (length-over (λ i. map (λ j. GF.zero) (numbers_to n)) n)

  pub columns_count : {columns : List (List (Residue 65521))} → columns ≡ residue_columns n d rows
      → length columns ≡ n
  columns_count e = ap length e ∙ length-over _ n

  pub scheme_next : {now next columns : List (List (Residue 65521))}
      {cs more : List (Residue 65521)} (c : Residue 65521) {m : ℕ}
      → IsScheme n d rows now cs → columns ≡ residue_columns n d rows → m ≡ n
      → next ≡ next_in GF m columns c now → more ≡ cs ++ c ∷ [] → IsScheme n d rows next more
  scheme_next {now = now} {columns = columns} {cs = cs} c {m = m} s e q h k = record {
    is = h ∙ ap (λ m. next_in GF m columns c now) q ∙ ap₂ (λ cols l. next_in GF n cols c l) e s.is
        ∙ sym (scheme_more GF n _ cs c (zeros GF n))
        ∙ ap (matrix_in GF n (residue_columns n d rows) (zeros GF n)) (sym k);
  }

  -- all zero
  pub scheme_end : (now : List (Vec Gf Global)) {cs : List (Residue 65521)}
      → IsScheme n d rows (gf_rows now) cs
      → ((i : ℕ) → i < n → (row : List (Residue 65521)) → row ≡ get_or (gf_rows now) i [] → (j : ℕ)
      → get_or row j GF.zero ≡ GF.zero)
      → IsAnnihilating n d rows cs
  scheme_end now s h = record {
    none = λ i j l k. ap (λ m. entry_in GF m i j) (sym s.is)
        ∙ h i l (get_or (gf_rows now) i []) refl j;
  }

zero_entry : (row : List Gf) → All IsNone row → (j : ℕ) → get_or (gfs row) j GF.zero ≡ GF.zero
zero_entry [] a j = refl
zero_entry (x ∷ row) a zero = (All-head IsNone x row a).is
zero_entry (x ∷ row) a (suc j) = zero_entry row (All-tail IsNone x row a) j

pub zero_rows_are : (rows : List (Vec Gf Global)) → All (λ row. All IsNone row.items) rows
    → (i : ℕ) (row : List (Residue 65521)) → row ≡ get_or (gf_rows rows) i [] → (j : ℕ)
    → get_or row j GF.zero ≡ GF.zero
zero_rows_are [] a i row e j = ap (λ r. get_or r j GF.zero) e
zero_rows_are (v ∷ rows) a zero row e j = ap (λ r. get_or r j GF.zero) e
    ∙ zero_entry v.items (All-head (λ (row : Vec Gf Global). All IsNone row.items) v rows a) j
zero_rows_are (v ∷ rows) a (suc i) row e j =
    zero_rows_are rows (All-tail (λ (row : Vec Gf Global). All IsNone row.items) v rows a) i row e j

-- ---- what a number leaves
pub remainder : (g : Gf) (number : ℕ) → g.value ≡ number % 65521
    → residue_of g ≡ natural_in GF number
remainder g number q = same_residue 65521 _ _ (residue_rest g ∙ q
    ∙ sym (rest-residue 65521 tt number)) ∙ sym (natural-residue number)
