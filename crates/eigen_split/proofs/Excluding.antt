-- A candidate at which an annihilating polynomial modulo 65,521 is not zero is no eigenvalue.
--   natural-residue, rest_divides     what whole numbers leave
--   entry-square, none_annihilates    entries; the polynomial zero
--   excluded, excluded_iteration     the candidate is no eigenvalue
use Rattle.std.proofs.Common.{◌≡◌, ◌≢◌, inl, inr, ℕ, zero, suc, ◌+◌, ◌%◌, ◌<◌, ◌≤◌, ℤ, pos, negsuc, neg_ℤ, Bool, true, false, cond, eqb, List, [], ◌∷◌, map, length, get_or, refl, sym, ap, ap₂, subst, ◌∙◌, arith, lit<}
use Prim.Native.Nat.{◌∣◌}
use native.Mathlib.Nat as N
use lib.IntN.{nat_abs}
use Rattle.std.proofs.lemmas.Bool.{cases_lt}
use Rattle.std.proofs.lemmas.Nat.Gcd.{dvd_of_mod-eq-zero}
use Rattle.algebra.specs.Arithmetic.{Arithmetic}
use Rattle.algebra.specs.Each.{Each}
use Rattle.algebra.specs.FieldArithmetic.{field_of}
use Rattle.algebra.specs.Integers.{natural_in, integer_in}
use Rattle.algebra.specs.Ring.{Field, operations}
use Rattle.algebra.proofs.FieldLaws as FL
use Rattle.algebra.proofs.RingLaws as L
use Rattle.algebra.proofs.OfInt.{of_int, of_int-add, of_int-neg}
use Rattle.algebra.specs.Fraction.{Fraction, ℚ, whole, over}
use Rattle.algebra.specs.Residue.{Residue, residue, residues}
use Rattle.algebra.specs.Scalars.{field}
use Rattle.algebra.proofs.Fractions.{ℚ_ring, ℚ_field}
use Rattle.algebra.proofs.ResidueLaws.{same_residue, rest-residue, residues_ring, residues_field, residue_zero_is, prime_65521}
use Rattle.algebra.proofs.ScalarFields.{is_field}
use Rattle.algebra.proofs.Wholes.{whole_injective, whole-some, of_int-whole}
use Rattle.vectors.specs.Adding.{entry}
use Rattle.vectors.specs.Causes.{row_at, numbers_to}
use Rattle.vectors.specs.Echelon.{total}
use Rattle.vectors.specs.Matrices.{denominator, row_denominator, whole_number, times_matrix}
use Rattle.vectors.specs.Rows.{Row, rows_of}
use Rattle.vectors.specs.Space.{Space}
use Rattle.vectors.specs.Splitting.{shift}
use Rattle.vectors.proofs.EchelonKernel as EK
use Rattle.vectors.proofs.ResidueRoots.{total-on_diagonal, IsNext, IsEigenvector, eigenvector_next, eigenvector_zero, eigenvector_none, whole_at, total-of_int, KillsNone, leaves_none}
use Rattle.vectors.proofs.RowLaws as RL
use Rattle.vectors.proofs.SplitDecided.{zero-den, row_some, denominator_some, whole_number-is}
use Rattle.vectors.proofs.WholeEigen.{times_int}
use Rattle.eigen_split.specs.Ints.{shifted_entry, IsReady}
use Rattle.eigen_split.specs.Residues.{GF, square, entry_in, zeros, dot_in, next_entry, next_in, matrix_in, value_in, residue_at, residue_columns, IsAnnihilating}
use Rattle.eigen_split.specs.Search.{Found, IsNoEigenvalue, IsIteration, no_eigenvalue}
use Rattle.eigen_split.proofs.Acting.{acts_once, shifted-at}
use Rattle.eigen_split.proofs.Forming.{over-is}
use Rattle.eigen_split.proofs.Multiples.{in_row, shifted_entry-is}
use Rattle.eigen_split.proofs.Sums.{Σ_to, get-over, length-over}

abbrev pub K : Field (Residue 65521)
K = field_of (field (residues 65521 tt)) (is_field (residues 65521 tt) (residues_ring 65521 tt)
    (residues_field 65521 tt prime_65521) (residue_zero_is 65521 tt))

-- ---- what whole numbers leave
pub natural-residue : (n : ℕ) → natural_in GF n ≡ residue 65521 tt n
natural-residue zero = refl
natural-residue (suc n) =
    ap (GF.add GF.one) (natural-residue n)
    ∙ same_residue 65521 _ _
    (rest-residue 65521 tt ((residue 65521 tt 1).rest + (residue 65521 tt n).rest)
    ∙ ap₂ (λ a b. (a + b) % 65521) (rest-residue 65521 tt 1) (rest-residue 65521 tt n)
    ∙ sym (N.add-mod 1 n 65521)
    ∙ ap (λ m. m % 65521) (let e : 1 + n ≡ suc n = omega arith in e)
    ∙ sym (rest-residue 65521 tt (suc n)))

natural_divides : (n : ℕ) → natural_in GF n ≡ GF.zero → 65521 ∣ n
natural_divides n e = dvd_of_mod-eq-zero 65521 (sym (rest-residue 65521 tt n)
    ∙ ap (λ (x : Residue 65521). x.rest) (sym (natural-residue n) ∙ e) ∙ rest-residue 65521 tt 0
    ∙ N.zero-mod 65521)

rest_divides : (z : ℤ) → integer_in GF z ≡ GF.zero → 65521 ∣ nat_abs z
rest_divides (pos n) e = natural_divides n e
rest_divides (negsuc n) e = natural_divides (suc n) (sym (L.neg-neg K.ring (natural_in GF (suc n)))
    ∙ ap GF.neg e ∙ L.neg-zero K.ring)

-- ---- entries of matrices that are lists
module _ {A : Type 0} (N : Arithmetic A) (n : ℕ) (f : ℕ → ℕ → A) where
  pub entry-square : (i j : ℕ) → i < n → j < n → entry_in N (square n f) i j ≡ f i j
  entry-square i j l h =
      ap (λ r. get_or r j N.zero) (get-over (λ i. map (λ j. f i j) (numbers_to n)) [] n i l)
      ∙ get-over (λ j. f i j) N.zero n j h

  square-width : (i : ℕ) → i < n → length (get_or (square n f) i []) ≡ n
  square-width i l = ap length (get-over (λ i. map (λ j. f i j) (numbers_to n)) [] n i l)
      ∙ length-over (λ j. f i j) n

dot_in-total : {A : Type 0} (F : Field A) (n : ℕ) (xs ys : List A) → length xs ≡ n → length ys ≡ n
    → dot_in (operations F.ring) xs ys ≡ total F n
    (λ k. F.mul (get_or xs k F.zero) (get_or ys k F.zero))
dot_in-total F zero [] ys e f = refl
dot_in-total F zero (x ∷ xs) ys e f = absurd (omega arith)
dot_in-total F (suc n) [] ys e f = absurd (omega arith)
dot_in-total F (suc n) (x ∷ xs) [] e f = absurd (omega arith)
dot_in-total F (suc n) (x ∷ xs) (y ∷ ys) e f =
    ap (F.add (F.mul x y)) (dot_in-total F n xs ys (omega arith) (omega arith))

-- the polynomial zero
pub none_annihilates : (n d : ℕ) (rows : List (List Fraction)) → IsAnnihilating n d rows []
none_annihilates n d rows = record { none = entry-square GF n (λ i j. GF.zero) }

module _ (n : ℕ) (columns : List (List (Residue 65521))) (wide : (j : ℕ) → j < n
    → length (get_or columns j []) ≡ n) where
  abbrev B : ℕ → ℕ → Residue 65521
  B l j = entry_in GF columns j l

  next-is : (c : Residue 65521) (rows : List (List (Residue 65521)))
      → ((i : ℕ) → i < n → length (get_or rows i []) ≡ n)
      → IsNext K n B c (entry_in GF rows) (entry_in GF (next_in GF n columns c rows))
  next-is c rows w i j l h =
      entry-square GF n (λ i j. next_entry GF columns c (get_or rows i []) i j) i j l h
      ∙ ap (λ a. GF.add a (cond (eqb i j) c GF.zero)) (dot_in-total K n (get_or rows i [])
      (get_or columns j []) (w i l) (wide j h))

  scheme_eigenvector : (y : ℕ → Residue 65521) (p : Residue 65521) → IsEigenvector K n y B p
      → (cs : List (Residue 65521)) (rows : List (List (Residue 65521))) (s : Residue 65521)
      → ((i : ℕ) → i < n → length (get_or rows i []) ≡ n)
      → IsEigenvector K n y (entry_in GF rows) s
      → IsEigenvector K n y (entry_in GF (matrix_in GF n columns rows cs)) (value_in GF p s cs)
  scheme_eigenvector y p eigen [] rows s w m = m
  scheme_eigenvector y p eigen (c ∷ cs) rows s w m =
      scheme_eigenvector y p eigen cs (next_in GF n columns c rows) (GF.add (GF.mul s p) c)
      (square-width GF n (λ i j. next_entry GF columns c (get_or rows i []) i j))
      (eigenvector_next K n y B p eigen c s (entry_in GF rows)
      (entry_in GF (next_in GF n columns c rows))
      (next-is c rows w) m)

-- ---- the multiple of the matrix less p
module _ (n : ℕ) (rows : List (List Fraction)) (p : ℤ) where
  abbrev d : ℕ
  d = denominator rows

  abbrev number : ℕ → ℕ → ℤ
  number i j = whole_number d (entry (row_at rows i) j)

  abbrev tables : List (ℕ → ℤ)
  tables = map (λ i j. shifted_entry d p rows i j) (numbers_to n)

  tables-length : length tables ≡ n
  tables-length = length-over (λ i j. shifted_entry d p rows i j) n

  table-at : (i j : ℕ) → i < n → whole_at ℚ_field tables i j ≡ shifted_entry d p rows i j
  table-at i j l = ap (λ (r : ℕ → ℤ). r j) (get-over (λ i j. shifted_entry d p rows i j)
      (λ j. pos 0) n i l)

  minus : {A : Type 0} (F : Field A) (b : Bool) → of_int F.ring (neg_ℤ (cond b p (pos 0)))
      ≡ cond b (F.neg (of_int F.ring p)) F.zero
  minus F true = of_int-neg F.ring p
  minus F false = refl

  -- what the multiple less p kills is multiplied by p
  multiplied : {A : Type 0} (F : Field A) (y : ℕ → A)
      → ((j : ℕ) → j < n → total F n (λ i. F.mul (of_int F.ring (whole_at F tables i j)) (y i))
      ≡ F.zero)
      → IsEigenvector F n y (λ i j. of_int F.ring (number i j)) (of_int F.ring p)
  multiplied {A} F y killed j h =
      let q = F.neg (of_int F.ring p) in
      let product : ℕ → A = λ i. F.mul (of_int F.ring (number i j)) (y i) in
      let sum : F.add (total F n product) (F.mul q (y j)) ≡ F.zero =
      ap (F.add (total F n product)) (sym (total-on_diagonal F n q y j h))
      ∙ sym (EK.total-add F n product (λ i. F.mul (cond (eqb i j) q F.zero) (y i)))
      ∙ sym (EK.total_same F n (λ i. F.mul (of_int F.ring (whole_at F tables i j)) (y i))
      (λ i. F.add (product i) (F.mul (cond (eqb i j) q F.zero) (y i))) (λ i l.
      ap (λ z. F.mul (of_int F.ring z) (y i)) (table-at i j l)
      ∙ ap (λ a. F.mul a (y i)) (of_int-add F.ring (number i j) (neg_ℤ (cond (eqb i j) p (pos 0)))
      ∙ ap (F.add (of_int F.ring (number i j))) (minus F (eqb i j)))
      ∙ L.add-mul F.ring (of_int F.ring (number i j)) (cond (eqb i j) q F.zero) (y i)))
      ∙ killed j h in
      L.eq_of_sub F.ring (total F n product) (F.mul (of_int F.ring p) (y j))
      (ap (F.add (total F n product)) (sym (L.neg-mul F.ring (of_int F.ring p) (y j))) ∙ sum)

  module _ (cs : List (Residue 65521)) (root : IsAnnihilating n d rows cs)
      (ne : value_in GF (integer_in GF p) GF.zero cs ≢ GF.zero) where
    abbrev columns : List (List (Residue 65521))
    columns = residue_columns n d rows

    residues_meet : (y : ℕ → Residue 65521)
        → IsEigenvector K n y (λ i j. integer_in GF (number i j))
        (integer_in GF p) → IsEigenvector K n y (λ l j. entry_in GF columns j l) (integer_in GF p)
    residues_meet y m j h =
        EK.total_same K n (λ l. GF.mul (entry_in GF columns j l) (y l))
        (λ l. GF.mul (integer_in GF (number l j)) (y l))
        (λ l o. ap (λ a. GF.mul a (y l)) (entry-square GF n (λ j i. residue_at d rows i j) j l h o))
        ∙ m j h

    none_left : KillsNone K n tables
    none_left y killed =
        eigenvector_none K n y (entry_in GF (matrix_in GF n columns (zeros GF n) cs)) root.none
        (value_in GF (integer_in GF p) GF.zero cs) ne
        (scheme_eigenvector n columns (square-width GF n (λ j i. residue_at d rows i j)) y
        (integer_in GF p) (residues_meet y (multiplied K y killed)) cs (zeros GF n) GF.zero
        (square-width GF n (λ i j. GF.zero)) (eigenvector_zero K n y (entry_in GF (zeros GF n))
        (entry-square GF n (λ i j. GF.zero))))

    module _ (size : length rows ≡ n) (widths : Each (λ row. length row ≡ n) rows) where
      abbrev S : Space ℚ_ring (Row ℚ_field n)
      S = rows_of ℚ_field n

      module _ (y : Row ℚ_field n) (e : shift S (times_matrix n rows) (over p d) y ≡ S.zero) where
        killed : (j : ℕ) → j < n → Σ_to n (λ i. ℚ.mul (whole (shifted_entry d p rows i j)) (y.0 i))
            ≡ ℚ.zero
        killed j h =
            EK.total_same ℚ_field n _ _ (λ i l.
            ap (λ a. ℚ.mul a (y.0 i)) (shifted_entry-is p rows i j
            ∙ sym (shifted-at n rows size widths d p (over p d)
            (over-is d p (denominator_some rows)) i j l h)))
            ∙ acts_once n rows size widths d p (over p d) (over-is d p (denominator_some rows)) y j
            h
            ∙ ap (λ (v : Row ℚ_field n). ℚ.mul (whole (pos d)) (v.0 j)) e
            ∙ L.mul-zero ℚ_ring (whole (pos d))

        abbrev numbers : List Fraction
        numbers = map y.0 (numbers_to n)

        abbrev by : ℕ
        by = row_denominator numbers

        abbrev w : ℕ → ℤ
        w i = whole_number by (y.0 i)

        den_divides : (i : ℕ) → (y.0 i).den ∣ by
        den_divides i = elim (cases_lt i n) [
          | inl l ↦ subst (λ (a : Fraction). a.den ∣ by) (get-over y.0 ℚ.zero n i l)
              (in_row numbers i)
          | inr l ↦ subst (λ (a : Fraction). a.den ∣ by) (sym (y.1 i l))
              (subst (λ m. m ∣ by) (sym zero-den) (N.one-dvd by))
        ]

        cleared : (i : ℕ) → of_int ℚ_ring (w i) ≡ ℚ.mul (whole (pos by)) (y.0 i)
        cleared i = whole_number-is by (y.0 i) (den_divides i)
            ∙ ap (λ x. ℚ.mul x (y.0 i)) (of_int-whole (pos by))

        whole_killed : (j : ℕ) → j < n → times_int w tables j ≡ pos 0
        whole_killed j h =
            whole_injective (times_int w tables j) (pos 0)
            (sym (of_int-whole (times_int w tables j)) ∙ total-of_int ℚ_field n tables tables-length
            w j
            ∙ EK.total_same ℚ_field n _
            (λ i. ℚ.mul (whole (pos by)) (ℚ.mul (whole (shifted_entry d p rows i j)) (y.0 i)))
            (λ i l.
            ap₂ ℚ.mul (ap (of_int ℚ_ring) (table-at i j l)
            ∙ of_int-whole (shifted_entry d p rows i j)) (cleared i)
            ∙ L.mul_left_comm ℚ_ring (whole (shifted_entry d p rows i j)) (whole (pos by)) (y.0 i))
            ∙ EK.total-mul ℚ_field n (whole (pos by))
            (λ i. ℚ.mul (whole (shifted_entry d p rows i j)) (y.0 i))
            ∙ ap (ℚ.mul (whole (pos by))) (killed j h) ∙ L.mul-zero ℚ_ring (whole (pos by)))

        whole_past : (i : ℕ) → n ≤ i → w i ≡ pos 0
        whole_past i l = whole_injective (w i) (pos 0) (sym (of_int-whole (w i)) ∙ cleared i
            ∙ ap (ℚ.mul (whole (pos by))) (y.1 i l) ∙ L.mul-zero ℚ_ring (whole (pos by)))

        zero_entry : (i : ℕ) → i < n → y.0 i ≡ ℚ.zero
        zero_entry i l =
            elim (FL.no_zero_divisors ℚ_field (whole (pos by)) (y.0 i) (sym (cleared i)
            ∙ ap (of_int ℚ_ring) (leaves_none K n tables tables-length 65521 (lit< tt)
            rest_divides none_left w whole_killed whole_past i))) [
              | inl z ↦ absurd (whole-some by (row_some numbers) z)
              | inr z ↦ z
            ]

        zero_row : y ≡ S.zero
        zero_row = RL.row_zero ℚ_field n y zero_entry

      pub excluded : IsNoEigenvalue n rows (over p d)
      excluded = record { is = zero_row }

-- as the code has it
pub excluded_iteration : {n : ℕ} (rows : List (List Fraction)) (d : ℕ) (p q : ℤ)
    (cs : List (Residue 65521)) (f : Found)
    → IsReady n rows d → q ≡ p → IsAnnihilating n d rows cs
    → value_in GF (integer_in GF q) GF.zero cs ≢ GF.zero → IsIteration n rows p f f
excluded_iteration {n = n} rows d p q cs f ready e root ne =
    no_eigenvalue
    (excluded n rows p cs (subst (λ d. IsAnnihilating n d rows cs) ready.least root)
    (subst (λ p. value_in GF (integer_in GF p) GF.zero cs ≢ GF.zero) e ne) ready.count
    ready.widths)
    refl
