-- The loop over the powers of one candidate.
--   Going                      so far
--   IsPowerAt k xs             the power k + 1, as the code has it;  power_at: it is the next one;  kernel_at: its kernel
--   going_first, going_next    before the first power, and after one
--   going_stop                 where a kernel has not grown
--   column_past, vector_past   the refusals
use Rattle.std.proofs.Common.{◌≡◌, ◌≢◌, inl, inr, ℕ, zero, suc, ◌+◌, ◌-◌, ◌≤◌, ℤ, List, [], length, refl, sym, ap, ap₂, subst, ◌∙◌, arith, add-one, All, Vec, Global}
use Rattle.algebra.specs.Fraction.{Fraction}
use Rattle.frac128.specs.declared.Whole.{Whole}
use Rattle.frac128.specs.declared.fraction.Frac.{Frac}
use Rattle.linear.specs.Rows.{rows_of}
use Rattle.vectors.specs.Adding.{IsEchelonOf}
use Rattle.linear.specs.View.{Echelon}
use Rattle.linear.proofs.Clearing.{rows-length}
use Rattle.linear.proofs.Echelon.{echelon_none}
use Rattle.eigen_split.specs.Ints.{ints_of, shifted_rows, int_columns, power_rows, whole_rows, IsReady}
use Rattle.eigen_split.specs.Search.{IsKernelAt, AreAdded, FormsTo, HasKernel, HasGrownTo, AreFormsOf, multiple}
use Rattle.eigen_split.specs.Refusal.{IsPastAt, IsPastNew, IsTried}
use Rattle.eigen_split.specs.Parts.{next_rows, IsKernelOf, IfColumnPastOf, IfVectorPast, IfPastIn}
use Rattle.eigen_split.specs.declared.EigenError.{EigenError}
use Rattle.eigen_split.specs.declared.EigenError.TheVariants.{Eigen, Range, Wide, Memory}
use Rattle.eigen_split.proofs.Multiples.{power_is}
use Rattle.eigen_split.proofs.Squares.{count_is, widths_are}

pub record Going (n : ℕ) (rows : List (List Fraction)) (d : ℕ) (p : ℤ) (k : ℕ)
    (ints : List (List ℤ)) (forms : List (List Fraction)) (known : Echelon) (grown : ℕ) : Type
    0 where
  pub ints_are : ints ≡ power_rows d p rows (k - 1)
  pub made : FormsTo n rows p k forms
  pub width : known.width ≡ n
  pub known_is : IsEchelonOf n forms known.rows
  pub kernel : HasKernel n rows p k grown
  pub grew : HasGrownTo n rows p k

module _ {n : ℕ} {rows : List (List Fraction)} {d : ℕ} (p : ℤ) (ready : IsReady n rows d) where
  pub going_first : {ints : List (List ℤ)} (known : Echelon) → ints ≡ shifted_rows d p rows
      → known ≡ record { width = n; rows = [] } → Going n rows d p 0 ints [] known 0
  going_first known e q = record {
    ints_are = e;
    made = refl;
    width = ap (λ (x : Echelon). x.width) q;
    known_is = subst (λ (x : Echelon). IsEchelonOf n [] x.rows) (sym q) (echelon_none n);
    kernel = refl;
    grew = tt;
  }

  meant : (k : ℕ) (ints : List (List ℤ)) → ints ≡ power_rows d p rows k
      → whole_rows ints ≡ multiple n rows p k
  meant k ints e =
      ap whole_rows e
      ∙ subst (λ d. whole_rows (power_rows d p rows k) ≡ multiple n rows p k) (sym ready.least)
      (power_is n p rows ready.count k)

  -- the power k + 1, as the code has it
  pub record IsPowerAt (k : ℕ) (xs : List (Vec Whole Global)) : Type 0 where
    pub is : ints_of xs ≡ power_rows d p rows k
    pub count : length xs ≡ n
    pub widths : All (λ v. length v.items ≡ length xs) xs

  pub columns_are : (first columns : List (Vec Whole Global))
      → ints_of first ≡ shifted_rows d p rows
      → ints_of columns ≡ int_columns (length first) (ints_of first)
      → ints_of columns ≡ int_columns (length rows) (shifted_rows d p rows)
  columns_are first columns e q = q ∙ ap₂ int_columns (count_is d p rows 0 first e) e

  next_is : (k : ℕ) (ints columns next : List (List ℤ)) → ints ≡ power_rows d p rows (k - 1)
      → columns ≡ int_columns (length rows) (shifted_rows d p rows)
      → next ≡ next_rows k columns ints → next ≡ power_rows d p rows k
  next_is zero ints columns next e q h = h ∙ e
  next_is (suc k) ints columns next e q h =
      h ∙ ap₂ (λ c i. next_rows (suc k) c i) q (e ∙ (let z : suc k - 1 ≡ k = omega arith in
      ap (power_rows d p rows) z))

  pub power_at : (k : ℕ) (old first columns new : List (Vec Whole Global))
      → ints_of old ≡ power_rows d p rows (k - 1) → ints_of first ≡ shifted_rows d p rows
      → ints_of columns ≡ int_columns (length first) (ints_of first)
      → ints_of new ≡ next_rows k (ints_of columns) (ints_of old) → IsPowerAt k new
  power_at k old first columns new e f q h =
      let is : ints_of new ≡ power_rows d p rows k =
      next_is k (ints_of old) (ints_of columns) (ints_of new) e (columns_are first columns f q) h in
      record {
        is = is;
        count = count_is d p rows k new is ∙ ready.count;
        widths = widths_are d p rows k new is;
      }

  pub kernel_at : {k : ℕ} {xs : List (Vec Whole Global)} {vectors : List (List Fraction)}
      → IsPowerAt k xs → IsKernelOf xs vectors → IsKernelAt n (multiple n rows p k) vectors
  kernel_at {k = k} {xs = xs} {vectors = vectors} now h =
      subst (λ l. IsKernelAt n l vectors) (meant k (ints_of xs) now.is)
      (subst (λ m. IsKernelAt m (whole_rows (ints_of xs)) vectors) now.count h)

  pub going_next : (k : ℕ) (old now : List (Vec Whole Global)) (forms : List (List Fraction))
      {more : List (List Fraction)} (vectors : List (Vec Frac Global)) (known known' : Echelon)
      (grown size count : ℕ)
      → Going n rows d p k (ints_of old) forms known grown → IsPowerAt k now
      → IsKernelOf now (rows_of vectors) → AreAdded forms (rows_of vectors) more
      → known'.width ≡ size → IsEchelonOf size more known'.rows → size ≡ n → count ≡ length vectors
      → count ≢ grown → Going n rows d p (k + 1) (ints_of now) more known' count
  going_next k old now forms {more = more} vectors known known' grown size count g e h a w f q c
      ne =
      let kernel : IsKernelAt n (multiple n rows p k) (rows_of vectors) =
      kernel_at e h in
      let many : length (rows_of vectors) ≡ count = rows-length vectors ∙ sym c in
      subst (λ m. Going n rows d p m (ints_of now) more known' count) (sym (add-one k))
      (record {
        ints_are = e.is ∙ (let z : k ≡ suc k - 1 = omega arith in ap (power_rows d p rows) z);
        made = (forms, rows_of vectors, a.new, g.made, kernel, a.are, a.is);
        width = w ∙ q;
        known_is = subst (λ m. IsEchelonOf m more known'.rows) q f;
        kernel = (rows_of vectors, kernel, many);
        grew = (g.grew, (grown, count, g.kernel, (rows_of vectors, kernel, many), λ z. ne (sym z)));
      })

  pub going_stop : (k : ℕ) (old now : List (Vec Whole Global)) {forms : List (List Fraction)}
      (vectors : List (Vec Frac Global)) (known : Echelon) (grown count : ℕ)
      → Going n rows d p k (ints_of old) forms known grown → k ≤ n → IsPowerAt k now
      → IsKernelOf now (rows_of vectors) → count ≡ length vectors → count ≡ grown
      → AreFormsOf n rows p forms
  going_stop k old now vectors known grown count g l e h c q = record {
    powers = k;
    few = l;
    made = g.made;
    ended = inr (
      grown,
      g.kernel,
      (rows_of vectors, kernel_at e h, rows-length vectors ∙ sym c ∙ q),
    );
  }

  -- the refusals; another name of the candidate, and of the power
  pub column_past : (k : ℕ) (now : List (Vec Whole Global)) (q : ℤ) (e : EigenError)
      → IsTried n rows p k → IsPowerAt k now → q ≡ p → IfColumnPastOf now q (k + 1) e
      → IfPastIn n rows e
  column_past k now q Eigen t a s h = absurd h
  column_past k now q (Range sum) t a s h = absurd h
  column_past k now q Memory t a s h = tt
  column_past k now q (Wide candidate w row) t a s h =
      let past : (row ≤ n) × IsPastAt n (multiple n rows p k) row =
      subst (λ l. (row ≤ n) × IsPastAt n l row) (meant k (ints_of now) a.is)
      (subst (λ m. (row ≤ m) × IsPastAt m (whole_rows (ints_of now)) row) a.count (h.2, h.3)) in
      let column = past.1 in
      subst (λ w. IfPastIn n rows (Wide candidate w row)) (sym (h.1 ∙ add-one k))
      (subst (λ x. IfPastIn n rows (Wide x (suc k) row)) (sym (h.0 ∙ s)) (
        t,
        inl (
          past.0,
          record {
            before = column.before;
            number = column.number;
            target = column.target;
            echelon = column.echelon;
            is = column.is;
            past = column.past;
          },
        ),
      ))

  pub vector_past : (k : ℕ) (old now : List (Vec Whole Global)) (forms : List (List Fraction))
      (vectors : List (Vec Frac Global)) (known : Echelon) (grown size : ℕ) (q : ℤ)
      (e : EigenError)
      → IsTried n rows p k → Going n rows d p k (ints_of old) forms known grown
      → IsPowerAt k now → IsKernelOf now (rows_of vectors) → size ≡ n → q ≡ p
      → IfVectorPast size forms (rows_of vectors) q (k + 1) e → IfPastIn n rows e
  vector_past k old now forms vectors known grown size q Eigen t g a b z s h = absurd h
  vector_past k old now forms vectors known grown size q (Range sum) t g a b z s h = absurd h
  vector_past k old now forms vectors known grown size q Memory t g a b z s h = tt
  vector_past k old now forms vectors known grown size q (Wide candidate w row) t g a b z s h =
      let past : (before : ℕ) × (row ≡ n + suc before)
      × IsPastNew n forms (rows_of vectors) before =
      subst (λ m. (before : ℕ) × (row ≡ m + suc before)
      × IsPastNew m forms (rows_of vectors) before) z h.2 in
      subst (λ w. IfPastIn n rows (Wide candidate w row)) (sym (h.1 ∙ add-one k))
      (subst (λ x. IfPastIn n rows (Wide x (suc k) row)) (sym (h.0 ∙ s)) (
        t,
        inr (
          (let e = past.1 in omega (arith, e)),
          record {
            before = past.0;
            number = past.1;
            found = forms;
            are = g.made;
            vectors = rows_of vectors;
            kernel = kernel_at a b;
            past = past.2;
          },
        ),
      ))
