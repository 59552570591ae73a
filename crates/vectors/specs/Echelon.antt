-- Reduced echelon lists of rows.
--   Pivots F                 rows, each with its leading column; rows_in: the rows alone
--   Leads F c r              the first entry of r that isn't zero is in the column c, and one
--   IsReduced F ps           the leading columns ascend, and each is zero in the other rows
--   IsEchelon F rows         the rows of such a list
--   reduced_by F ps v        v less each row times v's entry in its leading column
--   total F n f              the sum of f at the numbers below n
--   IsKernel F n rows y      the product of y with each row is zero
--   IsFree F ps j            no row leads in the column j; AreFree F n ps js: the js are those below n, in order
--   IsKernelVector F n ps j x     the vector of the free column j; AreKernelVectors: of each of a list of columns
--   with_row F c h ps           ps with the row h more, which leads in c and is cleared out of the others
--   free_from F ps k m       the free ones of the m columns from k on
--   kernel_vector F ps j     the vector of the column j, entry by entry
--   IsRref F n given ps      ps is the reduced echelon list of the rows given, of width n
use Rattle.std.specs.Prelude.{◌≡◌, ◌≢◌, ℕ, zero as nought, suc, ◌<◌, ◌≤◌, List, [], ◌∷◌, Bool, false, cond, ltb, eqb, ◌||◌}
use Rattle.algebra.specs.Ring.{Field}
use Rattle.algebra.specs.Each.{Each}
use Rattle.vectors.specs.Space.{IsCombination}
use Rattle.vectors.specs.Sequences.{sequences}
use Rattle.algebra.specs.In.{In}

module _ {A : Type 0} (F : Field A) where
  -- rows, each with its leading column
  abbrev pub Pivots : Type 0
  Pivots = List (ℕ × (ℕ → A))

  abbrev pub rows_in : Pivots → List (ℕ → A)
  rows_in [] = []
  rows_in (p ∷ ps) = p.1 ∷ rows_in ps

  -- the row's first entry that is not zero is the one in this column, and it is one
  pub record Leads (c : ℕ) (r : ℕ → A) : Type 0 where
    pub below : (i : ℕ) → i < c → r i ≡ F.zero
    pub one : r c ≡ F.one

  -- the columns ascend, and each is zero in the other rows
  abbrev pub IsReduced : Pivots → Type 0
  IsReduced [] = Unit {0}
  IsReduced (p ∷ ps) =
      Leads p.0 p.1 × Each (λ q. (p.0 < q.0) × (p.1 q.0 ≡ F.zero)) ps × IsReduced ps

  pub record IsEchelon (rows : List (ℕ → A)) : Type 0 where
    pub pivots : Pivots
    pub reduced : IsReduced pivots
    pub is : rows ≡ rows_in pivots

  -- v less the sum of each row times v's entry in its leading column
  abbrev pub reduced_by : Pivots → (ℕ → A) → ℕ → A
  reduced_by [] v = v
  reduced_by (p ∷ ps) v = λ i. F.add (reduced_by ps v i) (F.neg (F.mul (v p.0) (p.1 i)))

  -- ---- the kernel
  abbrev pub total : ℕ → (ℕ → A) → A
  total nought f = F.zero
  total (suc n) f = F.add (f 0) (total n (λ i. f (suc i)))

  -- the product with each row is zero
  abbrev pub IsKernel : ℕ → List (ℕ → A) → (ℕ → A) → Type 0
  IsKernel n rows y = Each (λ r. total n (λ i. F.mul (r i) (y i)) ≡ F.zero) rows

  -- no row leads there
  abbrev pub IsFree : Pivots → ℕ → Type 0
  IsFree ps j = Each (λ p. p.0 ≢ j) ps

  -- the vector of a column without a leading one
  pub record IsKernelVector (n : ℕ) (ps : Pivots) (j : ℕ) (x : ℕ → A) : Type 0 where
    pub one : x j ≡ F.one
    pub others : (i : ℕ) → IsFree ps i → i ≢ j → x i ≡ F.zero
    pub leads : Each (λ p. x p.0 ≡ F.neg (p.1 j)) ps
    pub past : (i : ℕ) → n ≤ i → x i ≡ F.zero

  abbrev pub AreKernelVectors : ℕ → Pivots → List ℕ → List (ℕ → A) → Type 0
  AreKernelVectors n ps [] [] = Unit {0}
  AreKernelVectors n ps [] (x ∷ xs) = ⊥
  AreKernelVectors n ps (j ∷ js) [] = ⊥
  AreKernelVectors n ps (j ∷ js) (x ∷ xs) = IsKernelVector n ps j x × AreKernelVectors n ps js xs

  abbrev pub Rising : List ℕ → Type 0
  Rising [] = Unit {0}
  Rising (j ∷ js) = Each (λ k. j < k) js × Rising js

  -- the columns below n in which no row leads, in order
  pub record AreFree (n : ℕ) (ps : Pivots) (js : List ℕ) : Type 0 where
    pub free : Each (λ j. IsFree ps j × (j < n)) js
    pub rising : Rising js
    pub complete : (i : ℕ) → i < n → IsFree ps i → In i js

  -- ---- adding a row that is zero in each leading column, and leads in the column c
  abbrev pub clear_one : ℕ → (ℕ → A) → (ℕ → A) → ℕ → A
  clear_one c h r = λ i. F.add (r i) (F.neg (F.mul (r c) (h i)))

  abbrev pub clear_column : ℕ → (ℕ → A) → Pivots → Pivots
  clear_column c h [] = []
  clear_column c h (p ∷ ps) = (p.0, clear_one c h p.1) ∷ clear_column c h ps

  abbrev pub insert_row : ℕ → (ℕ → A) → Pivots → Pivots
  insert_row c h [] = (c, h) ∷ []
  insert_row c h (p ∷ ps) = cond (ltb c p.0) ((c, h) ∷ p ∷ ps) (p ∷ insert_row c h ps)

  abbrev pub with_row : ℕ → (ℕ → A) → Pivots → Pivots
  with_row c h ps = insert_row c h (clear_column c h ps)

  -- ---- the free columns, m from k on
  abbrev pub leads_at : Pivots → ℕ → Bool
  leads_at [] j = false
  leads_at (p ∷ ps) j = eqb p.0 j || leads_at ps j

  abbrev pub free_from : Pivots → ℕ → ℕ → List ℕ
  free_from ps k nought = []
  free_from ps k (suc m) =
      cond (leads_at ps k) (free_from ps (suc k) m) (k ∷ free_from ps (suc k) m)

  -- the vector of the column j, entry by entry
  abbrev pub kernel_vector : Pivots → ℕ → ℕ → A
  kernel_vector [] j i = cond (eqb i j) F.one F.zero
  kernel_vector (p ∷ ps) j i = cond (eqb p.0 i) (F.neg (p.1 j)) (kernel_vector ps j i)

  -- the reduced echelon list of rows of width n
  pub record IsRref (n : ℕ) (given : List (ℕ → A)) (ps : Pivots) : Type 0 where
    pub reduced : IsReduced ps
    pub inside : Each (λ p. p.0 < n) ps
    pub past : Each (λ p. (i : ℕ) → n ≤ i → p.1 i ≡ F.zero) ps
    pub makes : Each (IsCombination (sequences F.ring ℕ) (rows_in ps)) given
    pub made : Each (IsCombination (sequences F.ring ℕ) given) (rows_in ps)
