-- The inverse of a matrix of independent forms stands behind the identity in the echelon list of the forms beside the identity.
--   inverse_is        the law
--   unit-length, unit-own, unit-other      a row of the identity: its length, its 1 and its zeros
use Rattle.std.proofs.Common.{◌≡◌, ◌≢◌, inl, inr, ℕ, zero, suc, ◌+◌, ◌-◌, ◌<◌, ◌≤◌, List, [], ◌∷◌, ◌++◌, map, drop, length, replicate, refl, sym, ap, ap₂, subst, ◌∙◌, arith}
use Rattle.std.proofs.lemmas.Bool.{cases_lt}
use Rattle.std.proofs.lemmas.List.{length-map, length-drop, length-replicate}
use Rattle.algebra.specs.Each.{Each}
use Rattle.algebra.specs.Ring.{Field}
use Rattle.algebra.proofs.RingLaws as L
use Rattle.algebra.specs.Fraction.{Fraction, ℚ}
use Rattle.algebra.proofs.Fractions.{ℚ_ring, ℚ_field}
use Rattle.vectors.specs.Adding.{IsEchelonOf}
use Rattle.vectors.specs.Causes.{row_at}
use Rattle.vectors.specs.Echelon.{Pivots, rows_in, IsReduced, Leads, IsRref}
use Rattle.vectors.specs.Lists.{entries, tables}
use Rattle.vectors.specs.Matrices as M
use Rattle.vectors.specs.Rows.{Row, rows_of}
use Rattle.vectors.specs.Sequences.{sequences}
use Rattle.vectors.specs.Space.{Space, combine, IsCombination, Independent}
use Rattle.vectors.proofs.Combinations as C
use Rattle.vectors.proofs.EchelonKernel.{same_or_not}
use Rattle.vectors.proofs.Independence as I
use Rattle.vectors.proofs.RowLaws as RL
use Rattle.solvable_maps.specs.Inverse.{unit_list, beside, IsInverse}
use Rattle.vectors.proofs.ListLaws.{below-entry}
use Rattle.solvable_maps.proofs.Eigenvalues.{rows-length, made-entry}

abbrev F : Field Fraction
F = ℚ_field

abbrev Q : Space ℚ_ring (ℕ → Fraction)
Q = sequences ℚ_ring ℕ

-- ---- entries of one list behind another
front-entry : (n : ℕ) (xs ys : List Fraction) → length xs ≡ n → (i : ℕ) → i < n
    → entries F (xs ++ ys) i ≡ entries F xs i
front-entry n [] ys e i l = absurd (omega (arith, e, l))
front-entry n (x ∷ xs) ys e zero l = refl
front-entry zero (x ∷ xs) ys e (suc i) l = absurd (omega (arith, l))
front-entry (suc n) (x ∷ xs) ys e (suc i) l = front-entry n xs ys (omega (arith, e)) i
    (omega (arith, l))

back-entry : (n : ℕ) (xs ys : List Fraction) → length xs ≡ n → (i : ℕ)
    → entries F (xs ++ ys) (n + i) ≡ entries F ys i
back-entry zero [] ys e i = ap (entries F ys) (let z : 0 + i ≡ i = omega arith in z)
back-entry (suc n) [] ys e i = absurd (omega (arith, e))
back-entry zero (x ∷ xs) ys e i = absurd (omega (arith, e))
back-entry (suc n) (x ∷ xs) ys e i = ap (entries F (x ∷ (xs ++ ys))) (let z : suc n + i
    ≡ suc (n + i) = omega arith in z) ∙ back-entry n xs ys (omega (arith, e)) i

dropped-entry : (n : ℕ) (xs : List Fraction) (i : ℕ) → entries F (drop n xs) i ≡ entries F xs
    (n + i)
dropped-entry zero xs i = ap (entries F xs) (let z : i ≡ 0 + i = omega arith in z)
dropped-entry (suc n) [] i = refl
dropped-entry (suc n) (x ∷ xs) i = dropped-entry n xs i
    ∙ ap (entries F (x ∷ xs)) (let z : suc (n + i) ≡ suc n + i = omega arith in z)

-- ---- the rows of the identity
pub unit-length : (n i : ℕ) → length (unit_list n i) ≡ n
unit-length zero i = refl
unit-length (suc n) zero = ap suc (length-replicate n ℚ.zero)
unit-length (suc n) (suc i) = ap suc (unit-length n i)

zeros-entry : (n j : ℕ) → entries F (replicate n ℚ.zero) j ≡ ℚ.zero
zeros-entry zero j = refl
zeros-entry (suc n) zero = refl
zeros-entry (suc n) (suc j) = zeros-entry n j

pub unit-own : (n i : ℕ) → i < n → entries F (unit_list n i) i ≡ ℚ.one
unit-own zero i l = absurd (omega (arith, l))
unit-own (suc n) zero l = refl
unit-own (suc n) (suc i) l = unit-own n i (omega (arith, l))

pub unit-other : (n i j : ℕ) → i ≢ j → entries F (unit_list n i) j ≡ ℚ.zero
unit-other zero i j ne = refl
unit-other (suc n) zero zero ne = absurd (ne refl)
unit-other (suc n) zero (suc j) ne = zeros-entry n j
unit-other (suc n) (suc i) zero ne = refl
unit-other (suc n) (suc i) (suc j) ne = unit-other n i j (λ e. ne (ap suc e))

module _ (n : ℕ) where
  abbrev S : Space ℚ_ring (Row F n)
  S = rows_of F n

  -- ---- combinations of the forms beside the identity
  -- in front they are those of the forms
  front : (k : ℕ) (f : ℕ → Fraction) (forms : List (List Fraction))
      → Each (λ form. length form ≡ n) forms → (i : ℕ) → i < n
      → combine Q f (tables F (beside n k forms)) i ≡ (combine S f (M.rows_in n forms)).0 i
  unfolding Each
  front k f [] w i l = refl
  front k f (form ∷ forms) w i l =
      ap₂ F.add (ap (F.mul (f 0)) (front-entry n form (unit_list n k) w.0 i l
      ∙ sym (below-entry ℚ_field n (entries F form) i l))) (front (suc k) (λ i. f (suc i))
      forms w.1 i l)

  -- behind they are the coefficients
  behind-before : (k : ℕ) (f : ℕ → Fraction) (forms : List (List Fraction))
      → Each (λ form. length form ≡ n) forms → (j : ℕ) → j < k
      → combine Q f (tables F (beside n k forms)) (n + j) ≡ ℚ.zero
  unfolding Each
  behind-before k f [] w j l = refl
  behind-before k f (form ∷ forms) w j l =
      ap₂ F.add (ap (F.mul (f 0)) (back-entry n form (unit_list n k) w.0 j
      ∙ unit-other n k j (λ e. absurd (omega (arith, e, l)))) ∙ L.mul-zero ℚ_ring (f 0))
      (behind-before (suc k) (λ i. f (suc i)) forms w.1 j (omega (arith, l))) ∙ F.add-zero F.zero

  behind : (k : ℕ) (f : ℕ → Fraction) (forms : List (List Fraction))
      → Each (λ form. length form ≡ n) forms → k + length forms ≤ n → (j : ℕ) → j < length forms
      → combine Q f (tables F (beside n k forms)) (n + (k + j)) ≡ f j
  unfolding Each
  behind k f [] w s j l = absurd (omega (arith, l))
  behind k f (form ∷ forms) w s zero l =
      ap (λ z. combine Q f (tables F (beside n k (form ∷ forms))) (n + z)) (let z : k + 0 ≡ k =
      omega arith in z)
      ∙ ap₂ F.add (ap (F.mul (f 0)) (back-entry n form (unit_list n k) w.0 k
      ∙ unit-own n k (omega (arith, s))) ∙ F.mul-one (f 0))
      (behind-before (suc k) (λ i. f (suc i)) forms w.1 k (omega arith))
      ∙ F.add-zero (f 0)
  behind k f (form ∷ forms) w s (suc j) l =
      ap (λ z. combine Q f (tables F (beside n k (form ∷ forms))) (n + z)) (let z : k + suc j
      ≡ suc k + j = omega arith in z)
      ∙ ap₂ F.add (ap (F.mul (f 0)) (back-entry n form (unit_list n k) w.0 (suc k + j)
      ∙ unit-other n k (suc k + j) (λ e. absurd (omega (arith, e))))
      ∙ L.mul-zero ℚ_ring (f 0))
      (behind (suc k) (λ i. f (suc i)) forms w.1 (omega (arith, s)) j (omega (arith, l)))
      ∙ L.zero-add ℚ_ring (f (suc j))

  module _ (forms : List (List Fraction)) (count : length forms ≡ n)
      (widths : Each (λ form. length form ≡ n) forms)
      (ind : Independent S (M.rows_in n forms)) where
    abbrev given : List (ℕ → Fraction)
    given = tables F (beside n 0 forms)

    beside-length : (k : ℕ) (forms : List (List Fraction)) → length (tables F (beside n k forms))
        ≡ length forms
    beside-length k [] = refl
    beside-length k (form ∷ forms) = ap suc (beside-length (suc k) forms)

    coefficient_behind : (f : ℕ → Fraction) (j : ℕ) → j < n → combine Q f given (n + j) ≡ f j
    coefficient_behind f j l = ap (λ z. combine Q f given (n + z)) (let z : j ≡ 0 + j =
        omega arith in z) ∙ behind 0 f forms widths (omega (arith, count)) j
        (omega (arith, l, count))

    given_independent : Independent Q given
    given_independent f e i l = sym (coefficient_behind f i (let p = beside-length 0 forms in
        omega (arith, l, p, count))) ∙ ap (λ (v : ℕ → Fraction). v (n + i)) e

    -- a combination that is zero in front is zero
    none_in_front : (f : ℕ → Fraction) → ((i : ℕ) → i < n → combine Q f given i ≡ ℚ.zero)
        → combine Q f given ≡ Q.zero
    none_in_front f h =
        let rows_zero : combine S f (M.rows_in n forms) ≡ S.zero =
        RL.row_zero F n (combine S f (M.rows_in n forms)) (λ i l.
        sym (front 0 f forms widths i l) ∙ h i l) in
        C.combine-same Q f (λ i. ℚ.zero) given (λ i l.
        ind f rows_zero i (let p = rows-length n forms in let q = beside-length 0 forms in
        omega (arith, p, q, l)))
        ∙ C.combine-none Q given

    -- ---- ascending leads below n, n of them
    abbrev lead_at : Pivots F → ℕ → ℕ
    lead_at [] j = 0
    lead_at (p ∷ ps) zero = p.0
    lead_at (p ∷ ps) (suc j) = lead_at ps j

    above : (p : ℕ × (ℕ → Fraction)) (qs : Pivots F) → Each (λ q. (p.0 < q.0) × (p.1 q.0 ≡ F.zero))
        qs → Each (λ q. suc p.0 ≤ q.0) qs
    unfolding Each
    above p [] h = tt
    above p (q ∷ qs) h = ((let z : p.0 < q.0 = h.0.0 in omega (arith, z)), above p qs h.1)

    above_next : (k : ℕ) (qs : Pivots F) (c : ℕ) → c ≡ k → Each (λ q. suc c ≤ q.0) qs
        → Each (λ q. suc k ≤ q.0) qs
    above_next k qs c e h = subst (λ x. Each (λ q. suc x ≤ q.0) qs) e h

    few : (k : ℕ) (ps : Pivots F) → IsReduced F ps → Each (λ p. k ≤ p.0) ps → Each (λ p. p.0 < n) ps
        → k ≤ n → k + length ps ≤ n
    unfolding Each
    few k [] r a b l = omega (arith, l)
    few k (p ∷ ps) r a b l =
        let rest : suc p.0 + length ps ≤ n = few (suc p.0) ps r.2 (above p ps r.1) b.1
        (let z : p.0 < n = b.0 in omega (arith, z)) in
        let first : k ≤ p.0 = a.0 in
        omega (arith, rest, first)

    first_lead : (k : ℕ) (p : ℕ × (ℕ → Fraction)) (ps : Pivots F) → IsReduced F (p ∷ ps) → k ≤ p.0
        → p.0 < n → Each (λ p. p.0 < n) ps → k + suc (length ps) ≡ n → p.0 ≡ k
    first_lead k p ps r a b c e =
        let rest : suc p.0 + length ps ≤ n = few (suc p.0) ps r.2 (above p ps r.1) c
        (omega (arith, b)) in
        omega (arith, rest, a, e)

    lead_is : (k : ℕ) (ps : Pivots F) → IsReduced F ps → Each (λ p. k ≤ p.0) ps
        → Each (λ p. p.0 < n) ps → k + length ps ≡ n → (j : ℕ) → j < length ps
        → lead_at ps j ≡ k + j
    unfolding Each
    lead_is k [] r a b e j l = absurd (omega (arith, l))
    lead_is k (p ∷ ps) r a b e zero l = first_lead k p ps r a.0 b.0 b.1 e
        ∙ (let z : k ≡ k + 0 = omega arith in z)
    lead_is k (p ∷ ps) r a b e (suc j) l =
        lead_is (suc k) ps r.2 (above_next k ps p.0 (first_lead k p ps r a.0 b.0 b.1 e)
        (above p ps r.1)) b.1 (omega (arith, e)) j (omega (arith, l))
        ∙ (let z : suc k + j ≡ k + suc j = omega arith in z)

    zero_at_lead : (p : ℕ × (ℕ → Fraction)) (qs : Pivots F)
        → Each (λ q. (p.0 < q.0) × (p.1 q.0 ≡ F.zero)) qs → (j : ℕ) → j < length qs
        → p.1 (lead_at qs j) ≡ F.zero
    unfolding Each
    zero_at_lead p [] h j l = absurd (omega (arith, l))
    zero_at_lead p (q ∷ qs) h zero l = h.0.1
    zero_at_lead p (q ∷ qs) h (suc j) l = zero_at_lead p qs h.1 j (omega (arith, l))

    abbrev sequence_at : List (ℕ → Fraction) → ℕ → ℕ → Fraction
    sequence_at [] a i = F.zero
    sequence_at (r ∷ rows) zero i = r i
    sequence_at (r ∷ rows) (suc a) i = sequence_at rows a i

    -- the a-th row is that of the identity, as far as the forms go
    own_column : (k : ℕ) (ps : Pivots F) → IsReduced F ps → Each (λ p. k ≤ p.0) ps
        → Each (λ p. p.0 < n) ps → k + length ps ≡ n → (a : ℕ) → a < length ps
        → sequence_at (rows_in F ps) a (k + a) ≡ F.one
    unfolding Each
    own_column k [] r a b e i l = absurd (omega (arith, l))
    own_column k (p ∷ ps) r a b e zero l =
        ap p.1 (let z : k + 0 ≡ k = omega arith in z)
        ∙ ap p.1 (sym (first_lead k p ps r a.0 b.0 b.1 e)) ∙ r.0.one
    own_column k (p ∷ ps) r a b e (suc i) l =
        ap (sequence_at (rows_in F ps) i) (let z : k + suc i ≡ suc k + i = omega arith in z)
        ∙ own_column (suc k) ps r.2 (above_next k ps p.0 (first_lead k p ps r a.0 b.0 b.1 e)
        (above p ps r.1)) b.1 (omega (arith, e)) i (omega (arith, l))

    other_column : (k : ℕ) (ps : Pivots F) → IsReduced F ps → Each (λ p. k ≤ p.0) ps
        → Each (λ p. p.0 < n) ps → k + length ps ≡ n → (a : ℕ) → a < length ps → (i : ℕ) → i < n
        → i ≢ k + a → sequence_at (rows_in F ps) a i ≡ F.zero
    unfolding Each
    other_column k [] r a b e c l i h ne = absurd (omega (arith, l))
    other_column k (p ∷ ps) r a b e zero l i h ne =
        let first : p.0 ≡ k = first_lead k p ps r a.0 b.0 b.1 e in
        elim (cases_lt i k) [
          | inl less ↦ r.0.below i (omega (arith, less, first))
          | inr more ↦ elim (cases_lt k i) [
            | inl above_it ↦
                let j : ℕ = i - suc k in
                let lead : lead_at ps j ≡ suc k + j =
                lead_is (suc k) ps r.2 (above_next k ps p.0 first (above p ps r.1)) b.1
                (omega (arith, e)) j (omega (arith, above_it, h, e)) in
                ap p.1 (let z : i ≡ lead_at ps j = omega (arith, lead, above_it) in z)
                ∙ zero_at_lead p ps r.1 j (omega (arith, above_it, h, e))
            | inr same ↦ absurd (ne (omega (arith, more, same)))
          ]
        ]
    other_column k (p ∷ ps) r a b e (suc c) l i h ne =
        other_column (suc k) ps r.2 (above_next k ps p.0 (first_lead k p ps r a.0 b.0 b.1 e)
        (above p ps r.1)) b.1 (omega (arith, e)) c (omega (arith, l)) i h
        (λ q. ne (omega (arith, q)))

    -- ---- the echelon list
    module _ (ps : Pivots F) (r : IsRref F (n + n) given ps) where
      lead_low : (p : ℕ × (ℕ → Fraction)) → Leads F p.0 p.1 → IsCombination Q given p.1 → p.0 < n
      lead_low p leads made =
          elim (cases_lt p.0 n) [
            | inl l ↦ l
            | inr g ↦ absurd (F.one-ne-zero (sym leads.one
                ∙ ap (λ (v : ℕ → Fraction). v p.0) (made.1
                ∙ none_in_front made.0 (λ i l. sym (ap (λ (v : ℕ → Fraction). v i) made.1)
                ∙ leads.below i (omega (arith, g, l))))))
          ]

      leads_low : (qs : Pivots F) → IsReduced F qs → Each (IsCombination Q given) (rows_in F qs)
          → Each (λ p. p.0 < n) qs
      unfolding Each
      leads_low [] h k = tt
      leads_low (q ∷ qs) h k = (lead_low q h.0 k.0, leads_low qs h.2 k.1)

      any_above : (qs : Pivots F) → Each (λ p. 0 ≤ p.0) qs
      unfolding Each
      any_above [] = tt
      any_above (q ∷ qs) = (omega arith, any_above qs)

      rows-count : (qs : Pivots F) → length (rows_in F qs) ≡ length qs
      rows-count [] = refl
      rows-count (q ∷ qs) = ap suc (rows-count qs)

      full : length ps ≡ n
      full =
          let less : 0 + length ps ≤ n = few 0 ps r.reduced (any_above ps)
          (leads_low ps r.reduced r.made) (omega arith) in
          let more : length given ≤ length (rows_in F ps) = I.independent-length F Q (rows_in F ps)
          given r.makes given_independent in
          let p = rows-count ps in let q = beside-length 0 forms in
          omega (arith, less, more, p, q, count)

      own : (a : ℕ) → a < n → sequence_at (rows_in F ps) a a ≡ F.one
      own a l = ap (sequence_at (rows_in F ps) a) (let z : a ≡ 0 + a = omega arith in z)
          ∙ own_column 0 ps r.reduced (any_above ps) (leads_low ps r.reduced r.made) (let f =
          full in omega (arith, f)) a (let f = full in omega (arith, f, l))

      other : (a : ℕ) → a < n → (i : ℕ) → i < n → i ≢ a → sequence_at (rows_in F ps) a i ≡ F.zero
      other a l i k ne = other_column 0 ps r.reduced (any_above ps) (leads_low ps r.reduced r.made)
          (let f = full in omega (arith, f)) a (let f = full in omega (arith, f, l)) i k
          (λ e. ne (omega (arith, e)))

      made_at : (rows : List (ℕ → Fraction)) → Each (IsCombination Q given) rows → (a : ℕ)
          → a < length rows → (f : ℕ → Fraction)
          × ((i : ℕ) → sequence_at rows a i ≡ combine Q f given i)
      unfolding Each
      made_at [] h a l = absurd (omega (arith, l))
      made_at (row ∷ rows) h zero l = (h.0.0, λ i. ap (λ (v : ℕ → Fraction). v i) h.0.1)
      made_at (row ∷ rows) h (suc a) l = made_at rows h.1 a (omega (arith, l))

      -- the second half of the a-th row, as coefficients of the forms, makes the a-th variable
      half : (a : ℕ) → a < n → (i : ℕ) → i < n
          → (combine S (λ j. sequence_at (rows_in F ps) a (n + j)) (M.rows_in n forms)).0 i
          ≡ sequence_at (rows_in F ps) a i
      half a l i k =
          let (f, e) = made_at (rows_in F ps) r.made a (let p = full in let q = rows-count ps in
          omega (arith, l, p, q)) in
          ap (λ (v : Row F n). v.0 i) (C.combine-same S (λ j. sequence_at (rows_in F ps) a (n + j))
          f (M.rows_in n forms) (λ j b. e (n + j)
          ∙ coefficient_behind f j (let p = rows-length n forms in
          omega (arith, b, p, count))))
          ∙ sym (front 0 f forms widths i k) ∙ sym (e i)

    -- ---- lists
    sequence_row : (rows : List (List Fraction)) (a i : ℕ) → sequence_at (tables F rows) a i
        ≡ entries F (row_at rows a) i
    sequence_row [] a i = refl
    sequence_row (row ∷ rows) zero i = refl
    sequence_row (row ∷ rows) (suc a) i = sequence_row rows a i

    drop_none : (n : ℕ) → drop {A = Fraction} n [] ≡ []
    drop_none zero = refl
    drop_none (suc n) = refl

    row_drop : (rows : List (List Fraction)) (a : ℕ) → row_at (map (drop n) rows) a
        ≡ drop n (row_at rows a)
    row_drop [] a = sym (drop_none n)
    row_drop (row ∷ rows) zero = refl
    row_drop (row ∷ rows) (suc a) = row_drop rows a

    halves : (rows : List (List Fraction)) → Each (λ row. length row ≡ n + n) rows
        → Each (λ row. length row ≡ n) (map (drop n) rows)
    unfolding Each
    halves [] h = tt
    halves (row ∷ rows) h = (length-drop n row ∙ (let z = h.0 in omega (arith, z)), halves rows h.1)

    pub inverse_is : (rows : List (List Fraction)) → IsEchelonOf (n + n) (beside n 0 forms) rows
        → IsInverse n forms (map (drop n) rows)
    inverse_is rows e = record {
      size = length-map rows (drop n) ∙ sym (tables-length rows) ∙ ap length e.are
          ∙ rows-count e.pivots e.reduced e.pivots ∙ full e.pivots e.reduced;
      widths = halves rows e.widths;
      is = λ a i l k.
          sym (made-entry n (row_at (map (drop n) rows) a) forms i k)
          ∙ ap (λ (v : Row F n). v.0 i) (C.combine-same S (entries F (row_at (map (drop n) rows) a))
          (λ j. sequence_at (rows_in F e.pivots) a (n + j)) (M.rows_in n forms)
          (λ j b. ap (λ row. entries F row j) (row_drop rows a) ∙ dropped-entry n (row_at rows a) j
          ∙ sym (sequence_row rows a (n + j)) ∙ ap (λ t. sequence_at t a (n + j)) e.are))
          ∙ half e.pivots e.reduced a l i k
          ∙ (elim (same_or_not i a) [
            | inl q ↦ ap (sequence_at (rows_in F e.pivots) a) q ∙ own e.pivots e.reduced a l
                ∙ sym (ap (entries F (unit_list n a)) q ∙ unit-own n a l)
            | inr ne ↦ other e.pivots e.reduced a l i k ne
                ∙ sym (unit-other n a i (λ q. ne (sym q)))
          ]);
    }
      where
        tables-length : (rows : List (List Fraction)) → length (tables F rows) ≡ length rows
        tables-length [] = refl
        tables-length (row ∷ rows) = ap suc (tables-length rows)
