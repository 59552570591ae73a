-- Echelon lists that are lists of rows, as the theory has them with their leading columns: what adding a row makes of them.
--   Aligned rows ps        the rows are those of ps, and lead in their columns
--   entry-is               the entry of a row, as definitions and as proofs have it
--   reduced_is             what rows leave of a row is what the theory's reducing leaves
--   echelon_none           no rows
--   echelon_own            an echelon list is that of its own rows
--   echelon_added, added_new       a row more, which was no combination
--   echelon_same, same_old         a row that is a combination
use Rattle.std.proofs.Common.{◌≡◌, inl, inr, ◌<◌, ◌≤◌, ℕ, zero, suc, Bool, true, false, cond, ltb, List, [], ◌∷◌, ◌++◌, length, refl, sym, ap, ap₂, subst, ◌∙◌, arith}
use Rattle.std.specs.Prelude.{insert}
use Rattle.std.proofs.lemmas.Bool.{cases_lt}
use mathlib.Core.Path.{fun_ext}
use Rattle.algebra.specs.Each.{Each}
use Rattle.algebra.specs.Ring.{CommRing, Field}
use Rattle.algebra.proofs.RingLaws as L
use Rattle.algebra.proofs.FieldLaws as FL
use Rattle.algebra.proofs.RingSolver.{ring_rules, ring}
use Rattle.algebra.specs.Fraction.{Fraction, inverse}
use Rattle.algebra.proofs.Fractions.{ℚ_ring, ℚ_field}
use Rattle.vectors.specs.Space.{IsCombination}
use Rattle.vectors.specs.Sequences.{sequences}
use Rattle.vectors.specs.Lists.{entries, tables}
use Rattle.vectors.specs.Echelon as S
use Rattle.vectors.specs.Echelon.{Pivots, rows_in, IsReduced, IsRref}
use Rattle.vectors.specs.Adding.{lead, after_zero, entry, less, reduced_by, reduce_row, scale_row, quotient, IsEchelonOf, IsCombinationOf}
use Rattle.vectors.proofs.Combinations as C
use Rattle.vectors.proofs.EchelonLaws as E
use Rattle.vectors.proofs.EchelonAdd.{First}
use Rattle.vectors.proofs.RrefLaws as RL
use Rattle.vectors.proofs.ListLaws.{entries-past}
use Rattle.linear.specs.Parts.{clear_column, place}
use Rattle.linear.proofs.Lists.{lead-zero, lead-some, lead_some, less-length}
use Rattle.linear.proofs.Clearing.{quotient-length, reduced-length}

abbrev R : CommRing Fraction
R = ℚ_ring

abbrev pub F : Field Fraction
F = ℚ_field

abbrev pub at : List Fraction → ℕ → Fraction
at row = entries F row

pub entry-is : (row : List Fraction) (i : ℕ) → entry row i ≡ at row i
entry-is [] i = refl
entry-is (a ∷ row) zero = refl
entry-is (a ∷ row) (suc i) = entry-is row i

-- ---- where a row leads
lead_is : (row : List Fraction) (c : ℕ) → ((i : ℕ) → i < c → at row i ≡ R.zero) → at row c ≡ R.one
    → lead row ≡ c
lead_is [] c h e = absurd (F.one-ne-zero (sym e))
lead_is (a ∷ row) zero h e = lead-some a (lead row) (λ z. F.one-ne-zero (sym e ∙ z))
lead_is (a ∷ row) (suc c) h e = lead-zero (lead row) (h 0 (omega arith))
    ∙ ap suc (lead_is row c (λ i l. h (suc i) (omega arith)) e)

lead_below : (row : List Fraction) (i : ℕ) → i < lead row → at row i ≡ R.zero
lead_below [] i l = refl
lead_below (a ∷ row) i l =
    elim (FL.dec_zero F a) [
      | no ne ↦ absurd (let z : after_zero a.num (lead row) ≡ 0 = lead-some a (lead row) ne in
          omega (arith, z, l))
      | yes z ↦ (let s : after_zero a.num (lead row) ≡ suc (lead row) = lead-zero (lead row) z in
          (elim i as (λ i. i < after_zero a.num (lead row) → at (a ∷ row) i ≡ R.zero) [
            | zero
                ↦ λ l. z
            | suc i ↦ λ l. lead_below row i (omega (arith, l, s))
          ]) l)
    ]

first_of : (n : ℕ) (rest : List Fraction) → length rest ≡ n → lead rest < n → First F n (at rest)
first_of n rest e l = record {
  column = lead rest;
  within = l;
  below = λ i h. lead_below rest i h;
  some = λ z. lead_some rest (subst (λ m. lead rest < m) (sym e) l) (entry-is rest (lead rest) ∙ z);
}

nothing_of : (rest : List Fraction) → lead rest ≡ length rest → at rest ≡ (λ i. R.zero)
nothing_of rest e = fun_ext (λ i. elim (cases_lt i (length rest)) [
  | inl l
      ↦ lead_below rest i (subst (λ m. i < m) (sym e) l)
  | inr g ↦ entries-past F rest i g
])

-- ---- rows and their columns
abbrev pub Aligned : List (List Fraction) → Pivots F → Type 0
Aligned [] [] = Unit {0}
Aligned [] (p ∷ ps) = ⊥
Aligned (e ∷ rows) [] = ⊥
Aligned (e ∷ rows) (p ∷ ps) = (at e ≡ p.1) × (lead e ≡ p.0) × Aligned rows ps

head_of : List (ℕ → Fraction) → ℕ → Fraction
head_of [] = λ i. R.zero
head_of (r ∷ rows) = r

tail_of : List (ℕ → Fraction) → List (ℕ → Fraction)
tail_of [] = []
tail_of (r ∷ rows) = rows

pub aligned : (rows : List (List Fraction)) (ps : Pivots F) → tables F rows ≡ rows_in F ps
    → IsReduced F ps → Aligned rows ps
unfolding head_of tail_of
aligned [] [] e r = tt
aligned [] (p ∷ ps) e r = absurd (let l : 0 ≡ suc (length (rows_in F ps)) = ap length e in
    omega arith)
aligned (row ∷ rows) [] e r = absurd (let l : suc (length (tables F rows)) ≡ 0 = ap length e in
    omega arith)
aligned (row ∷ rows) (p ∷ ps) e r =
    let h : at row ≡ p.1 = ap head_of e in (
      h,
      lead_is row p.0 (λ i l. ap (λ (f : ℕ → Fraction). f i) h ∙ r.0.below i l)
          (ap (λ (f : ℕ → Fraction). f p.0) h ∙ r.0.one),
      aligned rows ps (ap tail_of e) r.2,
    )

-- ---- a row less a multiple
entries-less : (row : List Fraction) (c : Fraction) (other : List Fraction)
    → length row ≡ length other → (i : ℕ) → at (less row c other) i ≡ R.add (at row i)
    (R.neg (R.mul c (at other i)))
entries-less [] c [] l i = ring R (c ∷ []) {a = R.zero} {b = R.add R.zero (R.neg (R.mul c R.zero))}
    (search ring_rules depth 40) refl
entries-less [] c (b ∷ other) l i = absurd (omega arith)
entries-less (a ∷ row) c [] l i = absurd (omega arith)
entries-less (a ∷ row) c (b ∷ other) l zero = refl
entries-less (a ∷ row) c (b ∷ other) l (suc i) = entries-less row c other (omega arith) i

-- what is taken away
abbrev taken : Pivots F → (ℕ → Fraction) → ℕ → Fraction
taken [] v i = R.zero
taken (p ∷ ps) v i = R.add (R.mul (v p.0) (p.1 i)) (taken ps v i)

theory_taken : (ps : Pivots F) (v : ℕ → Fraction) (i : ℕ)
    → S.reduced_by F ps v i ≡ R.add (v i) (R.neg (taken ps v i))
theory_taken [] v i = ring R (v i ∷ []) {a = v i} {b = R.add (v i) (R.neg R.zero)}
    (search ring_rules depth 40) refl
theory_taken (p ∷ ps) v i = ap (λ x. R.add x (R.neg (R.mul (v p.0) (p.1 i)))) (theory_taken ps v i)
    ∙ regroup (v i) (taken ps v i) (R.mul (v p.0) (p.1 i))
  where
    regroup : (a t m : Fraction) → R.add (R.add a (R.neg t)) (R.neg m) ≡ R.add a (R.neg (R.add m t))
    regroup a t m = ring R (a ∷ t ∷ m ∷ []) (search ring_rules depth 40) refl

list_taken : (by : List Fraction) (rows : List (List Fraction)) (ps : Pivots F)
    (row : List Fraction) → Aligned rows ps → Each (λ e. length e ≡ length row) rows → (i : ℕ)
    → at (reduced_by by rows row) i ≡ R.add (at row i) (R.neg (taken ps (at by) i))
unfolding Each
list_taken by [] [] row a w i = ring R (at row i ∷ []) {a = at row i} {b =
    R.add (at row i) (R.neg R.zero)} (search ring_rules depth 40) refl
list_taken by [] (p ∷ ps) row a w i = absurd a
list_taken by (e ∷ rows) [] row a w i = absurd a
list_taken by (e ∷ rows) (p ∷ ps) row a w i =
    let c = entry by (lead e) in
    let c_is : c ≡ at by p.0 = entry-is by (lead e) ∙ ap (at by) a.1 in
    list_taken by rows ps (less row c e) a.2 (subst (λ n. Each (λ e. length e ≡ n) rows)
    (sym (less-length row c e)) w.1) i
    ∙ ap (λ x. R.add x (R.neg (taken ps (at by) i))) (entries-less row c e (sym w.0) i
    ∙ ap₂ (λ x y. R.add (at row i) (R.neg (R.mul x y))) c_is (ap (λ (f : ℕ → Fraction). f i)
    a.0))
    ∙ regroup (at row i) (R.mul (at by p.0) (p.1 i)) (taken ps (at by) i)
  where
    regroup : (a m t : Fraction) → R.add (R.add a (R.neg m)) (R.neg t) ≡ R.add a (R.neg (R.add m t))
    regroup a m t = ring R (a ∷ m ∷ t ∷ []) (search ring_rules depth 40) refl

pub reduced_is : (rows : List (List Fraction)) (ps : Pivots F) (row : List Fraction)
    → Aligned rows ps → Each (λ e. length e ≡ length row) rows
    → at (reduce_row rows row) ≡ S.reduced_by F ps (at row)
reduced_is rows ps row a w = fun_ext (λ i. list_taken row rows ps row a w i
    ∙ sym (theory_taken ps (at row) i))

-- ---- the row that is added
entries-scaled : (c : Fraction) (row : List Fraction) (i : ℕ)
    → at (scale_row c row) i ≡ R.mul (at row i) c
entries-scaled c [] i = sym (L.zero-mul R c)
entries-scaled c (a ∷ row) zero = refl
entries-scaled c (a ∷ row) (suc i) = entries-scaled c row i

quotient_is : (rest : List Fraction)
    → at (quotient rest) ≡ (λ i. R.mul (F.inverse (at rest (lead rest))) (at rest i))
quotient_is rest = fun_ext (λ i. entries-scaled (inverse (entry rest (lead rest))) rest i
    ∙ R.mul_comm (at rest i) (inverse (entry rest (lead rest)))
    ∙ ap (λ x. R.mul (inverse x) (at rest i)) (entry-is rest (lead rest)))

cleared_tables : (c : ℕ) (h : List Fraction) (rows : List (List Fraction)) (ps : Pivots F)
    → Aligned rows ps → Each (λ e. length e ≡ length h) rows → tables F (clear_column c h rows)
    ≡ rows_in F (S.clear_column F c (at h) ps)
unfolding Each
cleared_tables c h [] [] a w = refl
cleared_tables c h [] (p ∷ ps) a w = absurd a
cleared_tables c h (e ∷ rows) [] a w = absurd a
cleared_tables c h (e ∷ rows) (p ∷ ps) a w =
    ap₂ ◌∷◌
    (fun_ext (λ i. entries-less e (entry e c) h w.0 i
    ∙ ap₂ (λ x y. R.add x (R.neg (R.mul y (at h i)))) (ap (λ (f : ℕ → Fraction). f i) a.0)
    (entry-is e c ∙ ap (λ (f : ℕ → Fraction). f c) a.0)))
    (cleared_tables c h rows ps a.2 w.1)

added_tables : (c : ℕ) (h : List Fraction) (rows : List (List Fraction)) (ps : Pivots F)
    → Aligned rows ps → Each (λ e. length e ≡ length h) rows
    → tables F (insert (clear_column c h rows) (place c rows) h)
    ≡ rows_in F (S.insert_row F c (at h) (S.clear_column F c (at h) ps))
unfolding Each head_of
added_tables c h [] [] a w = refl
added_tables c h [] (p ∷ ps) a w = absurd a
added_tables c h (e ∷ rows) [] a w = absurd a
added_tables c h (e ∷ rows) (p ∷ ps) a w = go (ltb c (lead e)) (ltb c p.0) (ap (ltb c) a.1)
    (added_tables c h rows ps a.2 w.1) (cleared_tables c h (e ∷ rows) (p ∷ ps) a w)
  where
    go : (b d : Bool) → b ≡ d → tables F (insert (clear_column c h rows) (place c rows) h)
        ≡ rows_in F (S.insert_row F c (at h) (S.clear_column F c (at h) ps))
        → tables F (less e (entry e c) h ∷ clear_column c h rows)
        ≡ rows_in F ((p.0, S.clear_one F c (at h) p.1) ∷ S.clear_column F c (at h) ps)
        → tables F (insert (less e (entry e c) h ∷ clear_column c h rows)
        (cond b 0 (suc (place c rows)))
        h) ≡ rows_in F (cond d ((c, at h) ∷ (p.0, S.clear_one F c (at h) p.1) ∷ S.clear_column F c
        (at h) ps) ((p.0, S.clear_one F c (at h) p.1) ∷ S.insert_row F c (at h)
        (S.clear_column F c (at h) ps)))
    go true true e i t = ap (λ l. at h ∷ l) t
    go true false e i t = absurd (let z : true ≡ false = e in cc)
    go false true e i t = absurd (let z : false ≡ true = e in cc)
    go false false e i t = ap₂ ◌∷◌ (ap head_of t) i

-- ---- echelon lists
insert_each : (P : List Fraction → Type 0) (xs : List (List Fraction)) (k : ℕ) (x : List Fraction)
    → P x → Each P xs → Each P (insert xs k x)
unfolding Each
insert_each P [] zero x p a = (p, tt)
insert_each P [] (suc k) x p a = (p, tt)
insert_each P (y ∷ xs) zero x p a = (p, a)
insert_each P (y ∷ xs) (suc k) x p a = (a.0, insert_each P xs k x p a.1)

cleared_widths : (n c : ℕ) (h : List Fraction) (rows : List (List Fraction))
    → Each (λ l. length l ≡ n) rows → Each (λ l. length l ≡ n) (clear_column c h rows)
unfolding Each
cleared_widths n c h [] a = tt
cleared_widths n c h (r ∷ rows) a = (
  less-length r (entry r c) h
      ∙ a.0,
  cleared_widths n c h rows a.1,
)

tables-append : (given : List (List Fraction)) (row : List Fraction) → tables F (given ++ row ∷ [])
    ≡ tables F given ++ at row ∷ []
tables-append [] row = refl
tables-append (g ∷ given) row = ap (λ l. at g ∷ l) (tables-append given row)

past_end : (n : ℕ) (row : List Fraction) → length row ≡ n → (i : ℕ) → n ≤ i → at row i ≡ R.zero
past_end n row e i l = entries-past F row i (omega arith)

same_widths : (n : ℕ) {m : ℕ} (rows : List (List Fraction)) → m ≡ n → Each (λ e. length e ≡ n) rows
    → Each (λ e. length e ≡ m) rows
same_widths n rows e w = subst (λ k. Each (λ (r : List Fraction). length r ≡ k) rows) (sym e) w

pub echelon_none : (n : ℕ) → IsEchelonOf n [] []
unfolding Each
echelon_none n = record { widths = tt; pivots = []; are = refl; reduced = RL.rref_none F n }

pub echelon_own : (n : ℕ) {given rows : List (List Fraction)} → IsEchelonOf n given rows
    → IsEchelonOf n rows rows
echelon_own n e = record {
  widths = e.widths;
  pivots = e.pivots;
  are = e.are;
  reduced = subst (λ us. IsRref F n us e.pivots) (sym e.are)
      (record {
        reduced = e.reduced.reduced;
        inside = e.reduced.inside;
        past = e.reduced.past;
        makes = C.combination-each (sequences R ℕ) (rows_in F e.pivots);
        made = C.combination-each (sequences R ℕ) (rows_in F e.pivots);
      });
}

module _ (n : ℕ) (given rows : List (List Fraction)) (row : List Fraction) (width : length row ≡ n)
    (e : IsEchelonOf n given rows) where
  abbrev rest : List Fraction
  rest = reduce_row rows row

  align : Aligned rows e.pivots
  align = aligned rows e.pivots e.are e.reduced.reduced

  rest_is : at (reduce_row rows row) ≡ S.reduced_by F e.pivots (at row)
  rest_is = reduced_is rows e.pivots row align (same_widths n rows width e.widths)

  rest_width : length (reduce_row rows row) ≡ n
  rest_width = reduced-length row rows row ∙ width

  -- what is left is nothing
  pub same_old : lead (reduce_row rows row) ≡ length row → IsCombinationOf rows row
  same_old l = record {
    is = subst (λ us. IsCombination (sequences R ℕ) us (at row)) (sym e.are)
        (E.member-out F e.pivots (at row) (sym rest_is
        ∙ nothing_of rest (l ∙ width ∙ sym rest_width)));
  }

  pub echelon_same : lead (reduce_row rows row) ≡ length row
      → IsEchelonOf n (given ++ row ∷ []) rows
  echelon_same l = record {
    widths = e.widths;
    pivots = e.pivots;
    are = e.are;
    reduced = subst (λ us. IsRref F n us e.pivots) (sym (tables-append given row))
        (RL.rref_same F n (tables F given) e.pivots (at row) e.reduced
        (subst (λ us. IsCombination (sequences R ℕ) us (at row)) e.are (same_old l).is));
  }

  module _ (within : lead (reduce_row rows row) < length row) where
    low : lead (reduce_row rows row) < n
    low = subst (λ m. lead (reduce_row rows row) < m) width within

    first_rest : First F n (at (reduce_row rows row))
    first_rest = first_of n rest rest_width low

    pub added_new : IsCombinationOf rows row → ⊥
    added_new m = lead_some rest (subst (λ k. lead rest < k) (sym rest_width) low)
        (entry-is rest (lead rest) ∙ ap (λ (f : ℕ → Fraction). f (lead rest)) (rest_is
        ∙ E.member-in F e.pivots e.reduced.reduced (at row)
        (subst (λ us. IsCombination (sequences R ℕ) us (at row)) e.are m.is)))

    abbrev h : List Fraction
    h = quotient (reduce_row rows row)

    -- the theory's new list, at any way to say what is left
    rref_at : (v : ℕ → Fraction) → S.reduced_by F e.pivots (at row) ≡ v → (f : First F n v)
        → IsRref F n (tables F given ++ at row ∷ [])
        (S.with_row F f.column (λ i. R.mul (F.inverse (v f.column)) (v i)) e.pivots)
    rref_at v q =
        subst (λ v. (f : First F n v) → IsRref F n (tables F given ++ at row ∷ [])
        (S.with_row F f.column (λ i. R.mul (F.inverse (v f.column)) (v i)) e.pivots)) q
        (λ f. RL.rref_more F n (tables F given) e.pivots (at row) e.reduced (past_end n row width)
        f)

    h_width : length (quotient (reduce_row rows row)) ≡ n
    h_width = quotient-length rest ∙ rest_width

    pub echelon_added : (more : List (List Fraction))
        → more ≡ insert (clear_column (lead (reduce_row rows row)) (quotient (reduce_row rows row))
        rows)
        (place (lead (reduce_row rows row)) rows) (quotient (reduce_row rows row))
        → IsEchelonOf n (given ++ row ∷ []) more
    unfolding first_rest first_of
    echelon_added more q =
        subst (IsEchelonOf n (given ++ row ∷ [])) (sym q)
        (record {
          widths = insert_each (λ l. length l ≡ n) _
              (place (lead rest) rows) h h_width (cleared_widths n (lead rest) h rows e.widths);
          pivots = S.with_row F (lead rest) (at h) e.pivots;
          are = added_tables (lead rest) h rows e.pivots align (same_widths n rows
              h_width e.widths);
          reduced = subst (λ us. IsRref F n us (S.with_row F (lead rest) (at h) e.pivots))
              (sym (tables-append given row))
              (subst (λ u. IsRref F n (tables F given ++ at row ∷ [])
              (S.with_row F (lead rest) u e.pivots)) (sym (quotient_is rest))
              (rref_at (at rest) (sym rest_is) first_rest));
        })

-- ---- an echelon list, as what adding needs of it
pub kept_leads : (n : ℕ) (rows : List (List Fraction)) → IsEchelonOf n rows rows
    → Each (λ e. lead e < n) rows
unfolding Each
kept_leads n rows k = go rows k.pivots (aligned rows k.pivots k.are k.reduced.reduced)
    k.reduced.inside
  where
    go : (rows : List (List Fraction)) (ps : Pivots F) → Aligned rows ps → Each (λ p. p.0 < n) ps
        → Each (λ e. lead e < n) rows
    go [] ps a w = tt
    go (e ∷ rows) [] a w = absurd a
    go (e ∷ rows) (p ∷ ps) a w = (subst (λ c. c < n) (sym a.1) w.0, go rows ps a.2 w.1)
