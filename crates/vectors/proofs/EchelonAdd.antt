-- Adding a row to a reduced echelon list, and listing its free columns.
--   First n v       v's first entry that isn't zero, below n
--   leads_at-out    a column is free where leads_at fails; free_columns: free_from lists the free columns in order
use Rattle.std.proofs.Common.{◌≡◌, ◌≢◌, ◌⊎◌, inl, inr, ℕ, zero, suc, ◌+◌, ◌<◌, ◌≤◌, List, [], ◌∷◌, true, false, cond, T, ltb, eqb, ◌||◌, ltb→lt, lt→ltb, eqb→eq, refl, sym, ap, subst, ◌∙◌, arith}
use mathlib.Core.Path.{fun_ext}
use lib.Dec.{eqb_refl}
use Rattle.std.proofs.lemmas.Bool.{cases_lt}
use Rattle.algebra.specs.Ring.{CommRing, Field}
use Rattle.algebra.proofs.RingLaws as L
use Rattle.algebra.proofs.FieldLaws as FL
use Rattle.algebra.proofs.RingSolver.{ring_rules, ring, from_one}
use Rattle.algebra.specs.Each.{Each}
use Rattle.algebra.proofs.Each.{each_weaker}
use Rattle.vectors.specs.Space.{Space, IsCombination}
use Rattle.vectors.specs.Sequences.{sequences}
use Rattle.vectors.specs.Echelon.{Pivots, rows_in, Leads, IsReduced, reduced_by, clear_one, clear_column, insert_row, with_row, leads_at, free_from, IsFree, Rising, AreFree}
use Rattle.vectors.proofs.Combinations as C
use Rattle.vectors.proofs.EchelonLaws as E
use Rattle.vectors.proofs.EchelonKernel.{same_or_not}
use Rattle.algebra.specs.In.{In}

module _ {A : Type 0} (F : Field A) where
  abbrev R : CommRing A
  R = F.ring

  abbrev S : Space F.ring (ℕ → A)
  S = sequences F.ring ℕ

  -- ---- the first entry that is not zero
  pub record First (n : ℕ) (v : ℕ → A) : Type 0 where
    pub column : ℕ
    pub within : column < n
    pub below : (i : ℕ) → i < column → v i ≡ R.zero
    pub some : v column ≢ R.zero

  pub find_first : (n : ℕ) (v : ℕ → A) → ((i : ℕ) → i < n → v i ≡ R.zero) ⊎ First n v
  find_first zero v = inl (λ i l. absurd (omega arith))
  find_first (suc n) v =
      elim (FL.dec_zero F (v 0)) [
        | yes z ↦ elim (find_first n (λ i. v (suc i))) [
          | inl h ↦ inl (λ i. elim i as (λ i. i < suc n → v i ≡ R.zero) [
            | zero ↦ λ l. z
            | suc i
                ↦ λ l. h i (omega arith)
          ])
          | inr e ↦ inr (record {
            column = suc e.column;
            within = (let w : e.column < n = e.within in omega arith);
            below =
                λ i. elim i as (λ i. i < suc e.column → v i ≡ R.zero) [
                  | zero ↦ λ l. z
                  | suc i
                      ↦ λ l. e.below i (omega arith)
                ];
            some = e.some;
          })
        ]
        | no ne ↦ inr (record {
          column = 0;
          within = omega arith;
          below = λ i l. absurd (omega arith);
          some = ne;
        })
      ]

  -- divided by it
  pub first_leads : (n : ℕ) (v : ℕ → A) (f : First n v)
      → Leads F f.column (λ i. R.mul (F.inverse (v f.column)) (v i))
  first_leads n v f = record {
    below = λ i l. ap (R.mul (F.inverse (v f.column))) (f.below i l)
        ∙ L.mul-zero R (F.inverse (v f.column));
    one = R.mul_comm (F.inverse (v f.column)) (v f.column) ∙ F.mul-inverse (v f.column) f.some;
  }

  module _ (c : ℕ) (h : ℕ → A) (leads : Leads F c h) where
    -- where h is zero clearing changes nothing
    clear_same : (r : ℕ → A) (i : ℕ) → h i ≡ R.zero → clear_one F c h r i ≡ r i
    clear_same r i z =
        from_one R (R.neg (r c)) z (ring R (r i ∷ r c ∷ h i ∷ []) (search ring_rules depth 40) refl)

    clear_none : (r : ℕ → A) (i : ℕ) → r c ≡ R.zero → clear_one F c h r i ≡ r i
    clear_none r i z =
        from_one R (R.neg (h i)) z (ring R (r i ∷ r c ∷ h i ∷ []) (search ring_rules depth 40) refl)

    clear_here : (r : ℕ → A) → clear_one F c h r c ≡ R.zero
    clear_here r = from_one R (R.neg (r c)) leads.one
        (ring R (r c ∷ h c ∷ []) (search ring_rules depth 40) refl)

    apart : (p : ℕ × (ℕ → A)) → h p.0 ≡ R.zero → p.0 ≢ c
    apart p z e = F.one-ne-zero (sym leads.one ∙ ap h (sym e) ∙ z)

    clear_leads : (p : ℕ × (ℕ → A)) → Leads F p.0 p.1 → h p.0 ≡ R.zero
        → Leads F p.0 (clear_one F c h p.1)
    clear_leads p l z = record {
      below = λ i b. elim (cases_lt i c) [
        | inl k ↦ clear_same p.1 i (leads.below i k) ∙ l.below i b
        | inr k ↦ clear_none p.1 i (l.below c (omega arith)) ∙ l.below i b
      ];
      one = clear_same p.1 p.0 z ∙ l.one;
    }

    abbrev After : ℕ × (ℕ → A) → Pivots F → Type 0
    After p ps = Each (λ q. (p.0 < q.0) × (p.1 q.0 ≡ R.zero)) ps

    clear_after : (p : ℕ × (ℕ → A)) (ps : Pivots F) → Each (λ q. h q.0 ≡ R.zero) ps → After p ps
        → After (p.0, clear_one F c h p.1) (clear_column F c h ps)
    unfolding Each
    clear_after p [] z a = tt
    clear_after p (q ∷ ps) z a = ((a.0.0, clear_same p.1 q.0 z.0 ∙ a.0.1), clear_after p ps z.1 a.1)

    pub placed-each : (P : ℕ × (ℕ → A) → Type 0) (ps : Pivots F) → P (c, h) → Each P ps
        → Each P (insert_row F c h ps)
    unfolding Each
    placed-each P [] x e = (x, tt)
    placed-each P (p ∷ ps) x e =
        elim (ltb c p.0) as (λ b. Each P (cond b ((c, h) ∷ p ∷ ps) (p ∷ insert_row F c h ps))) [
          | true ↦ (x, e)
          | false ↦ (e.0, placed-each P ps x e.1)
        ]

    cleared-reduced : (ps : Pivots F) → IsReduced F ps → Each (λ q. h q.0 ≡ R.zero) ps
        → IsReduced F (clear_column F c h ps)
    unfolding Each
    cleared-reduced [] r z = tt
    cleared-reduced (p ∷ ps) r z = (
      clear_leads p r.0 z.0,
      clear_after p ps z.1 r.1,
      cleared-reduced ps r.2 z.1,
    )

    first_after : (p : ℕ × (ℕ → A)) (ps : Pivots F) → Each (λ q. h q.0 ≡ R.zero) ps → c < p.0
        → After p ps → After (c, h) (clear_column F c h ps)
    unfolding Each
    first_after p [] z l a = tt
    first_after p (q ∷ ps) z l a = (
      ((let k : p.0 < q.0 = a.0.0 in omega arith), z.0),
      first_after p ps z.1 l a.1,
    )

    pub added-reduced : (ps : Pivots F) → IsReduced F ps → Each (λ q. h q.0 ≡ R.zero) ps
        → IsReduced F (with_row F c h ps)
    unfolding Each
    added-reduced [] r z = (leads, tt, tt)
    added-reduced (p ∷ ps) r z =
        (elim (ltb c p.0) as (λ b. ltb c p.0 ≡ b
        → IsReduced F (cond b ((c, h) ∷ (p.0, clear_one F c h p.1) ∷ clear_column F c h ps)
        ((p.0, clear_one F c h p.1) ∷ insert_row F c h (clear_column F c h ps)))) [
          | true ↦ λ e. let l : c < p.0 = ltb→lt c p.0 (subst T (sym e) tt) in
              (leads, ((l, z.0), first_after p ps z.1 l r.1), cleared-reduced (p ∷ ps) r z)
          | false ↦ λ e. let l : p.0 < c = (let ne : p.0 ≢ c = apart p z.0 in let g : ltb c p.0
              ≡ false = e in after_not p e ne) in (
                clear_leads p r.0 z.0,
                placed-each (λ q. (p.0 < q.0)
                    × (clear_one F c h p.1 q.0 ≡ R.zero)) (clear_column F c h ps) (
                      l,
                      clear_here p.1,
                    )
                    (clear_after p ps z.1 r.1),
                added-reduced ps r.2 z.1,
              )
        ]) refl
      where
        after_not : (p : ℕ × (ℕ → A)) → ltb c p.0 ≡ false → p.0 ≢ c → p.0 < c
        after_not p e ne = elim (cases_lt p.0 c) [
          | inl l ↦ l
          | inr g ↦ elim (cases_lt c p.0) [
            | inl m ↦ absurd (subst T e (lt→ltb c p.0 m))
            | inr k
                ↦ absurd (ne (omega arith))
          ]
        ]

    -- ---- the same combinations
    pub each_rows : (P : (ℕ → A) → Type 0) (ps : Pivots F) → Each (λ p. P p.1) ps
        → Each P (rows_in F ps)
    unfolding Each
    each_rows P [] e = tt
    each_rows P (p ∷ ps) e = (e.0, each_rows P ps e.1)

    each_pivots : (P : (ℕ → A) → Type 0) (ps : Pivots F) → Each P (rows_in F ps)
        → Each (λ p. P p.1) ps
    unfolding Each
    each_pivots P [] e = tt
    each_pivots P (p ∷ ps) e = (e.0, each_pivots P ps e.1)

    cleared-each : (us : List (ℕ → A)) (ps : Pivots F) → IsCombination S us h
        → Each (λ p. IsCombination S us p.1) ps
        → Each (λ p. IsCombination S us p.1) (clear_column F c h ps)
    unfolding Each
    cleared-each us [] m e = tt
    cleared-each us (p ∷ ps) m e = (
      subst (IsCombination S us)
          (fun_ext (λ i. ring R (p.1 i ∷ p.1 c ∷ h i ∷ []) {a =
          R.add (p.1 i) (R.mul (R.neg (p.1 c)) (h i))} {b = clear_one F c h p.1 i}
          (search ring_rules depth 40) refl))
          (C.combination-add S us p.1 (S.scale (R.neg (p.1 c)) h) e.0
          (C.combination-scale S us (R.neg (p.1 c)) h m)),
      cleared-each us ps m e.1,
    )

    -- each new row is a combination of h and the old ones
    pub added-made : (ps : Pivots F) → Each (λ p. IsCombination S (h ∷ rows_in F ps) p.1)
        (with_row F c h ps)
    added-made ps =
        let us = h ∷ rows_in F ps in
        let first = C.combination-first S h (rows_in F ps) in
        placed-each (λ p. IsCombination S us p.1) (clear_column F c h ps) first
        (cleared-each us ps first (each_pivots (IsCombination S us) ps
        (each_weaker (IsCombination S (rows_in F ps)) (IsCombination S us)
        (λ w. C.combination-more S h (rows_in F ps) w) (rows_in F ps)
        (C.combination-each S (rows_in F ps)))))

    -- and the other way
    placed-has : (P : ℕ × (ℕ → A) → Type 0) (ps : Pivots F) → Each P (insert_row F c h ps)
        → P (c, h)
        × Each P ps
    unfolding Each
    placed-has P [] e = (e.0, tt)
    placed-has P (p ∷ ps) e =
        (elim (ltb c p.0) as (λ b. Each P (cond b ((c, h) ∷ p ∷ ps) (p ∷ insert_row F c h ps))
        → P (c, h) × Each P (p ∷ ps)) [
          | true ↦ λ e. (e.0, e.1)
          | false ↦ λ e. let k = placed-has P ps e.1 in (k.0, (e.0, k.1))
        ]) e

    cleared-back : (us : List (ℕ → A)) (ps : Pivots F) → IsCombination S us h
        → Each (λ p. IsCombination S us p.1) (clear_column F c h ps)
        → Each (λ p. IsCombination S us p.1) ps
    unfolding Each
    cleared-back us [] m e = tt
    cleared-back us (p ∷ ps) m e = (
      subst (IsCombination S us)
          (fun_ext (λ i. ring R (p.1 i ∷ p.1 c ∷ h i ∷ []) {a = R.add (clear_one F c h p.1 i)
          (R.mul (p.1 c) (h i))} {b = p.1 i} (search ring_rules depth 40) refl))
          (C.combination-add S us (clear_one F c h p.1) (S.scale (p.1 c) h) e.0
          (C.combination-scale S us (p.1 c) h m)),
      cleared-back us ps m e.1,
    )

    pub added-back : (ps : Pivots F) → Each (IsCombination S (rows_in F (with_row F c h ps)))
        (h ∷ rows_in F ps)
    unfolding Each
    added-back ps =
        let us = rows_in F (with_row F c h ps) in
        let k = placed-has (λ p. IsCombination S us p.1) (clear_column F c h ps)
        (each_pivots (IsCombination S us) (with_row F c h ps) (C.combination-each S us)) in
        (k.0, each_rows (IsCombination S us) ps (cleared-back us ps k.0 k.1))

  -- ---- adding any row: what is left of it, divided by its first entry
  pub rest_made : (ps : Pivots F) (v : ℕ → A)
      → IsCombination S (v ∷ rows_in F ps) (reduced_by F ps v)
  rest_made ps v =
      let us = v ∷ rows_in F ps in
      let d : ℕ → A = λ i. R.add (v i) (R.neg (reduced_by F ps v i)) in
      subst (IsCombination S us) (fun_ext (λ i. ring R (v i ∷ reduced_by F ps v i ∷ []) {a =
      R.add (v i) (R.mul (R.neg R.one) (d i))} {b = reduced_by F ps v i}
      (search ring_rules depth 40) refl))
      (C.combination-add S us v (S.scale (R.neg R.one) d) (C.combination-first S v (rows_in F ps))
      (C.combination-scale S us (R.neg R.one) d (C.combination-more S v (rows_in F ps) d
      (E.reduced_is F ps v))))

  -- the row that is added
  abbrev pub new_row : (n : ℕ) (ps : Pivots F) (v : ℕ → A) → First n (reduced_by F ps v) → ℕ → A
  new_row n ps v f i = R.mul (F.inverse (reduced_by F ps v f.column)) (reduced_by F ps v i)

  scaled : (ps qs : Pivots F) (v : ℕ → A) → Each (λ q. reduced_by F ps v q.0 ≡ R.zero) qs → (k : A)
      → Each (λ q. R.mul k (reduced_by F ps v q.0) ≡ R.zero) qs
  unfolding Each
  scaled ps [] v e k = tt
  scaled ps (q ∷ qs) v e k = (ap (R.mul k) e.0 ∙ L.mul-zero R k, scaled ps qs v e.1 k)

  pub row_reduced : (n : ℕ) (ps : Pivots F) (v : ℕ → A) → IsReduced F ps
      → (f : First n (reduced_by F ps v)) → IsReduced F (with_row F f.column (new_row n ps v f) ps)
  row_reduced n ps v r f = added-reduced f.column (new_row n ps v f)
      (first_leads n (reduced_by F ps v) f) ps r (scaled ps ps v (E.reduced_zero F ps r v)
      (F.inverse (reduced_by F ps v f.column)))

  each_trans : (us ws : List (ℕ → A)) (qs : Pivots F) → Each (IsCombination S us) ws
      → Each (λ q. IsCombination S ws q.1) qs → Each (λ q. IsCombination S us q.1) qs
  unfolding Each
  each_trans us ws [] e k = tt
  each_trans us ws (q ∷ qs) e k = (C.combination-trans S us ws q.1 e k.0, each_trans us ws qs e k.1)

  -- the new list makes the row and the old ones
  pub row_makes : (n : ℕ) (ps : Pivots F) (v : ℕ → A) → IsReduced F ps
      → (f : First n (reduced_by F ps v))
      → Each (IsCombination S (rows_in F (with_row F f.column (new_row n ps v f) ps)))
      (v ∷ rows_in F ps)
  unfolding Each
  row_makes n ps v r f =
      let g = reduced_by F ps v f.column in
      let h : ℕ → A = new_row n ps v f in
      let ws = rows_in F (with_row F f.column h ps) in
      let d : ℕ → A = λ i. R.add (v i) (R.neg (reduced_by F ps v i)) in
      let back : Each (IsCombination S ws) (h ∷ rows_in F ps) =
      added-back f.column h (first_leads n (reduced_by F ps v) f) ps in (
        subst (IsCombination S ws)
            (fun_ext (λ i. from_one R (reduced_by F ps v i) (F.mul-inverse g f.some)
            (ring R (v i ∷ reduced_by F ps v i ∷ g ∷ F.inverse g ∷ []) {a =
            R.add (R.add (d i) (R.mul g (h i))) (R.mul (reduced_by F ps v i) R.one)} {b =
            R.add (v i) (R.mul (reduced_by F ps v i) (R.mul g (F.inverse g)))}
            (search ring_rules depth 40) refl)))
            (C.combination-add S ws d (S.scale g h) (C.combination-trans S ws (rows_in F ps) d
            back.1 (E.reduced_is F ps v)) (C.combination-scale S ws g h back.0)),
        back.1,
      )

  -- and is made of them
  pub row_made : (n : ℕ) (ps : Pivots F) (v : ℕ → A) → IsReduced F ps
      → (f : First n (reduced_by F ps v)) → Each (IsCombination S (v ∷ rows_in F ps))
      (rows_in F (with_row F f.column (new_row n ps v f) ps))
  unfolding Each
  row_made n ps v r f =
      let h : ℕ → A = new_row n ps v f in
      let l : Leads F f.column h = first_leads n (reduced_by F ps v) f in
      let us = v ∷ rows_in F ps in
      let h_made : IsCombination S us h =
      C.combination-scale S us (F.inverse (reduced_by F ps v f.column)) (reduced_by F ps v)
      (rest_made ps v) in
      let old_made : Each (IsCombination S us) (rows_in F ps) =
      each_weaker (IsCombination S (rows_in F ps)) (IsCombination S us)
      (λ w. C.combination-more S v (rows_in F ps) w) (rows_in F ps)
      (C.combination-each S (rows_in F ps)) in
      each_rows f.column h l (IsCombination S us) (with_row F f.column h ps)
      (each_trans us (h ∷ rows_in F ps) (with_row F f.column h ps) (h_made, old_made)
      (added-made f.column h l ps))

  -- ---- the free columns
  pub leads_at-out : (ps : Pivots F) (j : ℕ) → leads_at F ps j ≡ false → IsFree F ps j
  unfolding Each
  leads_at-out [] j e = tt
  leads_at-out (p ∷ ps) j e =
      (elim (eqb p.0 j) as (λ b. eqb p.0 j ≡ b → (b || leads_at F ps j) ≡ false
      → IsFree F (p ∷ ps) j) [
        | true ↦ λ k e. cc
        | false ↦ λ k e. (
          (λ z. absurd (subst T k (subst (λ x. T (eqb p.0 x)) z (eqb_refl p.0)))),
          leads_at-out ps j e,
        )
      ]) refl e

  leads_at-in : (ps : Pivots F) (j : ℕ) → leads_at F ps j ≡ true → IsFree F ps j → ⊥
  unfolding Each
  leads_at-in [] j e f = absurd (let z : false ≡ true = e in cc)
  leads_at-in (p ∷ ps) j e f =
      (elim (eqb p.0 j) as (λ b. eqb p.0 j ≡ b → (b || leads_at F ps j) ≡ true → ⊥) [
        | true ↦ λ k e. f.0 (eqb→eq p.0 j (subst T (sym k) tt))
        | false ↦ λ k e. leads_at-in ps j e f.1
      ]) refl e

  from_above : (ps : Pivots F) (i k m : ℕ) → i < k → Each (λ j. i < j) (free_from F ps k m)
  unfolding Each
  from_above ps i k zero l = tt
  from_above ps i k (suc m) l =
      elim (leads_at F ps k) as
      (λ b. Each (λ j. i < j) (cond b (free_from F ps (suc k) m)
      (k ∷ free_from F ps (suc k) m))) [
        | true ↦ from_above ps i (suc k) m (omega arith)
        | false ↦ (l, from_above ps i (suc k) m (omega arith))
      ]

  from_rising : (ps : Pivots F) (k m : ℕ) → Rising F (free_from F ps k m)
  from_rising ps k zero = tt
  from_rising ps k (suc m) =
      elim (leads_at F ps k) as
      (λ b. Rising F (cond b (free_from F ps (suc k) m) (k ∷ free_from F ps (suc k) m))) [
        | true ↦ from_rising ps (suc k) m
        | false ↦ (from_above ps k (suc k) m (omega arith), from_rising ps (suc k) m)
      ]

  from_free : (ps : Pivots F) (k m n : ℕ) → k + m ≤ n
      → Each (λ j. IsFree F ps j × (j < n)) (free_from F ps k m)
  unfolding Each
  from_free ps k zero n l = tt
  from_free ps k (suc m) n l =
      (elim (leads_at F ps k) as (λ b. leads_at F ps k ≡ b
      → Each (λ j. IsFree F ps j × (j < n)) (cond b (free_from F ps (suc k) m)
      (k ∷ free_from F ps (suc k) m))) [
        | true ↦ λ e. from_free ps (suc k) m n (omega arith)
        | false ↦ λ e. ((leads_at-out ps k e, omega arith), from_free ps (suc k) m n (omega arith))
      ]) refl

  from_complete : (ps : Pivots F) (k m i : ℕ) → k ≤ i → i < k + m → IsFree F ps i
      → In i (free_from F ps k m)
  from_complete ps k zero i l g f = absurd (omega arith)
  from_complete ps k (suc m) i l g f =
      (elim (leads_at F ps k) as (λ b. leads_at F ps k ≡ b
      → In i (cond b (free_from F ps (suc k) m) (k ∷ free_from F ps (suc k) m))) [
        | true ↦ λ e. elim (same_or_not k i) [
          | inl z ↦ absurd (leads_at-in ps k e (subst (IsFree F ps) (sym z) f))
          | inr ne ↦ from_complete ps (suc k) m i (elim (cases_lt k i) [
            | inl a ↦ a
            | inr a
                ↦ absurd (ne (omega arith))
          ]) (omega arith) f
        ]
        | false ↦ λ e. elim (same_or_not k i) [
          | inl z ↦ inl (sym z)
          | inr ne ↦ inr (from_complete ps (suc k) m i (elim (cases_lt k i) [
            | inl a ↦ a
            | inr a
                ↦ absurd (ne (omega arith))
          ]) (omega arith) f)
        ]
      ]) refl

  pub free_columns : (n : ℕ) (ps : Pivots F) → AreFree F n ps (free_from F ps 0 n)
  free_columns n ps = record {
    free = from_free ps 0 n n (omega arith);
    rising = from_rising ps 0 n;
    complete = λ i l f. from_complete ps 0 n i (omega arith) (omega arith) f;
  }
