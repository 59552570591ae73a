-- A reduced echelon list is determined by its combinations, and reducing by it decides what is one.
--   member-in, member-out     a row is a combination exactly where reducing it leaves zero
--   same_pivots      two reduced lists, each of combinations of the other, are one
use Rattle.std.proofs.Common.{◌≡◌, inl, inr, ℕ, suc, ◌<◌, ◌≤◌, List, [], ◌∷◌, refl, sym, ap, ap₂, subst, ◌∙◌, arith}
use mathlib.Core.Path.{fun_ext}
use Rattle.std.proofs.lemmas.Bool.{cases_lt}
use Rattle.algebra.specs.Ring.{CommRing, Field}
use Rattle.algebra.proofs.RingLaws as L
use Rattle.algebra.proofs.RingSolver.{ring_rules, ring, from, from_one, from_two}
use Rattle.algebra.specs.Each.{Each}
use Rattle.algebra.proofs.Each.{each_weaker}
use Rattle.vectors.specs.Space.{Space, combine, IsCombination}
use Rattle.vectors.specs.Sequences.{sequences}
use Rattle.vectors.specs.Echelon.{Pivots, rows_in, Leads, IsReduced, IsEchelon, reduced_by}
use Rattle.vectors.proofs.Combinations as C
use Rattle.vectors.proofs.Combinations.{before}

module _ {A : Type 0} (F : Field A) where
  abbrev R : CommRing A
  R = F.ring

  abbrev S : Space F.ring (ℕ → A)
  S = sequences F.ring ℕ

  abbrev IsProductOf : Pivots F → (ℕ → A) → Type 0
  IsProductOf ps v = IsCombination S (rows_in F ps) v

  abbrev After : ℕ × (ℕ → A) → Pivots F → Type 0
  After p ps = Each (λ q. (p.0 < q.0) × (p.1 q.0 ≡ R.zero)) ps

  -- a combination of rows that are all zero in a column
  zero_at : (i : ℕ) (ps : Pivots F) → Each (λ q. q.1 i ≡ R.zero) ps → (f : ℕ → A)
      → combine S f (rows_in F ps) i ≡ R.zero
  unfolding Each
  zero_at i [] h f = refl
  zero_at i (p ∷ ps) h f = ap₂ R.add (ap (R.mul (f 0)) h.0 ∙ L.mul-zero R (f 0))
      (zero_at i ps h.1 (λ i. f (suc i))) ∙ L.zero-add R R.zero

  later_zero : (i : ℕ) (ps : Pivots F) → IsReduced F ps → Each (λ q. i < q.0) ps
      → Each (λ q. q.1 i ≡ R.zero) ps
  unfolding Each
  later_zero i [] r h = tt
  later_zero i (p ∷ ps) r h = (r.0.below i h.0, later_zero i ps r.2 h.1)

  after_less : (p : ℕ × (ℕ → A)) (ps : Pivots F) → After p ps → Each (λ q. p.0 < q.0) ps
  unfolding Each
  after_less p [] h = tt
  after_less p (q ∷ ps) h = (h.0.0, after_less p ps h.1)

  after_zero : (p : ℕ × (ℕ → A)) (ps : Pivots F) → After p ps → Each (λ q. p.1 q.0 ≡ R.zero) ps
  unfolding Each
  after_zero p [] h = tt
  after_zero p (q ∷ ps) h = (h.0.1, after_zero p ps h.1)

  tail_zero : (p : ℕ × (ℕ → A)) (ps : Pivots F) → IsReduced F (p ∷ ps)
      → Each (λ q. q.1 p.0 ≡ R.zero) ps
  tail_zero p ps r = later_zero p.0 ps r.2 (after_less p ps r.1)

  -- the first coefficient is the entry in the first leading column
  first_is : (p : ℕ × (ℕ → A)) (ps : Pivots F) → IsReduced F (p ∷ ps) → (f : ℕ → A)
      → combine S f (rows_in F (p ∷ ps)) p.0 ≡ f 0
  first_is p ps r f = ap₂ R.add (ap (R.mul (f 0)) r.0.one ∙ R.mul-one (f 0))
      (zero_at p.0 ps (tail_zero p ps r) (λ i. f (suc i))) ∙ R.add-zero (f 0)

  without_first : (p : ℕ × (ℕ → A)) (ps : Pivots F) (f : ℕ → A) → f 0 ≡ R.zero
      → combine S f (rows_in F (p ∷ ps)) ≡ combine S (λ i. f (suc i)) (rows_in F ps)
  without_first p ps f z =
      fun_ext (λ i. ap (λ c. R.add (R.mul c (p.1 i)) (combine S (λ i. f (suc i)) (rows_in F ps) i))
      z ∙ ap (λ x. R.add x (combine S (λ i. f (suc i)) (rows_in F ps) i)) (L.zero-mul R (p.1 i))
      ∙ L.zero-add R (combine S (λ i. f (suc i)) (rows_in F ps) i))

  -- a combination that is zero in the first leading column is one of the other rows
  pub made_tail : (p : ℕ × (ℕ → A)) (ps : Pivots F) → IsReduced F (p ∷ ps) → (v : ℕ → A)
      → IsProductOf (p ∷ ps) v → v p.0 ≡ R.zero → IsProductOf ps v
  made_tail p ps r v m z = (
    λ i. m.0 (suc i),
    m.1 ∙ without_first p ps m.0 (sym (first_is p ps r m.0)
        ∙ ap (λ w. w p.0) (sym m.1) ∙ z),
  )

  -- and one that is zero in every leading column is zero
  pub made_zero : (ps : Pivots F) → IsReduced F ps → (v : ℕ → A) → IsProductOf ps v
      → Each (λ p. v p.0 ≡ R.zero) ps → v ≡ S.zero
  unfolding Each
  made_zero [] r v m h = m.1
  made_zero (p ∷ ps) r v m h = made_zero ps r.2 v (made_tail p ps r v m h.0) h.1

  -- ---- reducing
  pub reduced_is : (ps : Pivots F) (v : ℕ → A)
      → IsProductOf ps (λ i. R.add (v i) (R.neg (reduced_by F ps v i)))
  reduced_is [] v = (λ i. R.zero, fun_ext (λ i. R.add-neg (v i)))
  reduced_is (p ∷ ps) v =
      let m = reduced_is ps v in (
        before (v p.0) m.0,
        fun_ext (λ i.
            from R (ap (λ w. w i) m.1) (ring R (v i ∷ v p.0 ∷ p.1 i ∷ reduced_by F ps v i
            ∷ combine S m.0 (rows_in F ps) i ∷ []) (search ring_rules depth 40) refl)),
      )

  -- in a column where all rows are zero nothing changes
  reduced_other : (ps : Pivots F) (v : ℕ → A) (i : ℕ) → Each (λ q. q.1 i ≡ R.zero) ps
      → reduced_by F ps v i ≡ v i
  unfolding Each
  reduced_other [] v i h = refl
  reduced_other (p ∷ ps) v i h = from_two R R.one (reduced_other ps v i h.1) (R.neg (v p.0)) h.0
      (ring R (v i ∷ v p.0 ∷ p.1 i ∷ reduced_by F ps v i ∷ []) (search ring_rules depth 40) refl)

  reduced_later : (p : ℕ × (ℕ → A)) (ps qs : Pivots F) (v : ℕ → A) → Each (λ q. p.1 q.0 ≡ R.zero) qs
      → Each (λ q. reduced_by F ps v q.0 ≡ R.zero) qs
      → Each (λ q. reduced_by F (p ∷ ps) v q.0 ≡ R.zero) qs
  unfolding Each
  reduced_later p ps [] v h k = tt
  reduced_later p ps (q ∷ qs) v h k = (
    from_two R R.one k.0 (R.neg (v p.0)) h.0 (ring R (v p.0 ∷ p.1 q.0 ∷ reduced_by F ps v q.0
        ∷ []) (search ring_rules depth 40) refl),
    reduced_later p ps qs v h.1 k.1,
  )

  -- the rest is zero in every leading column
  pub reduced_zero : (ps : Pivots F) → IsReduced F ps → (v : ℕ → A)
      → Each (λ p. reduced_by F ps v p.0 ≡ R.zero) ps
  unfolding Each
  reduced_zero [] r v = tt
  reduced_zero (p ∷ ps) r v = (
    from_two R R.one (reduced_other ps v p.0 (tail_zero p ps r)) (R.neg (v p.0)) r.0.one
        (ring R (v p.0 ∷ p.1 p.0 ∷ reduced_by F ps v p.0 ∷ []) (search ring_rules depth 40) refl),
    reduced_later p ps ps v (after_zero p ps r.1) (reduced_zero ps r.2 v),
  )

  -- it is zero exactly for combinations
  pub member-in : (ps : Pivots F) → IsReduced F ps → (v : ℕ → A) → IsProductOf ps v
      → reduced_by F ps v ≡ S.zero
  member-in ps r v m =
      made_zero ps r (reduced_by F ps v)
      (subst (IsProductOf ps) (fun_ext (λ i. ring R (v i ∷ reduced_by F ps v i ∷ []) {a =
      R.add (v i) (R.mul (R.neg R.one) (R.add (v i) (R.neg (reduced_by F ps v i))))}
      {b = reduced_by F ps v i} (search ring_rules depth 40) refl))
      (C.combination-add S (rows_in F ps) v (S.scale (R.neg R.one)
      (λ i. R.add (v i) (R.neg (reduced_by F ps v i)))) m
      (C.combination-scale S (rows_in F ps) (R.neg R.one)
      (λ i. R.add (v i) (R.neg (reduced_by F ps v i))) (reduced_is ps v))))
      (reduced_zero ps r v)

  pub member-out : (ps : Pivots F) (v : ℕ → A) → reduced_by F ps v ≡ S.zero → IsProductOf ps v
  member-out ps v e =
      subst (IsProductOf ps) (fun_ext (λ i. from_one R R.one (ap (λ (w : ℕ → A). R.neg (w i)) e)
      (ring R (v i ∷ reduced_by F ps v i ∷ []) (search ring_rules depth 40) refl)))
      (reduced_is ps v)

  -- ---- at most one
  -- the first column of one list is not before that of another with its combinations
  column_least : (p q : ℕ × (ℕ → A)) (ps qs : Pivots F) → IsReduced F (p ∷ ps)
      → IsReduced F (q ∷ qs) → IsProductOf (q ∷ qs) p.1 → q.0 ≤ p.0
  unfolding Each
  column_least p q ps qs r s m =
      elim (cases_lt p.0 q.0) [
        | inl l ↦ absurd (F.one-ne-zero (sym r.0.one ∙ ap (λ w. w p.0) m.1
            ∙ zero_at p.0 (q ∷ qs) (later_zero p.0 (q ∷ qs) s (l, all_less qs s.1 l)) m.0))
        | inr g ↦ g
      ]
    where
      all_less : (qs : Pivots F) → Each (λ u. (q.0 < u.0) × (q.1 u.0 ≡ R.zero)) qs → p.0 < q.0
          → Each (λ u. p.0 < u.0) qs
      all_less [] h l = tt
      all_less (u ∷ qs) h l = ((let k : q.0 < u.0 = h.0.0 in omega arith), all_less qs h.1 l)

  none_made : (p : ℕ × (ℕ → A)) → Leads F p.0 p.1 → IsProductOf [] p.1 → ⊥
  none_made p l m = F.one-ne-zero (sym l.one ∙ ap (λ w. w p.0) m.1)

  pub same_pivots : (ps qs : Pivots F) → IsReduced F ps → IsReduced F qs
      → Each (λ p. IsProductOf qs p.1) ps → Each (λ q. IsProductOf ps q.1) qs → ps ≡ qs
  unfolding Each
  same_pivots [] [] r s h k = refl
  same_pivots [] (q ∷ qs) r s h k = absurd (none_made q s.0 k.0)
  same_pivots (p ∷ ps) [] r s h k = absurd (none_made p r.0 h.0)
  same_pivots (p ∷ ps) (q ∷ qs) r s h k =
      let columns : p.0 ≡ q.0 = (let a : q.0 ≤ p.0 = column_least p q ps qs r s h.0 in
      let b : p.0 ≤ q.0 = column_least q p qs ps s r k.0 in omega arith) in
      let tails : ps ≡ qs =
      same_pivots ps qs r.2 s.2
      (drop_first q qs ps s h.1 (subst (λ c. Each (λ u. u.1 c ≡ R.zero) ps) columns
      (tail_zero p ps r)))
      (drop_first p ps qs r k.1 (subst (λ c. Each (λ u. u.1 c ≡ R.zero) qs) (sym columns)
      (tail_zero q qs s))) in
      let m = R.neg R.one in
      let d : ℕ → A = S.add p.1 (S.scale m q.1) in
      let made : IsProductOf (q ∷ qs) d = C.combination-add S (q.1 ∷ rows_in F qs) p.1
      (S.scale m q.1) h.0 (C.combination-scale S (q.1 ∷ rows_in F qs) m q.1
      (C.combination-first S q.1 (rows_in F qs))) in
      let here : d q.0 ≡ R.zero = ap₂ (λ x y. R.add x (R.mul m y))
      (subst (λ c. p.1 c ≡ R.one) columns r.0.one) s.0.one
      ∙ ring R [] (search ring_rules depth 40) refl in
      let none : d ≡ S.zero = made_zero (q ∷ qs) s d made (
        here,
        difference p q qs (subst (λ us. Each (λ u. p.1 u.0 ≡ R.zero) us) tails
            (after_zero p ps r.1)) (after_zero q qs s.1),
      ) in
      let rows : p.1 ≡ q.1 =
      fun_ext (λ i.
      from R (ap (λ w. w i) none) (ring R (p.1 i ∷ q.1 i ∷ []) (search ring_rules depth 40)
      refl)) in
      λ i. (columns i, rows i) ∷ tails i
    where
      drop_first : (q : ℕ × (ℕ → A)) (qs ps : Pivots F) → IsReduced F (q ∷ qs)
          → Each (λ p. IsProductOf (q ∷ qs) p.1) ps → Each (λ u. u.1 q.0 ≡ R.zero) ps
          → Each (λ p. IsProductOf qs p.1) ps
      drop_first q qs [] s h z = tt
      drop_first q qs (p ∷ ps) s h z = (made_tail q qs s p.1 h.0 z.0, drop_first q qs ps s h.1 z.1)

      difference : (p q : ℕ × (ℕ → A)) (us : Pivots F) → Each (λ u. p.1 u.0 ≡ R.zero) us
          → Each (λ u. q.1 u.0 ≡ R.zero) us
          → Each (λ u. R.add (p.1 u.0) (R.mul (R.neg R.one) (q.1 u.0)) ≡ R.zero) us
      difference p q [] h k = tt
      difference p q (u ∷ us) h k = (
        ap₂ (λ x y. R.add x (R.mul (R.neg R.one) y)) h.0 k.0
            ∙ ring R [] (search ring_rules depth 40) refl,
        difference p q us h.1 k.1,
      )

  -- two reduced echelon lists with the same combinations are one
  each_row : (vs : List (ℕ → A)) (ps : Pivots F) → Each (IsCombination S vs) (rows_in F ps)
      → Each (λ p. IsCombination S vs p.1) ps
  unfolding Each
  each_row vs [] h = tt
  each_row vs (p ∷ ps) h = (h.0, each_row vs ps h.1)

  each_of : (us vs : List (ℕ → A)) → ((v : ℕ → A) → IsCombination S us v → IsCombination S vs v)
      → Each (IsCombination S vs) us
  each_of us vs h = each_weaker (IsCombination S us) (IsCombination S vs) h us
      (C.combination-each S us)

  pub same_echelon : (us vs : List (ℕ → A)) → IsEchelon F us → IsEchelon F vs
      → ((v : ℕ → A) → IsCombination S us v → IsCombination S vs v)
      → ((v : ℕ → A) → IsCombination S vs v → IsCombination S us v) → us ≡ vs
  same_echelon us vs e f h k =
      let a : Each (λ p. IsProductOf f.pivots p.1) e.pivots = each_row (rows_in F f.pivots) e.pivots
      (each_of (rows_in F e.pivots) (rows_in F f.pivots) (λ v m.
      subst (λ x. IsCombination S x v) f.is
      (h v (subst (λ x. IsCombination S x v) (sym e.is) m)))) in
      let b : Each (λ p. IsProductOf e.pivots p.1) f.pivots = each_row (rows_in F e.pivots) f.pivots
      (each_of (rows_in F f.pivots) (rows_in F e.pivots) (λ v m.
      subst (λ x. IsCombination S x v) e.is
      (k v (subst (λ x. IsCombination S x v) (sym f.is) m)))) in
      e.is ∙ ap (rows_in F) (same_pivots e.pivots f.pivots e.reduced f.reduced a b) ∙ sym f.is
