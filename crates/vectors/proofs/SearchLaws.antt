-- The search goes through the candidates, and takes the forms of each, level by level.
--   SearchedTo Done forms     the candidates p of Done, as p over d, are done: the forms make all that a power of M less one of them kills
--   Below b m p      p isn't zero, has an absolute value of at most b, and is below m; Within b p: its absolute value is at most b
--   below_more, below_next     what is below p is below p + 1, and so is p
--   search_first, search_next     nothing is below -b; after the candidate p those below p + 1 are done
--   search_zero, search_last     0 is passed over; it comes last
use Rattle.std.proofs.lemmas.List.{append-nil}
use Rattle.std.proofs.Common.{◌≡◌, ◌≢◌, ◌⊎◌, inl, inr, nat_abs, ℕ, suc, ◌+◌, ◌-◌, ◌<◌, ◌≤◌, ℤ, pos, negsuc, zero, List, [], ◌∷◌, ◌++◌, length, refl, sym, ap, subst, ◌∙◌, arith, ◌+ℤ◌, neg_ℤ}
use Rattle.algebra.specs.Ring.{CommRing, Field}
use Rattle.algebra.proofs.FieldLaws as FL
use Rattle.algebra.proofs.OfInt.{of_int}
use Rattle.algebra.specs.Each.{Each}
use Rattle.vectors.specs.Space.{Space, IsCombination, Independent, IsLinear}
use Rattle.vectors.specs.Sequences.{column_sum}
use Rattle.vectors.specs.Rows.{Row, rows_of, times_rows}
use Rattle.vectors.specs.Splitting.{IsKilled, vectors_of, AllKilled, Taken, IsLevel}
use Rattle.vectors.specs.SplitForms.{with_value, AreSplitForms}
use Rattle.vectors.proofs.SplitFormLaws as SF
use Rattle.vectors.proofs.RowLaws as RL
use Rattle.vectors.proofs.Kernels as K
use Rattle.vectors.proofs.Forms as FO
use Rattle.vectors.proofs.Independence as I
use Rattle.algebra.proofs.Each.{each-append, each_of, each_weaker}
use Rattle.vectors.proofs.FractionEigen.{Fractions}
use Rattle.vectors.proofs.MatrixSplits.{IsFractionOf, Whole, Searched}
use Rattle.std.specs.Int.Signed.{◌<ℤ◌}
use Rattle.std.proofs.lemmas.Int.{ints}

pub vectors-append : {A V : Type 0} (forms : List (V × A)) (c : A) (es : List V)
    → vectors_of (forms ++ with_value c es) ≡ vectors_of forms ++ es
vectors-append [] c [] = refl
vectors-append [] c (e ∷ es) = ap (◌∷◌ e) (vectors-append [] c es)
vectors-append (f ∷ forms) c es = ap (◌∷◌ f.0) (vectors-append forms c es)

pub valued-each : {A V : Type 0} (P : V × A → Type 0) (c : A) (es : List V)
    → Each (λ e. P (e, c)) es → Each P (with_value c es)
unfolding Each
valued-each P c [] h = tt
valued-each P c (e ∷ es) h = (h.0, valued-each P c es h.1)

-- ---- whole numbers below one another
lowest : (p : ℤ) (b : ℕ) → nat_abs p ≤ b → p <ℤ neg_ℤ (pos b) → ⊥
lowest p b l h = grind (arith, ints)

highest : (p : ℤ) (b : ℕ) → nat_abs p ≤ b → p <ℤ pos (suc b)
highest p b l = grind (arith, ints)

below_one : (p : ℤ) → p <ℤ pos 0 → p <ℤ pos 1
below_one p h = omega (arith, ints)

below_zero : (p : ℤ) → p ≢ pos 0 → p <ℤ pos 1 → p <ℤ pos 0
below_zero p ne h = grind (arith, ints)

not_below : (p : ℤ) → p <ℤ p → ⊥
not_below p h = grind (arith, ints)

pub below_more : (q p : ℤ) → q <ℤ p → q <ℤ (p +ℤ pos 1)
below_more q p h = omega (arith, ints)

pub below_next : (p : ℤ) → p <ℤ (p +ℤ pos 1)
below_next p = omega (arith, ints)

below_cases : (q p : ℤ) → q <ℤ (p +ℤ pos 1) → (q <ℤ p) ⊎ (q ≡ p)
below_cases q p h = grind (arith, ints)

module _ {A : Type 0} (F : Field A) (Q : Fractions F) (n : ℕ) (rows : List (Row F n)) (d : ℕ)
    (some : 0 < d) where
  abbrev R : CommRing A
  R = F.ring

  abbrev S : Space F.ring (Row F n)
  S = rows_of F n

  abbrev t : Row F n → Row F n
  t y = times_rows F n rows y

  linear : IsLinear S t
  linear = RL.times-linear F n rows

  d_some : of_int R (pos d) ≢ R.zero
  d_some e = absurd (let z : pos d ≡ pos 0 = Q.injective (pos d) (pos 0) e in let k : d ≡ 0 = cc in
      omega arith)

  abbrev Over : ℤ → A → Type 0
  Over p c = IsFractionOf F Q n rows d p c

  over_same : (p : ℤ) (c c' : A) → Over p c → Over p c' → c ≡ c'
  over_same p c c' e e' = FL.cancel F c c' (of_int R (pos d)) d_some
      (R.mul_comm c (of_int R (pos d)) ∙ e ∙ sym e' ∙ R.mul_comm (of_int R (pos d)) c')

  over_number : (p q : ℤ) (c : A) → Over p c → Over q c → p ≡ q
  over_number p q c e e' = Q.injective p q (sym e ∙ e')

  -- the candidates of Done are done
  pub record SearchedTo (Done : ℤ → Type 0) (forms : List (Row F n × A)) : Type 0 where
    pub killed : AllKilled S t n forms
    pub over : Each (λ f. (p : ℤ) × Done p × Over p f.1) forms
    pub independent : Independent S (vectors_of forms)
    pub split : AreSplitForms F S t [] forms
    pub taken : (p : ℤ) → Done p → (c : A) → Over p c
        → Taken S t n (IsCombination S (vectors_of forms)) c

  pub search_none : (Done : ℤ → Type 0) → ((p : ℤ) → Done p → ⊥) → SearchedTo Done []
  unfolding Each
  search_none Done none = record {
    killed = tt;
    over = tt;
    independent = λ f e i l.
        absurd (omega arith);
    split = tt;
    taken = λ p h. absurd (none p h);
  }

  -- the candidate p is done, or has no forms
  pub search_more : (Done More : ℤ → Type 0) (p : ℤ) → (Done p → ⊥) → ((q : ℤ) → Done q → More q)
      → More p → ((q : ℤ) → More q → Done q ⊎ (q ≡ p))
      → (forms : List (Row F n × A)) (c : A) (k : ℕ) (es : List (Row F n)) → SearchedTo Done forms
      → Over p c → k ≤ n → IsLevel S t c k es → ((v : Row F n) → IsKilled S t c n v
      → IsKilled S t c k v) → SearchedTo More (forms ++ with_value c es)
  search_more Done More p new keeps more only forms c k es s over small level stop =
      let up : (v : Row F n) → IsKilled S t c k v → IsKilled S t c n v =
      λ v e. (let split : (n - k) + k ≡ n = omega arith in subst (λ i. IsKilled S t c i v) split
      (FO.killed_up F S t linear c (n - k) k v e)) in
      let es_killed : Each (IsKilled S t c n) es = each_weaker (IsKilled S t c k) (IsKilled S t c n)
      up es level.killed in
      let others : Each (λ (f : Row F n × A). f.1 ≢ c) forms =
      (each_weaker (λ (f : Row F n × A). (q : ℤ) × Done q × Over q f.1) (λ f. f.1 ≢ c) (λ f o e.
      new (subst Done (over_number o.0 p c (subst (Over o.0) e o.2) over) o.1)) forms
      s.over) in
      let join : vectors_of (forms ++ with_value c es) ≡ vectors_of forms ++ es =
      vectors-append forms c es in
      record {
        killed = each-append (λ (f : Row F n × A). IsKilled S t f.1 n f.0) forms (with_value c es)
            s.killed (valued-each (λ f. IsKilled S t f.1 n f.0) c es es_killed);
        over = each-append (λ (f : Row F n × A). (q : ℤ) × More q × Over q f.1) forms
            (with_value c es)
            (each_weaker (λ (f : Row F n × A). (q : ℤ) × Done q × Over q f.1) (λ f. (q : ℤ) × More q
            × Over q f.1) (λ f o. (o.0, keeps o.0 o.1, o.2)) forms s.over)
            (valued-each (λ f. (q : ℤ) × More q × Over q f.1) c es (each_of (λ e. (q : ℤ) × More q
            × Over q c) (λ e. (p, more, over)) es));
        independent = subst (Independent S) (sym join)
            (K.independent-block F S t linear n forms c es s.killed
            others
            es_killed s.independent level.independent);
        split = SF.split_forms-append F S t [] forms (with_value c es) s.split
            (subst (λ l. AreSplitForms F S t l (with_value c es)) (append-nil forms)
            (SF.split_forms-block F S t c forms others [] es level.triangular));
        taken = λ q m c' o v e. subst (λ l. IsCombination S l v) (sym join)
            (elim (only q m) [
              | inl a ↦ FO.combination-left F S (vectors_of forms) es v (s.taken q a c' o v e)
              | inr a ↦
                  let same : c' ≡ c = over_same p c' c (subst (λ q. Over q c') a o) over in
                  FO.combination-right F S (vectors_of forms) es v
                  (level.all v (stop v (subst (λ x. IsKilled S t x n v) same e)))
            ]);
      }

  -- after the last candidate: the values of what was done are allowed, and each candidate of at
  -- most b with an allowed value was done
  pub search_end : (Allowed : A → Type 0) (Done : ℤ → Type 0) (whole : List (ℕ → ℤ)) (b : ℕ)
      (forms : List (Row F n × A))
      → ((p : ℤ) (c : A) → Over p c → Done p → Allowed c) → ((p : ℤ) (c : A) → Over p c
      → nat_abs p ≤ b → Allowed c → Done p)
      → Whole F Q n rows d whole → ((j : ℕ) → j < n → column_sum whole j ≤ b)
      → SearchedTo Done forms → Searched F Q n rows Allowed d whole b forms
  search_end Allowed Done whole b forms may all w bound s = record {
    whole_is = w;
    bound = bound;
    killed = s.killed;
    allowed = each_weaker (λ (f : Row F n × A). (p : ℤ) × Done p × Over p f.1) (λ f. Allowed f.1)
        (λ f o. may o.0 f.1 o.2 o.1) forms s.over;
    independent = s.independent;
    taken = λ p l c h o. s.taken p (all p c o l h) c o;
  }

  -- ---- candidates in ascending order, from -b on, without 0
  -- the candidates of at most b that are below m, but 0
  pub record Below (b : ℕ) (m : ℤ) (p : ℤ) : Type 0 where
    pub within : nat_abs p ≤ b
    pub not_zero : p ≢ pos 0
    pub below : p <ℤ m

  -- all candidates of at most b
  abbrev pub Within : ℕ → ℤ → Type 0
  Within b p = nat_abs p ≤ b

  pub search_end_all : (whole : List (ℕ → ℤ)) (b : ℕ) (forms : List (Row F n × A))
      → Whole F Q n rows d whole → ((j : ℕ) → j < n → column_sum whole j ≤ b)
      → SearchedTo (Within b) forms → Searched F Q n rows (λ c. Unit {0}) d whole b forms
  search_end_all whole b forms w bound s = search_end (λ c. Unit {0}) (Within b) whole b forms
      (λ p c o h. tt) (λ p c o l h. l) w bound s

  zero_or_not : (b : ℕ) (q : ℤ) → nat_abs q ≤ b → Below b (pos (suc b)) q ⊎ (q ≡ pos 0)
  zero_or_not b (pos zero) l = inr refl
  zero_or_not b (pos (suc k)) l = inl (record {
    within = l;
    not_zero = λ e. let f : suc k ≡ 0 = cc in omega (arith, f);
    below = highest (pos (suc k)) b l;
  })
  zero_or_not b (negsuc k) l = inl (record {
    within = l;
    not_zero = λ e. cc;
    below = highest (negsuc k) b l;
  })

  -- 0 comes last
  pub search_last : (b : ℕ) (forms : List (Row F n × A)) (c : A) (k : ℕ) (es : List (Row F n))
      → SearchedTo (Below b (pos (suc b))) forms → Over (pos 0) c → k ≤ n → IsLevel S t c k es
      → ((v : Row F n) → IsKilled S t c n v → IsKilled S t c k v)
      → SearchedTo (Within b) (forms ++ with_value c es)
  search_last b forms c k es s over small level stop =
      search_more (Below b (pos (suc b))) (Within b) (pos 0) (λ h. h.not_zero refl)
      (λ q h. h.within) (omega arith) (λ q l. zero_or_not b q l) forms c k es s over small level
      stop

  -- or it needn't come, where there are as many forms as rows
  pub search_full : (b : ℕ) (forms : List (Row F n × A)) → SearchedTo (Below b (pos (suc b))) forms
      → length (vectors_of forms) ≡ n → SearchedTo (Within b) forms
  search_full b forms s size = record {
    killed = s.killed;
    over = each_weaker _ _ (λ f o. (o.0, o.1.within, o.2)) forms s.over;
    independent = s.independent;
    split = s.split;
    taken = λ p l c o v e. I.independent-all F S (RL.all_units F n) (vectors_of forms)
        (each_of (IsCombination S (RL.all_units F n)) (RL.all_units-all F n) (vectors_of forms))
        s.independent (size ∙ sym (RL.all_units-length F n)) v (RL.all_units-all F n v);
  }

  pub search_first : (b : ℕ) → SearchedTo (Below b (neg_ℤ (pos b))) []
  search_first b = search_none (Below b (neg_ℤ (pos b))) (λ p h. lowest p b h.within h.below)

  -- 0 is no candidate
  pub search_zero : (b : ℕ) (forms : List (Row F n × A)) → SearchedTo (Below b (pos 0)) forms
      → SearchedTo (Below b (pos 1)) forms
  search_zero b forms s = record {
    killed = s.killed;
    over = each_weaker _ _ (λ f o. (o.0, up o.0 o.1, o.2)) forms s.over;
    independent = s.independent;
    split = s.split;
    taken = λ p h. s.taken p (down p h);
  }
    where
      up : (p : ℤ) → Below b (pos 0) p → Below b (pos 1) p
      up p h = record { within = h.within; not_zero = h.not_zero; below = below_one p h.below }

      down : (p : ℤ) → Below b (pos 1) p → Below b (pos 0) p
      down p h = record {
        within = h.within;
        not_zero = h.not_zero;
        below = below_zero p h.not_zero h.below;
      }

  -- the candidate p
  pub search_next : (b : ℕ) (p : ℤ) → nat_abs p ≤ b → p ≢ pos 0
      → (forms : List (Row F n × A)) (c : A) (k : ℕ) (es : List (Row F n))
      → SearchedTo (Below b p) forms → Over p c → k ≤ n → IsLevel S t c k es
      → ((v : Row F n) → IsKilled S t c n v → IsKilled S t c k v)
      → SearchedTo (Below b (p +ℤ pos 1)) (forms ++ with_value c es)
  search_next b p l ne forms c k es s over small level stop =
      search_more (Below b p) (Below b (p +ℤ pos 1)) p (λ h. not_below p h.below)
      (λ q h. record { within = h.within; not_zero = h.not_zero; below = below_more q p h.below })
      (record { within = l; not_zero = ne; below = below_next p })
      (λ q h. elim (below_cases q p h.below) [
        | inl a
            ↦ inl (record { within = h.within; not_zero = h.not_zero; below = a })
        | inr e
            ↦ inr e
      ])
      forms c k es s over small level stop
