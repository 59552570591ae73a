-- There is no cycle exactly where there are ranks.
--   count m test        how many numbers below m pass the test;  count_less: fewer than pass a weaker one that some number passes besides
--   ranks_no_cycle      where there are ranks there is no cycle
--   size uses m i       how many variables i is or reaches: the ranks where there is no cycle
use Rattle.std.proofs.Common.{◌≡◌, ◌⊎◌, inl, inr, ℕ, zero, suc, ◌+◌, ◌<◌, ◌≤◌, List, [], ◌∷◌, Bool, true, false, T, cond, eqb, eqb→eq, ◌||◌, sym, ap, subst, arith}
use lib.Dec.{eqb_refl}
use Rattle.std.proofs.lemmas.Bool.{cases_lt}
use Rattle.solvable_maps.specs.Dependency.{Walks, last_of, Reaches, IsNonlinearCycle, Ranks, reach}
use Rattle.solvable_maps.proofs.Reach.{or_out, or_left, or_right, reach_walk, reach_all, reaches_step, reaches_trans}

abbrev pub count : ℕ → (ℕ → Bool) → ℕ
count zero test = 0
count (suc m) test = cond (test m) 1 0 + count m test

one_at_most : (a b : Bool) → (T a → T b) → cond a 1 0 ≤ cond b 1 0
one_at_most true true h = omega arith
one_at_most true false h = absurd (h tt)
one_at_most false true h = omega arith
one_at_most false false h = omega arith

one_less : (a b : Bool) → (T a → ⊥) → T b → suc (cond a 1 0) ≤ cond b 1 0
one_less true b h t = absurd (h tt)
one_less false true h t = omega arith
one_less false false h t = absurd t

pub count_at_most : (m : ℕ) (test more : ℕ → Bool) → ((i : ℕ) → i < m → T (test i) → T (more i))
    → count m test ≤ count m more
count_at_most zero test more h = omega arith
count_at_most (suc m) test more h =
    let a = one_at_most (test m) (more m) (h m (omega arith)) in
    let b = count_at_most m test more (λ i l. h i (omega arith)) in
    omega (arith, a, b)

pub count_less : (m : ℕ) (test more : ℕ → Bool) → ((i : ℕ) → i < m → T (test i) → T (more i))
    → (c : ℕ) → c < m → (T (test c) → ⊥) → T (more c) → count m test < count m more
count_less zero test more h c l out in_ = absurd (omega arith)
count_less (suc m) test more h c l out in_ =
    elim (cases_lt c m) [
      | inl below ↦
          let a = one_at_most (test m) (more m) (h m (omega arith)) in
          let b = count_less m test more (λ i l. h i (omega arith)) c below out in_ in
          omega (arith, a, b)
      | inr above ↦
          let same : c ≡ m = omega arith in
          let a = one_less (test m) (more m) (λ t. out (subst (λ x. T (test x)) (sym same) t))
          (subst (λ x. T (more x)) same in_) in
          let b = count_at_most m test more (λ i l. h i (omega arith)) in
          omega (arith, a, b)
    ]

module _ (uses strongly : ℕ → ℕ → Bool) where
  walk_falls : (rank : ℕ → ℕ) → Ranks uses strongly rank → (i : ℕ) (vs : List ℕ) → Walks uses i vs
      → rank (last_of i vs) ≤ rank i
  walk_falls rank r i [] w = omega arith
  walk_falls rank r i (j ∷ vs) w = (let a = r.at_most i j w.0 in let b =
      walk_falls rank r j vs w.1 in omega (arith, a, b))

  pub ranks_no_cycle : (rank : ℕ → ℕ) → Ranks uses strongly rank → (vs : List ℕ)
      → IsNonlinearCycle uses strongly vs → ⊥
  ranks_no_cycle rank r [] c = c
  ranks_no_cycle rank r (v ∷ []) c = c
  ranks_no_cycle rank r (v ∷ w ∷ vs) c =
      let a = r.lower v w c.0 in
      let b = walk_falls rank r w vs c.1 in
      let e : rank (last_of w vs) ≡ rank v = ap rank c.2 in
      absurd (omega (arith, a, b, e))

  module _ (m : ℕ) (bounded : (i j : ℕ) → T (uses i j) → (i < m) × (j < m)) (linear : (i j : ℕ)
      → T (strongly i j) → T (uses i j)) where
    abbrev pub is_or_reaches : ℕ → ℕ → Bool
    is_or_reaches i j = eqb i j || reach uses m i j

    abbrev pub size : ℕ → ℕ
    size i = count m (is_or_reaches i)

    pub reaches_in : (i j : ℕ) → Reaches uses i j → T (is_or_reaches i j)
    reaches_in i j r = or_right (eqb i j) (reach uses m i j)
        (reach_all uses m (λ i j t. (bounded i j t).1) i j r)

    pub self_in : (i : ℕ) → T (is_or_reaches i i)
    self_in i = or_left (eqb i i) (reach uses m i i) (eqb_refl i)

    pub is_out : (i j : ℕ) → T (is_or_reaches i j) → (i ≡ j) ⊎ Reaches uses i j
    is_out i j t = elim (or_out (eqb i j) (reach uses m i j) t) [
      | inl e ↦ inl (eqb→eq i j e)
      | inr r
          ↦ inr (reach_walk uses m i j r)
    ]

    -- what is reached from what is reached
    pub more_reached : (i j : ℕ) → Reaches uses i j → (k : ℕ) → T (is_or_reaches j k)
        → T (is_or_reaches i k)
    more_reached i j r k t =
        reaches_in i k (elim (is_out j k t) [
          | inl e ↦ subst (Reaches uses i) e r
          | inr s
              ↦ reaches_trans uses i j k r s
        ])

    pub size_at_most : (i j : ℕ) → Reaches uses i j → size j ≤ size i
    size_at_most i j r = count_at_most m (is_or_reaches j) (is_or_reaches i) (λ k l t.
        more_reached i j r k t)

    pub size_less : (i j : ℕ) → i < m → Reaches uses i j → (i ≡ j → ⊥) → (Reaches uses j i → ⊥)
        → size j < size i
    size_less i j l r ne none = count_less m (is_or_reaches j) (is_or_reaches i) (λ k l t.
        more_reached i j r k t) i l (λ t. elim (is_out j i t) [
          | inl e ↦ ne (sym e)
          | inr s
              ↦ none s
        ]) (self_in i)

    cycle_of : (i j : ℕ) → T (strongly i j) → ((i ≡ j) ⊎ Reaches uses j i) → (vs : List ℕ)
        × IsNonlinearCycle uses strongly vs
    cycle_of i j t (inl e) = (i ∷ j ∷ [], (t, tt, sym e))
    cycle_of i j t (inr r) = (i ∷ j ∷ r.first ∷ r.others, (t, r.walks, r.ends))

    pub no_cycle_ranks : ((vs : List ℕ) → IsNonlinearCycle uses strongly vs → ⊥)
        → Ranks uses strongly size
    no_cycle_ranks none = record {
      at_most = λ i j t. size_at_most i j (reaches_step uses i j t);
      lower = λ i j t.
          let out : (i ≡ j) ⊎ Reaches uses j i → ⊥ =
          λ e. (let c = cycle_of i j t e in none c.0 c.1) in
          size_less i j (bounded i j (linear i j t)).0 (reaches_step uses i j (linear i j t))
          (λ e. out (inl e)) (λ r. out (inr r));
    }
