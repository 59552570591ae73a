-- The least cycle: walks of a given length as a test, no cycle needs more steps than there are variables, and the choice place by place.
--   any_below m test         some number below m passes the test
--   walk uses m k i j        a walk of just k steps leads from i to j, as a test; walk_out, walk_in: that it is one (Steps)
--   starts k v w             the test whether a nonlinear use of w by v starts a cycle of k steps more;  no_short_none: where none does for k below m, there is no cycle
--   Once xs                  xs has no number twice;  once_short: of numbers below m it has at most m
--   simple_walk              a walk can be had that meets no variable twice
--   short_cycle              where there is a cycle there is one of at most m steps
--   IsLeastWalk              the least walk of k steps
--   least_cycle              the least cycle;  cycle_one: two least cycles are one
use Rattle.std.proofs.Common.{◌≡◌, ◌⊎◌, inl, inr, ℕ, zero, suc, ◌<◌, ◌≤◌, List, [], ◌∷◌, length, Bool, true, false, T, cond, eqb, eqb→eq, ◌||◌, ◌&&◌, refl, sym, ap, ap₂, subst, ◌∙◌, arith}
use lib.Dec.{eqb_refl}
use Rattle.std.proofs.lemmas.Bool.{cases_lt}
use Rattle.solvable_maps.specs.Dependency.{Walks, last_of, IsNonlinearCycle, Least, AtMost, IsLeastCycle}
use Rattle.algebra.proofs.Basics.{both_in, both_out}
use Rattle.solvable_maps.proofs.Reach.{or_out, or_left, or_right}
use Rattle.solvable_maps.proofs.Ranks.{count, count_less}
use Rattle.solvable_maps.proofs.Classes.{member_dec}
use Rattle.algebra.specs.In.{In}

abbrev pub any_below : ℕ → (ℕ → Bool) → Bool
any_below zero test = false
any_below (suc m) test = test m || any_below m test

pub any_below_in : (m : ℕ) (test : ℕ → Bool) (i : ℕ) → i < m → T (test i) → T (any_below m test)
any_below_in zero test i l t = absurd (omega arith)
any_below_in (suc m) test i l t =
    elim (cases_lt i m) [
      | inl s ↦ or_right (test m) (any_below m test) (any_below_in m test i s t)
      | inr g ↦ or_left (test m) (any_below m test) (subst (λ x. T (test x)) (let e : i ≡ m =
          omega arith in e) t)
    ]

pub any_below_out : (m : ℕ) (test : ℕ → Bool) → T (any_below m test) → (i : ℕ) × (i < m)
    × T (test i)
any_below_out zero test t = absurd t
any_below_out (suc m) test t =
    elim (or_out (test m) (any_below m test) t) [
      | inl a ↦ (m, omega arith, a)
      | inr b ↦ (let r = any_below_out m test b in (
        r.0,
        (let l : r.0 < m = r.1 in omega arith),
        r.2,
      ))
    ]

-- no number twice
abbrev pub Once : List ℕ → Type 0
Once [] = Unit {0}
Once (x ∷ xs) = (In x xs → ⊥) × Once xs

abbrev All_below : ℕ → List ℕ → Type 0
All_below m [] = Unit {0}
All_below m (x ∷ xs) = (x < m) × All_below m xs

abbrev is_in : List ℕ → ℕ → Bool
is_in [] i = false
is_in (x ∷ xs) i = eqb x i || is_in xs i

in_member : (xs : List ℕ) (i : ℕ) → T (is_in xs i) → In i xs
in_member [] i t = t
in_member (x ∷ xs) i t = elim (or_out (eqb x i) (is_in xs i) t) [
  | inl a ↦ inl (sym (eqb→eq x i a))
  | inr b ↦ inr (in_member xs i b)
]

count_bound : (m : ℕ) (test : ℕ → Bool) → count m test ≤ m
count_bound zero test = omega arith
count_bound (suc m) test = (let a = one_at (test m) in let b = count_bound m test in
    omega (arith, a, b))
  where
    one_at : (b : Bool) → cond b 1 0 ≤ 1
    one_at true = omega arith
    one_at false = omega arith

length_count : (m : ℕ) (xs : List ℕ) → Once xs → All_below m xs → length xs ≤ count m (is_in xs)
length_count m [] o a = omega arith
length_count m (x ∷ xs) o a =
    let h = length_count m xs o.1 a.1 in
    let l = count_less m (is_in xs) (is_in (x ∷ xs)) (λ i k t. or_right (eqb x i) (is_in xs i) t) x
    a.0 (λ t. o.0 (in_member xs x t)) (or_left (eqb x x) (is_in xs x) (eqb_refl x)) in
    omega (arith, h, l)

pub once_short : (m : ℕ) (xs : List ℕ) → Once xs → All_below m xs → length xs ≤ m
once_short m xs o a = (let h = length_count m xs o a in let b = count_bound m (is_in xs) in
    omega (arith, h, b))

module _ (uses : ℕ → ℕ → Bool) where
  pub record IsSimple (i j : ℕ) (vs : List ℕ) : Type 0 where
    pub walks : Walks uses i vs
    pub ends : last_of i vs ≡ j
    pub once : Once (i ∷ vs)

  -- from where i stands in a walk that meets none twice
  from_there : (i x j : ℕ) (vs : List ℕ) → IsSimple x j vs → In i (x ∷ vs) → (ws : List ℕ)
      × IsSimple i j ws
  from_there i x j vs s (inl e) = (vs, subst (λ y. IsSimple y j vs) (sym e) s)
  from_there i x j [] s (inr h) = absurd h
  from_there i x j (y ∷ vs) s (inr h) =
      from_there i y j vs (record { walks = s.walks.1; ends = s.ends; once = s.once.1 }) h

  pub simple_walk : (i : ℕ) (vs : List ℕ) → Walks uses i vs → (ws : List ℕ)
      × IsSimple i (last_of i vs) ws
  simple_walk i [] w = ([], record { walks = tt; ends = refl; once = ((λ h. h), tt) })
  simple_walk i (x ∷ vs) w = go (simple_walk x vs w.1)
    where
      go : (ws : List ℕ) × IsSimple x (last_of x vs) ws → (ws : List ℕ)
          × IsSimple i (last_of x vs) ws
      go r = elim (member_dec i (x ∷ r.0)) [
        | yes h ↦ from_there i x (last_of x vs) r.0 r.1 h
        | no n ↦ (
          x ∷ r.0,
          record { walks = (w.0, r.1.walks); ends = r.1.ends; once = (n, r.1.once) },
        )
      ]

module _ (uses strongly : ℕ → ℕ → Bool) (m : ℕ) (bounded : (i j : ℕ) → T (uses i j) → (i < m)
    × (j < m)) (linear : (i j : ℕ) → T (strongly i j) → T (uses i j)) where
  walk_below : (i : ℕ) (vs : List ℕ) → Walks uses i vs → All_below m vs
  walk_below i [] w = tt
  walk_below i (j ∷ vs) w = ((bounded i j w.0).1, walk_below j vs w.1)

  pub short_cycle : (vs : List ℕ) → IsNonlinearCycle uses strongly vs → (v : ℕ) × (w : ℕ)
      × (ws : List ℕ)
      × IsNonlinearCycle uses strongly (v ∷ w ∷ ws) × (length ws < m)
  short_cycle [] c = absurd c
  short_cycle (v ∷ []) c = absurd c
  short_cycle (v ∷ w ∷ vs) c =
      let r = simple_walk uses w vs c.1 in
      let l = once_short m (w ∷ r.0) r.1.once (
        (bounded v w (linear v w c.0)).1,
        walk_below w r.0 r.1.walks,
      ) in
      (v, w, r.0, (c.0, r.1.walks, r.1.ends ∙ c.2), omega (arith, l))

  -- ---- walks of just k steps
  abbrev pub walk : ℕ → ℕ → ℕ → Bool
  walk zero i j = eqb i j
  walk (suc k) i j = any_below m (λ c. uses i c && walk k c j)

  pub record Steps (k i j : ℕ) (vs : List ℕ) : Type 0 where
    pub size : length vs ≡ k
    pub walks : Walks uses i vs
    pub ends : last_of i vs ≡ j

  pub walk_out : (k i j : ℕ) → T (walk k i j) → (vs : List ℕ) × Steps k i j vs
  walk_out zero i j t = ([], record { size = refl; walks = tt; ends = eqb→eq i j t })
  walk_out (suc k) i j t =
      let r = any_below_out m (λ c. uses i c && walk k c j) t in
      let b = both_out (uses i r.0) (walk k r.0 j) r.2 in
      let s = walk_out k r.0 j b.1 in
      (r.0 ∷ s.0, record { size = ap suc s.1.size; walks = (b.0, s.1.walks); ends = s.1.ends })

  pub walk_in : (k i j : ℕ) (vs : List ℕ) → Steps k i j vs → T (walk k i j)
  walk_in zero i j [] s = subst (λ x. T (eqb i x)) s.ends (eqb_refl i)
  walk_in zero i j (x ∷ vs) s = absurd (let e : suc (length vs) ≡ 0 = s.size in omega (arith, e))
  walk_in (suc k) i j [] s = absurd (let e : 0 ≡ suc k = s.size in omega (arith, e))
  walk_in (suc k) i j (x ∷ vs) s =
      any_below_in m (λ c. uses i c && walk k c j) x (bounded i x s.walks.0).1
      (both_in (uses i x) (walk k x j) s.walks.0
      (walk_in k x j vs (record {
        size = (let e : suc (length vs) ≡ suc k = s.size in
            omega (arith, e));
        walks = s.walks.1;
        ends = s.ends;
      })))

  -- ---- the least one
  pub record IsLeastWalk (k i j : ℕ) (vs : List ℕ) : Type 0 where
    pub is : Steps k i j vs
    pub least : (ws : List ℕ) → Steps k i j ws → Least vs ws

  -- a cycle of k + 1 steps
  abbrev pub starts : ℕ → ℕ → ℕ → Bool
  starts k v w = strongly v w && walk k w v

  pub cycle_starts : (k : ℕ) (v w : ℕ) (vs : List ℕ) → length vs ≡ k
      → IsNonlinearCycle uses strongly (v ∷ w ∷ vs) → T (starts k v w)
  cycle_starts k v w vs e c = both_in (strongly v w) (walk k w v) c.0
      (walk_in k w v vs (record { size = e; walks = c.1; ends = c.2 }))

  pub least_cycle : (k v w : ℕ) (vs : List ℕ) → T (strongly v w) → IsLeastWalk k w v vs
      → ((x y : ℕ) → T (starts k x y) → v ≤ x) → ((y : ℕ) → T (starts k v y) → w ≤ y)
      → ((j x y : ℕ) → j < k → T (starts j x y) → ⊥)
      → IsLeastCycle uses strongly (v ∷ w ∷ vs)
  least_cycle k v w vs t l first second shorter = record {
    cycle = (t, l.is.walks, l.is.ends);
    least = other;
  }
    where
      other : (ws : List ℕ) → IsNonlinearCycle uses strongly ws → AtMost (v ∷ w ∷ vs) ws
      other [] c = absurd c
      other (x ∷ []) c = absurd c
      other (x ∷ y ∷ ws) c = go (cases_lt (length ws) k)
        where
          same_length : k ≤ length ws → length ws ≤ k → AtMost (v ∷ w ∷ vs) (x ∷ y ∷ ws)
          same_length a b =
              let e : length ws ≡ k = omega (arith, a, b) in
              let p = first x y (cycle_starts k x y ws e c) in
              let size : length vs ≡ k = l.is.size in
              record {
                is = inr (
                  (let z : suc (suc (length vs)) ≡ suc (suc (length ws)) = omega (arith, size, e) in
                      z),
                  (elim (cases_lt v x) [
                    | inl less ↦ inl less
                    | inr more ↦
                        let same : v ≡ x = omega (arith, p, more) in
                        let q = second y (subst (λ z. T (starts k z y)) (sym same)
                        (cycle_starts k x y ws e c)) in
                        inr (
                          same,
                          (elim (cases_lt w y) [
                            | inl less ↦ inl less
                            | inr gap ↦ (let one : w ≡ y = omega (arith, q, gap) in
                                inr (
                                  one,
                                  l.least ws (subst (λ z. Steps k z v ws) (sym one)
                                      (record { size = e; walks = c.1; ends = c.2 ∙ sym same })),
                                ))
                          ]),
                        )
                  ]),
                );
              }

          go : (length ws < k) ⊎ (k ≤ length ws) → AtMost (v ∷ w ∷ vs) (x ∷ y ∷ ws)
          go (inl less) =
              absurd (shorter (length ws) x y less (cycle_starts (length ws) x y ws refl c))
          go (inr more) = elim (cases_lt k (length ws)) [
            | inl longer ↦ (let size : length vs ≡ k = l.is.size in
                record { is = inl (omega (arith, size, longer)) })
            | inr small ↦ same_length more small
          ]

  -- where no cycle of at most m steps is found there is none
  pub no_short_none : ((k x y : ℕ) → k < m → T (starts k x y) → ⊥) → (vs : List ℕ)
      → IsNonlinearCycle uses strongly vs → ⊥
  no_short_none none vs c =
      (let r = short_cycle vs c in none (length r.2) r.0 r.1 r.4 (cycle_starts (length r.2) r.0 r.1
      r.2 refl r.3))

-- a place by place comparison both ways
same_places : (vs ws : List ℕ) → length vs ≡ length ws → Least vs ws → Least ws vs → vs ≡ ws
same_places [] [] e f g = refl
same_places [] (w ∷ ws) e f g = absurd (omega (arith, e))
same_places (v ∷ vs) [] e f g = absurd (omega (arith, e))
same_places (v ∷ vs) (w ∷ ws) e (inl l) (inl k) = absurd (omega (arith, l, k))
same_places (v ∷ vs) (w ∷ ws) e (inl l) (inr k) = absurd (let same : w ≡ v = k.0 in
    omega (arith, l, same))
same_places (v ∷ vs) (w ∷ ws) e (inr l) (inl k) = absurd (let same : v ≡ w = l.0 in
    omega (arith, k, same))
same_places (v ∷ vs) (w ∷ ws) e (inr l) (inr k) =
    ap₂ ◌∷◌ l.0 (same_places vs ws (omega (arith, e)) l.1 k.1)

at_most_both : (vs ws : List ℕ) → AtMost vs ws → AtMost ws vs → vs ≡ ws
at_most_both vs ws f g = go f.is g.is
  where
    go : (length vs < length ws) ⊎ ((length vs ≡ length ws) × Least vs ws) → (length ws < length vs)
        ⊎ ((length ws ≡ length vs) × Least ws vs) → vs ≡ ws
    go (inl l) (inl k) = absurd (omega (arith, l, k))
    go (inl l) (inr k) = absurd (let same : length ws ≡ length vs = k.0 in omega (arith, l, same))
    go (inr l) (inl k) = absurd (let same : length vs ≡ length ws = l.0 in omega (arith, k, same))
    go (inr l) (inr k) = same_places vs ws l.0 l.1 k.1

pub cycle_one : (uses strongly : ℕ → ℕ → Bool) (vs ws : List ℕ) → IsLeastCycle uses strongly vs
    → IsLeastCycle uses strongly ws → vs ≡ ws
cycle_one uses strongly vs ws f g = at_most_both vs ws (f.least ws g.cycle) (g.least vs f.cycle)
