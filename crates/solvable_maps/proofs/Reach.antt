-- Reaching, decided: a walk between two variables is found through more and more variables in between.
--   reach_walk             where the test says so there is a walk
--   reach_all              and where all variables are below m, each walk is found
--   or_left, or_right, or_out      of two tests one is met exactly where one or the other is
use Rattle.std.proofs.Common.{◌≡◌, ◌⊎◌, inl, inr, ℕ, zero, suc, ◌<◌, List, [], ◌∷◌, ◌++◌, Bool, true, false, T, ◌||◌, ◌&&◌, refl, sym, subst, ◌∙◌, arith}
use Rattle.std.proofs.lemmas.Bool.{cases_lt}
use Rattle.algebra.proofs.Basics.{both_in, both_out}
use Rattle.solvable_maps.specs.Dependency.{Walks, last_of, Reaches, reach}

pub or_out : (a b : Bool) → T (a || b) → T a ⊎ T b
or_out true b t = inl tt
or_out false b t = inr t

pub or_left : (a b : Bool) → T a → T (a || b)
or_left true b t = tt
or_left false b t = absurd t

pub or_right : (a b : Bool) → T b → T (a || b)
or_right true b t = tt
or_right false b t = t

module _ (uses : ℕ → ℕ → Bool) where
  reach_more : (k i j : ℕ) → T (reach uses k i j) → T (reach uses (suc k) i j)
  reach_more k i j t = or_left (reach uses k i j) (reach uses k i k && reach uses k k j) t

  reach_by : (k i j : ℕ) → T (reach uses k i k) → T (reach uses k k j) → T (reach uses (suc k) i j)
  reach_by k i j s t = or_right (reach uses k i j) (reach uses k i k && reach uses k k j)
      (both_in (reach uses k i k) (reach uses k k j) s t)

  -- the last step of the test
  reach_out : (k i j : ℕ) → T (reach uses (suc k) i j) → T (reach uses k i j)
      ⊎ (T (reach uses k i k) × T (reach uses k k j))
  reach_out k i j t = elim (or_out (reach uses k i j) (reach uses k i k && reach uses k k j) t) [
    | inl a ↦ inl a
    | inr b ↦ inr (both_out (reach uses k i k) (reach uses k k j) b)
  ]

  to_last : (k i : ℕ) → T (reach uses (suc k) i k) → T (reach uses k i k)
  to_last k i t = elim (reach_out k i k t) [ inl a ↦ a | inr b ↦ b.0 ]

  from_last : (k j : ℕ) → T (reach uses (suc k) k j) → T (reach uses k k j)
  from_last k j t = elim (reach_out k k j t) [ inl a ↦ a | inr b ↦ b.1 ]

  pub through : (k c : ℕ) → c < k → (i j : ℕ) → T (reach uses k i c) → T (reach uses k c j)
      → T (reach uses k i j)
  through zero c l i j s t = absurd (omega arith)
  through (suc k) c l i j s t =
      elim (cases_lt c k) [
        | inl below ↦ elim (reach_out k i c s) [
          | inl a ↦ elim (reach_out k c j t) [
            | inl b ↦ reach_more k i j (through k c below i j a b)
            | inr b ↦ reach_by k i j (through k c below i k a b.0) b.1
          ]
          | inr a ↦ elim (reach_out k c j t) [
            | inl b ↦ reach_by k i j a.0 (through k c below k j a.1 b)
            | inr b ↦ reach_by k i j a.0 b.1
          ]
        ]
        | inr above ↦
            let same : c ≡ k = omega arith in
            reach_by k i j (to_last k i (subst (λ x. T (reach uses (suc k) i x)) same s))
            (from_last k j (subst (λ x. T (reach uses (suc k) x j)) same t))
      ]

  pub reach_uses : (k i j : ℕ) → T (uses i j) → T (reach uses k i j)
  reach_uses zero i j t = t
  reach_uses (suc k) i j t = reach_more k i j (reach_uses k i j t)

  -- ---- walks
  walks-append : (i : ℕ) (vs ws : List ℕ) → Walks uses i vs → Walks uses (last_of i vs) ws
      → Walks uses i (vs ++ ws)
  walks-append i [] ws p q = q
  walks-append i (j ∷ vs) ws p q = (p.0, walks-append j vs ws p.1 q)

  last-append : (i : ℕ) (vs ws : List ℕ) → last_of i (vs ++ ws) ≡ last_of (last_of i vs) ws
  last-append i [] ws = refl
  last-append i (j ∷ vs) ws = last-append j vs ws

  pub reaches_step : (i j : ℕ) → T (uses i j) → Reaches uses i j
  reaches_step i j t = record { first = j; others = []; walks = (t, tt); ends = refl }

  pub reaches_trans : (i j k : ℕ) → Reaches uses i j → Reaches uses j k → Reaches uses i k
  reaches_trans i j k p q = record {
    first = p.first;
    others = p.others ++ (q.first ∷ q.others);
    walks = walks-append i (p.first ∷ p.others) (q.first ∷ q.others) p.walks
        (subst (λ x. Walks uses x (q.first ∷ q.others)) (sym p.ends) q.walks);
    ends = last-append p.first p.others (q.first ∷ q.others) ∙ q.ends;
  }

  pub reach_walk : (k i j : ℕ) → T (reach uses k i j) → Reaches uses i j
  reach_walk zero i j t = reaches_step i j t
  reach_walk (suc k) i j t =
      elim (reach_out k i j t) [
        | inl a ↦ reach_walk k i j a
        | inr b ↦ reaches_trans i k j (reach_walk k i k b.0) (reach_walk k k j b.1)
      ]

  module _ (m : ℕ) (bounded : (i j : ℕ) → T (uses i j) → j < m) where
    walk_reach : (i j : ℕ) (vs : List ℕ) → Walks uses i (j ∷ vs) → T (reach uses m i (last_of j vs))
    walk_reach i j [] w = reach_uses m i j w.0
    walk_reach i j (k ∷ vs) w = through m j (bounded i j w.0) i (last_of k vs)
        (reach_uses m i j w.0) (walk_reach j k vs w.1)

    pub reach_all : (i j : ℕ) → Reaches uses i j → T (reach uses m i j)
    reach_all i j r = subst (λ x. T (reach uses m i x)) r.ends (walk_reach i r.first r.others
        r.walks)
