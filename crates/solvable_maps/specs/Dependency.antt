-- Variables that use one another. A variable is its place; `uses i j` says that i uses j, `strongly i j` that it does so non-linearly.
--   Walks uses i vs          from i on, each uses the next of vs
--   last_of i vs             the last of i and vs
--   Reaches uses i j         some walk of at least one step leads from i to j
--   IsNonlinearCycle                  v0, v1, up to vk = v0: each uses the next, v0 the variable v1 strongly
--   AtMost vs ws             vs is ws or comes before it: a shorter list comes first, and of equal lengths the one with the lesser first place that differs
--   IsLeastCycle             a cycle that no other comes before
--   Ranks                    what is used has at most the user's rank, what is used strongly a lower one
--   reach uses k i j     a walk from i to j whose variables in between are below k, as a test
use Rattle.std.specs.Prelude.{◌≡◌, ◌⊎◌, ℕ, ◌<◌, ◌≤◌, List, [], ◌∷◌, length, Bool, T, zero, suc, ◌||◌, ◌&&◌}

abbrev pub last_of : ℕ → List ℕ → ℕ
last_of i [] = i
last_of i (j ∷ vs) = last_of j vs

abbrev pub Least : List ℕ → List ℕ → Type 0
Least [] ws = Unit {0}
Least (v ∷ vs) [] = ⊥
Least (v ∷ vs) (w ∷ ws) = (v < w) ⊎ ((v ≡ w) × Least vs ws)

-- vs is ws or comes before it
pub record AtMost (vs ws : List ℕ) : Type 0 where
  pub is : (length vs < length ws) ⊎ ((length vs ≡ length ws) × Least vs ws)

module _ (uses : ℕ → ℕ → Bool) where
  abbrev pub Walks : ℕ → List ℕ → Type 0
  Walks i [] = Unit {0}
  Walks i (j ∷ vs) = T (uses i j) × Walks j vs

  pub record Reaches (i j : ℕ) : Type 0 where
    pub first : ℕ
    pub others : List ℕ
    pub walks : Walks i (first ∷ others)
    pub ends : last_of first others ≡ j

module _ (uses strongly : ℕ → ℕ → Bool) where
  abbrev pub IsNonlinearCycle : List ℕ → Type 0
  IsNonlinearCycle [] = ⊥
  IsNonlinearCycle (v ∷ []) = ⊥
  IsNonlinearCycle (v ∷ w ∷ vs) = T (strongly v w) × Walks uses w vs × (last_of w vs ≡ v)

  pub record IsLeastCycle (vs : List ℕ) : Type 0 where
    pub cycle : IsNonlinearCycle vs
    pub least : (ws : List ℕ) → IsNonlinearCycle ws → AtMost vs ws

  pub record Ranks (rank : ℕ → ℕ) : Type 0 where
    pub at_most : (i j : ℕ) → T (uses i j) → rank j ≤ rank i
    pub lower : (i j : ℕ) → T (strongly i j) → rank j < rank i

module _ (uses : ℕ → ℕ → Bool) where
  abbrev pub reach : ℕ → ℕ → ℕ → Bool
  reach zero i j = uses i j
  reach (suc k) i j = reach k i j || (reach k i k && reach k k j)
