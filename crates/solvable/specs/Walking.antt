-- Walks of a number of steps, and tables of them.
--   IsWalk uses k i j vs         k steps from i to j: from i on, each uses the next of vs, and the last is j
--   IsLeastWalk uses k i j vs    and of those with as many steps the least, place by place
--   IsWalks uses m k t           the table t tells between which variables there is a walk of k steps
--   AreWalks uses m ts           the k-th of ts tells it for k steps
--   IsStart strongly walks v w   the least v and then w such that v uses w strongly and walks lead from w to v
--   IsClosedWalk uses k v w vs        v, w and then a least walk of k steps from w to v
use Rattle.std.specs.Prelude.{◌≡◌, ◌<◌, ◌≤◌, ◌↔◌, ℕ, Bool, List, ◌∷◌, ◌&&◌, length, get_or, T}
use Rattle.std.specs.declared.alloc.Global.{Global}
use Rattle.std.specs.declared.vec.Vec.{Vec}
use Rattle.solvable_maps.specs.Dependency.{Walks, last_of, Least}
use Rattle.solvable.specs.Tables.{IsTable}

abbrev pub Table : Type 0
Table = Vec (Vec Bool Global) Global

module _ (uses : ℕ → ℕ → Bool) where
  pub record IsWalk (k i j : ℕ) (vs : List ℕ) : Type 0 where
    pub size : length vs ≡ k
    pub walks : Walks uses i vs
    pub ends : last_of i vs ≡ j

  pub record IsLeastWalk (k i j : ℕ) (vs : List ℕ) : Type 0 where
    pub is : IsWalk k i j vs
    pub least : (ws : List ℕ) → IsWalk k i j ws → Least vs ws

  abbrev pub IsWalks : ℕ → ℕ → List (Vec Bool Global) → Type 0
  IsWalks m k t = IsTable m (λ i j b. T b ↔ ((vs : List ℕ) × IsWalk k i j vs)) t

  abbrev pub AreWalks : ℕ → List Table → Type 0
  AreWalks m ts = (k : ℕ) (d : Table) → k < length ts → IsWalks m k (get_or ts k d).items

  pub record IsClosedWalk (k v w : ℕ) (cycle : List ℕ) : Type 0 where
    pub others : List ℕ
    pub is : cycle ≡ v ∷ w ∷ others
    pub least : IsLeastWalk k w v others

module _ (strongly walks : ℕ → ℕ → Bool) where
  pub record IsStart (m v w : ℕ) : Type 0 where
    pub inside : (v < m) × (w < m)
    pub passes : T (strongly v w && walks w v)
    pub first : (x y : ℕ) → T (strongly x y && walks y x) → v ≤ x
    pub second : (y : ℕ) → T (strongly v y && walks y v) → w ≤ y
