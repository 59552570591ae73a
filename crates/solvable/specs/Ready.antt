-- Classes by a table of what each variable reaches.
--   Mutual reach i j               the same, or each reaches the other
--   IsReady reach m earlier i      i is new, and what it reaches reaches it or is among the earlier ones
--   IsGroup reach m i g            g are the variables below m in the class of i, ascending
--   Through reach m k t            the table t tells what reaches what by reach, or through k
--   AreReached uses m k t          the table t tells what reaches what through variables below k
use Rattle.std.specs.Prelude.{◌≡◌, ◌⊎◌, ◌<◌, ◌≤◌, ◌||◌, ◌&&◌, ℕ, Bool, List, T}
use Rattle.std.specs.declared.alloc.Global.{Global}
use Rattle.std.specs.declared.vec.Vec.{Vec}
use Rattle.algebra.specs.In.{In}
use Rattle.solvable_maps.specs.Class.{Ascends}
use Rattle.solvable_maps.specs.Dependency.{reach as reach_through}
use Rattle.solvable.specs.Tables.{IsTable}

module _ (reach : ℕ → ℕ → Bool) where
  abbrev pub Mutual : ℕ → ℕ → Type 0
  Mutual i j = (i ≡ j) ⊎ (T (reach i j) × T (reach j i))

  pub record IsReady (m : ℕ) (earlier : List ℕ) (i : ℕ) : Type 0 where
    pub new : In i earlier → ⊥
    pub inside : (j : ℕ) → j < m → T (reach i j) → T (reach j i) ⊎ In j earlier

  pub record IsFirstReady (m : ℕ) (earlier : List ℕ) (i : ℕ) : Type 0 where
    pub within : i < m
    pub ready : IsReady m earlier i
    pub least : (j : ℕ) → j < m → IsReady m earlier j → i ≤ j

  pub record IsGroup (m i : ℕ) (g : List ℕ) : Type 0 where
    pub ascends : Ascends g
    pub inside : (j : ℕ) → In j g → (j < m) × Mutual i j
    pub whole : (j : ℕ) → j < m → Mutual i j → In j g

  abbrev pub Through : ℕ → ℕ → List (Vec Bool Global) → Type 0
  Through m k t = IsTable m (λ i j b. b ≡ (reach i j || (reach i k && reach k j))) t

abbrev pub AreReached : (ℕ → ℕ → Bool) → ℕ → ℕ → List (Vec Bool Global) → Type 0
AreReached uses m k t = IsTable m (λ i j b. b ≡ reach_through uses k i j) t
