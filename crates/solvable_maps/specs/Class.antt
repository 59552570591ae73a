-- The classes of variables, and their order.
--   InClass uses i j        each reaches the other, or they are the same
--   Ready uses earlier i    what i reaches is in its class, or among the earlier ones
--   IsClassOf uses m i g    g is the class of i, ascending
--   IsNext uses m earlier i     i is the first below m that is ready
--   AreClasses uses m earlier groups     the classes of the variables below m that aren't among the earlier ones, in order: each is the class, ascending, of the first variable that is ready
--   AreWhole uses m earlier     the earlier ones are whole classes
use Rattle.std.specs.Prelude.{◌≡◌, ◌⊎◌, ℕ, ◌<◌, ◌≤◌, List, [], ◌∷◌, ◌++◌, Bool}
use Rattle.solvable_maps.specs.Dependency.{Reaches}
use Rattle.algebra.specs.In.{In}

abbrev pub Above : ℕ → List ℕ → Type 0
Above i [] = Unit {0}
Above i (j ∷ js) = (i < j) × Above i js

abbrev pub Ascends : List ℕ → Type 0
Ascends [] = Unit {0}
Ascends (j ∷ js) = Above j js × Ascends js

module _ (uses : ℕ → ℕ → Bool) where
  abbrev pub InClass : ℕ → ℕ → Type 0
  InClass i j = (i ≡ j) ⊎ (Reaches uses i j × Reaches uses j i)

  pub record Ready (earlier : List ℕ) (i : ℕ) : Type 0 where
    pub new : In i earlier → ⊥
    pub inside : (j : ℕ) → Reaches uses i j → InClass i j ⊎ In j earlier

  -- g is the class of i, ascending
  pub record IsClassOf (m : ℕ) (i : ℕ) (g : List ℕ) : Type 0 where
    pub ascends : Ascends g
    pub inside : (j : ℕ) → In j g → (j < m) × InClass i j
    pub whole : (j : ℕ) → j < m → InClass i j → In j g

  -- i is the first that is ready
  pub record IsNext (m : ℕ) (earlier : List ℕ) (i : ℕ) : Type 0 where
    pub within : i < m
    pub ready : Ready earlier i
    pub least : (j : ℕ) → j < m → Ready earlier j → i ≤ j

  abbrev pub AreClasses : ℕ → List ℕ → List (List ℕ) → Type 0
  AreClasses m earlier [] = (i : ℕ) → i < m → In i earlier
  AreClasses m earlier (g ∷ gs) =
      (i : ℕ) × IsNext m earlier i × IsClassOf m i g × AreClasses m (earlier ++ g) gs

module _ (uses : ℕ → ℕ → Bool) (m : ℕ) where
  pub record AreWhole (earlier : List ℕ) : Type 0 where
    pub closed : (i j : ℕ) → In i earlier → j < m → InClass uses i j → In j earlier
