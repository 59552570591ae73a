-- Square tables of truth values.
--   at t i j          the value in row i and column j, and false outside
--   IsSquare m t      m rows, each of m values
--   IsRow m P row      m values, where P holds of each place and its value
--   IsTable m P t     such a table, where P holds of each place and its value
--   First m test i    the first number below m that passes the test; Found test b: b tells whether there is one
use Rattle.std.specs.Prelude.{◌≡◌, ◌<◌, ◌≤◌, ℕ, zero, suc, Bool, false, List, [], ◌∷◌, length, get_or, All, T}
use Rattle.std.specs.declared.alloc.Global.{Global}
use Rattle.std.specs.declared.vec.Vec.{Vec}

abbrev pub at : List (Vec Bool Global) → ℕ → ℕ → Bool
at [] i j = false
at (row ∷ t) zero j = get_or row.items j false
at (row ∷ t) (suc i) j = at t i j

pub record IsSquare (m : ℕ) (t : List (Vec Bool Global)) : Type 0 where
  pub size : length t ≡ m
  pub widths : All (λ row. length row.items ≡ m) t

pub record IsRow (m : ℕ) (P : ℕ → Bool → Type 0) (row : List Bool) : Type 0 where
  pub size : length row ≡ m
  pub each : (j : ℕ) → j < m → P j (get_or row j false)

pub record IsTable (m : ℕ) (P : ℕ → ℕ → Bool → Type 0) (t : List (Vec Bool Global)) : Type 0 where
  pub square : IsSquare m t
  pub each : (i j : ℕ) → i < m → j < m → P i j (at t i j)

pub record First (m : ℕ) (test : ℕ → Bool) (i : ℕ) : Type 0 where
  pub within : i < m
  pub passes : T (test i)
  pub first : (j : ℕ) → T (test j) → i ≤ j

pub record Found (test : ℕ → Bool) (b : Bool) : Type 0 where
  pub there : T b → (c : ℕ) × T (test c)
  pub back : (c : ℕ) → T (test c) → T b
