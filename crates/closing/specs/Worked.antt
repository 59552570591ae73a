-- A loop whose search is worked out.
--   squaring     vars x; branch { x=x*x; }
use Rattle.std.specs.Prelude.{ℕ, [], ◌∷◌}
use Rattle.loops.specs.Program.{Expr, mul, variable, Program}

abbrev pub squaring : Program (Expr ℕ)
squaring = record {
  names = (120 ∷ []) ∷ [];
  locals = [];
  init = [];
  branches = (record { targets = 0 ∷ []; values = mul 20 (variable 0) (variable 0) ∷ [] } ∷ [])
      ∷ [];
}
