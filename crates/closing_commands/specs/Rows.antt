-- The rows of a certificate.
--   HasRows l c     it has a list of rows for each branch of l, and in each of them a row for each element
use Rattle.std.specs.Prelude.{◌≡◌, ℕ, length}
use Rattle.std.specs.List.{All}
use Rattle.loops.specs.Certificate.{Certificate}
use Rattle.loops.specs.Program.{Expr, Program}

pub record HasRows (l : Program (Expr ℕ)) (c : Certificate) : Type 0 where
  pub branches : length c.steps ≡ length l.branches
  pub elements : All (λ rows. length rows ≡ length c.basis) c.steps
