-- The limit of a chain's text that loops have not.
--   most_loops                at most so many loops
use Rattle.std.specs.Prelude.{ℕ}

unfoldable pub most_loops : ℕ
most_loops = 8
