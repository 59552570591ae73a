-- Sums over lists.
--   sum_over N f xs      the sum of f over the list xs, in the arithmetic N
use Rattle.std.specs.Prelude.{List, [], ◌∷◌}
use Rattle.algebra.specs.Arithmetic.{Arithmetic}

unfoldable pub sum_over : {A X : Type 0} → Arithmetic A → (X → A) → List X → A
sum_over N f [] = N.zero
sum_over N f (x ∷ xs) = N.add (f x) (sum_over N f xs)
