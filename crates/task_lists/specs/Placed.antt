-- Polynomials in the order that eliminates the first variables.
--   HaveBlock n w ps     each of the ps has w variables, the first n of them in the first block of its order
use Rattle.std.specs.Prelude.{◌≡◌, ℕ, List, All}
use Rattle.task_lists.specs.Blocks.{Blocked}

abbrev pub HaveBlock : ℕ → ℕ → List Blocked → Type 0
HaveBlock n w ps = All (λ p. (p.order.first ≡ n) × (p.arity ≡ w)) ps
