-- The order that eliminates the first variables.
--   Blocked           a `Poly<Frac, Blocks>`
--   in_blocks k       the order that eliminates the first k
--   HasFront r m p    the variables in front, over a base of r numbers, are the first block of the order, and m variables stand behind them
--   relation_of r m i j   the product of the variables i and j, less one, over a base of r numbers and m variables
use Rattle.std.specs.Prelude.{◌≡◌, ℕ, ◌+◌}
use Rattle.algebra.specs.Fraction.{Fraction, rationals}
use Rattle.polynomials.specs.Terms.{Terms}
use Rattle.machines.specs.Collect.{collect}
use Rattle.frac128.specs.declared.fraction.Frac.{Frac}
use Rattle.frac128.specs.contracts.fraction.FracRing.TheImpl as ring
use Rattle.frac128.specs.contracts.fraction.FracPartialEq.TheImpl as equal
use Rattle.monos.specs.declared.order.Blocks.{Blocks}
use Rattle.monos.specs.contracts.order.BlocksOrder.TheImpl as order
use Rattle.monos.specs.contracts.order.BlocksPartialEq.TheImpl as equal_orders
use Rattle.poly.specs.declared.Poly.{Poly}
use Rattle.rounds.specs.Form.{front, orbit_order, relation}

abbrev pub Blocked : Type 0
Blocked = Poly Frac Blocks ring.ghosts equal.ghosts order.ghosts equal_orders.ghosts

abbrev pub in_blocks : ℕ → Blocks
in_blocks k = record { first = k }

abbrev pub HasFront : (r m : ℕ) → Blocked → Type 0
HasFront r m p = (p.order.first ≡ front r) × (p.arity ≡ front r + m)

abbrev pub relation_of : (r m i j : ℕ) → Terms Fraction
relation_of r m i j = collect rationals (orbit_order r) (relation (front r + m) i j)
