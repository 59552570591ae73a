-- The polynomials of maps, as the code has them.
--   FracPoly       a `Poly<Frac, Grevlex>`
use Rattle.frac128.specs.declared.fraction.Frac.{Frac}
use Rattle.frac128.specs.contracts.fraction.FracRing.TheImpl as ring
use Rattle.frac128.specs.contracts.fraction.FracPartialEq.TheImpl as equal
use Rattle.monos.specs.declared.order.Grevlex.{Grevlex}
use Rattle.monos.specs.contracts.order.GrevlexOrder.TheImpl as order
use Rattle.monos.specs.contracts.order.GrevlexPartialEq.TheImpl as equal_orders
use Rattle.poly.specs.declared.Poly.{Poly}

abbrev pub FracPoly : Type 0
FracPoly = Poly Frac Grevlex ring.ghosts equal.ghosts order.ghosts equal_orders.ghosts
