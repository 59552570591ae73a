use Rattle.algebra.specs.Ring.{ring as ring_of}
use Rattle.polynomials.proofs.Canonical.{polynomial_unique}
use Rattle.poly.proofs.laws.equal_polynomials_have_equal_terms.Goals as goal

pub returns : goal.returns
returns g c = λ order m n p q. polynomial_unique (g.O.Order.order order)
    (g.met.O.Order.is_order order) (ring_of g.K.Ring.scalars.arithmetic g.met.K.Ring.ring) m n p q
