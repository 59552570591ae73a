use Rattle.algebra.proofs.Fractions.{fractions_ring}
use Rattle.polynomials.proofs.Orders.{grevlex_order}
use Rattle.poly.proofs.Standing.{zero_tells}
use Rattle.cert_checker.proofs.IdentityLaws.{composed_stands, composed_arities}
use Rattle.cert_checker.proofs.identity.start_holds.Goals as goal

pub compose-requires-clause-arities : goal.compose-requires-clause-arities
compose-requires-clause-arities c = composed_arities _ c.requires.some c.requires.images

pub returns-clause-holds : goal.returns-clause-holds
returns-clause-holds c = zero_tells fractions_ring _ c.in_ok-compose.field-0 grevlex_order _ _
    (composed_stands _ c.args.element.now _ c.requires.some c.requires.images
    c.in_ok-compose.ensures.composition) c.is_zero.ensures
