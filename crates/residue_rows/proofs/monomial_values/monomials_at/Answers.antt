use Rattle.std.proofs.Common.{pos}
use Rattle.algebra.specs.Ring.{operations}
use Rattle.algebra.proofs.IntRing.{ℤ_ring}
use Rattle.polynomials.specs.Terms.{monomial_at}
use Rattle.residue_rows.specs.Modulus.{modulus}
use Rattle.residue_rows.specs.Numbers.{numbers_of}
use Rattle.residue_rows.proofs.Powers.{one_times, row_more}
use Rattle.residue_rows.proofs.monomial_values.monomials_at.Goals as goal

pub loop-monomial-preserved : goal.loop-monomial-preserved
loop-monomial-preserved c =
    row_more (pos modulus) (monomial_at (operations ℤ_ring) (numbers_of c.args.state.now)) _ _ _
    c.times_monomial.result c.loop-monomial-test.true c.monomial-item.is c.loop-monomial.invariant
    (one_times (pos modulus) _ c.one.ensures c.times_monomial.ensures) c.in_ok-push.ensures.items
