use Rattle.std.proofs.Common.{pos, ap}
use Rattle.std.proofs.lemmas.List.{drop_all}
use Rattle.algebra.specs.Ring.{operations}
use Rattle.algebra.proofs.IntRing.{ℤ_ring}
use Rattle.polynomials.specs.Terms.{value_at}
use Rattle.poly.specs.View.{terms_of}
use Rattle.loop_runs.proofs.Iterations.{drop_read}
use Rattle.residue_rows.specs.Modulus.{modulus}
use Rattle.residue_rows.specs.Numbers.{number_of, numbers_of}
use Rattle.residue_rows.proofs.Congruences.{sum_begins}
use Rattle.residue_rows.proofs.Powers.{term_goes, term_ends}
use Rattle.closing.proofs.evaluations.terms_at.Goals as goal

pub loop-term-init : goal.loop-term-init
loop-term-init c =
    sum_begins _ (value_at (operations ℤ_ring) (terms_of number_of c.args.terms.now)
    (numbers_of c.args.state.now)) c.zero-sum.ensures

pub loop-term-preserved : goal.loop-term-preserved
loop-term-preserved c =
    let i = c.loop-term.term-index in
    let ts = c.args.terms.now in
    term_goes (pos modulus) (numbers_of c.args.state.now) (number_of c.loop-term.sum)
    (ap (terms_of number_of) (drop_read ts i _ c.loop-term-test.true c.term-item.is))
    c.times_monomial.ensures c.add-sum.ensures c.loop-term.invariant

pub returns : goal.returns
returns c =
    term_ends (pos modulus) (numbers_of c.args.state.now) _ (ap (terms_of number_of)
    (drop_all _ _ c.loop-term-test.false)) c.loop-term.invariant
