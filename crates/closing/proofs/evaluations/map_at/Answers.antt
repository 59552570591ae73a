use Rattle.std.proofs.Common.{pos, sym, subst}
use Rattle.std.proofs.lemmas.Simd.{map-map}
use Rattle.std.specs.List.{AllZip}
use Rattle.algebra.specs.Ring.{operations}
use Rattle.algebra.proofs.IntRing.{ℤ_ring}
use Rattle.polynomials.specs.Terms.{value_at}
use Rattle.closures.specs.Modulo.{AreCongruent}
use Rattle.poly.specs.View.{terms_of}
use Rattle.residue_rows.specs.Modulus.{modulus}
use Rattle.residue_rows.specs.Numbers.{number_of, numbers_of}
use Rattle.closing.specs.Maps.{modular_terms}
use Rattle.residue_rows.proofs.Powers.{row_more, row_all}
use Rattle.closing.proofs.evaluations.map_at.Goals as goal

pub loop-polynomial-preserved : goal.loop-polynomial-preserved
loop-polynomial-preserved c =
    row_more (pos modulus) (λ p. value_at (operations ℤ_ring) (modular_terms p)
    (numbers_of c.args.state.now)) _ _ _ c.terms_at.result c.loop-polynomial-test.true
    c.polynomial-item.is c.loop-polynomial.invariant (subst (λ ts. AreCongruent (pos modulus)
    (number_of c.terms_at.result) (value_at (operations ℤ_ring) (terms_of number_of ts)
    (numbers_of c.args.state.now))) c.deref.ensures.value c.terms_at.ensures)
    c.in_ok-push.ensures.items

pub returns : goal.returns
returns c =
    subst (λ xs. AllZip (AreCongruent (pos modulus)) (numbers_of c.loop-polynomial.values.items) xs)
    (sym (map-map (λ r. value_at (operations ℤ_ring) r (numbers_of c.args.state.now)) modular_terms
    c.args.polynomials.now)) (row_all (pos modulus) (λ p. value_at (operations ℤ_ring)
    (modular_terms p) (numbers_of c.args.state.now)) _ _ _ c.loop-polynomial-test.false
    c.loop-polynomial.invariant)
