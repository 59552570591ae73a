use Rattle.std.proofs.Common.{pos, ◌+ℤ◌, drop}
use Rattle.algebra.specs.Ring.{operations}
use Rattle.algebra.proofs.IntRing.{ℤ_ring}
use Rattle.polynomials.specs.Terms.{value_at}
use Rattle.closures.specs.Modulo.{AreCongruent}
use Rattle.poly.specs.View.{terms_of}
use Rattle.residue_rows.specs.Modulus.{modulus}
use Rattle.residue_rows.specs.Numbers.{number_of, numbers_of}
use Rattle.closing.proofs.evaluations.terms_at.Given as goal

abbrev pub invariant-loop-term : goal.invariant-loop-term
invariant-loop-term l =
    AreCongruent (pos modulus)
    (number_of l.sum
    +ℤ value_at (operations ℤ_ring) (terms_of number_of (drop l.term-index l.terms))
    (numbers_of l.state))
    (value_at (operations ℤ_ring) (terms_of number_of l.terms) (numbers_of l.state))
