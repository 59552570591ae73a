use Rattle.std.proofs.Common.{pos, map, take}
use Rattle.std.specs.List.{AllZip}
use Rattle.algebra.specs.Ring.{operations}
use Rattle.algebra.proofs.IntRing.{ℤ_ring}
use Rattle.polynomials.specs.Terms.{monomial_at}
use Rattle.closures.specs.Modulo.{AreCongruent}
use Rattle.residue_rows.specs.Modulus.{modulus}
use Rattle.residue_rows.specs.Numbers.{numbers_of}
use Rattle.residue_rows.proofs.monomial_values.monomials_at.Given as goal

abbrev pub invariant-loop-monomial : goal.invariant-loop-monomial
invariant-loop-monomial l =
    AllZip (AreCongruent (pos modulus)) (numbers_of l.row.items)
    (map (monomial_at (operations ℤ_ring) (numbers_of l.state))
    (take l.monomial-index l.monomials))
