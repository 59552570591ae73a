use Rattle.std.proofs.Common.{pos, map, take}
use Rattle.std.specs.List.{AllZip}
use Rattle.algebra.specs.Ring.{operations}
use Rattle.algebra.proofs.IntRing.{ℤ_ring}
use Rattle.polynomials.specs.Terms.{value_at}
use Rattle.closures.specs.Modulo.{AreCongruent}
use Rattle.residue_rows.specs.Modulus.{modulus}
use Rattle.residue_rows.specs.Numbers.{numbers_of}
use Rattle.closing.specs.Maps.{modular_terms}
use Rattle.closing.proofs.evaluations.map_at.Given as goal

abbrev pub invariant-loop-polynomial : goal.invariant-loop-polynomial
invariant-loop-polynomial l =
    AllZip (AreCongruent (pos modulus)) (numbers_of l.values.items)
    (map (λ p. value_at (operations ℤ_ring) (modular_terms p) (numbers_of l.state))
    (take l.polynomial-index l.polynomials))
