use Rattle.std.proofs.Common.{pos, ◌*ℤ◌, ◌-◌}
use Rattle.algebra.specs.Arithmetic.{power}
use Rattle.algebra.specs.Ring.{operations}
use Rattle.algebra.proofs.IntRing.{ℤ_ring}
use Rattle.closures.specs.Modulo.{AreCongruent}
use Rattle.residue_rows.specs.Modulus.{modulus}
use Rattle.residue_rows.specs.Numbers.{number_of}
use Rattle.residue_rows.proofs.monomial_values.times_power.Given as goal

abbrev pub invariant-loop-time : goal.invariant-loop-time
invariant-loop-time l =
    AreCongruent (pos modulus)
    (number_of l.product
    *ℤ power (operations ℤ_ring) (number_of l.base) (l.exponent - l._time))
    (number_of l.fn.number *ℤ power (operations ℤ_ring) (number_of l.base) l.exponent)
