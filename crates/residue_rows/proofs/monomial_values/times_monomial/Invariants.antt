use Rattle.std.proofs.Common.{pos, ◌*ℤ◌}
use Rattle.std.specs.Iterator.Adapters.{zip_first, zip_second}
use Rattle.std.specs.Slice.Iter.{iter_rest}
use Rattle.algebra.specs.Ring.{operations}
use Rattle.algebra.proofs.IntRing.{ℤ_ring}
use Rattle.polynomials.specs.Terms.{monomial_at}
use Rattle.closures.specs.Modulo.{AreCongruent}
use Rattle.residue_rows.specs.Modulus.{modulus}
use Rattle.residue_rows.specs.Numbers.{number_of, numbers_of}
use Rattle.residue_rows.proofs.monomial_values.times_monomial.Given as goal

abbrev pub invariant-loop-exponent : goal.invariant-loop-exponent
invariant-loop-exponent l =
    AreCongruent (pos modulus)
    (number_of l.product
    *ℤ monomial_at (operations ℤ_ring) (numbers_of (iter_rest (zip_second l.exponent-iterator)))
    (iter_rest (zip_first l.exponent-iterator)))
    (number_of l.fn.number
    *ℤ monomial_at (operations ℤ_ring) (numbers_of l.state) l.monomial)
