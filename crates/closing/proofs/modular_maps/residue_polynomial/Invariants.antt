use Rattle.std.proofs.Common.{pos, take}
use Rattle.frac128.specs.FracMeaning.{fraction_of}
use Rattle.poly.specs.View.{terms_of}
use Rattle.residue_rows.specs.Modulus.{modulus}
use Rattle.residue_rows.specs.Numbers.{number_of}
use Rattle.closing.specs.Modulo.{AreTermsModulo}
use Rattle.closing.proofs.modular_maps.residue_polynomial.Given as goal

abbrev pub invariant-loop-term : goal.invariant-loop-term
invariant-loop-term l =
    AreTermsModulo (pos modulus)
    (terms_of fraction_of (take l.term-index l.polynomial.terms.items))
    (terms_of number_of l.terms.items)
