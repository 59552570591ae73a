use Rattle.std.proofs.Common.{◌<◌, ◌^◌, unsigned_abs, subst, sym}
use mir.Syntax.{w128}
use Rattle.std.proofs.lemmas.Int.{to_z-of_z, fits_signed_from_abs}
use Rattle.algebra.proofs.Fractions.{some}
use Rattle.frac128.specs.FracMeaning.{fraction_of}
use Rattle.eigen_split.proofs.Reading.{num_small}
use Rattle.eigen_split.proofs.whole.whole_number.Goals as goal

pub times-requires-clause-num : goal.times-requires-clause-num
times-requires-clause-num c =
    let small = subst (λ z. unsigned_abs z < 2 ^ 127) (sym c.num.ensures)
    (num_small c.args.number.now) in
    subst (λ z. unsigned_abs z < 2 ^ 127)
    (sym (to_z-of_z w128 c.num.result (fits_signed_from_abs w128 c.num.result small))) small

pub nonzero_div-denominator : goal.nonzero_div-denominator
nonzero_div-denominator c = subst (λ n. 0 < n) (sym c.den_of.ensures)
    (some (fraction_of c.args.number.now))
