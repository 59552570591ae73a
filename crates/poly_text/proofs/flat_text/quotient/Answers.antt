use Rattle.std.proofs.Common.{arith, rules}
use Rattle.std.proofs.lemmas.Int.{ints, to_z-of_z}
use mir.Syntax.{w128}
use Rattle.poly_text.proofs.Quotients.{fits, over_is}
use Rattle.poly_text.proofs.flat_text.quotient.Goals as goal

pub unwrap-requires : goal.unwrap-requires
unwrap-requires c =
    let d = to_z-of_z w128 c.args.denominator c.ranges.denominator in
    fits c.new.result _ _ (rw (to_z-of_z w128 c.args.numerator c.ranges.numerator)
    c.requires.numerator) (rw d (omega (arith, ints, c.ranges.denominator)))
    (rw d c.requires.denominator) c.new.ensures.zero c.new.ensures.wide

pub returns : goal.returns
returns c =
    over_is c.unwrap.result _ _ c.args.numerator c.args.denominator (to_z-of_z w128 c.args.numerator
    c.ranges.numerator) (to_z-of_z w128 c.args.denominator c.ranges.denominator)
    (search rules) c.requires.denominator
