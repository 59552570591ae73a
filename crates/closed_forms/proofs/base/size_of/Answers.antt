use Rattle.std.proofs.Common.{unsigned_abs, ap, sym, ◌∙◌}
use Rattle.frac128.specs.FracMeaning.{fraction_of}
use Rattle.closed_forms.specs.Values.{size_at}
use Rattle.closed_forms.proofs.Sizing.{num_fits, num_passed, num_some, den_fits, den_passed, den_some}
use Rattle.closed_forms.proofs.base.size_of.Goals as goal

pub absolute-requires : goal.absolute-requires
absolute-requires c = den_fits c.args.value.now _ (den_passed c.args.value.now c.den.ensures)

pub absolute-requires-else-below : goal.absolute-requires-else-below
absolute-requires-else-below c = num_fits c.args.value.now _
    (num_passed c.args.value.now c.num.ensures)

pub returns-then-below-clause-size : goal.returns-then-below-clause-size
returns-then-below-clause-size c = c.absolute.ensures.size
    ∙ ap unsigned_abs (den_passed c.args.value.now c.den.ensures)
    ∙ ap (λ b. size_at b (fraction_of c.args.value.now)) (sym c.if-below.true)

pub returns-then-below-clause-positive : goal.returns-then-below-clause-positive
returns-then-below-clause-positive c = λ some. c.absolute.ensures.positive
    (den_some (fraction_of c.args.value.now) _ (den_passed c.args.value.now c.den.ensures))

pub returns-else-below-clause-size : goal.returns-else-below-clause-size
returns-else-below-clause-size c = c.absolute-else-below.ensures.size
    ∙ ap unsigned_abs (num_passed c.args.value.now c.num.ensures)
    ∙ ap (λ b. size_at b (fraction_of c.args.value.now)) (sym c.if-below.false)

pub returns-else-below-clause-positive : goal.returns-else-below-clause-positive
returns-else-below-clause-positive c = λ some. c.absolute-else-below.ensures.positive
    (num_some (fraction_of c.args.value.now) _ (num_passed c.args.value.now c.num.ensures) some)
