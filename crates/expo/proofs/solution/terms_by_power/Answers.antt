use Rattle.std.proofs.Common.{◌∙◌, ap, map}
use Rattle.std.proofs.lemmas.List.{map-append}
use Rattle.frac128.specs.FracMeaning.{fraction_of}
use Rattle.poly.specs.View.{term_of}
use Rattle.expo.specs.Numbers.{number_at}
use Rattle.expo.specs.Powers.{key_in}
use Rattle.expo.proofs.Solved.{step_powers}
use Rattle.expo.proofs.Tables.{number_here}
use Rattle.expo.proofs.solution.terms_by_power.Goals as goal

pub loop-iterations-preserved : goal.loop-iterations-preserved
loop-iterations-preserved c =
    let t = term_of fraction_of in
    step_powers c.args.vars (key_in c.args.key.now) (number_at c.args.numbers.now)
    c.loop-iterations.iterations _ _ _ (ap (map t) c.in_ok-push.ensures.items ∙ map-append t _ _)
    c.in_ok-mono.ensures.ok
    (number_here c.args.numbers.now c.loop-iterations.iterations _ c.loop-iterations-test.true
    c.index-numbers-iterations.is) c.loop-iterations.invariant
