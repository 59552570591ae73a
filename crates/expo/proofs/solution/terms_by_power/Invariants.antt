use Rattle.std.proofs.Common.{◌≡◌}
use Rattle.solvable_maps.specs.Expo.{power_terms}
use Rattle.frac128.specs.FracMeaning.{fraction_of}
use Rattle.poly.specs.View.{terms_of}
use Rattle.expo.specs.Numbers.{number_at}
use Rattle.expo.specs.Powers.{key_in}
use Rattle.expo.proofs.solution.terms_by_power.Given as goal

abbrev pub invariant-loop-iterations : goal.invariant-loop-iterations
invariant-loop-iterations l = terms_of fraction_of l.terms.items ≡ power_terms l.vars (key_in l.key)
    (number_at l.numbers) 0 l.iterations
