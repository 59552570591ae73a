use Rattle.std.proofs.Common.{◌+◌, ◌*◌, ◌/◌, ◌<◌, ap, subst, sym, ◌∙◌, arith}
use Rattle.expansion.specs.Counts.{most_terms}
use Rattle.expansion.proofs.Counting.{most_is, one_fits, none_above, some_is}
use Rattle.expansion.proofs.LengthLaws.{power_none, power_next, power_long, factor_fits}
use Rattle.expansion.proofs.lengths.products.Goals as goal

pub loop-taken-init : goal.loop-taken-init
loop-taken-init c = (sym (power_none c.args.terms), one_fits)

pub overflow_add-terms : goal.overflow_add-terms
overflow_add-terms c = let e = most_is in let f = c.requires.few in omega (arith, e, f)

pub overflow_mul-found : goal.overflow_mul-found
overflow_mul-found c =
    let few = c.requires.few in
    let before = c.from-before.ensures in
    let low = c.loop-taken-test.true in
    let small = c.ranges.exponent.fits in
    let fit = factor_fits c.loop-taken.found (c.args.terms + c.from-before.result)
    c.loop-taken.invariant.1 (omega (arith, few, before, low, small)) in
    omega (arith, fit)

pub returns-in_default : goal.returns-in_default
returns-in_default c =
    power_long c.args.terms c.loop-taken.taken c.args.exponent c.loop-taken.found c.requires.some
    c.loop-taken-test.true c.loop-taken.invariant.0
    (subst (λ k. most_terms < c.loop-taken.found * (c.args.terms + k) / (k + 1))
    c.from-before.ensures (none_above _ c.limited.result c.limited.ensures c.in_default.not-Some))

pub loop-taken-preserved : goal.loop-taken-preserved
loop-taken-preserved c =
    let next = some_is _ c.in-Some.next c.limited.result c.limited.ensures c.in-Some.is in (
      power_next c.args.terms c.loop-taken.taken c.loop-taken.found c.in-Some.next
          c.loop-taken.invariant.0
          (next.0 ∙ ap (λ k. c.loop-taken.found * (c.args.terms + k) / (k + 1))
          c.from-before.ensures),
      let same = next.0 in let few = next.1 in omega (arith, same, few),
    )
