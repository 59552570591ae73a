use Rattle.std.proofs.Common.{refl, ◌∙◌, arith}
use Rattle.invariant_fix.proofs.Branching.{started_closing}
use Rattle.invariant_fix.proofs.Lists.{one_arity, reduced_at_own}
use Rattle.invariant_fix.proofs.round.rounds.Goals as goal

pub loop-basis-init : goal.loop-basis-init
loop-basis-init c = record {
  limit = refl;
  known = c.requires.start;
  next = started_closing c.args.setting.now _ c.requires.next;
  few = omega arith;
}

pub invariant_of-result : goal.invariant_of-result
invariant_of-result c =
    let k = c.loop-basis.invariant.known in
    let f = k.few in
    let m = c.requires.fits.few_first in
    let w = c.within_limit.ensures.within in
    let l = c.within_limit.ensures.few in
    record {
      few = omega (arith, f, m, w, l);
      arity = one_arity _ k.arity;
      reduced = ∣ reduced_at_own _ _ k ∣₁;
    }

pub loop-basis-smaller : goal.loop-basis-smaller
loop-basis-smaller c =
    let limit = c.next_basis.ensures.limit ∙ c.closing_steps.ensures.limit in
    let a = c.in_ok-steps.ensures.units in
    let b = c.in_ok-basis.ensures.units in
    let w = c.within_limit.ensures.within in
    omega (arith, limit, a, b, w)
