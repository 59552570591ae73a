use Rattle.std.proofs.Common.{length, sym, ap, ap₂, ◌∙◌}
use Rattle.std.proofs.lemmas.List.{take_more}
use Rattle.polynomials.specs.Exponent.{plus}
use Rattle.polynomials.proofs.Exponent.{nil-plus}
use Rattle.poly.proofs.Parted.{push_parts}
use Rattle.poly.proofs.composition.parts_of.Goals as goal

pub loop-at-init : goal.loop-at-init
loop-at-init g c = (
  ap₂ plus c.in_ok-short.ensures.items c.in_ok-long.ensures.items ∙ nil-plus _,
  ap length c.in_ok-short.ensures.items ∙ sym (ap length c.in_ok-long.ensures.items),
)

pub loop-at-preserved : goal.loop-at-preserved
loop-at-preserved g c =
    let parts = push_parts c.loop-at.short.items c.loop-at.long.items _ _ _ _ _ _
    c.in_ok-push.ensures.items c.in_ok-push-2.ensures.items c.parted-parts.ensures
    c.loop-at.invariant in (
      parts.0 ∙ sym (take_more c.args.exponents.now c.loop-at.at 0 c.loop-at-test.true),
      parts.1,
    )
