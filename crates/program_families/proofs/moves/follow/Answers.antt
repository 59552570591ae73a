use Rattle.std.proofs.Common.{◌≡◌, ◌∙◌, subst}
use Rattle.std.proofs.lemmas.List.{take_all}
use Rattle.algebra.specs.Each.{Each}
use Rattle.algebra.specs.Fraction.{ℚ}
use Rattle.frac128.specs.FracMeaning.{fraction_of}
use Rattle.poly.specs.Seen.{terms_each}
use Rattle.loop_model.proofs.Items.{in_list, item_of}
use Rattle.program_families.specs.Moves.{HasOther}
use Rattle.program_families.proofs.Points.{point_is, other_value, more_zeros, leads}
use Rattle.program_families.proofs.moves.follow.Goals as goal

pub loop-value-init : goal.loop-value-init
unfolding Each
loop-value-init c = tt

pub returns-then-not-is_zero-clause-other : goal.returns-then-not-is_zero-clause-other
returns-then-not-is_zero-clause-other c =
    let i = c.loop-value.value-index in
    let values = c.in_ok-values_at.field-0.items in
    let value = c.deref-value-items.ensures.value in
    subst (HasOther (terms_each c.args.transition.now.zeros.items))
    (point_is c.args.values.now.items c.args.state.now.items _ _ _
    (c.in_ok-point.ensures.items ∙ c.deref.ensures.value) c.deref-2.ensures.value
    c.in_ok-extend_from_slice.ensures.items)
    (other_value (terms_each c.args.transition.now.zeros.items) _ values
    c.in_ok-values_at.ensures.values i c.value-item.result
    (in_list values _ value i c.loop-value-test.true)
    (item_of values _ value i c.value-item.result c.value-item.is)
    (λ z. let t = c.is_zero.ensures.1 z in let f = c.if-not-is_zero.true in cc))

pub loop-value-preserved : goal.loop-value-preserved
loop-value-preserved c =
    more_zeros c.deref-value-items.result.now c.loop-value.value-index c.value-item.result
    c.loop-value-test.true c.value-item.is (c.is_zero.ensures.0 c.if-not-is_zero.false)
    c.loop-value.invariant

pub returns-clause-leads : goal.returns-clause-leads
returns-clause-leads c =
    let i = c.loop-value.value-index in
    let values = c.in_ok-values_at.field-0.items in
    let value = c.deref-value-items.ensures.value in
    leads c.args.transition.now c.args.values.now.items c.args.state.now.items
    c.in_ok-values_at-2.field-0.items values _
    (point_is c.args.values.now.items c.args.state.now.items _ _ _
    (c.in_ok-point.ensures.items ∙ c.deref.ensures.value) c.deref-2.ensures.value
    c.in_ok-extend_from_slice.ensures.items) c.requires.count
    c.in_ok-values_at.ensures.values
    (subst (Each (λ v. fraction_of v ≡ ℚ.zero))
    (take_all i c.deref-value-items.result.now c.loop-value-test.false ∙ value)
    c.loop-value.invariant) c.in_ok-values_at-2.ensures.values
