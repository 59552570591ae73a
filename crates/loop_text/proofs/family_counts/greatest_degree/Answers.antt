use Rattle.loop_text.proofs.Degrees.{greatest_start, greatest_more, greatest_all}
use Rattle.loop_text.proofs.family_counts.greatest_degree.Goals as goal

pub loop-element-init : goal.loop-element-init
loop-element-init c = greatest_start c.args.basis.now

pub loop-element-preserved : goal.loop-element-preserved
loop-element-preserved c = greatest_more c.args.basis.now c.loop-element.element-index
    c.loop-element.greatest _ _ c.element-item.result c.loop-element-test.true c.element-item.is
    c.degree_of.ensures c.max-greatest.ensures c.loop-element.invariant

pub returns : goal.returns
returns c = greatest_all c.args.basis.now c.loop-element.element-index c.loop-element.greatest
    c.loop-element-test.false c.loop-element.invariant
