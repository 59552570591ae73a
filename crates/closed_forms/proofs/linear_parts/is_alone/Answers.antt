use Rattle.closed_forms.proofs.Alone.{other_degree, no_exponent, is_unit}
use Rattle.closed_forms.proofs.linear_parts.is_alone.Goals as goal

pub returns-then-degree-ne1 : goal.returns-then-degree-ne1
returns-then-degree-ne1 c = other_degree _ _ c.requires
    c.degree.ensures c.if-degree-ne1.true

pub returns-then-exponent-eq0 : goal.returns-then-exponent-eq0
returns-then-exponent-eq0 c = no_exponent _ _
    c.requires c.exponent.ensures c.if-exponent-eq0.true

pub returns : goal.returns
returns c = is_unit _ _
    c.degree.ensures c.if-degree-ne1.false c.exponent.ensures c.if-exponent-eq0.false
