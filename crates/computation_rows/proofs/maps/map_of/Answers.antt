use Rattle.std.proofs.Common.{rules, ◌∙◌}
use Rattle.computation_rows.proofs.maps.map_of.Goals as goal

pub returns : goal.returns
returns c = λ i d within. (c.in_ok-map.ensures.like i d within).1 ∙ (search rules)
