use Rattle.std.proofs.Common.{take}
use Rattle.poly.specs.Seen.{terms_each, arity_of}
use Rattle.poly.specs.Standing.{}
use Rattle.loop_model.proofs.ValueLaws.{Valued}
use Rattle.loop_model.proofs.maps.values_at.Given as goal

abbrev pub invariant-loop-expr : goal.invariant-loop-expr
invariant-loop-expr l = Valued (arity_of l.state.items) (terms_each l.state.items)
    (take l.expr-index l.exprs) l.values.items
