use Rattle.loop_model.proofs.StoreLaws.{Storing}
use Rattle.loop_model.proofs.maps.after.Given as goal

abbrev pub invariant-loop-target : goal.invariant-loop-target
invariant-loop-target l =
    Storing l.initial.target-iterator.a.rest.now l.initial.target-iterator.b.rest.items
    l.initial.state.items
    l.target-iterator.a.rest.now l.target-iterator.b.rest.items l.target-iterator.b.rest.len
    l.state.items
