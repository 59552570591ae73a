use Rattle.std.proofs.Common.{◌∙◌, sym, map}
use Rattle.std.proofs.lemmas.List.{at_drop_all}
use Rattle.loop_model.specs.Parts.{equation_of}
use Rattle.loop_runs.specs.Replay.{start_fault}
use Rattle.loop_runs.specs.Seen.{numbers_of}
use Rattle.loop_runs.proofs.start.check_start.Goals as goal
use Rattle.loop_runs.proofs.Operations.{number_read}
use Rattle.loop_runs.proofs.Iterations.{drop_read, same_meaning, other_meaning, start_wide, start_fails, start_holds}

pub returns-in_default-clause-fault : goal.returns-in_default-clause-fault
returns-in_default-clause-fault c =
    let d = drop_read c.args.init.now c.loop-equation.equation-index c.equation-item.result
    c.loop-equation-test.true c.equation-item.is in
    let left = rw d at c.loop-equation.invariant in
    sym (left ∙ start_wide (equation_of c.equation-item.result) _ (numbers_of c.args.state.now)
    c.in_default.ensures)

pub returns-then-ne-clause-fault : goal.returns-then-ne-clause-fault
returns-then-ne-clause-fault c =
    let d = drop_read c.args.init.now c.loop-equation.equation-index c.equation-item.result
    c.loop-equation-test.true c.equation-item.is in
    let left = rw d at c.loop-equation.invariant in
    let within = c.requires c.loop-equation.equation-index c.equation-item.result
    c.loop-equation-test.true in
    let var = (rw (← c.equation-item.is) at within).0 in
    let here = number_read c.args.state.now c.equation-item.result.var c.index-state-var.result var
    c.index-state-var.is in
    sym (left ∙ start_fails (equation_of c.equation-item.result) _ (numbers_of c.args.state.now) _
    c.in-Ok.ensures (rw (← here) (other_meaning c.in-Ok.value c.index-state-var.result
    c.if-ne.ensures)))

pub loop-equation-preserved : goal.loop-equation-preserved
loop-equation-preserved c =
    let d = drop_read c.args.init.now c.loop-equation.equation-index c.equation-item.result
    c.loop-equation-test.true c.equation-item.is in
    let left = rw d at c.loop-equation.invariant in
    let within = c.requires c.loop-equation.equation-index c.equation-item.result
    c.loop-equation-test.true in
    let var = (rw (← c.equation-item.is) at within).0 in
    let here = number_read c.args.state.now c.equation-item.result.var c.index-state-var.result var
    c.index-state-var.is in
    left ∙ start_holds (equation_of c.equation-item.result) _ (numbers_of c.args.state.now) _
    c.in-Ok.ensures (same_meaning c.in-Ok.value c.index-state-var.result c.if-ne.ensures ∙ here)

pub returns-clause-fault : goal.returns-clause-fault
unfolding start_fault
returns-clause-fault c = sym (c.loop-equation.invariant
    ∙ at_drop_all (λ es. start_fault (map equation_of es) (numbers_of c.args.state.now))
    c.args.init.now c.loop-equation.equation-index c.loop-equation-test.false)
