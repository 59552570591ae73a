use Rattle.loop_model.proofs.Variables.{variables_none, variables_more, variables_all}
use Rattle.loop_model.proofs.state.free_state.Goals as goal

pub loop-index-init : goal.loop-index-init
loop-index-init c = variables_none c.args.arity c.new-all.result.items c.new-all.ensures.items

pub loop-index-preserved : goal.loop-index-preserved
loop-index-preserved c = variables_more c.args.arity c.loop-index.index c.loop-index.all.items
    c.push.new.self.items c.in_ok-free_variable.field-0
    c.loop-index.invariant c.in_ok-free_variable.ensures.variable c.in_ok-push.ensures.items

pub returns : goal.returns
returns c = record {
  variables = variables_all c.args.arity c.loop-index.index c.loop-index.all.items
      c.loop-index-test.false c.loop-index.invariant;
}
