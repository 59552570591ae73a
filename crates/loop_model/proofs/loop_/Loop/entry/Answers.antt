use Rattle.std.proofs.Common.{length, ap, ◌∙◌}
use Rattle.loop_model.proofs.Variables.{made_stand}
use Rattle.loop_model.proofs.BranchLaws.{entry_none, entry_more, zero_stands}
use Rattle.loop_model.proofs.loop_.Loop.entry.Goals as goal

pub loop-index-init : goal.loop-index-init
loop-index-init c = entry_none (length c.args.self.now.names) c.in_ok-state.state.items
    (made_stand c.len-arity.result (length c.args.self.now.names) (c.len-arity.ensures.len
    ∙ ap length c.names.ensures.names) c.in_ok-state.state.items
    c.in_ok-state.ensures.variables)

pub loop-index-preserved : goal.loop-index-preserved
loop-index-preserved c = entry_more (length c.args.self.now.names) c.loop-index._index
    c.loop-index.state.items c.push.new.self.items c.zero.result c.loop-index.invariant
    (zero_stands (length c.args.self.now.names) c.zero.result (c.zero.ensures.arity
    ∙ c.len-arity.ensures.len ∙ ap length c.names.ensures.names) c.zero.ensures.terms)
    c.in_ok-push.ensures.items
