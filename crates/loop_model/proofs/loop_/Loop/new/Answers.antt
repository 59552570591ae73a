use Rattle.loop_model.proofs.Limits.{few_names, few_locals, some_branch, few_branches}
use Rattle.loop_model.proofs.loop_.Loop.new.Goals as goal

pub invariant_of-result-clause-few_names : goal.invariant_of-result-clause-few_names
invariant_of-result-clause-few_names c = few_names c.args.names c.args.locals c.args.start.items
    c.args.branches.items c.requires.limited

pub invariant_of-result-clause-few_locals : goal.invariant_of-result-clause-few_locals
invariant_of-result-clause-few_locals c = few_locals c.args.names c.args.locals c.args.start.items
    c.args.branches.items c.requires.limited

pub invariant_of-result-clause-some_branch : goal.invariant_of-result-clause-some_branch
invariant_of-result-clause-some_branch c = some_branch c.args.names c.args.locals c.args.start.items
    c.args.branches.items c.requires.well_formed

pub invariant_of-result-clause-few_branches : goal.invariant_of-result-clause-few_branches
invariant_of-result-clause-few_branches c = few_branches c.args.names c.args.locals
    c.args.start.items c.args.branches.items c.requires.limited

pub invariant_of-result-clause-well_formed : goal.invariant_of-result-clause-well_formed
invariant_of-result-clause-well_formed c = ∣ c.requires.well_formed ∣₁

pub invariant_of-result-clause-limited : goal.invariant_of-result-clause-limited
invariant_of-result-clause-limited c = ∣ c.requires.limited ∣₁
