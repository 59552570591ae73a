use Rattle.std.proofs.Common.{◌∙◌}
use Rattle.loop_runs.proofs.ChainParts.{further_is, further_formed}
use Rattle.loop_runs.proofs.parts.further_loop.Goals as goal

pub new-requires-2-clause-well_formed : goal.new-requires-2-clause-well_formed
new-requires-2-clause-well_formed c =
    (further_formed c.args.first.now c.in_ok-names.names c.in_ok-locals.locals c.new.result.items
    c.args.branches.items (c.in_ok-names.ensures ∙ c.names.ensures.names) (c.in_ok-locals.ensures
    ∙ c.locals.ensures.locals) c.new.ensures.items c.requires).formed

pub new-requires-2-clause-limited : goal.new-requires-2-clause-limited
new-requires-2-clause-limited c =
    (further_formed c.args.first.now c.in_ok-names.names c.in_ok-locals.locals c.new.result.items
    c.args.branches.items (c.in_ok-names.ensures ∙ c.names.ensures.names) (c.in_ok-locals.ensures
    ∙ c.locals.ensures.locals) c.new.ensures.items c.requires).limits

pub returns : goal.returns
returns c =
    c.new-2.ensures
    ∙ further_is c.args.first.now c.in_ok-names.names c.in_ok-locals.locals c.new.result.items
    c.args.branches.items (c.in_ok-names.ensures ∙ c.names.ensures.names) (c.in_ok-locals.ensures
    ∙ c.locals.ensures.locals) c.new.ensures.items
