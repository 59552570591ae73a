use Rattle.std.proofs.Common.{[], length, get_or, ◌∙◌}
use Rattle.loops.specs.Map.{start_map, branch_map}
use Rattle.loops.proofs.Maps.{branch_map_values, start_map_values}
use Rattle.loop_model.specs.View.{program_of}
use Rattle.loop_model.proofs.MapValues.{values_at_state}
use Rattle.loop_model.proofs.laws.maps_are_effects.Goals as goal

pub returns-clause-branch : goal.returns-clause-branch
returns-clause-branch c = λ lp index maps s h is.
    let program = program_of lp in
    let branch = get_or program.branches index [] in
    values_at_state (length program.names) maps (branch_map program branch) s h
    ∙ branch_map_values program branch s is

pub returns-clause-start : goal.returns-clause-start
returns-clause-start c = λ lp maps s h is.
    let program = program_of lp in
    values_at_state (length program.names) maps (start_map program) s h
    ∙ start_map_values program s is
