use Rattle.loop_model.specs.View.{program_of}
use Rattle.invariant_fix.proofs.Forming.{branch_unformed, maps_formed, maps_square}
use Rattle.std.proofs.lemmas.Result.{IfErr-weaker}
use Rattle.invariant_fix.proofs.analysis.all_branches.Goals as goal

pub branches-requires : goal.branches-requires
branches-requires c =
    let program = program_of c.args.lp.now in
    record {
      square = maps_square program c.in-Ok.maps.items c.args.lp.now.some_name
          c.args.lp.now.few_names (maps_formed program c.in-Ok.ensures.maps);
    }

pub returns-in-Ok-clause-branches : goal.returns-in-Ok-clause-branches
returns-in-Ok-clause-branches c =
    let program = program_of c.args.lp.now in
    c.branches.ensures.branches program (maps_formed program c.in-Ok.ensures.maps)

pub returns-in-Ok-clause-refused : goal.returns-in-Ok-clause-refused
returns-in-Ok-clause-refused c =
    let program = program_of c.args.lp.now in
    IfErr-weaker c.branches.result _ _ (λ e h. branch_unformed program e c.in-Ok.ensures.free h)
    (c.branches.ensures.refused program (maps_formed program c.in-Ok.ensures.maps))
